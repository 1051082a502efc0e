-- The cell of a location that has a type, by the forms of values; and new cells that have a type.
use Rattle.std.specs.Prelude.{ℕ, suc, ◌+◌, ◌≤◌, ◌<◌, List, [], ◌∷◌, ◌++◌, true, false, ◌≡◌, refl, length}
use Rattle.std.proofs.Math.Option.{some}
use Rattle.std.proofs.Common.{arith}
use Rattle.std.proofs.Math.ListN.{get_elem? as look}
use Rattle.language.specs.Syntax.{Constructor, Plain, pbool, pint, pnamed, tbool, tnamed, Op, oadd, osub, omul, oeq, olt, ole, oand, oor, File, constructors_of}
use Rattle.language.specs.PlainTypes.{op_type}
use Rattle.language.specs.Sizes.{sum}
use Rattle.language.specs.Typing.{base_type}
use Rattle.language.specs.Heap.{Constant, kbool, kint, Cell, leaf, con, constant_type, apply_op}
use Rattle.theory.specs.Lists.{look-new}
use Rattle.theory.specs.Places.{below_or_not}
use Rattle.theory.specs.Heaps.{grown-one}
use Rattle.theory.specs.HeapValues.{Has, h_bool, h_int, h_named, Val, v_con, Vals, vals-grown, val-positive}

-- ---- constants: a location that holds a constant of a base type
pub record HoldsConstant (h : List Cell) (l : ℕ) (τ : Plain) : Type 0 where
  pub constant : Constant
  pub cell : look h l ≡ some (leaf constant)
  pub typed : constant_type constant ≡ τ

pub base-constant : {P : File} {h : List Cell} {l : ℕ} (τ : Plain) → Has P h l (base_type τ) → HoldsConstant h l τ
unfolding base_type constant_type
base-constant pbool (h_bool {b} e) = record { constant = kbool b; cell = e; typed = refl }
base-constant pint (h_int {n} e less) = record { constant = kint n; cell = e; typed = refl }
base-constant (pnamed t) (h_named v le) = absurd (omega (arith, val-positive v))

-- "sums, differences and products wrap": an operator's result is of its type
pub result-has : {P : File} {h : List Cell} {l : ℕ} (o : Op) (x y : Constant) → look h l ≡ some (leaf (apply_op o x y)) → Has P h l (base_type (op_type o))
unfolding base_type op_type apply_op
result-has oadd x y e = h_int e (omega arith)
result-has osub x y e = h_int e (omega arith)
result-has omul x y e = h_int e (omega arith)
result-has oeq x y e = h_bool e
result-has olt x y e = h_bool e
result-has ole x y e = h_bool e
result-has oand x y e = h_bool e
result-has oor x y e = h_bool e

-- ---- the two cases of a condition, and of the subject of a fit
pub bool_cases : {P : File} {h : List Cell} {l : ℕ} {A : Type 0} → Has P h l tbool → (look h l ≡ some (leaf (kbool true)) → A) → (look h l ≡ some (leaf (kbool false)) → A) → A
bool_cases (h_bool {b = true} e) holds fails = holds e
bool_cases (h_bool {b = false} e) holds fails = fails e

pub fit-cases : {P : File} {h : List Cell} {l t j : ℕ} {A : Type 0} (k : ℕ) → Has P h l (tnamed t j) → ((n : ℕ) → Val P h l t n → n ≤ k → A) → ((n : ℕ) → Val P h l t n → k < n → A) → A
fit-cases k (h_named {j = n} v le) fits fails = below_or_not k n (fails n v) (fits n v)

pub record ValCell (h : List Cell) (l t n : ℕ) : Type 0 where
  pub constructor : ℕ
  pub fields : List ℕ
  pub is : look h l ≡ some (con t constructor n fields)

pub val-cell : {P : File} {h : List Cell} {l t n : ℕ} → Val P h l t n → ValCell h l t n
val-cell (v_con {c} {ls} e f vs s) = record { constructor = c; fields = ls; is = e }

-- ---- constructors: the one at a location, and its fields
pub con-cases : {P : File} {h : List Cell} {l t k : ℕ} {A : Type 0} → Has P h l (tnamed t k) →
    ((c j : ℕ) (fs : Constructor) (ls ks : List ℕ) → look h l ≡ some (con t c j ls) → look (constructors_of P t) c ≡ some fs → Vals P h l t fs ls ks → suc (sum ks) ≤ k → A) → A
con-cases (h_named (v_con {c} {j} {fs} {ls} {ks} e f vs s) le) with-fields = with-fields c j fs ls ks e f vs (omega arith)

pub new-con-has : {P : File} {h : List Cell} {t : ℕ} (c : ℕ) {fs : Constructor} {ls ks : List ℕ} (k : ℕ) → look (constructors_of P t) c ≡ some fs → Vals P h (length h) t fs ls ks → suc (sum ks) ≤ k →
    Has P (h ++ (con t c (1 + sum ks) ls ∷ [])) (length h) (tnamed t k)
new-con-has {h} {t} c {ls} {ks} k e vs le = h_named {k = k} (v_con (look-new h (con t c (1 + sum ks) ls)) e (vals-grown (grown-one h _) vs) (omega arith)) (omega arith)
