-- Locations that hold values of plain types, and that they still do when the heap has grown.
use Rattle.std.specs.Prelude.{ℕ, zero, suc, List, [], ◌∷◌, ◌++◌, Bool, true, false, ◌≡◌, refl, length, get_or, set, leb}
use Rattle.std.proofs.Common.{true≢false, ap, ◌∙◌, subst, leb-true, leb-false}
use Rattle.std.proofs.Math.Option.{some}
use Rattle.std.proofs.Math.ListN.{get_elem? as look}
use Rattle.std.proofs.lemmas.List.{length-map}
use Rattle.language.specs.Result.{both}
use Rattle.language.specs.Syntax.{fbool, fint, own, other, Constructor, Plain, pbool, pint, pnamed, Op, oadd, osub, omul, oeq, olt, ole, oand, oor, File, constructors_of}
use Rattle.language.specs.PlainTypes.{plain_field, plain_fields, operand_type, op_type, is_named}
use Rattle.language.specs.Heap.{Constant, kbool, kint, Cell, leaf, con, constant_type, truth, apply_op, cell_at, constant_in, constructor_in, size_in, fields_in, own_sum, fields_within_of}
use Rattle.language.specs.Sizes.{sum}
use Rattle.language.specs.Evaluator.{Channels, no_channels}
use Rattle.language.specs.Rules.{FieldSizes, z_none, z_bool, z_int, z_own, z_other}
use Rattle.language.specs.Meets.{FieldAbove, above, above_later}
use Rattle.theory.specs.Lists.{look-new, none-is-not-some, both_left, both_right}
use Rattle.theory.specs.Heaps.{cell-at, Grown, grown-one, look-grown}

-- ---- PlainValue P h l τ: in the heap h the location l holds a value of type τ
module _ (P : File) (h : List Cell) where
  mutual
    pub data PlainValue : ℕ → Plain → Type 0 where
      v_bool : {l : ℕ} {b : Bool} → look h l ≡ some (leaf (kbool b)) → PlainValue l pbool
      v_int : {l n : ℕ} → look h l ≡ some (leaf (kint n)) → PlainValue l pint
      v_con : {l t c k : ℕ} {ls : List ℕ} {fs : Constructor} {τs : List Plain} →
          look h l ≡ some (con t c k ls) → look (constructors_of P t) c ≡ some fs → τs ≡ plain_fields t fs → PlainValues ls τs → PlainValue l (pnamed t)

    -- the locations of fields, of arguments, of an environment
    pub data PlainValues : List ℕ → List Plain → Type 0 where
      vs_nil : PlainValues [] []
      vs_cons : {l : ℕ} {ls : List ℕ} {τ : Plain} {τs : List Plain} → PlainValue l τ → PlainValues ls τs → PlainValues (l ∷ ls) (τ ∷ τs)

module _ {P : File} {h g : List Cell} (w : Grown h g) where
  mutual
    pub value-grown : {l : ℕ} {τ : Plain} → PlainValue P h l τ → PlainValue P g l τ
    value-grown (v_bool {l} e) = v_bool (look-grown w l e)
    value-grown (v_int {l} e) = v_int (look-grown w l e)
    value-grown (v_con {l} e f q vs) = v_con (look-grown w l e) f q (values-grown vs)

    pub values-grown : {ls : List ℕ} {τs : List Plain} → PlainValues P h ls τs → PlainValues P g ls τs
    values-grown vs_nil = vs_nil
    values-grown (vs_cons v vs) = vs_cons (value-grown v) (values-grown vs)

pub values-append : {P : File} {h : List Cell} {ls ms : List ℕ} {σs τs : List Plain} → PlainValues P h ls σs → PlainValues P h ms τs → PlainValues P h (ls ++ ms) (σs ++ τs)
values-append vs_nil q = q
values-append (vs_cons v p) q = vs_cons v (values-append p q)

pub values-set : {P : File} {h : List Cell} {ls : List ℕ} {τs : List Plain} → PlainValues P h ls τs → (c : ℕ) {l : ℕ} {τ : Plain} → look τs c ≡ some τ → PlainValue P h l τ → PlainValues P h (set ls c l) τs
values-set vs_nil c e v = none-is-not-some e
values-set {P} {h} (vs_cons {τ = σ} w vs) zero {l} {τ} e v = let same : τ ≡ σ = cc in vs_cons (subst (PlainValue P h l) same v) vs
values-set (vs_cons w vs) (suc c) e v = vs_cons w (values-set vs c e v)

pub values_length : {P : File} {h : List Cell} {ls : List ℕ} {τs : List Plain} → PlainValues P h ls τs → length ls ≡ length τs
values_length vs_nil = refl
values_length (vs_cons v vs) = ap suc (values_length vs)

-- a typed place in a list of locations
pub record PlainFound (P : File) (h : List Cell) (ls : List ℕ) (v : ℕ) (τ : Plain) : Type 0 where
  pub at : look ls v ≡ some (get_or ls v 0)
  pub has : PlainValue P h (get_or ls v 0) τ

pub values-look : {P : File} {h : List Cell} {ls : List ℕ} {τs : List Plain} → PlainValues P h ls τs → (v : ℕ) {τ : Plain} → look τs v ≡ some τ → PlainFound P h ls v τ
values-look vs_nil v e = none-is-not-some e
values-look {P} {h} (vs_cons {l} x p) zero e = record { at = refl; has = subst (λ τ. PlainValue P h l τ) (cc) x }
values-look (vs_cons x p) (suc v) e = let f = values-look p v e in record { at = f.at; has = f.has }

-- ---- what stands in scope: the variables, and each channel's value now and before the line
pub record PlainScope (P : File) (N : Channels) (C : List Plain) (h : List Cell) (E : List ℕ) (Γ : List Plain) : Type 0 where
  pub variables : PlainValues P h E Γ
  pub now : PlainValues P h N.now C
  pub last : PlainValues P h N.last C

module _ {P : File} {N : Channels} {C : List Plain} {h : List Cell} {E : List ℕ} {Γ : List Plain} where
  pub scope-grown : {g : List Cell} → Grown h g → PlainScope P N C h E Γ → PlainScope P N C g E Γ
  scope-grown w S = record { variables = values-grown w S.variables; now = values-grown w S.now; last = values-grown w S.last }

  pub scope-append : {ls : List ℕ} {τs : List Plain} → PlainScope P N C h E Γ → PlainValues P h ls τs → PlainScope P N C h (E ++ ls) (Γ ++ τs)
  scope-append S vs = record { variables = values-append S.variables vs; now = S.now; last = S.last }

  pub scope-one : {g : List Cell} {l : ℕ} {τ : Plain} → Grown h g → PlainScope P N C h E Γ → PlainValue P g l τ → PlainScope P N C g (E ++ (l ∷ [])) (Γ ++ (τ ∷ []))
  scope-one w S v = record { variables = values-append (values-grown w S.variables) (vs_cons v vs_nil); now = values-grown w S.now; last = values-grown w S.last }

-- a body's scope
pub scope-body : {P : File} {h : List Cell} {ls : List ℕ} {τs : List Plain} → PlainValues P h ls τs → PlainScope P no_channels [] h ls τs
scope-body vs = record { variables = vs; now = vs_nil; last = vs_nil }

-- ---- the cell of a typed location
pub bool-cell : {P : File} {h : List Cell} {l : ℕ} (b : Bool) → PlainValue P h l pbool → truth (constant_in (cell_at h l)) ≡ b → look h l ≡ some (leaf (kbool b))
unfolding truth constant_in
bool-cell {h} b (v_bool {l} e) t = e ∙ ap (λ x. some (leaf (kbool x))) (rw (cell-at h l e) at t)

pub record LeafCell (h : List Cell) (l : ℕ) (τ : Plain) : Type 0 where
  pub is : look h l ≡ some (leaf (constant_in (cell_at h l)))
  pub typed : constant_type (constant_in (cell_at h l)) ≡ τ

leaf-cell : {P : File} {h : List Cell} {l : ℕ} {τ : Plain} → PlainValue P h l τ → is_named τ ≡ false → LeafCell h l τ
unfolding is_named constant_in constant_type
leaf-cell {h} (v_bool {l} e) b = let z = cell-at h l e in record { is = rw z e; typed = rw z }
leaf-cell {h} (v_int {l} e) b = let z = cell-at h l e in record { is = rw z e; typed = rw z }
leaf-cell (v_con e f q vs) b = absurd (true≢false b)

operand-base : (o : Op) → is_named (operand_type o) ≡ false
unfolding is_named operand_type
operand-base oadd = refl
operand-base osub = refl
operand-base omul = refl
operand-base oeq = refl
operand-base olt = refl
operand-base ole = refl
operand-base oand = refl
operand-base oor = refl

pub operand-cell : {P : File} {h : List Cell} {l : ℕ} (o : Op) → PlainValue P h l (operand_type o) → LeafCell h l (operand_type o)
operand-cell o v = leaf-cell v (operand-base o)

-- a cell whose constructor is one of its type, with fields of that constructor's types
pub record ConCell (P : File) (h : List Cell) (l t : ℕ) : Type 0 where
  pub fields : Constructor
  pub is : look h l ≡ some (con t (constructor_in (cell_at h l)) (size_in (cell_at h l)) (fields_in (cell_at h l)))
  pub known : look (constructors_of P t) (constructor_in (cell_at h l)) ≡ some fields
  pub parts : PlainValues P h (fields_in (cell_at h l)) (plain_fields t fields)

pub con-cell : {P : File} {h : List Cell} {l t : ℕ} → PlainValue P h l (pnamed t) → ConCell P h l t
unfolding constructor_in fields_in size_in
con-cell {h} (v_con {l} {fs} e f q vs) = let z = cell-at h l e in record { fields = fs; is = rw z e; known = rw z f; parts = rw (z, ← q) vs }

-- it has as many fields as its constructor
pub con-length : {P : File} {h : List Cell} {l t : ℕ} (v : ConCell P h l t) → length (fields_in (cell_at h l)) ≡ length v.fields
con-length {t} v = values_length v.parts ∙ length-map v.fields (plain_field t)

-- the sizes at a constructor's fields, where none is above its k
pub record SizesAt (h : List Cell) (fs : Constructor) (ls : List ℕ) : Type 0 where
  pub sizes : List ℕ
  pub are : FieldSizes h fs ls sizes
  pub total : own_sum h fs ls ≡ sum sizes

pub sizes-at : {P : File} {h : List Cell} (t : ℕ) (fs : Constructor) {ls : List ℕ} → PlainValues P h ls (plain_fields t fs) → fields_within_of h fs ls ≡ true → SizesAt h fs ls
unfolding plain_field own_sum fields_within_of sum
sizes-at t [] vs_nil w = record { sizes = []; are = z_none; total = refl }
sizes-at t (fbool ∷ fs) (vs_cons v vs) w = let r = sizes-at t fs vs w in record { sizes = r.sizes; are = z_bool r.are; total = r.total }
sizes-at t (fint ∷ fs) (vs_cons v vs) w = let r = sizes-at t fs vs w in record { sizes = r.sizes; are = z_int r.are; total = r.total }
sizes-at {h} t (own ∷ fs) (vs_cons {l} v vs) w = let r = sizes-at t fs vs w in
    record { sizes = size_in (cell_at h l) ∷ r.sizes; are = z_own (con-cell v).is r.are; total = rw r.total }
sizes-at {h} t (other u j ∷ fs) (vs_cons {l} v vs) w = let r = sizes-at t fs vs (both_right _ _ w) in
    record { sizes = r.sizes; are = z_other (con-cell v).is (leb-true _ _ (both_left _ _ w)) r.are; total = r.total }

-- else one is
pub field-above : {P : File} {h : List Cell} (t : ℕ) (fs : Constructor) {ls : List ℕ} → PlainValues P h ls (plain_fields t fs) → fields_within_of h fs ls ≡ false → FieldAbove h fs ls
unfolding plain_field fields_within_of both
field-above t [] vs_nil w = absurd (true≢false w)
field-above t (fbool ∷ fs) (vs_cons v vs) w = above_later (field-above t fs vs w)
field-above t (fint ∷ fs) (vs_cons v vs) w = above_later (field-above t fs vs w)
field-above t (own ∷ fs) (vs_cons v vs) w = above_later (field-above t fs vs w)
field-above {P} {h} t (other u j ∷ fs) (vs_cons {l} {ls} v vs) w = by_size (leb (size_in (cell_at h l)) j) refl (λ less. field-above t fs vs less)
  where
    by_size : (b : Bool) → leb (size_in (cell_at h l)) j ≡ b → (fields_within_of h fs ls ≡ false → FieldAbove h fs ls) → FieldAbove h (other u j ∷ fs) (l ∷ ls)
    by_size true e later = above_later (later (rw e at w))
    by_size false e later = above (con-cell v).is (leb-false (size_in (cell_at h l)) j e)

-- ---- new cells
pub new-leaf : {P : File} (h : List Cell) (x : Constant) → PlainValue P (h ++ (leaf x ∷ [])) (length h) (constant_type x)
unfolding constant_type
new-leaf h (kbool b) = v_bool (look-new h (leaf (kbool b)))
new-leaf h (kint n) = v_int (look-new h (leaf (kint n)))

op-type : (o : Op) (x y : Constant) → constant_type (apply_op o x y) ≡ op_type o
unfolding constant_type apply_op op_type
op-type oadd x y = refl
op-type osub x y = refl
op-type omul x y = refl
op-type oeq x y = refl
op-type olt x y = refl
op-type ole x y = refl
op-type oand x y = refl
op-type oor x y = refl

pub new-result : {P : File} (h : List Cell) (o : Op) (x y : Constant) → PlainValue P (h ++ (leaf (apply_op o x y) ∷ [])) (length h) (op_type o)
new-result {P} h o x y = rw (op-type o x y) at (new-leaf {P = P} h (apply_op o x y))

pub new-con : {P : File} {h : List Cell} {ls : List ℕ} (t c k : ℕ) {fs : Constructor} → look (constructors_of P t) c ≡ some fs → PlainValues P h ls (plain_fields t fs) → PlainValue P (h ++ (con t c k ls ∷ [])) (length h) (pnamed t)
new-con {h} {ls} t c k e vs = v_con (look-new h (con t c k ls)) e refl (values-grown (grown-one h (con t c k ls)) vs)
