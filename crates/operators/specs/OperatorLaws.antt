-- What the operators' codes stand for: a law for each return of the functions that compute on two constants; and from constants to
-- the cells that hold them (numbers-operated, numbers-compared, truths-operated).
use Rattle.std.specs.Prelude.{◌≡◌, ℕ, ◌+◌, ◌*◌, ◌%◌, ◌<◌, ◌≤◌, Bool, true, false, not, ◌&&◌, ◌||◌, List, ◌==◌, ◌≢◌, nat_lt}
use Rattle.std.proofs.Math.Option.{some, some-injective}
use Rattle.std.proofs.Math.Path.{refl, ap}
use Rattle.std.proofs.Common.{sym, ◌∙◌, arith}
use Rattle.std.proofs.Math.ListN.{get_elem? as look}
use Rattle.language.specs.Limits.{int_range, sign_bit}
use Rattle.language.specs.Codes.{operator_plus, operator_minus, operator_equal, operator_less, operator_and, operator_or}
use Rattle.language.specs.Result.{both, one_of}
use Rattle.language.specs.Syntax.{Op, oadd, osub, omul, oeq, olt, ole, oand, oor, File}
use Rattle.language.specs.ReadExpr.{ops}
use Rattle.language.specs.Format.{bit, op_code}
use Rattle.language.specs.Heap.{Constant, kbool, kint, Cell, leaf, truth, number, signed_less, apply_op, decides, cell_at, constant_in}
use Rattle.language.specs.Evaluator.{Out, alloc}
use Rattle.theory.specs.Lists.{look-less}
use Rattle.state_words.specs.Holds.{Reads}
use Rattle.new_cells.specs.Steps.{Evaluated, Lies, Gives}
use Rattle.new_cells.specs.Asked.{MakesBool, MakesInt, Computes, Decides, Operates}
use Rattle.new_cells.specs.AllocLaws.{gives-asked}

-- ---- an operator by its code
op-of-code : (op : Op) → look ops (op_code op) ≡ some op
op-of-code oadd = refl
op-of-code osub = refl
op-of-code omul = refl
op-of-code oeq = refl
op-of-code olt = refl
op-of-code ole = refl
op-of-code oand = refl
op-of-code oor = refl

same_op : {op : Op} (known : Op) → op_code op ≡ op_code known → op ≡ known
same_op {op} known e = some-injective _ _ (sym (op-of-code op) ∙ ap (look ops) e ∙ op-of-code known)

computes : {o : ℕ} {x y r : Constant} (op : Op) → o ≡ op_code op → r ≡ apply_op op x y → Computes o x y r
computes {x} {y} known is e = record { says = λ op q. e ∙ ap (λ z. apply_op z x y) (sym (same_op known (q ∙ is))) }

-- ---- the order of the signed
pub signed-less : (a b : ℕ) {x y : ℕ} → x ≡ (a + sign_bit) % int_range → y ≡ (b + sign_bit) % int_range → nat_lt x y ≡ signed_less a b
unfolding signed_less
signed-less a b p q = rw (p, q)

-- ---- sums, differences, products; comparisons
module _ {o a b : ℕ} where
  pub sum-computed : {r : ℕ} → o ≡ operator_plus → r ≡ (a + b) % int_range → Computes o (kint a) (kint b) (kint r)
  unfolding apply_op number
  sum-computed is e = computes oadd is (ap kint e)

  pub difference-computed : {r : ℕ} → r < int_range → b < int_range → o ≡ operator_minus → (r + b) % int_range ≡ a → Computes o (kint a) (kint b) (kint r)
  unfolding apply_op number
  difference-computed low width is e = computes osub is (ap kint (omega arith))

  pub product-computed : {r : ℕ} → o < operator_equal → (o ≢ operator_plus) → (o ≢ operator_minus) → r ≡ (a * b) % int_range → Computes o (kint a) (kint b) (kint r)
  unfolding apply_op number
  product-computed low not-plus not-minus e = computes omul (omega arith) (ap kint e)

  pub equal-computed : o ≡ operator_equal → Computes o (kint a) (kint b) (kbool (a == b))
  unfolding apply_op number
  equal-computed is = computes oeq is refl

  pub less-computed : {r : Bool} → o ≡ operator_less → r ≡ signed_less a b → Computes o (kint a) (kint b) (kbool r)
  unfolding apply_op number
  less-computed is e = computes olt is (ap kbool e)

  pub at-most-computed : {r : Bool} → operator_equal ≤ o → o < operator_and → (o ≢ operator_equal) → (o ≢ operator_less) → r ≡ signed_less b a → Computes o (kint a) (kint b) (kbool (not r))
  unfolding apply_op number
  at-most-computed low high not_equal not-less e = computes ole (omega arith) (ap (λ x. kbool (not x)) e)

-- ---- and, or
module _ {o : ℕ} where
  pub and-computed : (a b : Bool) → o ≡ operator_and → Computes o (kbool a) (kbool b) (kbool (a && b))
  unfolding apply_op truth both
  and-computed true b is = computes oand is refl
  and-computed false b is = computes oand is refl

  pub or-computed : (a b : Bool) → operator_and ≤ o → (o ≢ operator_and) → Computes o (kbool a) (kbool b) (kbool (a || b))
  unfolding apply_op truth one_of
  or-computed a b high not-and = record { says = λ op q. is a ∙ ap (λ z. apply_op z (kbool a) (kbool b)) (sym (same_op {op = op} oor (omega (arith, look-less ops (op_code op) (op-of-code op))))) }
    where
      is : (a : Bool) → kbool (a || b) ≡ apply_op oor (kbool a) (kbool b)
      is true = refl
      is false = refl

-- ---- whether the left side decides
decided-as : {o : ℕ} {left r : Bool} (op : Op) → o ≡ op_code op → r ≡ decides op left → Decides o left r
decided-as {left} known is e = record { says = λ op q. e ∙ ap (λ z. decides z left) (sym (same_op known (q ∙ is))) }

module _ {o : ℕ} (left : Bool) where
  pub and-decided : o ≡ operator_and → Decides o left (not left)
  unfolding decides
  and-decided is = decided-as oand is refl

  pub or-decided : o ≡ operator_or → Decides o left left
  unfolding decides
  or-decided is = decided-as oor is refl

  pub none-decided : (o ≢ operator_and) → (o ≢ operator_or) → Decides o left false
  unfolding decides
  none-decided not-and not-or = record { says = go }
    where
      go : (op : Op) → op_code op ≡ o → false ≡ decides op left
      go oadd q = refl
      go osub q = refl
      go omul q = refl
      go oeq q = refl
      go olt q = refl
      go ole q = refl
      go oand q = absurd (not-and (sym q))
      go oor q = absurd (not-or (sym q))

-- ---- cells: an operator below `and` reads two numbers, the others two truths
on-numbers : (op : Op) (x y : Constant) → op_code op < operator_and → apply_op op (kint (number x)) (kint (number y)) ≡ apply_op op x y
unfolding apply_op number
on-numbers oadd x y less = refl
on-numbers osub x y less = refl
on-numbers omul x y less = refl
on-numbers oeq x y less = refl
on-numbers olt x y less = refl
on-numbers ole x y less = refl
on-numbers oand x y less = absurd (omega arith)
on-numbers oor x y less = absurd (omega arith)

on-truths : (op : Op) (x y : Constant) → operator_and ≤ op_code op → apply_op op (kbool (truth x)) (kbool (truth y)) ≡ apply_op op x y
unfolding apply_op truth
on-truths oadd x y le = absurd (omega arith)
on-truths osub x y le = absurd (omega arith)
on-truths omul x y le = absurd (omega arith)
on-truths oeq x y le = absurd (omega arith)
on-truths olt x y le = absurd (omega arith)
on-truths ole x y le = absurd (omega arith)
on-truths oand x y le = refl
on-truths oor x y le = refl

-- what the functions leave that write the constant computed
module _ {words : List ℕ} {used o l m : ℕ} where
  module _ {a b : ℕ} (p : Reads words used (λ h. number (constant_in (cell_at h l))) a) (q : Reads words used (λ h. number (constant_in (cell_at h m))) b) (low : o < operator_and) where
    numbers-give : {x : Constant} {P : File} {cells : ℕ} {h : List Cell} {out : Out} → Computes o (kint a) (kint b) x → Lies P cells words used h → Operates o l m P cells h out → out ≡ alloc cells h (leaf x)
    numbers-give {cells} {h} k v s = s.is ∙ ap (λ x. alloc cells h (leaf x))
        (sym (k.says s.op s.code ∙ rw (p.says h v.held, q.says h v.held) (on-numbers s.op (constant_in (cell_at h l)) (constant_in (cell_at h m)) (omega (arith, s.code)))))

    pub numbers-operated : {words' : List ℕ} {out : Evaluated} {r : ℕ} → Computes o (kint a) (kint b) (kint r) → Gives words used (MakesInt r) out words' → Gives words used (Operates o l m) out words'
    numbers-operated k g = gives-asked (λ P cells h o v s. record { is = numbers-give k v s }) g

    pub numbers-compared : {words' : List ℕ} {out : Evaluated} {r : Bool} {w : ℕ} → Computes o (kint a) (kint b) (kbool r) → w ≡ bit r → Gives words used (MakesBool w) out words' → Gives words used (Operates o l m) out words'
    numbers-compared {r} k e g = gives-asked (λ P cells h o v s. record { truth = r; spelled = sym e; is = numbers-give k v s }) g

  pub truths-operated : {words' : List ℕ} {out : Evaluated} {a b r : Bool} {w : ℕ} → Reads words used (λ h. truth (constant_in (cell_at h l))) a → Reads words used (λ h. truth (constant_in (cell_at h m))) b → operator_and ≤ o →
      Computes o (kbool a) (kbool b) (kbool r) → w ≡ bit r → Gives words used (MakesBool w) out words' → Gives words used (Operates o l m) out words'
  truths-operated {r = r} p q high k e g = gives-asked (λ P cells h o v s. record {
    truth = r;
    spelled = sym e;
    is = s.is ∙ ap (λ x. alloc cells h (leaf x)) (sym (k.says s.op s.code ∙ rw (p.says h v.held, q.says h v.held) (on-truths s.op (constant_in (cell_at h l)) (constant_in (cell_at h m)) (omega (arith, s.code)))));
  }) g
