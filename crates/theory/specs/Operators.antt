-- What the operators on Int mean over the integers: "four bytes, two's complement"; "Int is 32 bits, and sums, differences and products
-- wrap"; "`03` =, `04` <, `05` ≤ on Int". The definitions work on the bits alone.
use Rattle.std.specs.Prelude.{ℕ, zero, suc, ◌+◌, ◌-◌, ◌*◌, ◌%◌, ◌≤◌, ◌<◌, Bool, true, false, not, cond, ◌↔◌, ◌≡◌, refl, ltb, leb, eqb, ℤ, pos, negsuc, neg_ℤ, ◌+ℤ◌, ◌-ℤ◌, ◌*ℤ◌}
use Rattle.std.proofs.Common.{sym, ap, ◌∙◌, mul-add, add-mul, mul_comm, arith, lt-ltb, le-ltb, ltb-true, ltb-false, le-leb, eq-eqb, eqb-true}
use Rattle.std.proofs.Math.IntN.{sub_ℕ}
use Rattle.std.specs.Int.Signed.{lt_z, le_z}
use Rattle.std.proofs.lemmas.Bool.{lt-leb}
use Rattle.language.specs.Limits.{int_range, sign_bit}
use Rattle.language.specs.Result.{choose}
use Rattle.language.specs.Syntax.{oadd, osub, omul, oeq, olt, ole}
use Rattle.language.specs.Heap.{kbool, kint, number, signed_less, apply_op}

-- the integer that 32 bits are; negsuc m is -(m + 1)
unfoldable pub integer : ℕ → ℤ
integer n = choose (ltb n sign_bit) (pos n) (negsuc (int_range - suc n))

-- the 32 bits of any integer: it wraps
unfoldable pub bits : ℤ → ℕ
bits (pos n) = n % int_range
bits (negsuc n) = int_range - suc (n % int_range)

-- ---- a number's bits and its integer: it is not negative, or short of the range by as much as it is below 0
data Reading (n : ℕ) : ℤ → Type 0 where
  low : n < sign_bit → Reading n (pos n)
  high : {m : ℕ} → sign_bit ≤ n → n + suc m ≡ int_range → Reading n (negsuc m)

reading : (n : ℕ) → n < int_range → Reading n (integer n)
unfolding integer choose
reading n less = cases (ltb n sign_bit) refl
  where
    cases : (b : Bool) → ltb n sign_bit ≡ b → Reading n (choose b (pos n) (negsuc (int_range - suc n)))
    cases true e = low (ltb-true n sign_bit e)
    cases false e = let le : sign_bit ≤ n = ltb-false n sign_bit e in high {m = int_range - suc n} le (omega arith)

bits-read : {n : ℕ} {x : ℤ} → Reading n x → bits x ≡ n
unfolding bits
bits-read (low less) = omega arith
bits-read (high {m} le e) = omega arith

pub bits-of-integer : (n : ℕ) → n < int_range → bits (integer n) ≡ n
bits-of-integer n less = bits-read (reading n less)

-- ---- the bits of a sum of integers, and of what is turned over
bits-difference : (a b : ℕ) → bits (sub_ℕ a (suc b)) ≡ (a % int_range + (int_range - suc (b % int_range))) % int_range
unfolding bits
bits-difference a b = cases (ltb a (suc b)) refl
  where
    cases : (t : Bool) → ltb a (suc b) ≡ t → bits (cond t (negsuc (suc b - suc a)) (pos (a - suc b))) ≡ (a % int_range + (int_range - suc (b % int_range))) % int_range
    cases true e = let less : a < suc b = ltb-true a (suc b) e in omega arith
    cases false e = let le : suc b ≤ a = ltb-false a (suc b) e in omega arith

bits-sum : (x y : ℤ) → bits (x +ℤ y) ≡ (bits x + bits y) % int_range
unfolding bits
bits-sum (pos a) (pos b) = omega arith
bits-sum (pos a) (negsuc b) = bits-difference a b
bits-sum (negsuc a) (pos b) = bits-difference b a ∙ omega arith
bits-sum (negsuc a) (negsuc b) = omega arith

bits-negated : (k : ℕ) → bits (neg_ℤ (pos k)) ≡ (int_range - k % int_range) % int_range
unfolding bits
bits-negated zero = refl
bits-negated (suc k) = omega arith

-- ---- sums, differences and products
pub sum_wraps : (a b : ℕ) → a < int_range → b < int_range → apply_op oadd (kint a) (kint b) ≡ kint (bits (integer a +ℤ integer b))
unfolding apply_op number
sum_wraps a b p q = ap kint (sym (bits-sum (integer a) (integer b) ∙ rw (bits-of-integer a p, bits-of-integer b q)))

bits-less : {a b : ℕ} {x y : ℤ} → a < int_range → Reading a x → Reading b y → (a + (int_range - b)) % int_range ≡ bits (x -ℤ y)
unfolding bits
bits-less {a} {b} {x} p r (low less) = sym (bits-sum x (neg_ℤ (pos b)) ∙ rw (bits-read r, bits-negated b) (omega arith))
bits-less {a} {b} {x} p r (high {m} le e) = sym (bits-sum x (pos (suc m)) ∙ rw (bits-read r) (omega arith))

pub difference-wraps : (a b : ℕ) → a < int_range → b < int_range → apply_op osub (kint a) (kint b) ≡ kint (bits (integer a -ℤ integer b))
unfolding apply_op number
difference-wraps a b p q = ap kint (bits-less p (reading a p) (reading b q))

-- numbers whose sum is a multiple of the range, and two that both have such a sum with a third
turned-over : (p u q : ℕ) → u + p ≡ q * int_range → p % int_range ≡ (int_range - u % int_range) % int_range
turned-over p u q e = omega arith

turned-twice : (p u v q r : ℕ) → u + v ≡ r * int_range → v + p ≡ q * int_range → p % int_range ≡ u % int_range
turned-twice p u v q r e f = omega arith

-- what makes up the range, times a number
parts-after : (a c b : ℕ) → a + c ≡ int_range → b * c + b * a ≡ b * int_range
parts-after a c b e = let whole : c + a ≡ int_range = omega arith in sym (mul-add b c a) ∙ ap (λ n. b * n) whole

parts-before : (a c b : ℕ) → a + c ≡ int_range → c * b + a * b ≡ b * int_range
parts-before a c b e = let whole : c + a ≡ int_range = omega arith in sym (add-mul c a b) ∙ ap (λ n. n * b) whole ∙ mul_comm int_range b

bits-times : {a b : ℕ} {x y : ℤ} → Reading a x → Reading b y → (a * b) % int_range ≡ bits (x *ℤ y)
unfolding bits
bits-times (low p) (low q) = refl
bits-times {a} {b} (low p) (high {m} le e) = turned-over (a * b) (a * suc m) a (parts-after b (suc m) a e) ∙ sym (bits-negated (a * suc m))
bits-times {a} {b} (high {m} le e) (low q) = turned-over (a * b) (suc m * b) b (parts-before a (suc m) b e) ∙ sym (bits-negated (suc m * b))
bits-times {a} {b} (high {m} le e) (high {m = k} le' f) = turned-twice (a * b) (suc m * suc k) (suc m * b) b (suc m) (parts-after b (suc k) (suc m) f) (parts-before a (suc m) b e)

pub product-wraps : (a b : ℕ) → a < int_range → b < int_range → apply_op omul (kint a) (kint b) ≡ kint (bits (integer a *ℤ integer b))
unfolding apply_op number
product-wraps a b p q = ap kint (bits-times (reading a p) (reading b q))

-- ---- comparisons are those of the integers
same_test : (a b c d : ℕ) → (a < b → c < d) → (b ≤ a → d ≤ c) → ltb a b ≡ ltb c d
same_test a b c d f g = cases (ltb a b) refl
  where
    cases : (t : Bool) → ltb a b ≡ t → t ≡ ltb c d
    cases true e = sym (lt-ltb c d (f (ltb-true a b e)))
    cases false e = sym (le-ltb c d (g (ltb-false a b e)))

less-of-integers : {a b : ℕ} {x y : ℤ} → Reading a x → Reading b y → signed_less a b ≡ lt_z x y
unfolding signed_less
less-of-integers {a} {b} (low p) (low q) = same_test ((a + sign_bit) % int_range) ((b + sign_bit) % int_range) a b (λ l. omega arith) (λ l. omega arith)
less-of-integers {a} {b} (low p) (high {m} le e) = le-ltb ((a + sign_bit) % int_range) ((b + sign_bit) % int_range) (omega arith)
less-of-integers {a} {b} (high {m} le e) (low q) = lt-ltb ((a + sign_bit) % int_range) ((b + sign_bit) % int_range) (omega arith)
less-of-integers {a} {b} (high {m} le e) (high {m = k} le' f) = same_test ((a + sign_bit) % int_range) ((b + sign_bit) % int_range) k m (λ l. omega arith) (λ l. omega arith)

test-turned : (a b : ℕ) → not (ltb a b) ≡ leb b a
test-turned a b = cases (ltb a b) refl
  where
    cases : (t : Bool) → ltb a b ≡ t → not t ≡ leb b a
    cases true e = sym (lt-leb b a (ltb-true a b e))
    cases false e = sym (le-leb b a (ltb-false a b e))

not-less : (x y : ℤ) → not (lt_z y x) ≡ le_z x y
not-less (pos a) (pos b) = test-turned b a
not-less (pos a) (negsuc b) = refl
not-less (negsuc a) (pos b) = refl
not-less (negsuc a) (negsuc b) = test-turned a b

pub less-is-signed : (a b : ℕ) → a < int_range → b < int_range → apply_op olt (kint a) (kint b) ≡ kbool (lt_z (integer a) (integer b))
unfolding apply_op number
less-is-signed a b p q = ap kbool (less-of-integers (reading a p) (reading b q))

pub at-most-is-signed : (a b : ℕ) → a < int_range → b < int_range → apply_op ole (kint a) (kint b) ≡ kbool (le_z (integer a) (integer b))
unfolding apply_op number
at-most-is-signed a b p q = ap kbool (ap not (less-of-integers (reading b q) (reading a p)) ∙ not-less (integer a) (integer b))

-- no two numbers of 32 bits are one integer
pub equal-is-equal : (a b : ℕ) → a < int_range → b < int_range → (apply_op oeq (kint a) (kint b) ≡ kbool true) ↔ (integer a ≡ integer b)
unfolding apply_op number
equal-is-equal a b p q = (
  (λ e. let same : eqb a b ≡ true = cc in ap integer (eqb-true a b same)),
  (λ e. ap kbool (eq-eqb a b (sym (bits-of-integer a p) ∙ ap bits e ∙ bits-of-integer b q))),
)
