-- The bytes of a line, a strict one or a frame's, are those that a cursor reads.
use Rattle.std.specs.Prelude.{ℕ, List, [], ◌∷◌, Bool, true, false, refl, eqb}
use Rattle.std.proofs.Math.Option.{Option, none, some}
use Rattle.std.proofs.Math.Path.{◌≡◌}
use Rattle.std.proofs.Common.{◌∙◌, arith, eqb-true}
use Rattle.language.specs.Codes.{space}
use Rattle.language.specs.Result.{choose}
use Rattle.language.specs.Text.{digit, any_digit, pair, pairs, line_bytes, pair_at, behind_pair, behind_space, frame_bytes}
use Rattle.text.specs.Bytes.{digit_value_of, bytes_of}
use Rattle.text.specs.DigitLaws.{digit_value, digit-no-space, any-digit-value, any-digit-no-space, bytes-space, bytes_pair}

-- what is read of a pair of digits, be they strict or of either case, where the line behind it is read so
module _ (d : ℕ → Option ℕ) (value : (c i : ℕ) → d c ≡ some i → digit_value_of c ≡ i) (no-space : (c i : ℕ) → d c ≡ some i → c ≡ space → ⊥) where
  pair-bytes : (a b : ℕ) (l bs : List ℕ) (x y : Option ℕ) (z : Option (List ℕ)) → d a ≡ x → d b ≡ y → pair x y z ≡ some bs → ((cs : List ℕ) → z ≡ some cs → bytes_of l ≡ cs) → bytes_of (a ∷ b ∷ l) ≡ bs
  unfolding pair
  pair-bytes a b l bs (some i) (some j) (some cs) p q e inner = bytes_pair a b l (no-space a i p) ∙ rw (value a i p, value b j q, inner cs refl) cc
  pair-bytes a b l bs (some i) (some j) none p q e inner = absurd (let z : ◌≡◌ {A = ℕ} 0 1 = cc in omega arith)
  pair-bytes a b l bs (some i) none z p q e inner = absurd (let z : ◌≡◌ {A = ℕ} 0 1 = cc in omega arith)
  pair-bytes a b l bs none y z p q e inner = absurd (let z : ◌≡◌ {A = ℕ} 0 1 = cc in omega arith)

-- ---- a strict line
pairs-read : (l bs : List ℕ) → pairs l ≡ some bs → bytes_of l ≡ bs
unfolding pairs bytes_of
pairs-read [] bs e = cc
pairs-read (a ∷ []) bs e = absurd (let z : ◌≡◌ {A = ℕ} 0 1 = cc in omega arith)
pairs-read (a ∷ b ∷ l) bs e = pair-bytes digit digit_value digit-no-space a b l bs (digit a) (digit b) (pairs l) refl refl e (pairs-read l)

pub line-bytes-read : (l bs : List ℕ) → line_bytes l ≡ some bs → bytes_of l ≡ bs
unfolding line_bytes
line-bytes-read [] bs e = absurd (let z : ◌≡◌ {A = ℕ} 0 1 = cc in omega arith)
line-bytes-read (c ∷ l) bs e = pairs-read (c ∷ l) bs e

-- ---- a frame's line
-- a space, or the next pair
space-or-pair : (c : ℕ) (l bs : List ℕ) (b : Bool) → eqb c space ≡ b → choose b (behind_space l) (pair_at c l) ≡ some bs → (behind_space l ≡ some bs → bytes_of l ≡ bs) → (pair_at c l ≡ some bs → bytes_of (c ∷ l) ≡ bs) → bytes_of (c ∷ l) ≡ bs
unfolding choose
space-or-pair c l bs true q e further next = bytes-space c l (eqb-true c space q) ∙ further e
space-or-pair c l bs false q e further next = next e

mutual
  unfolding pair_at behind_pair behind_space bytes_of

  pair_read : (a : ℕ) (l bs : List ℕ) → pair_at a l ≡ some bs → bytes_of (a ∷ l) ≡ bs
  pair_read a [] bs e = absurd (let z : ◌≡◌ {A = ℕ} 0 1 = cc in omega arith)
  pair_read a (b ∷ l) bs e = pair-bytes any_digit any-digit-value any-digit-no-space a b l bs (any_digit a) (any_digit b) (behind_pair l) refl refl e (λ cs q. behind-read l cs q)

  behind-read : (l bs : List ℕ) → behind_pair l ≡ some bs → bytes_of l ≡ bs
  behind-read [] bs e = cc
  behind-read (c ∷ l) bs e = space-or-pair c l bs (eqb c space) refl e (λ q. space-read l bs q) (λ q. pair_read c l bs q)

  space-read : (l bs : List ℕ) → behind_space l ≡ some bs → bytes_of l ≡ bs
  space-read [] bs e = absurd (let z : ◌≡◌ {A = ℕ} 0 1 = cc in omega arith)
  space-read (c ∷ l) bs e = space-or-pair c l bs (eqb c space) refl e (λ q. space-read l bs q) (λ q. pair_read c l bs q)

pub frame-bytes-read : (l bs : List ℕ) → frame_bytes l ≡ some bs → bytes_of l ≡ bs
unfolding frame_bytes
frame-bytes-read [] bs e = absurd (let z : ◌≡◌ {A = ℕ} 0 1 = cc in omega arith)
frame-bytes-read (c ∷ l) bs e = pair_read c l bs e
