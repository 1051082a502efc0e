-- An Int by its four bytes: each byte may be missing, else the number is theirs.
use Rattle.language.specs.declared.refusals.Refusal.{Refusal}
use Rattle.std.specs.Prelude.{Ok, Err}
use Rattle.std.specs.Prelude.{ℕ, ◌+◌, ◌*◌, ◌^◌, ◌≤◌, ◌<◌, List, [], ◌∷◌, true, false, ◌≡◌, refl, length, get_or, drop}
use Rattle.std.proofs.Common.{sym, ap, ◌∙◌, arith, add-zero}
use Rattle.language.specs.Codes.{space}
use Rattle.language.specs.Limits.{byte_range}
use Rattle.language.specs.Parser.{got, Parser, and_then, ◌>>=◌, return, byte}
use Rattle.language.specs.ReadExpr.{int}
use Rattle.text.specs.declared.Found.{Found}
use Rattle.text.specs.Bytes.{Number, Step, bytes_from, past, bytes_left, forget, step_of, moved, ReadsNumber, Passes, Below, PairAt, UnspacedInt}
use Rattle.text.specs.Places.{pair_place_of, past-none, past-past, bytes_past, left-past, pair-here, place_inside, byte-read, past-read}
use Rattle.text.specs.ReadLaws.{read-then}
use Rattle.text.specs.StepLaws.{pass-here, read-passes, number-other, read-then-read, read-stops-read}

-- what is left to read behind one byte, two, three and all four
abbrev behind_four : ℕ → ℕ → ℕ → ℕ → Parser ℕ
behind_four a b c d = return (a * 2 ^ 24 + b * 2 ^ 16 + c * 2 ^ 8 + d)

abbrev behind_three : ℕ → ℕ → ℕ → Parser ℕ
behind_three a b c = do
  d ← byte
  behind_four a b c d

abbrev behind_two : ℕ → ℕ → Parser ℕ
behind_two a b = do
  c ← byte
  behind_three a b c

abbrev behind_one : ℕ → Parser ℕ
behind_one a = do
  b ← byte
  behind_two a b

-- a byte read at a place
abbrev pub ByteAt : List ℕ → ℕ → Number → Type 0
ByteAt line at x = ReadsNumber line at x (byte (bytes_from line at)) × Below byte_range x

module _ (line : List ℕ) (at : ℕ) {x : Number} (v : ByteAt line at x) where
  pub int-first-missing : {n : Refusal} → x ≡ Err n → ReadsNumber line at x (int (bytes_from line at))
  unfolding int
  int-first-missing e = read-stops-read behind_one v.0 e

  module _ {f : Found} (d : x ≡ Ok f) {y : Number} (u : ByteAt line f.next.at y) where
    pub int-second-missing : {n : Refusal} → y ≡ Err n → ReadsNumber line at y (int (bytes_from line at))
    unfolding int
    int-second-missing e = read-then-read behind_one v.0 d (read-stops-read (behind_two f.value) u.0 e)

    module _ {g : Found} (d' : y ≡ Ok g) {z : Number} (w : ByteAt line g.next.at z) where
      pub int-third-missing : {n : Refusal} → z ≡ Err n → ReadsNumber line at z (int (bytes_from line at))
      unfolding int
      int-third-missing e = read-then-read behind_one v.0 d (read-then-read (behind_two f.value) u.0 d' (read-stops-read (behind_three f.value g.value) w.0 e))

      module _ {h : Found} (d'' : z ≡ Ok h) {q : Number} (t : ByteAt line h.next.at q) where
        pub int-last-missing : {n : Refusal} → q ≡ Err n → ReadsNumber line at q (int (bytes_from line at))
        unfolding int
        int-last-missing e = read-then-read behind_one v.0 d (read-then-read (behind_two f.value) u.0 d' (read-then-read (behind_three f.value g.value) w.0 d'' (read-stops-read (behind_four f.value g.value h.value) t.0 e)))

        pub int_whole : {k : Found} → q ≡ Ok k → ReadsNumber line at (Ok (record { value = f.value * 2 ^ 24 + g.value * 2 ^ 16 + h.value * 2 ^ 8 + k.value; next = k.next })) (int (bytes_from line at))
        unfolding int
        int_whole e = read-then-read behind_one v.0 d (read-then-read (behind_two f.value) u.0 d' (read-then-read (behind_three f.value g.value) w.0 d'' (number-other t.0 e (read-then (behind_four f.value g.value h.value) t.0 e))))

-- ---- an Int passed over: without spaces its pairs are only counted
int-there : (bs : List ℕ) → 4 ≤ length bs → forget (int bs) ≡ got tt (drop 4 bs)
unfolding int byte and_then forget
int-there [] h = absurd (omega arith)
int-there (a ∷ []) h = absurd (omega arith)
int-there (a ∷ b ∷ []) h = absurd (omega arith)
int-there (a ∷ b ∷ c ∷ []) h = absurd (omega arith)
int-there (a ∷ b ∷ c ∷ d ∷ bs) h = refl

-- the answer of the walk over the first characters of its pairs
pub int-spaced : {line : List ℕ} {at : ℕ} → false ≡ true → UnspacedInt line at
int-spaced e = absurd (let z : ◌≡◌ {A = ℕ} 0 1 = cc in omega arith)

pub int-found : {line : List ℕ} {at : ℕ} → at + 8 ≤ length line → (get_or line at 0 ≡ space → ⊥) → (get_or line (at + 2) 0 ≡ space → ⊥) → (get_or line (at + 4) 0 ≡ space → ⊥) → (get_or line (at + 6) 0 ≡ space → ⊥) →
    true ≡ true → UnspacedInt line at
int-found h first second third fourth e = record {
  first = record { there = omega arith; unspaced = first };
  second = record { there = omega arith; unspaced = second };
  third = record { there = omega arith; unspaced = third };
  fourth = record { there = omega arith; unspaced = fourth };
}

-- so many pairs stand at a place, none behind a space
record Unspaced (line : List ℕ) (at n : ℕ) : Type 0 where
  passes : past line at n ≡ at + 2 * n
  left : n ≤ bytes_left line at

module _ {line : List ℕ} where
  none-unspaced : (at : ℕ) → Unspaced line at 0
  none-unspaced at = record { passes = past-none line at ∙ sym (add-zero at); left = omega arith }

  one-unspaced : {at next : ℕ} (n : ℕ) → at + 2 ≡ next → PairAt line at → Unspaced line next n → Unspaced line at (1 + n)
  one-unspaced {at} {next} n two pair u =
      let place = pair-here line at (omega (arith, pair.there)) pair.unspaced in
      let there : pair_place_of line at + 1 < length line = omega (arith, place, pair.there) in
      let one : past line at 1 ≡ next = past-read line at there ∙ ap (λ (k : ℕ). k + 2) (sym place) ∙ two in
      let more = ap length (byte-read line at there) in
      let behind = ap (bytes_left line) one in
      let left = left-past line at 1 in
      let here : next + 2 * n ≡ at + 2 * (1 + n) = omega arith in
      record {
        passes = sym (past-past line at 1 n) ∙ ap (λ (a : ℕ). past line a n) one ∙ u.passes ∙ here;
        left = omega (arith, more, behind, left, u.left);
      }

module _ (line : List ℕ) (at : ℕ) where
  int-unspaced : UnspacedInt line at → Unspaced line at 4
  int-unspaced u =
      let last : Unspaced line (at + 6) 1 = one-unspaced 0 (omega arith) u.fourth (none-unspaced (at + 8)) in
      let two : Unspaced line (at + 4) 2 = one-unspaced 1 (omega arith) u.third last in
      one-unspaced 3 refl u.first (one-unspaced 2 (omega arith) u.second two)

  pub past-int-whole : UnspacedInt line at → Passes line at (Ok (record { at = at + 8 })) (forget (int (bytes_from line at)))
  past-int-whole u =
      let four = int-unspaced u in
      let place : bytes_from line (past line at 4) ≡ bytes_from line (at + 8) = ap (bytes_from line) four.passes in
      pass-here (moved {c = record { at = at + 8 }} 4 (sym four.passes) four.left (place_inside line (at + 8) (omega (arith, u.fourth.there)))) (int-there (bytes_from line at) four.left ∙ ap (got tt) (sym (bytes_past line at 4) ∙ place))

  -- else it is read
  pub past-int-read : {x : Number} {r : Step} → ReadsNumber line at x (int (bytes_from line at)) → r ≡ step_of x → Passes line at r (forget (int (bytes_from line at)))
  past-int-read {x} v e = rw e (read-passes x v)
