-- Eight digits at a time: marks taken together are 0 unless each of them is set.
use Rattle.std.specs.Prelude.{ℕ, ◌+◌, ◌≤◌, List, true, not, ◌≡◌, eqb, length, get_or}
use Rattle.std.proofs.Common.{ap, ◌∙◌, le_trans, arith}
use Rattle.std.specs.Int.Bits.{bit_and, and_zero_r}
use Rattle.std.proofs.lemmas.Bool.{not-true, eqb-false}
use Rattle.text_lines.specs.Lines.{PairsTo}
use Rattle.text_lines.specs.LinesPairs.{pairs_start, pairs-on}

both-set : (a b : ℕ) → (bit_and a b ≡ 0 → ⊥) → (a ≡ 0 → ⊥) × (b ≡ 0 → ⊥)
both-set a b n = (λ e. n (ap (λ x. bit_and x b) e), λ e. n (ap (bit_and a) e ∙ and_zero_r a))

pub pair-marked : {t digits : List ℕ} {at : ℕ} → at + 2 ≤ length t → (bit_and (get_or digits (get_or t at 0) 0) (get_or digits (get_or t (at + 1) 0) 0) ≡ 0 → ⊥) → PairsTo digits t at (at + 2)
pair-marked h n = let set = both-set _ _ n in pairs-on (pairs_start (omega arith)) (omega arith) set.0 set.1

pub pairs-behind : {digits t : List ℕ} {at mid end : ℕ} → PairsTo digits t at mid → PairsTo digits t mid end → PairsTo digits t at end
pairs-behind p q = record { from = le_trans p.from q.from; within = q.within; is = p.is ∙ q.is }

-- the pair two further on, behind pairs that end there
next-pair : {digits t : List ℕ} {at : ℕ} (k : ℕ) → PairsTo digits t at (at + k) → PairsTo digits t (at + k) (at + k + 2) → PairsTo digits t at (at + (k + 2))
next-pair {at} k p q = let place : at + k + 2 ≡ at + (k + 2) = omega arith in rw place at (pairs-behind p q)

module _ {digits t : List ℕ} {at a b c d : ℕ} (p : (a ≡ 0 → ⊥) → PairsTo digits t at (at + 2)) (q : (b ≡ 0 → ⊥) → PairsTo digits t (at + 2) (at + 2 + 2))
    (r : (c ≡ 0 → ⊥) → PairsTo digits t (at + 4) (at + 4 + 2)) (s : (d ≡ 0 → ⊥) → PairsTo digits t (at + 6) (at + 6 + 2)) where
  pub eight-marked : not (eqb (bit_and (bit_and (bit_and a b) c) d) 0) ≡ true → PairsTo digits t at (at + 8)
  eight-marked e =
      let all = both-set (bit_and (bit_and a b) c) d (eqb-false _ _ (not-true _ e)) in
      let three = both-set (bit_and a b) c all.0 in
      let two = both-set a b three.0 in
      next-pair 6 (next-pair 4 (next-pair 2 (p two.0) (q two.1)) (r three.1)) (s all.1)
