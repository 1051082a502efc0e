-- Where a line that spells bytes ends: behind its pairs of digits, if LF stands there.
use Rattle.std.specs.Prelude.{Some, None}
use Rattle.std.specs.Prelude.{ℕ, suc, ◌+◌, ◌≤◌, ◌<◌, Bool, true, ◌≡◌, get_or, drop, eqb, ltb}
use mathlib.Core.List.{List, [], ◌∷◌}
use Rattle.std.proofs.Math.Bool.{false}
use Rattle.std.proofs.Math.Option.{Option, none, some}
use Rattle.std.proofs.Math.Path.{refl, ap}
use Rattle.std.proofs.Common.{sym, ◌∙◌, arith, get_or-drop, eq-eqb, ne_eqb, eqb-true, lt-ltb, le-ltb}
use Rattle.std.proofs.Math.ListN.{length, length-drop}
use Rattle.language.specs.Result.{both, when, choose}
use Rattle.language.specs.Codes.{line_feed}
use Rattle.language.specs.Text.{digit, pair, pairs, line_bytes}
use Rattle.text_lines.specs.Lines.{first_line, is_some, strict_digit, digit_pairs, line_end}

-- characters differ where one is a digit and the other is none
pub apart : (d : ℕ → Bool) (c k : ℕ) → d k ≡ false → d c ≡ true → eqb c k ≡ false
apart d c k n e = go (eqb c k) refl
  where
    go : (b : Bool) → eqb c k ≡ b → b ≡ false
    go true q = absurd (let u = sym n ∙ sym (ap d (eqb-true c k q)) ∙ e in let z : ◌≡◌ {A = ℕ} 0 1 = cc in omega arith)
    go false q = refl

feed-no-digit : (c : ℕ) → strict_digit c ≡ true → eqb c line_feed ≡ false
unfolding digit is_some both when choose
feed-no-digit c e = apart strict_digit c line_feed refl e

-- ---- what stands behind the pairs: LF, another character, nothing
spelled-line : (l : List ℕ) → digit_pairs strict_digit l < length l → get_or l (digit_pairs strict_digit l) 0 ≡ line_feed → (length (first_line l) ≡ digit_pairs strict_digit l) × (is_some (pairs (first_line l)) ≡ true)
unfolding digit_pairs first_line pairs pair is_some both choose
spelled-line [] h e = absurd (omega arith)
spelled-line (a ∷ []) h e = rw (eq-eqb a line_feed e) (refl, refl)
spelled-line (a ∷ b ∷ l) h e = go (digit a) (digit b) refl refl h e (spelled-line l)
  where
    stop : a ≡ line_feed → (length (first_line (a ∷ b ∷ l)) ≡ 0) × (is_some (pairs (first_line (a ∷ b ∷ l))) ≡ true)
    stop q = rw (eq-eqb a line_feed q) (refl, refl)

    good : (o : Option (List ℕ)) (i j : ℕ) → is_some o ≡ true → is_some (pair (some i) (some j) o) ≡ true
    good (some bs) i j q = refl
    good none i j q = q

    go : (x y : Option ℕ) → digit a ≡ x → digit b ≡ y → choose (both (is_some x) (is_some y)) (suc (suc (digit_pairs strict_digit l))) 0 < length (a ∷ b ∷ l) → get_or (a ∷ b ∷ l) (choose (both (is_some x) (is_some y)) (suc (suc (digit_pairs strict_digit l))) 0) 0 ≡ line_feed →
        (digit_pairs strict_digit l < length l → get_or l (digit_pairs strict_digit l) 0 ≡ line_feed → (length (first_line l) ≡ digit_pairs strict_digit l) × (is_some (pairs (first_line l)) ≡ true)) →
        (length (first_line (a ∷ b ∷ l)) ≡ choose (both (is_some x) (is_some y)) (suc (suc (digit_pairs strict_digit l))) 0) × (is_some (pairs (first_line (a ∷ b ∷ l))) ≡ true)
    go (some i) (some j) p q h e inner =
        let rest = inner (omega arith) e in
        rw (feed-no-digit a (ap is_some p), feed-no-digit b (ap is_some q), p, q) (ap (λ n. suc (suc n)) rest.0, good (pairs (first_line l)) i j rest.1)
    go (some i) none p q h e inner = stop e
    go none y p q h e inner = stop e

unspelled-line : (l : List ℕ) → digit_pairs strict_digit l < length l → (get_or l (digit_pairs strict_digit l) 0 ≡ line_feed → ⊥) → pairs (first_line l) ≡ none
unfolding digit_pairs first_line pairs pair is_some both choose
unspelled-line [] h n = absurd (omega arith)
unspelled-line (a ∷ []) h n = rw (ne_eqb a line_feed n)
unspelled-line (a ∷ b ∷ l) h n = go (digit a) (digit b) refl refl h n (unspelled-line l)
  where
    halved : (c : Bool) → pair (digit a) (digit b) (pairs (first_line l)) ≡ none → pairs (a ∷ choose c [] (b ∷ first_line l)) ≡ none
    halved true q = refl
    halved false q = q

    go : (x y : Option ℕ) → digit a ≡ x → digit b ≡ y → choose (both (is_some x) (is_some y)) (suc (suc (digit_pairs strict_digit l))) 0 < length (a ∷ b ∷ l) → (get_or (a ∷ b ∷ l) (choose (both (is_some x) (is_some y)) (suc (suc (digit_pairs strict_digit l))) 0) 0 ≡ line_feed → ⊥) →
        (digit_pairs strict_digit l < length l → (get_or l (digit_pairs strict_digit l) 0 ≡ line_feed → ⊥) → pairs (first_line l) ≡ none) → pairs (first_line (a ∷ b ∷ l)) ≡ none
    go (some i) (some j) p q h n inner = rw (feed-no-digit a (ap is_some p), feed-no-digit b (ap is_some q), p, q, inner (omega arith) n)
    go (some i) none p q h n inner = rw (ne_eqb a line_feed n) (halved (eqb b line_feed) (rw (p, q)))
    go none y p q h n inner = rw (ne_eqb a line_feed n) (halved (eqb b line_feed) (rw p))

unended-line : (l : List ℕ) → length l ≤ digit_pairs strict_digit l → length l ≤ length (first_line l)
unfolding digit_pairs first_line is_some both choose
unended-line [] h = omega arith
unended-line (a ∷ []) h = absurd (omega arith)
unended-line (a ∷ b ∷ l) h = go (is_some (digit a)) (is_some (digit b)) refl refl h (unended-line l)
  where
    go : (x y : Bool) → is_some (digit a) ≡ x → is_some (digit b) ≡ y → length (a ∷ b ∷ l) ≤ choose (both x y) (suc (suc (digit_pairs strict_digit l))) 0 → (length l ≤ digit_pairs strict_digit l → length l ≤ length (first_line l)) → length (a ∷ b ∷ l) ≤ length (first_line (a ∷ b ∷ l))
    go true true p q h inner = rw (feed-no-digit a p, feed-no-digit b q) (omega (arith, inner (omega arith)))
    go true false p q h inner = absurd (omega arith)
    go false y p q h inner = absurd (omega arith)

-- ---- the end of the line, from what was found behind the pairs
line-of-pairs : (l : List ℕ) → (length l ≡ 0 → ⊥) → line_bytes l ≡ pairs l
unfolding line_bytes
line-of-pairs [] h = absurd (h refl)
line-of-pairs (c ∷ l) h = refl

no_line : (l : List ℕ) → length l ≡ 0 → is_some (line_bytes l) ≡ false
unfolding line_bytes is_some
no_line [] h = refl
no_line (c ∷ l) h = absurd (omega arith)

pub never : (a : Bool) → both a false ≡ false
unfolding both
never true = refl
never false = refl

module _ (t : List ℕ) (at : ℕ) where
  unended : length (drop at t) ≤ length (first_line (drop at t)) → None ≡ line_end t at
  unfolding line_end both choose
  unended h = rw (le-ltb _ _ h)

  unspelled : is_some (line_bytes (first_line (drop at t))) ≡ false → None ≡ line_end t at
  unfolding line_end choose
  unspelled e = rw (e, never (ltb (length (first_line (drop at t))) (length (drop at t))))

  pub end-beyond : length t ≤ at → None ≡ line_end t at
  end-beyond h = unended (omega (arith, length-drop at t))

  module _ {end : ℕ} (is : end ≡ at + digit_pairs strict_digit (drop at t)) where
    pub end-missing : length t ≤ end → at < length t → None ≡ line_end t at
    end-missing h less = unended (unended-line (drop at t) (omega (arith, length-drop at t)))

    behind-pairs : get_or (drop at t) (digit_pairs strict_digit (drop at t)) 0 ≡ get_or t end 0
    behind-pairs = get_or-drop at t (digit_pairs strict_digit (drop at t)) 0 ∙ ap (λ n. get_or t n 0) (sym is)

    pub end-other : end < length t → (get_or t end 0 ≡ line_feed → ⊥) → None ≡ line_end t at
    unfolding is_some line_bytes
    end-other h n = unspelled (go (first_line (drop at t)) (unspelled-line (drop at t) (omega (arith, length-drop at t)) (λ e. n (sym behind-pairs ∙ e))))
      where
        go : (l : List ℕ) → pairs l ≡ none → is_some (line_bytes l) ≡ false
        go [] e = refl
        go (c ∷ l) e = ap is_some e

    found : end < length t → get_or t end 0 ≡ line_feed → (length (first_line (drop at t)) ≡ digit_pairs strict_digit (drop at t)) × (is_some (pairs (first_line (drop at t))) ≡ true)
    found h e = spelled-line (drop at t) (omega (arith, length-drop at t)) (behind-pairs ∙ e)

    pub end_empty : end < length t → get_or t end 0 ≡ line_feed → end ≡ at → None ≡ line_end t at
    end_empty h e none-there = unspelled (no_line (first_line (drop at t)) ((found h e).0 ∙ omega (arith, is)))

    pub end-found : end < length t → get_or t end 0 ≡ line_feed → (end ≡ at → ⊥) → Some end ≡ line_end t at
    unfolding line_end both choose
    end-found h e some-there =
        let line = found h e in
        let filled : length (first_line (drop at t)) ≡ 0 → ⊥ = λ z. some-there (omega (arith, is, line.0)) in
        let ended : length (first_line (drop at t)) < length (drop at t) = omega (arith, length-drop at t, line.0, is) in
        let place : end ≡ at + length (first_line (drop at t)) = omega (arith, is, line.0) in
        rw (lt-ltb _ _ ended, line-of-pairs (first_line (drop at t)) filled, line.1) (ap Some place)
