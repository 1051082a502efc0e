-- A frame's line in groups: pairs of digits one behind the other, spaces, the next group, and the line's end behind the last pair.
use Rattle.std.specs.Prelude.{Some, None}
use Rattle.std.specs.Prelude.{ℕ, suc, ◌+◌, ◌<◌, List, [], ◌∷◌, Bool, true, false, ◌≡◌, refl, length, drop, eqb}
use Rattle.std.proofs.Math.Option.{Option, none, some}
use Rattle.std.proofs.Common.{sym, ap, ◌∙◌, arith, eqb-true}
use Rattle.language.specs.Codes.{space}
use Rattle.language.specs.Result.{both, when, choose}
use Rattle.language.specs.Text.{is_empty, digit, any_digit, pair, pair_at, behind_pair, behind_space, frame_bytes, without_return}
use Rattle.text_lines.specs.declared.rule_lines.RuleLine.TheVariants.{Frame}
use Rattle.text_lines.specs.Lines.{first_line, is_some, digit_pairs}
use Rattle.text_lines.specs.LinesSpell.{apart, never}
use Rattle.text.specs.Digits.{spaces}
use Rattle.text_lines.specs.RuleLines.{wide_digit, line_chars, is_ended, line_from}
use Rattle.text_lines.specs.RuleChars.{Plain, Begins, nothing, character, chars-plain, chars-begin, char-passed}

-- ---- digits are neither spaces nor part of a line's end
digit-plain : (c : ℕ) → wide_digit c ≡ true → Plain c
unfolding any_digit digit is_some both when choose
digit-plain c e = record { feed = apart wide_digit c _ refl e; return = apart wide_digit c _ refl e }

no-space : (c : ℕ) → wide_digit c ≡ true → eqb c space ≡ false
unfolding any_digit digit is_some both when choose
no-space c e = apart wide_digit c space refl e

space-plain : Plain space
space-plain = record { feed = refl; return = refl }

-- ---- a pair at the start, or none
pair-there : (a b : ℕ) (l : List ℕ) → wide_digit a ≡ true → wide_digit b ≡ true → is_some (pair_at a (b ∷ l)) ≡ is_some (behind_pair l)
unfolding pair_at pair is_some
pair-there a b l p q = go (any_digit a) (any_digit b) (behind_pair l) p q
  where
    go : (x y : Option ℕ) (z : Option (List ℕ)) → is_some x ≡ true → is_some y ≡ true → is_some (pair x y z) ≡ is_some z
    go (some i) (some j) (some l) p q = refl
    go (some i) (some j) none p q = refl
    go (some i) none z p q = absurd (let z : ◌≡◌ {A = ℕ} 0 1 = cc in omega arith)
    go none y z p q = absurd (let z : ◌≡◌ {A = ℕ} 0 1 = cc in omega arith)

no-first : (a : ℕ) (l : List ℕ) → wide_digit a ≡ false → is_some (pair_at a l) ≡ false
unfolding pair_at pair is_some
no-first a [] p = refl
no-first a (b ∷ l) p = go (any_digit a) p
  where
    go : (x : Option ℕ) → is_some x ≡ false → is_some (pair x (any_digit b) (behind_pair l)) ≡ false
    go (some i) p = absurd (let z : ◌≡◌ {A = ℕ} 0 1 = cc in omega arith)
    go none p = refl

no_second : (a b : ℕ) (l : List ℕ) → wide_digit b ≡ false → is_some (pair_at a (b ∷ l)) ≡ false
unfolding pair_at pair is_some
no_second a b l q = go (any_digit a) (any_digit b) q
  where
    go : (x y : Option ℕ) → is_some y ≡ false → is_some (pair x y (behind_pair l)) ≡ false
    go (some i) (some j) q = absurd (let z : ◌≡◌ {A = ℕ} 0 1 = cc in omega arith)
    go (some i) none q = refl
    go none y q = refl

-- what stands behind a digit is no digit
lone-digit : (a : ℕ) (l : List ℕ) → digit_pairs wide_digit (a ∷ l) ≡ 0 → wide_digit a ≡ true → is_some (pair_at a (line_chars l)) ≡ false
unfolding digit_pairs pair_at first_line without_return is_some both choose
lone-digit a [] e p = refl
lone-digit a (b ∷ l) e p = go (wide_digit b) refl (rw p at e)
  where
    begun : {k : List ℕ} → wide_digit b ≡ false → Begins b k → is_some (pair_at a k) ≡ false
    begun q nothing = refl
    begun q (character {l = k}) = no_second a b k q

    go : (y : Bool) → wide_digit b ≡ y → choose y (suc (suc (digit_pairs wide_digit l))) 0 ≡ 0 → is_some (pair_at a (line_chars (b ∷ l))) ≡ false
    go true q e = absurd (omega arith)
    go false q e = begun q (chars-begin b l)

pub no-pair : (l : List ℕ) → digit_pairs wide_digit l ≡ 0 → is_some (frame_bytes (line_chars l)) ≡ false
unfolding frame_bytes first_line without_return is_some
no-pair [] e = refl
no-pair (a ∷ l) e = go (wide_digit a) refl
  where
    begun : {k : List ℕ} → wide_digit a ≡ false → Begins a k → is_some (frame_bytes k) ≡ false
    begun p nothing = refl
    begun p (character {l = k}) = no-first a k p

    go : (x : Bool) → wide_digit a ≡ x → is_some (frame_bytes (line_chars (a ∷ l))) ≡ false
    go true p = rw (chars-plain a l (digit-plain a p)) (lone-digit a l e p)
    go false p = begun p (chars-begin a l)

-- ---- the line from a pair on, from spaces on, and from its end on
asked-alike : (asked other : List ℕ → Option (List ℕ)) (at : ℕ) (l : List ℕ) → is_some (asked (line_chars l)) ≡ is_some (other (line_chars l)) → line_from asked at l ≡ line_from other at l
unfolding line_from
asked-alike asked other at l e = rw e

pub not-asked : (asked : List ℕ → Option (List ℕ)) (at : ℕ) (l : List ℕ) → is_some (asked (line_chars l)) ≡ false → None ≡ line_from asked at l
unfolding line_from choose
not-asked asked at l e = rw (e, never (is_ended l))

first-pair : (at a b : ℕ) (l : List ℕ) → wide_digit a ≡ true → wide_digit b ≡ true → line_from frame_bytes at (a ∷ b ∷ l) ≡ line_from behind_pair (suc (suc at)) l
unfolding frame_bytes
first-pair at a b l p q =
    char-passed frame_bytes (pair_at a) at a (b ∷ l) (digit-plain a p) refl ∙ char-passed (pair_at a) behind_pair (suc at) b l (digit-plain b q) (pair-there a b (line_chars l) p q)

-- behind a pair the next one is as the first, where there are characters left and no space
next-pair : (at a : ℕ) (l : List ℕ) → wide_digit a ≡ true → line_from behind_pair at (a ∷ l) ≡ line_from frame_bytes at (a ∷ l)
unfolding behind_pair frame_bytes choose
next-pair at a l p = asked-alike behind_pair frame_bytes at (a ∷ l) (rw (chars-plain a l (digit-plain a p), no-space a p))

pairs-passed : (l : List ℕ) (at : ℕ) → line_from behind_pair at l ≡ line_from behind_pair (at + digit_pairs wide_digit l) (drop (digit_pairs wide_digit l) l)
unfolding digit_pairs both choose
pairs-passed [] at = let here : at ≡ at + 0 = omega arith in ap (λ n. line_from behind_pair n []) here
pairs-passed (a ∷ []) at = let here : at ≡ at + 0 = omega arith in ap (λ n. line_from behind_pair n (a ∷ [])) here
pairs-passed (a ∷ b ∷ l) at = go (wide_digit a) (wide_digit b) refl refl (pairs-passed l (suc (suc at)))
  where
    go : (x y : Bool) → wide_digit a ≡ x → wide_digit b ≡ y → line_from behind_pair (suc (suc at)) l ≡ line_from behind_pair (suc (suc at) + digit_pairs wide_digit l) (drop (digit_pairs wide_digit l) l) →
        line_from behind_pair at (a ∷ b ∷ l) ≡ line_from behind_pair (at + choose (both x y) (suc (suc (digit_pairs wide_digit l))) 0) (drop (choose (both x y) (suc (suc (digit_pairs wide_digit l))) 0) (a ∷ b ∷ l))
    go true true p q inner =
        let place : suc (suc at) + digit_pairs wide_digit l ≡ at + suc (suc (digit_pairs wide_digit l)) = omega arith in
        next-pair at a (b ∷ l) p ∙ first-pair at a b l p q ∙ inner ∙ ap (λ n. line_from behind_pair n (drop (digit_pairs wide_digit l) l)) place
    go true false p q inner = let here : at ≡ at + 0 = omega arith in ap (λ n. line_from behind_pair n (a ∷ b ∷ l)) here
    go false y p q inner = let here : at ≡ at + 0 = omega arith in ap (λ n. line_from behind_pair n (a ∷ b ∷ l)) here

pub group-passed : (l : List ℕ) (at : ℕ) → 0 < digit_pairs wide_digit l → line_from frame_bytes at l ≡ line_from behind_pair (at + digit_pairs wide_digit l) (drop (digit_pairs wide_digit l) l)
unfolding digit_pairs both choose
group-passed [] at h = absurd (omega arith)
group-passed (a ∷ []) at h = absurd (omega arith)
group-passed (a ∷ b ∷ l) at h = go (wide_digit a) refl h
  where
    go : (x : Bool) → wide_digit a ≡ x → 0 < choose (both x (wide_digit b)) (suc (suc (digit_pairs wide_digit l))) 0 →
        line_from frame_bytes at (a ∷ b ∷ l) ≡ line_from behind_pair (at + digit_pairs wide_digit (a ∷ b ∷ l)) (drop (digit_pairs wide_digit (a ∷ b ∷ l)) (a ∷ b ∷ l))
    go true p h = sym (next-pair at a (b ∷ l) p) ∙ pairs-passed (a ∷ b ∷ l) at
    go false p h = absurd (omega arith)

-- behind spaces stands the next group, or nothing that a frame's line has there
spaces-passed : (l : List ℕ) (at : ℕ) → line_from behind_space at l ≡ line_from frame_bytes (at + spaces l) (drop (spaces l) l)
unfolding spaces behind_space frame_bytes first_line without_return choose
spaces-passed [] at = let here : at ≡ at + 0 = omega arith in asked-alike behind_space frame_bytes at [] refl ∙ ap (λ n. line_from frame_bytes n []) here
spaces-passed (c ∷ l) at = go (eqb c space) refl (spaces-passed l (suc at))
  where
    begun : {k : List ℕ} → eqb c space ≡ false → Begins c k → is_some (behind_space k) ≡ is_some (frame_bytes k)
    begun p nothing = refl
    begun p character = rw p

    go : (b : Bool) → eqb c space ≡ b → line_from behind_space (suc at) l ≡ line_from frame_bytes (suc at + spaces l) (drop (spaces l) l) →
        line_from behind_space at (c ∷ l) ≡ line_from frame_bytes (at + choose b (suc (spaces l)) 0) (drop (choose b (suc (spaces l)) 0) (c ∷ l))
    go true p inner =
        let place : suc at + spaces l ≡ at + suc (spaces l) = omega arith in
        let plain : Plain c = rw (eqb-true c space p) space-plain in
        char-passed behind_space behind_space at c l plain (rw p) ∙ inner ∙ ap (λ n. line_from frame_bytes n (drop (spaces l) l)) place
    go false p inner = let here : at ≡ at + 0 = omega arith in asked-alike behind_space frame_bytes at (c ∷ l) (begun p (chars-begin c l)) ∙ ap (λ n. line_from frame_bytes n (c ∷ l)) here

pub space-passed : (at : ℕ) (c : ℕ) (l : List ℕ) → eqb c space ≡ true → line_from behind_pair at (c ∷ l) ≡ line_from frame_bytes (at + spaces (c ∷ l)) (drop (spaces (c ∷ l)) (c ∷ l))
unfolding behind_pair behind_space choose
space-passed at c l p =
    let plain : Plain c = rw (eqb-true c space p) space-plain in
    asked-alike behind_pair behind_space at (c ∷ l) (rw (chars-plain c l plain, p)) ∙ spaces-passed (c ∷ l) at

-- where neither a pair nor a space stands, the line ends or is refused
pub close_passed : (at c : ℕ) (l : List ℕ) → digit_pairs wide_digit (c ∷ l) ≡ 0 → eqb c space ≡ false →
    line_from behind_pair at (c ∷ l) ≡ choose (both (is_ended (c ∷ l)) (is_empty (line_chars (c ∷ l)))) (Some (Frame (record { end = at; next = at + length (first_line (c ∷ l)) + 1 }))) None
unfolding line_from behind_pair frame_bytes is_empty is_some choose
close_passed at c l e p = go (chars-begin c l) (no-pair (c ∷ l) e)
  where
    go : {k : List ℕ} → Begins c k → is_some (frame_bytes k) ≡ false →
        choose (both (is_ended (c ∷ l)) (is_some (behind_pair k))) (Some (Frame (record { end = at + length k; next = at + length (first_line (c ∷ l)) + 1 }))) None ≡
        choose (both (is_ended (c ∷ l)) (is_empty k)) (Some (Frame (record { end = at; next = at + length (first_line (c ∷ l)) + 1 }))) None
    go nothing q = let here : at + 0 ≡ at = omega arith in rw here
    go character q = rw (p, q, never (is_ended (c ∷ l)))
