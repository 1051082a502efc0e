-- Where a line ends: the finder's walk to the next LF, and the first of the lines that the definitions cut a text into.
use Rattle.std.specs.Prelude.{ℕ, suc, ◌+◌, ◌-◌, ◌≤◌, ◌<◌, List, [], ◌∷◌, ◌++◌, Bool, true, false, ◌≡◌, refl, length, get_or, take, drop, eqb}
use Rattle.std.proofs.Common.{append_assoc, append-nil, sym, ap, ◌∙◌, arith, add-one, length-drop, drop_of_length-le, drop-cons, drop-drop, take-suc, get_or-drop, eq-eqb, ne_eqb}
use Rattle.language.specs.Result.{Result, no, need, choose}
use Rattle.language.specs.Codes.{line_feed}
use Rattle.language.specs.Text.{is_empty, lines_of, longer}
use Rattle.text_lines.specs.Lines.{first_line, next_line}

-- ---- one character
line-at-feed : (t : List ℕ) (i : ℕ) → i < length t → get_or t i 0 ≡ line_feed → first_line (drop i t) ≡ []
unfolding first_line choose
line-at-feed t i h e = rw (drop-cons t i 0 h, eq-eqb _ _ e)

line-goes-on : (t : List ℕ) (i : ℕ) → i < length t → (get_or t i 0 ≡ line_feed → ⊥) → first_line (drop i t) ≡ get_or t i 0 ∷ first_line (drop (suc i) t)
unfolding first_line choose
line-goes-on t i h ne = rw (drop-cons t i 0 h, ne_eqb _ _ ne)

line-beyond : (t : List ℕ) (i : ℕ) → length t ≤ i → first_line (drop i t) ≡ []
unfolding first_line
line-beyond t i h = rw (drop_of_length-le t {i = i} h)

-- ---- the line from one place on goes at least to another
pub record Reaches (t : List ℕ) (at end : ℕ) : Type 0 where
  pub from : at ≤ end
  pub within : end ≤ length t
  pub is : first_line (drop at t) ≡ take (end - at) (drop at t) ++ first_line (drop end t)

pub reaches-start : {t : List ℕ} {at : ℕ} → at < length t → Reaches t at at
reaches-start {t} {at} h = let none : at - at ≡ 0 = omega arith in record { from = omega arith; within = omega arith; is = rw none }

pub reaches-on : {t : List ℕ} {at end : ℕ} → end < length t → (get_or t end 0 ≡ line_feed → ⊥) → Reaches t at end → Reaches t at (end + 1)
reaches-on {t} {at} {end} h ne r =
    let below : end - at < length (drop at t) = omega (arith, length-drop at t, r.from) in
    let place : at + (end - at) ≡ end = omega (arith, r.from) in
    let more : end + 1 - at ≡ suc (end - at) = omega (arith, r.from) in
    let last : get_or (drop at t) (end - at) 0 ≡ get_or t end 0 = get_or-drop at t (end - at) 0 ∙ ap (λ n. get_or t n 0) place in
    record {
      from = omega (arith, r.from);
      within = omega arith;
      is = r.is ∙ rw (line-goes-on t end h ne, more, add-one, take-suc (drop at t) (end - at) 0 below, last) (sym (append_assoc (take (end - at) (drop at t)) (get_or t end 0 ∷ []) (first_line (drop (suc end) t))));
    }

-- ---- the part that is the line
pub line-stops : {t : List ℕ} {at end : ℕ} → end < length t → get_or t end 0 ≡ line_feed → Reaches t at end → take (end - at) (drop at t) ≡ first_line (drop at t)
line-stops {t} {at} {end} h e r = sym (r.is ∙ ap (λ l. take (end - at) (drop at t) ++ l) (line-at-feed t end h e) ∙ append-nil (take (end - at) (drop at t)))

pub line-ends : {t : List ℕ} {at end : ℕ} → length t ≤ end → Reaches t at end → take (length t - at) (drop at t) ≡ first_line (drop at t)
line-ends {t} {at} {end} h r = ap (λ (n : ℕ). take (n - at) (drop at t)) {x = length t} {y = end} (omega (arith, h, r.within)) ∙ sym (r.is ∙ ap (λ l. take (end - at) (drop at t) ++ l) (line-beyond t end h) ∙ append-nil (take (end - at) (drop at t)))

pub line-missing : (t : List ℕ) (at : ℕ) → length t ≤ at → take (length t - length t) (drop (length t) t) ≡ first_line (drop at t)
line-missing t at h = let none : length t - length t ≡ 0 = omega arith in rw (line-beyond t at h, none)

-- ---- the lines of a text, the first by itself
abbrev pub behind : List ℕ → List ℕ
behind t = drop (suc (length (first_line t))) t

pub first-line-fits : (t : List ℕ) → length (first_line t) ≤ length t
unfolding first_line choose
first-line-fits [] = omega arith
first-line-fits (c ∷ t) = go (eqb c line_feed) (first-line-fits t)
  where
    go : (b : Bool) → length (first_line t) ≤ length t → length (choose b [] (c ∷ first_line t)) ≤ length (c ∷ t)
    go true h = omega arith
    go false h = omega arith

pub first-line-ended : (t : List ℕ) → length (first_line t) < length t → lines_of t ≡ record { ended = first_line t ∷ (lines_of (behind t)).ended; rest = (lines_of (behind t)).rest }
unfolding first_line lines_of longer choose
first-line-ended [] h = absurd (omega arith)
first-line-ended (c ∷ t) h = go (eqb c line_feed) refl h (first-line-ended t)
  where
    go : (b : Bool) → eqb c line_feed ≡ b → length (choose b [] (c ∷ first_line t)) < length (c ∷ t) →
        (length (first_line t) < length t → lines_of t ≡ record { ended = first_line t ∷ (lines_of (behind t)).ended; rest = (lines_of (behind t)).rest }) →
        lines_of (c ∷ t) ≡ record { ended = first_line (c ∷ t) ∷ (lines_of (behind (c ∷ t))).ended; rest = (lines_of (behind (c ∷ t))).rest }
    go true e less inner = rw e
    go false e less inner = rw (e, inner (omega arith))

pub first-line-last : (t : List ℕ) → length t ≤ length (first_line t) → lines_of t ≡ record { ended = []; rest = t }
unfolding first_line lines_of longer choose
first-line-last [] h = refl
first-line-last (c ∷ t) h = go (eqb c line_feed) refl h (first-line-last t)
  where
    go : (b : Bool) → eqb c line_feed ≡ b → length (c ∷ t) ≤ length (choose b [] (c ∷ first_line t)) → (length t ≤ length (first_line t) → lines_of t ≡ record { ended = []; rest = t }) → lines_of (c ∷ t) ≡ record { ended = []; rest = c ∷ t }
    go true e more inner = absurd (omega arith)
    go false e more inner = rw (e, inner (omega arith))

-- ---- behind the line at a place
pub behind-next : (t : List ℕ) (at : ℕ) → behind (drop at t) ≡ drop (next_line t at) t
behind-next t at =
    let place : at + suc (length (first_line (drop at t))) ≡ next_line t at = omega arith in
    drop-drop (suc (length (first_line (drop at t)))) at t ∙ ap (λ n. drop n t) place

-- what is left behind the last LF must be nothing
pub no-rest-allowed : {A : Type 0} (k : ℕ) (r : Result A) (l : List ℕ) → 0 < length l → need (is_empty l) 2 k r ≡ no 2 k
unfolding is_empty need
no-rest-allowed k r [] h = absurd (omega arith)
no-rest-allowed k r (c ∷ l) h = refl
