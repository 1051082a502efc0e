-- The steps of sliding.
use Rattle.std.specs.Prelude.{ℕ, ◌+◌, ◌-◌, ◌≤◌, List, ◌∷◌, ◌≡◌, refl, length, get_or, take, drop, set}
use Rattle.std.proofs.Common.{sym, ap, ◌∙◌, add-one, arith, length-set, drop_of_length-le, get_or-drop}
use Rattle.std.proofs.lemmas.List.Edits.{sets}
use Rattle.language.specs.Limits.{fields_most}
use Rattle.language.specs.Layout.{padded, state_length, all_zero}
use Rattle.theory.specs.Padding.{padded-length, filled-up}
use Rattle.index.specs.Sections.{types_of}
use Rattle.index.specs.Padded.{padded-none, padded-next}
use Rattle.state_words.specs.Words.{tag_at, value_at, field_at, row_of, field_count}
use Rattle.state_words.specs.RowLaws.{row-length}
use Rattle.sliding.specs.Sliding.{Filled, moved_words, Moved, moves_down}

-- ---- lists that agree from a place on
pub same_from : (m i : ℕ) (l k : List ℕ) → m ≤ i → drop m l ≡ drop m k → get_or l i 0 ≡ get_or k i 0
same_from m i l k le e =
    let place : m + (i - m) ≡ i = omega arith in
    ap (λ n. get_or l n 0) (sym place) ∙ sym (get_or-drop m l (i - m) 0) ∙ ap (λ (x : List ℕ). get_or x (i - m) 0) e ∙ get_or-drop m k (i - m) 0 ∙ ap (λ n. get_or k n 0) place

-- ---- a row of zeros filled with the numbers of fields
pub filled-start : (f : ℕ → ℕ) (row : List ℕ) → Filled f 0 row row
unfolding row_of
filled-start f row = record { long = refl; is = λ e. e ∙ sym (padded-none fields_most) }

pub filled_on : (f : ℕ → ℕ) {j x : ℕ} {row₀ row row' : List ℕ} → Filled f j row₀ row → x ≡ f j → row' ≡ set row j x → Filled f (j + 1) row₀ row'
unfolding row_of
filled_on f {j} {x} {row₀} {row} {row'} v q e = record {
  long = ap length e ∙ length-set row j x ∙ v.long;
  is = λ z. e ∙ rw (v.is z, q) (rw add-one (ap (λ i. set (padded fields_most (row_of f j)) i (f j)) (sym (row-length f j)) ∙ padded-next fields_most (row_of f j) (f j)));
}

-- ---- the words of the cell moved
padded-again : (row : List ℕ) → length row ≡ fields_most → padded fields_most (take fields_most row) ≡ row
unfolding all_zero
padded-again row long = filled-up fields_most fields_most row long (ap all_zero (drop_of_length-le row {i = fields_most} (omega arith)))

pub move-written : (words marks : List ℕ) (cell to n : ℕ) {words' fields : List ℕ} {tag value : ℕ} → fields ≡ padded fields_most (row_of (λ j. get_or marks (field_at words cell j) 0) n) → tag ≡ tag_at words cell → value ≡ value_at words cell →
    words' ≡ sets words (state_length to) (tag ∷ value ∷ padded fields_most (take fields_most fields)) → words' ≡ sets words (state_length to) (moved_words words marks cell n)
move-written words marks cell to n {words'} {fields} {tag} {value} f p q e =
    let row : List ℕ = padded fields_most (row_of (λ j. get_or marks (field_at words cell j) 0) n) in
    let whole : padded fields_most (take fields_most row) ≡ row = padded-again row (padded-length fields_most (row_of (λ j. get_or marks (field_at words cell j) 0) n)) in
    e ∙ rw (p, q, f, whole)

pub pass-moved : {index words marks words' marks' : List ℕ} {cell next tag n : ℕ} → ((get_or marks cell 0 ≡ 0) → ⊥) → tag ≡ tag_at words cell → n ≡ field_count (types_of index) tag →
    words' ≡ sets words (state_length next) (moved_words words marks cell n) → marks' ≡ set marks cell next → Moved index words marks cell next (next + 1) words' marks'
pass-moved {index} {words} {marks} {words'} {marks'} {cell} {next} {tag} {n} z p q e f = moves_down z refl (e ∙ ap (λ k. sets words (state_length next) (moved_words words marks cell k)) (q ∙ ap (field_count (types_of index)) p)) f
