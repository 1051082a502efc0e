-- Cells written: their words from the cell's place on, whatever the number of fields.
use Rattle.std.specs.Prelude.{ℕ, zero, suc, ◌+◌, ◌-◌, ◌≤◌, List, [], ◌∷◌, ◌++◌, ◌≡◌, length, take, drop, set, replicate}
use Rattle.std.proofs.Common.{append_assoc, sym, ap, ◌∙◌, zero-add, suc-add, arith, length-set, drop-drop}
use Rattle.std.proofs.lemmas.List.{length-replicate}
use Rattle.std.proofs.lemmas.List.Edits.{sets, sets-eq}
use Rattle.std.proofs.Math.Seq.{take-nil}
use Rattle.language.specs.Limits.{fields_most, channels_most, header_words, cell_words}
use Rattle.language.specs.Layout.{padded, state_length, all_zero}
use Rattle.index.specs.Padded.{padded-none}

pub drop_of_take : (m n : ℕ) (l : List ℕ) → drop m (take (m + n) l) ≡ take n (drop m l)
drop_of_take zero n l = rw zero-add
drop_of_take (suc m) n [] = rw suc-add (sym (take-nil n))
drop_of_take (suc m) n (x ∷ l) = rw suc-add (drop_of_take m n l)

-- words stored are the words before them, they themselves, and the words behind them
pub stored-parts : (ws words : List ℕ) (from : ℕ) → from + length ws ≤ length words → sets words from ws ≡ take from words ++ (ws ++ drop (from + length ws) words)
stored-parts ws words from fits = sets-eq ws words from fits ∙ append_assoc (take from words) ws (drop (from + length ws) words)

-- a tag, a value, and a row of fields
pub cell-written : {words' : List ℕ} (words : List ℕ) (cell at tag value : ℕ) (row : List ℕ) → at ≡ state_length cell → words' ≡ sets (set (set words at tag) (at + 1) value) (at + 2) row →
    words' ≡ sets words (state_length cell) (tag ∷ value ∷ row)
cell-written words cell at tag value row place e =
    let one : at + 1 ≡ suc at = omega arith in
    let two : at + 2 ≡ suc (suc at) = omega arith in
    rw (e, one, two, place)

-- no fields: zeros
pub leaf-written : {words' : List ℕ} (words : List ℕ) (cell at tag value : ℕ) → at ≡ state_length cell → state_length (cell + 1) ≤ length words →
    words' ≡ take (at + 2) (set (set words at tag) (at + 1) value) ++ (replicate (at + cell_words - (at + 2)) 0 ++ drop (at + cell_words) (set (set words at tag) (at + 1) value)) →
    words' ≡ sets words (state_length cell) (tag ∷ value ∷ padded fields_most [])
leaf-written {words'} words cell at tag value place room e =
    let second : List ℕ = set (set words at tag) (at + 1) value in
    let long : length second ≡ length words = length-set (set words at tag) (at + 1) value ∙ length-set words at tag in
    let count : at + cell_words - (at + 2) ≡ fields_most = omega arith in
    let zeros : List ℕ = replicate fields_most 0 in
    let size : length zeros ≡ fields_most = length-replicate {A = ℕ} fields_most 0 in
    let behind : at + 2 + fields_most ≡ at + cell_words = omega arith in
    cell-written words cell at tag value (padded fields_most []) place
    (e ∙ ap (λ n. take (at + 2) second ++ (replicate n 0 ++ drop (at + cell_words) second)) count
    ∙ ap (λ n. take (at + 2) second ++ (zeros ++ drop n second)) (sym behind)
    ∙ ap (λ n. take (at + 2) second ++ (zeros ++ drop (at + 2 + n) second)) (sym size)
    ∙ sym (stored-parts zeros second (at + 2) (omega (arith, place, long, room, size)))
    ∙ ap (sets second (at + 2)) (sym (padded-none fields_most)))

-- the channels' words tested for zero
pub channels-tested : (words : List ℕ) (from : ℕ) → from ≤ channels_most → all_zero (take (header_words - (1 + from)) (drop (1 + from) words)) ≡ all_zero (drop from (take channels_most (drop 1 words)))
channels-tested words from le =
    let count : header_words - (1 + from) ≡ channels_most - from = omega arith in
    let all : channels_most ≡ from + (channels_most - from) = omega arith in
    rw count (ap (λ x. all_zero (take (channels_most - from) x)) (sym (drop-drop from 1 words)) ∙ ap all_zero (sym (drop_of_take from (channels_most - from) (drop 1 words)) ∙ ap (λ n. drop from (take n (drop 1 words))) (sym all)))
