-- Cells stored in the slots above an environment: what is written, one slot after the other, and what that makes of the environment.
use Rattle.std.specs.Prelude.{ℕ, suc, ◌+◌, ◌≤◌, ◌<◌, List, [], ◌∷◌, ◌++◌, ◌≡◌, refl, length, get_or, take, drop, set}
use Rattle.std.proofs.Common.{sym, ap, ◌∙◌, subst, arith, length-append, ext_get_or, length-take-le, take_at}
use Rattle.std.proofs.Math.ListN.{get_or-append}
use Rattle.std.proofs.lemmas.List.{take-set-le}
use Rattle.std.proofs.lemmas.List.Edits.{sets, sets-eq}
use Rattle.std.proofs.Math.Seq.{length-sets, get_or-append_seam}
use Rattle.language.specs.Limits.{fields_most}
use Rattle.language.specs.Heap.{Cell, cell_at, fields_in}
use Rattle.theory.specs.Places.{below_or_not}
use Rattle.theory.specs.Lists.{take-fewer, sets-append}
use Rattle.state_words.specs.Holds.{Holds, ReadsField}
use Rattle.evaluation_steps.specs.Promises.{Below}

-- so many cells stored from a slot on; asked is what the one at a number must be
pub record Pushed (asked : ℕ → ℕ → Type 0) (slots : List ℕ) (top n : ℕ) (slots' : List ℕ) : Type 0 where
  pub row : List ℕ
  pub long : length row ≡ n
  pub stored : slots' ≡ sets slots top row
  pub each : (j : ℕ) → j < n → asked j (get_or row j 0)

-- the word of a row; what is read as a field of a cell
pub record WordOf (row : List ℕ) (j l : ℕ) : Type 0 where
  pub is : l ≡ get_or row j 0

abbrev pub FieldOf : List ℕ → ℕ → ℕ → ℕ → ℕ → Type 0
FieldOf words used cell j l = ReadsField words used cell j l

take-sets : (row slots : List ℕ) (top : ℕ) → take top (sets slots top row) ≡ take top slots
take-sets [] slots top = refl
take-sets (l ∷ row) slots top = take-fewer top (suc top) (sets (set slots top l) (suc top) row) (set slots top l) (omega arith) (take-sets row (set slots top l) (suc top)) ∙ take-set-le top slots top l (omega arith)

module _ {asked : ℕ → ℕ → Type 0} where
  pub pushed_more : {slots slots₁ slots₂ : List ℕ} {top i l : ℕ} → Pushed asked slots top i slots₁ → asked i l → slots₂ ≡ set slots₁ (top + i) l → Pushed asked slots top (i + 1) slots₂
  pushed_more {slots} {slots₁} {slots₂} {top} {i} {l} q a e = record {
    row = q.row ++ (l ∷ []);
    long = length-append q.row (l ∷ []) ∙ ap (λ n. n + 1) q.long;
    stored = e ∙ ap (λ (x : List ℕ). set x (top + i) l) q.stored ∙ ap (λ n. set (sets slots top q.row) (top + n) l) (sym q.long) ∙ sym (sets-append q.row (l ∷ []) slots top);
    each = each;
  }
    where
      each : (j : ℕ) → j < i + 1 → asked j (get_or (q.row ++ (l ∷ [])) j 0)
      each j less = below_or_not j i
          (λ low. subst (asked j) (sym (get_or-append q.row (l ∷ []) 0 j (omega (arith, q.long)))) (q.each j low))
          (λ high.
          let last : j ≡ length q.row = omega (arith, q.long) in
          let here : get_or (q.row ++ (l ∷ [])) j 0 ≡ l = ap (λ n. get_or (q.row ++ (l ∷ [])) n 0) last ∙ get_or-append_seam q.row l [] 0 in
          let same : i ≡ j = omega arith in
          subst (asked j) (sym here) (subst (λ n. asked n l) same a))

  -- what is below the slot stays, and the row follows it
  module _ {slots slots' : List ℕ} {top n : ℕ} (q : Pushed asked slots top n slots') where
    pub pushed_long : length slots' ≡ length slots
    pushed_long = ap length q.stored ∙ length-sets slots top q.row

    pub pushed-after : top + n ≤ length slots → take (top + n) slots' ≡ take top slots ++ q.row
    pushed-after room =
        let parts : slots' ≡ (take top slots ++ q.row) ++ drop (top + length q.row) slots = q.stored ∙ sets-eq q.row slots top (omega (arith, q.long)) in
        let so-long : length (take top slots ++ q.row) ≡ top + n = length-append (take top slots) q.row ∙ ap (λ m. m + length q.row) (length-take-le top slots (omega arith)) ∙ ap (λ m. top + m) q.long in
        ap (λ (x : List ℕ). take (top + n) x) parts ∙ take_at (take top slots ++ q.row) (drop (top + length q.row) slots) (top + n) so-long

    pub pushed-below : top ≤ length slots → Below top slots slots'
    pushed-below room = record { low = ap (take top) q.stored ∙ take-sets q.row slots top; long = pushed_long }

-- ---- the row is what was asked for
pub fields-are : {slots slots' words : List ℕ} {top used cell n : ℕ} {h : List Cell} (q : Pushed (FieldOf words used cell) slots top n slots') → Holds words used h → n ≡ length (fields_in (cell_at h cell)) → n ≤ fields_most →
    q.row ≡ fields_in (cell_at h cell)
fields-are {n} q v count few = ext_get_or 0 q.row _ (q.long ∙ count) (λ j less. (q.each j (omega (arith, q.long))).says _ v (omega (arith, q.long)))
