-- The heap that cells are, one after the other: it is the definition's, the words hold it, and its cells are of the file.
use Prim.Native.Nat.{ℕ, zero, suc, ◌+◌, ◌-◌, ◌*◌, ◌/◌, ◌%◌, ◌≤◌, ◌<◌}
use mathlib.Core.List.{List, [], ◌∷◌, ◌++◌, append-nil, append_assoc}
use Rattle.std.specs.Prelude.{Bool, ◌≡◌, length, get_or, take, drop, leb, eqb}
use Rattle.std.proofs.Math.Bool.{true, false}
use Rattle.std.proofs.Math.Option.{Option, none, some}
use Rattle.std.proofs.Math.Path.{refl, sym, ap}
use Rattle.std.proofs.Common.{◌∙◌, zero-add, suc-add, add-one, length-take-le, drop-drop, get_or-drop, ltb-true, leb-true}
use native.Mathlib.Omega.{arith}
use Rattle.std.proofs.Math.ListN.{length-drop, get_elem? as look}
use Rattle.language.specs.Limits.{fields_most, header_words, cell_words, int_range}
use Rattle.language.specs.Result.{both, when, chain}
use Rattle.language.specs.Syntax.{Constructor, File, constructors_of}
use Rattle.language.specs.Within.{All, all_nil, all_cons}
use Rattle.language.specs.Heap.{Cell}
use Rattle.language.specs.Layout.{bool_tag, int_tag, tag_step, state_length, all_zero, constructor_of_words, cell_of_words, cells_of_words, cell_right, cells_right}
use Rattle.theory.specs.Lists.{both_left, look-less, look-get_d, look-inner-less}
use Rattle.theory.specs.Tests.{Whenever, w_some, w_none, whenever, whenever-chain, whenever-when, whenever-is}
use Rattle.theory.specs.Choices.{whenever-choose}
use Rattle.theory.specs.CellWords.{Writable, bool_writable, int_writable, con_writable}
use Rattle.theory.specs.HeapWords.{cells-read}
use Rattle.text_lines.specs.Lines.{is_some}
use Rattle.index.specs.Indexed.{Indexed}
use Rattle.state_words.specs.Words.{tag_at, value_at, field_at, row_of}
use Rattle.state_words.specs.RowLaws.{row-taken}
use Rattle.state_words.specs.WriteLaws.{drop_of_take}
use Rattle.cell_check.specs.CellLaws.{some_of, none_of}
use Rattle.cell_check.specs.Judged.{next_heap, heap_with, heap_to, Below, CellJudged, CellsJudged}

-- ---- the definition reads one cell more at the end
module _ (P : File) where
  abbrev cell_in : List ℕ → ℕ → Option Cell
  cell_in ws n = cell_of_words P (get_or ws (cell_words * n) 0) (get_or ws (cell_words * n + 1) 0) (take fields_most (drop (cell_words * n + 2) ws))

  cell-further : (ws : List ℕ) (n : ℕ) → cell_in (drop cell_words ws) n ≡ cell_in ws (suc n)
  cell-further ws n =
      let tag : cell_words + cell_words * n ≡ cell_words * suc n = omega arith in
      let value : cell_words + (cell_words * n + 1) ≡ cell_words * suc n + 1 = omega arith in
      let fields : cell_words + (cell_words * n + 2) ≡ cell_words * suc n + 2 = omega arith in
      rw (get_or-drop cell_words ws (cell_words * n) 0, get_or-drop cell_words ws (cell_words * n + 1) 0, drop-drop (cell_words * n + 2) cell_words ws, tag, value, fields)

  last-read : (n : ℕ) (ws : List ℕ) → cells_of_words P (suc n) ws ≡ chain (cells_of_words P n ws) (λ h. chain (cell_in ws n) (λ c. some (h ++ (c ∷ []))))
  unfolding cells_of_words chain
  last-read zero ws = refl
  last-read (suc n) ws = ap (chain (cell_in ws 0)) (λ i c. chain (last-read n (drop cell_words ws) i) (λ cs. some (c ∷ cs)))
      ∙ cases (cell_in ws 0) (cells_of_words P n (drop cell_words ws)) (cell_in (drop cell_words ws) n) ∙ ap (λ o. chain (cells_of_words P (suc n) ws) (λ h. chain o (λ c. some (h ++ (c ∷ []))))) (cell-further ws n)
    where
      cases : (a : Option Cell) (o : Option (List Cell)) (z : Option Cell) →
          chain a (λ c. chain (chain o (λ h. chain z (λ d. some (h ++ (d ∷ []))))) (λ cs. some (c ∷ cs))) ≡ chain (chain a (λ c. chain o (λ cs. some (c ∷ cs)))) (λ h. chain z (λ d. some (h ++ (d ∷ []))))
      cases none o z = refl
      cases (some a) none z = refl
      cases (some a) (some o) none = refl
      cases (some a) (some o) (some z) = refl

  last-right : (b h : List Cell) (c : Cell) → cells_right P b (h ++ (c ∷ [])) ≡ both (cells_right P b h) (cell_right P (b ++ h) c)
  unfolding cells_right both
  last-right b [] c = rw append-nil (cases (cell_right P b c))
    where
      cases : (x : Bool) → both x true ≡ x
      cases true = refl
      cases false = refl
  last-right b (d ∷ h) c = cases (cell_right P b d) (last-right (b ++ (d ∷ [])) h c)
    where
      cases : (x : Bool) → cells_right P (b ++ (d ∷ [])) (h ++ (c ∷ [])) ≡ both (cells_right P (b ++ (d ∷ [])) h) (cell_right P ((b ++ (d ∷ [])) ++ h) c) →
          both x (cells_right P (b ++ (d ∷ [])) (h ++ (c ∷ []))) ≡ both (both x (cells_right P (b ++ (d ∷ [])) h)) (cell_right P (b ++ (d ∷ h)) c)
      cases true e = e ∙ ap (λ g. both (cells_right P (b ++ (d ∷ [])) h) (cell_right P g c)) (append_assoc b (d ∷ []) h)
      cases false e = refl

  -- read and then judged, or one after the other
  merged : (o : Option (List Cell)) (z : Option Cell) → chain (chain o (λ h. chain z (λ c. some (h ++ (c ∷ []))))) (λ g. when (cells_right P [] g) g)
      ≡ chain (chain o (λ h. when (cells_right P [] h) h)) (λ h. chain z (λ c. when (cell_right P h c) (h ++ (c ∷ []))))
  unfolding chain when both
  merged none z = refl
  merged (some h) none = sym (cases (cells_right P [] h))
    where
      cases : (b : Bool) → chain {B = List Cell} (when b h) (λ g. none) ≡ none
      cases true = refl
      cases false = refl
  merged (some h) (some c) = rw (last-right [] h c) (cases (cells_right P [] h))
    where
      cases : (b : Bool) → when (both b (cell_right P h c)) (h ++ (c ∷ [])) ≡ chain (when b h) (λ g. when (cell_right P g c) (g ++ (c ∷ [])))
      cases true = refl
      cases false = refl

  -- ---- so the heap of the first n cells is the definition's
  words-at : (words : List ℕ) (n : ℕ) → state_length (suc n) ≤ length words → cell_in (drop header_words words) n ≡ cell_of_words P (tag_at words n) (value_at words n) (row_of (field_at words n) fields_most)
  words-at words n room =
      let value : header_words + (cell_words * n + 1) ≡ state_length n + 1 = omega arith in
      let fields : header_words + (cell_words * n + 2) ≡ state_length n + 2 = omega arith in
      rw (get_or-drop header_words words (cell_words * n) 0, get_or-drop header_words words (cell_words * n + 1) 0, drop-drop (cell_words * n + 2) header_words words, value, fields, ← (row-taken words (state_length n + 2) fields_most (omega arith)))

  pub heap_is : (words : List ℕ) (n : ℕ) → state_length n ≤ length words → heap_to P words n ≡ chain (cells_of_words P n (drop header_words words)) (λ h. when (cells_right P [] h) h)
  unfolding heap_to next_heap cells_of_words cells_right chain when
  heap_is words zero room = refl
  heap_is words (suc n) room =
      ap (λ o. chain o (λ h. heap_with P words h n)) (heap_is words n (omega arith))
      ∙ ap (λ z. chain (chain (cells_of_words P n (drop header_words words)) (λ h. when (cells_right P [] h) h)) (λ h. chain z (λ c. when (cell_right P h c) (h ++ (c ∷ []))))) (sym (words-at words n room))
      ∙ sym (merged (cells_of_words P n (drop header_words words)) (cell_in (drop header_words words) n))
      ∙ ap (λ o. chain o (λ g. when (cells_right P [] g) g)) (sym (last-read n (drop header_words words)))

-- ---- what is read is of the file
module _ {text index : List ℕ} {P : File} (x : Indexed text index P) where
  con-writable-read : (tag v : ℕ) (ls : List ℕ) → length ls ≡ fields_most → tag_step ≤ tag → Whenever (Writable P) (constructor_of_words (tag / tag_step - 1) (tag % tag_step) v ls (look (constructors_of P (tag / tag_step - 1)) (tag % tag_step)))
  unfolding constructor_of_words
  con-writable-read tag v ls long high = cases (look (constructors_of P t) c) refl
    where
      t : ℕ
      t = tag / tag_step - 1

      c : ℕ
      c = tag % tag_step

      cases : (o : Option Constructor) → look (constructors_of P t) c ≡ o → Whenever (Writable P) (constructor_of_words t c v ls o)
      cases none e = w_none
      cases (some fs) e =
          let same : get_or (constructors_of P t) c [] ≡ fs = look-get_d (constructors_of P t) c [] e in
          let few : length fs ≤ fields_most = omega (arith, (x.each_type t (look-inner-less P.types t c e)).tells.few_fields c (look-less (constructors_of P t) c e), ap length same) in
          whenever-when (all_zero (drop (length fs) ls)) _ (λ z. con_writable e (length-take-le (length fs) ls (omega arith)) few (omega arith))

  cell-writable : (tag v : ℕ) (ls : List ℕ) → length ls ≡ fields_most → Whenever (Writable P) (cell_of_words P tag v ls)
  unfolding cell_of_words
  cell-writable tag v ls long = whenever-choose (eqb tag bool_tag) (λ e. whenever-when _ _ (λ z. bool_writable))
      (λ not_bool. whenever-choose (eqb tag int_tag) (λ e. whenever-when _ _ (λ z. int_writable (ltb-true v int_range (both_left _ _ z))))
      (λ not_int. whenever-choose (leb tag_step tag) (λ e. con-writable-read tag v ls long (leb-true tag_step tag e)) (λ small. w_none)))

  cells-writable : (n : ℕ) (ws : List ℕ) → cell_words * n ≤ length ws → Whenever (All (Writable P)) (cells_of_words P n ws)
  unfolding cells_of_words
  cells-writable zero ws le = w_some all_nil
  cells-writable (suc n) ws le = whenever-chain (cell-writable (get_or ws 0 0) (get_or ws 1 0) (take fields_most (drop 2 ws)) (length-take-le fields_most (drop 2 ws) (omega (arith, length-drop 2 ws)))) (λ c w.
      whenever-chain (cells-writable n (drop cell_words ws) (omega (arith, length-drop cell_words ws))) (λ cs ws'. w_some (all_cons w ws')))

  pub heap-below : (words : List ℕ) (n : ℕ) {h : List Cell} → state_length n ≤ length words → heap_to P words n ≡ some h → Below index words n P h
  heap-below words n {h} room e =
      let after = drop header_words words in
      let read = whenever-is (whenever-chain {R = λ g. cells_of_words P n after ≡ some g} (whenever (cells_of_words P n after)) (λ g is. whenever-when (cells_right P [] g) g (λ right. is))) (sym (heap_is P words n room) ∙ e) in
      let long : cell_words * n ≤ length after = omega (arith, length-drop header_words words) in
      let cells = whenever-is (cells-read P n after) read in
      record {
        text = text;
        indexed = x;
        holds = record { count = sym cells.count; room = room; is = drop_of_take header_words (cell_words * n) words ∙ cells.words long };
        writable = whenever-is (cells-writable n after long) read;
      }

-- ---- the loop: a heap so far
pub record HeapSoFar (index : List ℕ) (types : ℕ) (words : List ℕ) (i : ℕ) : Type 0 where
  pub says : (text : List ℕ) (P : File) → Indexed text index P → types ≡ length P.types → state_length i ≤ length words → is_some (heap_to P words i) ≡ true

pub heap-start : (index : List ℕ) (types : ℕ) (words : List ℕ) → HeapSoFar index types words 0
unfolding heap_to is_some
heap-start index types words = record { says = λ text P x count room. refl }

-- no heap of fewer cells, none of more
no-heap : (P : File) (words : List ℕ) (i d : ℕ) → heap_to P words i ≡ none → heap_to P words (d + i) ≡ none
unfolding heap_to chain
no-heap P words i zero e = rw zero-add e
no-heap P words i (suc d) e = rw suc-add (ap (λ o. chain o (λ h. heap_with P words h (d + i))) (no-heap P words i d e))

module _ {index words : List ℕ} {types i : ℕ} {b : Bool} (v : HeapSoFar index types words i) (j : CellJudged index types words i b) where
  next-heap : (text : List ℕ) (P : File) → Indexed text index P → types ≡ length P.types → state_length (suc i) ≤ length words → is_some (heap_to P words (suc i)) ≡ b
  unfolding heap_to chain
  next-heap text P x count room = some_of (heap_to P words i) (v.says text P x count (omega arith)) _ (λ h e. rw e (sym (j.says P h (heap-below x words i (omega arith) e) count)))

  pub heap-on : b ≡ true → HeapSoFar index types words (i + 1)
  heap-on e = record { says = λ text P x count. rw add-one (λ room. next-heap text P x count room ∙ e) }

  pub heap-not : {used : ℕ} → i < used → b ≡ false → CellsJudged index types words used false
  unfolding is_some
  heap-not {used} less e = record {
    says = λ text P x count room.
        let place : (used - suc i) + suc i ≡ used = omega arith in
        sym (ap is_some (ap (heap_to P words) (sym place) ∙ no-heap P words (suc i) (used - suc i) (none_of (heap_to P words (suc i)) (next-heap text P x count (omega arith) ∙ e))));
  }
