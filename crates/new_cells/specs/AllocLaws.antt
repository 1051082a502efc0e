-- A step that writes one cell above the used ones, or refuses with nothing written.
--   gives-asked      what is asked for in other words
--   gives-refused    a refusal, nothing written
--   none_left, heap-spent   no cell left on the board: 20
--   row_written, cell-made   the next cell written
--   bool-made, int-made   a Bool's and an Int's words
use Rattle.std.specs.Prelude.{ℕ, ◌+◌, ◌≤◌, ◌<◌, List, [], ◌∷◌, ◌++◌, ◌≡◌, refl, length, Ok, Err}
use Rattle.std.proofs.Common.{sym, subst, ◌∙◌, arith, lt-ltb, le-ltb}
use Rattle.std.proofs.Math.Path.{ap}
use Rattle.std.proofs.lemmas.List.Edits.{sets}
use Rattle.language.specs.declared.refusals.Refusal.{Refusal}
use Rattle.language.specs.declared.refusals.Refusal.TheVariants.{HeapSpent}
use Rattle.language.specs.RefusalNumbers.{number_of}
use Rattle.language.specs.Limits.{fields_most, int_range}
use Rattle.language.specs.Refusals.{heap_spent}
use Rattle.language.specs.Syntax.{File}
use Rattle.language.specs.Heap.{kbool, kint, Cell, leaf, fields_in}
use Rattle.language.specs.Layout.{bool_tag, int_tag, padded, cell_tag, cell_value, words_of, state_length}
use Rattle.language.specs.Evaluator.{Out, value, refused, needs, alloc}
use Rattle.theory.specs.Alls.{all_snoc}
use Rattle.theory.specs.Padding.{padded-length}
use Rattle.theory.specs.CellWords.{bool_writable, int_writable}
use Rattle.state_words.specs.Holds.{Written}
use Rattle.state_words.specs.HoldLaws.{holds_pushed, written-long, written_below, written-above}
use Rattle.new_cells.specs.Steps.{Evaluated, by_number, Lies, Agrees, is_value, is_refused, has_grown, not_grown, Kept, Gives}
use Rattle.new_cells.specs.Asked.{Allocates, MakesBool, MakesInt}

module _ {words words' : List ℕ} {used : ℕ} where
  pub gives-asked : {r : Evaluated} {asked other : File → ℕ → List Cell → Out → Type 0} → ((P : File) (cells : ℕ) (h : List Cell) (o : Out) → Lies P cells words used h → asked P cells h o → other P cells h o) →
      Gives words used other r words' → Gives words used asked r words'
  gives-asked turn g = record { says = λ {P} {cells} {h} {o} v a. g.says v (turn P cells h o v a); kept = g.kept }

-- ---- nothing written
module _ {words : List ℕ} {used : ℕ} where
  pub kept-refused : {n : Refusal} → Kept words words used (Err n)
  kept-refused = record { long = refl; low = refl; grown = not_grown }

  pub gives-refused : {n : Refusal} {asked : File → ℕ → List Cell → Out → Type 0} → ((P : File) (cells : ℕ) (h : List Cell) (o : Out) → Lies P cells words used h → asked P cells h o → o ≡ refused (number_of n)) → Gives words used asked (Err n) words
  gives-refused {n} turn = record { says = λ {P} {cells} {h} {o} v a. subst (Agrees P words (Err n)) (sym (turn P cells h o v a)) (is_refused by_number); kept = kept-refused }

  -- no cell is left, as the test on the length says
  module _ {end : ℕ} (told : end ≡ state_length (used + 1)) (less : length words < end) where
    pub none_left : {P : File} {cells : ℕ} {h : List Cell} → Lies P cells words used h → (c : Cell) → alloc cells h c ≡ refused heap_spent
    unfolding alloc needs
    none_left {cells} {h} v c = rw (le-ltb (length h) cells (omega (arith, v.board, v.held.count)))

    pub heap-spent : {row : List ℕ} → Gives words used (Allocates row) (Err HeapSpent) words
    heap-spent = gives-refused (λ P cells h o v a. a.is ∙ none_left v a.cell)

  -- ---- one cell written
  module _ {words' row : List ℕ} (p : Written words used row words') where
    cell-value : {P : File} {cells : ℕ} {h : List Cell} → Lies P cells words used h → (c : Cell) → alloc cells h c ≡ value used (h ++ (c ∷ []))
    unfolding alloc needs
    cell-value {cells} {h} v c = rw (lt-ltb (length h) cells (omega (arith, v.board, v.held.count, p.room))) (ap (λ n. value n (h ++ (c ∷ []))) (sym v.held.count))

    pub cell-made : Gives words used (Allocates row) (Ok (record { cell = used; used = used + 1 })) words'
    cell-made = record {
      says = λ {P} {cells} {h} v a.
          let written : Written words used (words_of a.cell) words' = subst (λ (x : List ℕ). Written words used x words') (sym a.spelled) p in
          subst (Agrees P words' (Ok (record { cell = used; used = used + 1 }))) (sym (a.is ∙ cell-value v a.cell)) (is_value (holds_pushed a.cell v.held written) (all_snoc v.writable a.writable));
      kept = record { long = written-long p; low = written_below p; grown = has_grown (omega arith) p.room (written-above p) };
    }

-- as put_leaf and put_constructor write it
pub row_written : {words words' : List ℕ} {used : ℕ} {end : ℕ} (tag v : ℕ) (ls : List ℕ) → end ≡ state_length (used + 1) → end ≤ length words → words' ≡ sets words (state_length used) (tag ∷ v ∷ padded fields_most ls) → Written words used (tag ∷ v ∷ padded fields_most ls) words'
row_written tag v ls told room e = record { wide = omega (arith, padded-length fields_most ls); room = omega arith; is = e }

-- ---- constants
module _ {words words' : List ℕ} {used : ℕ} {r : Evaluated} where
  pub bool-made : {word : ℕ} → Gives words used (Allocates (bool_tag ∷ word ∷ padded fields_most [])) r words' → Gives words used (MakesBool word) r words'
  unfolding words_of cell_tag cell_value fields_in
  bool-made g = gives-asked (λ P cells h o v a. record { cell = leaf (kbool a.truth); spelled = ap (λ w. bool_tag ∷ w ∷ padded fields_most []) a.spelled; writable = bool_writable; is = a.is }) g

  pub int-made : {n : ℕ} → n < int_range → Gives words used (Allocates (int_tag ∷ n ∷ padded fields_most [])) r words' → Gives words used (MakesInt n) r words'
  unfolding words_of cell_tag cell_value fields_in
  int-made {n} less g = gives-asked (λ P cells h o v a. record { cell = leaf (kint n); spelled = refl; writable = int_writable less; is = a.is }) g
