-- What the functions promise that lay the values of a line: the cells are the definition's, above those used; on any bytes the words
-- below, and from the board's last cell on, stay as they were, and where all was laid those above the cells then used.
use Rattle.language.specs.declared.refusals.Refusal.TheVariants.{HeapSpent}
use Rattle.std.specs.Prelude.{Option as Maybe, Some, None, Result as Outcome, Ok, Err}
use Rattle.std.specs.Prelude.{ℕ, ◌+◌, ◌*◌, ◌<◌, ◌≤◌, List, [], ◌∷◌, ◌++◌, ◌≡◌, length, take, drop}
use Rattle.std.proofs.Math.Option.{some}
use Rattle.std.proofs.lemmas.List.Edits.{sets}
use Rattle.language.specs.Limits.{fields_most}
use Rattle.language.specs.Refusals.{heap_spent}
use Rattle.language.specs.Result.{Result, ok, no}
use Rattle.language.specs.Syntax.{File, channel_frame}
use Rattle.language.specs.Heap.{Cell, Tree}
use Rattle.language.specs.Values.{tree_size}
use Rattle.language.specs.Slide.{State}
use Rattle.language.specs.Layout.{padded, tag_step, state_length}
use Rattle.language.specs.Parser.{got, Parser, ◌>>=◌, return, byte}
use Rattle.language.specs.ReadExpr.{Form}
use Rattle.language.specs.Line.{value_behind, line_trees, input_trees}
use Rattle.language.specs.Machine.{build, put_inputs}
use Rattle.text.specs.declared.Cursor.{Cursor}
use Rattle.text.specs.declared.Found.{Found}
use Rattle.text.specs.Bytes.{Number, Step, bytes_of, bytes_from, bytes_left, Moved, ReadsNumber}
use Rattle.index.specs.Indexed.{Indexed}
use Rattle.state_words.specs.Holds.{Holds}
use Rattle.input_cells.specs.declared.Laid.{Laid}

-- what laying a value gives: the value laid, or none where its cells are not all there; all values: how many cells are used then, or the
-- input whose cells are not all there
abbrev pub Laying : Type 0
Laying = Maybe Laid

abbrev pub Inputs : Type 0
Inputs = Outcome ℕ ℕ

-- ---- the words that stay
pub record Kept (cells used : ℕ) (words words' : List ℕ) : Type 0 where
  pub long : length words' ≡ length words
  pub below : take (state_length used) words' ≡ take (state_length used) words
  pub above : drop (state_length cells) words' ≡ drop (state_length cells) words

-- ---- one cell written, if there is one left
pub data LeafPut (cells used tag value : ℕ) (next : Cursor) (words : List ℕ) : Laying → List ℕ → Type 0 where
  leaf_put : {words' : List ℕ} → used < cells → words' ≡ sets words (state_length used) (tag ∷ value ∷ padded fields_most []) → LeafPut cells used tag value next words (Some (record { used = used + 1; size = 0; next = next })) words'
  leaf_full : cells ≤ used → LeafPut cells used tag value next words None words

pub data ConstructorPut (cells used tag size : ℕ) (fields : List ℕ) (n : ℕ) (next : Cursor) (words : List ℕ) : Laying → List ℕ → Type 0 where
  con_put : {words' : List ℕ} → used < cells → words' ≡ sets words (state_length used) (tag ∷ size ∷ padded fields_most (take n fields)) →
      ConstructorPut cells used tag size fields n next words (Some (record { used = used + 1; size = size; next = next })) words'
  con_full : cells ≤ used → ConstructorPut cells used tag size fields n next words None words

-- ---- a tree laid over a heap: the words hold the heap that the definition builds, or that has more cells than the board
pub data LaidAs (P : File) (line : List ℕ) (cells : ℕ) (h : List Cell) (v : Tree) (rest : List ℕ) (words' : List ℕ) : Laying → Type 0 where
  laid_as : {b : Laid} → Holds words' b.used (build P v h).heap → b.size ≡ tree_size P v → bytes_from line b.next.at ≡ rest → LaidAs P line cells h v rest words' (Some b)
  full_as : cells < length (build P v h).heap → LaidAs P line cells h v rest words' None

-- a value takes at least a cell, and its size is at most its cells
pub data Grows (cells used : ℕ) : Laying → Type 0 where
  grows : {b : Laid} → used < b.used → b.used ≤ cells → b.size + used ≤ b.used → Grows cells used (Some b)
  full : Grows cells used None

abbrev pub step_to : Laying → Step
step_to (Some b) = Ok b.next
step_to None = Err HeapSpent

-- ---- behind the code of a Bool or an Int; the tag behind the code of a constructor; a value
pub record LeafLaid (line : List ℕ) (at : ℕ) (form : Form) (cells used : ℕ) (words : List ℕ) (r : Laying) (words' : List ℕ) : Type 0 where
  pub says : (P : File) (inner : Parser Tree) (h : List Cell) → Holds words used h → {v : Tree} {rest : List ℕ} → value_behind P inner form (bytes_from line at) ≡ got v rest → LaidAs P line cells h v rest words' r
  pub on : Moved line at (step_to r)
  pub kept : Kept cells used words words'
  pub high : {b : Laid} → r ≡ Some b → drop (state_length b.used) words' ≡ drop (state_length b.used) words
  pub grown : Grows cells used r

unfoldable pub tag_read : Parser ℕ
tag_read = do
  t ← byte
  c ← byte
  return (tag_step * (t + 1) + c)

pub record TagAt (line : List ℕ) (at : ℕ) (r : Number) : Type 0 where
  pub read : ReadsNumber line at r (tag_read (bytes_from line at))
  pub high : {f : Found} → r ≡ Ok f → tag_step ≤ f.value
  pub fewer : {f : Found} → r ≡ Ok f → bytes_left line f.next.at < bytes_left line at

pub record Lays (line index : List ℕ) (at cells used : ℕ) (words : List ℕ) (r : Laying) (words' : List ℕ) (p : ℕ → File → Parser Tree) : Type 0 where
  pub says : (text : List ℕ) (P : File) → Indexed text index P → (h : List Cell) → Holds words used h → (n : ℕ) {v : Tree} {rest : List ℕ} → p n P (bytes_from line at) ≡ got v rest → LaidAs P line cells h v rest words' r
  pub on : Moved line at (step_to r)
  pub kept : Kept cells used words words'
  pub high : {b : Laid} → r ≡ Some b → drop (state_length b.used) words' ≡ drop (state_length b.used) words
  pub grown : Grows cells used r

-- ---- all inputs: the definition's state, its roots before what else stood in the row; or the input that it refuses
pub data PutAs (P : File) (roots roots' words' : List ℕ) : Result State → Inputs → Type 0 where
  put_all : {s : State} {used : ℕ} → Holds words' used s.heap → roots' ≡ s.roots ++ drop (length s.roots) roots → PutAs P roots roots' words' (ok s) (Ok used)
  put_full : {c : ℕ} → PutAs P roots roots' words' (no heap_spent (channel_frame P c)) (Err c)

-- as many cells are used as before or more, and no more than there are
pub data Within (cells used : ℕ) : Inputs → Type 0 where
  within : {n : ℕ} → used ≤ n → n ≤ cells → Within cells used (Ok n)
  beyond : {c : ℕ} → Within cells used (Err c)

pub record ValuesLaid (line index : List ℕ) (cells used : ℕ) (words roots : List ℕ) (r : Inputs) (words' roots' : List ℕ) : Type 0 where
  pub says : (text : List ℕ) (P : File) → Indexed text index P → (h : List Cell) → Holds words used h → length P.inputs ≤ length roots → {vs : List Tree} → input_trees P (bytes_of line) ≡ some vs →
      PutAs P roots roots' words' (put_inputs P cells 0 vs h []) r
  pub kept : Kept cells used words words'
  pub high : {n : ℕ} → r ≡ Ok n → drop (state_length n) words' ≡ drop (state_length n) words
  pub grown : Within cells used r

pub record InputsLaid (line index : List ℕ) (cells used : ℕ) (words roots : List ℕ) (r : Inputs) (words' roots' : List ℕ) : Type 0 where
  pub says : (text : List ℕ) (P : File) → Indexed text index P → (h : List Cell) → Holds words used h → {vs : List Tree} → line_trees P line ≡ some vs → PutAs P roots roots' words' (put_inputs P cells 0 vs h []) r
  pub kept : Kept cells used words words'
  pub high : {n : ℕ} → r ≡ Ok n → drop (state_length n) words' ≡ drop (state_length n) words
  pub grown : Within cells used r
