-- One cell laid: which words stay, and a Bool or an Int behind its code, return by return.
use Rattle.std.specs.Prelude.{Ok, Err, Some, None}
use Rattle.language.specs.declared.refusals.Refusal.{Refusal}
use Rattle.language.specs.RefusalNumbers.{number_of}
use Rattle.std.specs.Prelude.{ℕ, zero, suc, ◌+◌, ◌≤◌, ◌<◌, List, [], ◌∷◌, ◌≡◌, length, drop}
use Rattle.std.proofs.Math.Bool.{false}
use Rattle.std.proofs.Math.Path.{refl}
use Rattle.std.proofs.Common.{sym, ◌∙◌, arith}
use Rattle.std.proofs.Math.ListN.{get_or, length-append}
use Rattle.std.proofs.lemmas.List.Edits.{sets}
use Rattle.language.specs.Limits.{byte_range, fields_most}
use Rattle.language.specs.Codes.{bool_first}
use Rattle.language.specs.Syntax.{File}
use Rattle.language.specs.Format.{bit}
use Rattle.language.specs.Heap.{Constant, kbool, kint, Cell, leaf, Tree, vleaf}
use Rattle.language.specs.Values.{tree_size}
use Rattle.language.specs.Layout.{bool_tag, int_tag, padded, words_of, state_length}
use Rattle.language.specs.Parser.{got, bad, Parser}
use Rattle.language.specs.ReadExpr.{Form, bool_form, int_form, bools, int}
use Rattle.language.specs.Line.{value_behind}
use Rattle.language.specs.Machine.{new_cell, build}
use Rattle.theory.specs.Lists.{take-fewer, drop_more}
use Rattle.theory.specs.Places.{look_at}
use Rattle.text.specs.declared.Cursor.{Cursor}
use Rattle.text.specs.declared.Found.{Found}
use Rattle.text.specs.Bytes.{Number, bytes_from, Moved, stopped, ReadsNumber, Below}
use Rattle.text.specs.Codes.{code_place}
use Rattle.text.specs.CodeLaws.{code-then, code-stops, code_below}
use Rattle.text.specs.ReadLaws.{read-then, read-stops}
use Rattle.text.specs.StepLaws.{number-moved}
use Rattle.index.specs.ParserLaws.{bad-is-not-got, got-value, got-left}
use Rattle.state_words.specs.Holds.{Holds, Written}
use Rattle.state_words.specs.HoldLaws.{written-long, written_below, written-above, holds_pushed, bool-written, int-written}
use Rattle.input_cells.specs.declared.Laid.{Laid}
use Rattle.input_cells.specs.Lays.{Laying, Kept, LeafPut, leaf_put, leaf_full, LaidAs, laid_as, full_as, Grows, grows, full, step_to, LeafLaid}

-- ---- the words that stay
pub kept-none : (cells used : ℕ) (words : List ℕ) → Kept cells used words words
kept-none cells used words = record { long = refl; below = refl; above = refl }

pub kept-written : {cells used : ℕ} {words row words' : List ℕ} → used < cells → Written words used row words' → Kept cells used words words'
kept-written {cells} {used} {words} {row} {words'} less w = record {
  long = written-long w;
  below = written_below w;
  above = drop_more (state_length (used + 1)) (state_length cells) words' words (omega arith) (written-above w);
}

pub kept_then : {cells used top : ℕ} {words words₁ words₂ : List ℕ} → used ≤ top → Kept cells used words words₁ → Kept cells top words₁ words₂ → Kept cells used words words₂
kept_then {cells} {used} {top} {words} {words₁} {words₂} le a b = record {
  long = b.long ∙ a.long;
  below = take-fewer (state_length used) (state_length top) words₂ words₁ (omega arith) b.below ∙ a.below;
  above = b.above ∙ a.above;
}

-- beyond the cells used in the end: a later step that uses no fewer
pub high-then : (top n : ℕ) (words words₁ words₂ : List ℕ) → top ≤ n → drop (state_length top) words₁ ≡ drop (state_length top) words → drop (state_length n) words₂ ≡ drop (state_length n) words₁ → drop (state_length n) words₂ ≡ drop (state_length n) words
high-then top n words words₁ words₂ le a b = b ∙ drop_more (state_length top) (state_length n) words₁ words (omega arith) a

pub full-is-not-done : {B : Type 0} {b : Laid} → None ≡ Some b → B
full-is-not-done e = absurd (let z : ◌≡◌ {A = ℕ} 0 1 = cc in omega arith)

-- ---- a Bool or an Int, as its cell is written
abbrev WritesLeaf : ℕ → List ℕ → ℕ → ℕ → Constant → Type 0
WritesLeaf used words tag value k = (words' : List ℕ) → state_length (used + 1) ≤ length words → words' ≡ sets words (state_length used) (tag ∷ value ∷ padded fields_most []) → Written words used (words_of (leaf k)) words'

module _ {cells used tag value : ℕ} {next : Cursor} {words : List ℕ} (k : Constant) (room : state_length cells ≤ length words) (writes : WritesLeaf used words tag value k) where
  leaf-as : {line words' : List ℕ} {r : Laying} (P : File) (h : List Cell) → Holds words used h → LeafPut cells used tag value next words r words' → LaidAs P line cells h (vleaf k) (bytes_from line next.at) words' r
  unfolding build new_cell tree_size
  leaf-as {words'} P h v (leaf_put less is) = laid_as (holds_pushed (leaf k) v (writes words' (omega (arith, room)) is)) refl refl
  leaf-as P h v (leaf_full le) = full_as (omega (arith, length-append h (leaf k ∷ []), v.count))

  leaf-kept : {words' : List ℕ} {r : Laying} → LeafPut cells used tag value next words r words' → Kept cells used words words'
  leaf-kept {words'} (leaf_put less is) = kept-written less (writes words' (omega (arith, room)) is)
  leaf-kept (leaf_full le) = kept-none cells used words

  leaf-high : {words' : List ℕ} {r : Laying} {b : Laid} → LeafPut cells used tag value next words r words' → r ≡ Some b → drop (state_length b.used) words' ≡ drop (state_length b.used) words
  leaf-high {words'} {b = b} (leaf_put less is) e = let same : record { used = used + 1; size = 0; next = next } ≡ b = cc in rw (← same) (written-above (writes words' (omega (arith, room)) is))
  leaf-high (leaf_full le) e = full-is-not-done e

leaf-moved : {line : List ℕ} {at cells used tag value : ℕ} {next : Cursor} {words words' : List ℕ} {r : Laying} → Moved line at (Ok next) → LeafPut cells used tag value next words r words' → Moved line at (step_to r)
leaf-moved m (leaf_put less is) = m
leaf-moved m (leaf_full le) = stopped

leaf-grows : {cells used tag value : ℕ} {next : Cursor} {words words' : List ℕ} {r : Laying} → LeafPut cells used tag value next words r words' → Grows cells used r
leaf-grows {used} {next} (leaf_put less is) = grows {b = record { used = used + 1; size = 0; next = next }} (omega arith) (omega arith) (omega arith)
leaf-grows (leaf_full le) = full

-- no value behind the code
leaf-none : {line : List ℕ} {at cells used : ℕ} {form : Form} {words : List ℕ} (n : ℕ) → ((P : File) (inner : Parser Tree) → value_behind P inner form (bytes_from line at) ≡ bad n) → LeafLaid line at form cells used words None words
leaf-none {cells} {used} {words} n none_read = record { says = λ P inner h v e. bad-is-not-got (sym (none_read P inner) ∙ e); on = stopped; kept = kept-none cells used words; high = λ q. full-is-not-done q; grown = full }

leaf-some : {line : List ℕ} {at cells used tag value : ℕ} {form : Form} {next : Cursor} {words words' : List ℕ} {r : Laying} (k : Constant) → state_length cells ≤ length words → WritesLeaf used words tag value k → Moved line at (Ok next) →
    ((P : File) (inner : Parser Tree) → value_behind P inner form (bytes_from line at) ≡ got (vleaf k) (bytes_from line next.at)) → LeafPut cells used tag value next words r words' → LeafLaid line at form cells used words r words'
leaf-some k room writes m reads put = record {
  says = λ P inner h v e. rw (← (got-value (sym (reads P inner) ∙ e)), ← (got-left (sym (reads P inner) ∙ e))) (leaf-as k room writes P h v put);
  on = leaf-moved m put;
  kept = leaf-kept k room writes put;
  high = λ q. leaf-high k room writes put q;
  grown = leaf-grows put;
}

-- a Bool's place in its table is its word
place-bit : (i : ℕ) → i < length bools → i ≡ bit (get_or bools i false)
place-bit zero less = refl
place-bit (suc zero) less = refl
place-bit (suc (suc i)) less = absurd (omega arith)

module _ (line : List ℕ) (at : ℕ) {cells used : ℕ} {words : List ℕ} where
  module _ {x : Number} (v : ReadsNumber line at x (code_place bool_first (length bools) (bytes_from line at)) × Below byte_range x) where
    pub bool-missing : {n : Refusal} → x ≡ Err n → LeafLaid line at bool_form cells used words None words
    unfolding value_behind
    bool-missing {n} e = leaf-none (number_of n) (λ P inner. code-stops bool_first bools (λ b bs. got (vleaf (kbool b)) bs) v.0 e)

    pub bool-laid : {f : Found} {words' : List ℕ} {r : Laying} → state_length cells ≤ length words → x ≡ Ok f → LeafPut cells used bool_tag f.value f.next words r words' → LeafLaid line at bool_form cells used words r words'
    unfolding value_behind
    bool-laid {f} room e put =
        let b = get_or bools f.value false in
        let less = code_below bool_first bools v.0 e in
        leaf-some (kbool b) room (λ words'' fit is. bool-written b (place-bit f.value less) fit is) (number-moved v.0 e)
        (λ P inner. code-then bool_first bools (λ b bs. got (vleaf (kbool b)) bs) v.0 b e refl (look_at bools f.value false less)) put

  module _ {x : Number} (v : ReadsNumber line at x (int (bytes_from line at))) where
    pub int-missing : {n : Refusal} → x ≡ Err n → LeafLaid line at int_form cells used words None words
    unfolding value_behind
    int-missing {n} e = leaf-none (number_of n) (λ P inner. read-stops (λ i bs. got (vleaf (kint i)) bs) v e)

    pub int-laid : {f : Found} {words' : List ℕ} {r : Laying} → state_length cells ≤ length words → x ≡ Ok f → LeafPut cells used int_tag f.value f.next words r words' → LeafLaid line at int_form cells used words r words'
    unfolding value_behind
    int-laid {f} room e put = leaf-some (kint f.value) room (λ words'' fit is. int-written f.value fit is) (number-moved v e) (λ P inner. read-then (λ i bs. got (vleaf (kint i)) bs) v e) put
