-- A constructor laid, return by return: its tag, its fields, and then its cell.
use Rattle.language.specs.declared.refusals.Refusal.{Refusal}
use Rattle.std.specs.Prelude.{Ok, Err, Some, None}
use Rattle.std.specs.Prelude.{ℕ, ◌+◌, ◌-◌, ◌*◌, ◌/◌, ◌%◌, ◌≤◌, ◌<◌, List, [], ◌∷◌, ◌++◌, ◌≡◌, take, drop}
use Rattle.std.proofs.Common.{append-nil, sym, ap, ◌∙◌, arith}
use Rattle.std.proofs.Math.ListN.{length, length-append}
use Rattle.std.proofs.lemmas.List.Edits.{sets}
use Rattle.language.specs.Limits.{fields_most}
use Rattle.language.specs.Syntax.{File, constructors_of, fields_of}
use Rattle.language.specs.Heap.{Cell, con, Tree, vcon, Trees, vnil}
use Rattle.language.specs.Values.{tree_size, own_tree_sum}
use Rattle.language.specs.Layout.{tag_step, padded, state_length, words_of}
use Rattle.language.specs.Parser.{got, Parser}
use Rattle.language.specs.ReadExpr.{con_form}
use Rattle.language.specs.Line.{value_trees, value_behind, value_at}
use Rattle.language.specs.Machine.{new_cell, build, build_fields}
use Rattle.text.specs.declared.Cursor.{Cursor}
use Rattle.text.specs.declared.Found.{Found}
use Rattle.text.specs.Bytes.{Number, bytes_from, Moved, stopped}
use Rattle.text.specs.StepLaws.{number-got, number-bad, number-moved, moved_on}
use Rattle.index.specs.ParserLaws.{bad-is-not-got, got-value, got-left}
use Rattle.state_words.specs.Holds.{Holds, Written}
use Rattle.state_words.specs.HoldLaws.{written-above, holds_pushed, con-written}
use Rattle.input_cells.specs.declared.Laid.{Laid}
use Rattle.input_cells.specs.Lays.{Laying, Kept, ConstructorPut, con_put, con_full, LaidAs, laid_as, full_as, Grows, grows, full, step_to, TagAt, Lays}
use Rattle.input_cells.specs.CellLaws.{kept-none, kept-written, kept_then, high-then, full-is-not-done}
use Rattle.input_cells.specs.LayLaws.{con-read}
use Rattle.input_cells.specs.FieldsLaidLaws.{FieldsLaid, PartLaid, next-tree, fields-over, full-more}

-- ---- a constructor from its fields
-- what was read is a constructor with this tag, and its fields behind it
by-fields : {B : Type 0} {line : List ℕ} {at : ℕ} {r : Number} {f : Found} → TagAt line at r → r ≡ Ok f → (P : File) (m : ℕ) {w : Tree} {rest : List ℕ} → value_behind P (value_at m P) con_form (bytes_from line at) ≡ got w rest →
    ((t c : ℕ) (ws : Trees) → t < length P.types → c < length (constructors_of P t) → f.value ≡ tag_step * (t + 1) + c → w ≡ vcon t c ws →
    value_trees (value_at m P) (length (fields_of P t c)) (bytes_from line f.next.at) ≡ got ws rest → B) → B
by-fields {line} {at} v e P m q k =
    let d = con-read P (value_at m P) (bytes_from line at) q in
    let same = sym (number-got v.read e) ∙ d.tag in
    k d.t d.c d.ws d.low d.known (got-value same) d.whole (ap (value_trees (value_at m P) (length (fields_of P d.t d.c))) (got-left same) ∙ d.fields)

pub con-missing : {line index : List ℕ} {at cells used : ℕ} {words : List ℕ} {r : Number} {n : Refusal} → TagAt line at r → r ≡ Err n → Lays line index at cells used words None words (λ n P. value_behind P (value_at n P) con_form)
con-missing {line} {at} {cells} {used} {words} v e = record {
  says = λ text P x h hs m q. let d = con-read P (value_at m P) (bytes_from line at) q in bad-is-not-got (sym (number-bad v.read e) ∙ d.tag);
  on = stopped;
  kept = kept-none cells used words;
  high = λ q. full-is-not-done q;
  grown = full;
}

-- ---- a field that has no room
pub con-over : {line index : List ℕ} {at cells used n j top owned : ℕ} {words₀ words waiting words' : List ℕ} {next : Cursor} {r : Number} {f : Found} {y : Laying} → TagAt line at r → r ≡ Ok f →
    FieldsLaid line index cells used words₀ f.value n f.next j next top owned words waiting → j < n → Lays line index next.at cells top words y words' (λ n P. value_at n P) → y ≡ None →
    Lays line index at cells used words₀ None words' (λ n P. value_behind P (value_at n P) con_form)
con-over {line} {cells} v e w less u is-full = record {
  says = λ text P x h hs m q. by-fields v e P m q (λ t c ws low known tag whole read.
      let part = w.says text P x h hs t c low known tag m read in
      full_as (rw whole (fields-over w less u P part (full-more is-full (u.says text P x part.heap part.holds m (next-tree w less u P part).read)))));
  on = stopped;
  kept = kept_then w.low w.kept u.kept;
  high = λ q. full-is-not-done q;
  grown = full;
}

no-trees : (p : Parser Tree) (bs : List ℕ) {ws : Trees} {rest : List ℕ} → value_trees p 0 bs ≡ got ws rest → (ws ≡ vnil) × (bs ≡ rest)
unfolding value_trees
no-trees p bs e = (sym (got-value e), got-left e)

-- all fields are laid: what the constructor's cell says
record AllLaid (P : File) (line : List ℕ) (t c : ℕ) (ws : Trees) (rest : List ℕ) (h : List Cell) (n : ℕ) (next : Cursor) (top owned : ℕ) (words waiting : List ℕ) : Type 0 where
  holds : Holds words top (build_fields P ws h).heap
  row : (build_fields P ws h).locations ≡ take n waiting
  sized : owned + 1 ≡ tree_size P (vcon t c ws)
  ends : bytes_from line next.at ≡ rest

all_laid : {P : File} {line : List ℕ} {t c n : ℕ} {ws : Trees} {rest : List ℕ} {h : List Cell} {m j : ℕ} {next : Cursor} {top owned : ℕ} {words waiting : List ℕ} → PartLaid P line t c n ws rest h m j next top owned words waiting → j ≤ n → n ≤ j →
    AllLaid P line t c ws rest h n next top owned words waiting
unfolding build_fields tree_size own_tree_sum
all_laid {P} {line} {t} {c} {n} {ws} {rest} {h} {m} {j} {next} {top} {owned} {words} {waiting} q low high =
    let none : n - j ≡ 0 = omega arith in
    let same : j ≡ n = omega arith in
    let ended = no-trees (value_at m P) (bytes_from line next.at) (ap (λ i. value_trees (value_at m P) i (bytes_from line next.at)) (sym none) ∙ q.read) in
    let heaps : (build_fields P ws h).heap ≡ q.heap = q.heaps ∙ ap (λ (l : Trees). (build_fields P l q.heap).heap) ended.0 in
    let sums : own_tree_sum P ws (fields_of P t c) ≡ owned + 0 = q.sizes ∙ ap (λ (l : Trees). owned + own_tree_sum P l (drop j (fields_of P t c))) ended.0 in
    record {
      holds = rw heaps q.holds;
      row = q.rows ∙ ap (λ (l : Trees). take j waiting ++ (build_fields P l q.heap).locations) ended.0 ∙ append-nil (take j waiting) ∙ ap (λ i. take i waiting) same;
      sized = omega arith;
      ends = ended.1;
    }

module _ {line index : List ℕ} {at cells used n j top owned : ℕ} {words₀ words waiting : List ℕ} {next : Cursor} {r : Number} {f : Found} (room : state_length cells ≤ length words₀) (v : TagAt line at r) (e : r ≡ Ok f)
    (w : FieldsLaid line index cells used words₀ f.value n f.next j next top owned words waiting) (low : j ≤ n) (high : n ≤ j) where
  con-as : (P : File) (t c : ℕ) {ws : Trees} {rest words' : List ℕ} {h : List Cell} {y : Laying} → f.value ≡ tag_step * (t + 1) + c → AllLaid P line t c ws rest h n next top owned words waiting →
      ConstructorPut cells top f.value (owned + 1) waiting n next words y words' → LaidAs P line cells h (vcon t c ws) rest words' y
  unfolding build new_cell
  con-as P t c {ws} {rest} {words'} {h} tag all (con_put less is) =
      let cell = con t c (tree_size P (vcon t c ws)) (build_fields P ws h).locations in
      let fit : state_length (top + 1) ≤ length words = omega (arith, room, w.kept.long) in
      let written : Written words top (words_of cell) words' = con-written t c (tree_size P (vcon t c ws)) (build_fields P ws h).locations tag fit (is ∙ rw (all.sized, all.row)) in
      laid_as (holds_pushed cell all.holds written) all.sized all.ends
  con-as P t c {ws} {h = h} tag all (con_full le) = full_as (omega (arith, all.holds.count, length-append (build_fields P ws h).heap (con t c (tree_size P (vcon t c ws)) (build_fields P ws h).locations ∷ [])))

  -- whatever the tag, the cell's words are those of a constructor
  con-cell : {words' : List ℕ} → top < cells → words' ≡ sets words (state_length top) (f.value ∷ (owned + 1) ∷ padded fields_most (take n waiting)) →
      Written words top (words_of (con (f.value / tag_step - 1) (f.value % tag_step) (owned + 1) (take n waiting))) words'
  con-cell less is =
      let tag : f.value ≡ tag_step * (f.value / tag_step - 1 + 1) + f.value % tag_step = omega (arith, v.high e) in
      con-written (f.value / tag_step - 1) (f.value % tag_step) (owned + 1) (take n waiting) tag (omega (arith, room, w.kept.long)) is

  con-kept : {words' : List ℕ} {y : Laying} → ConstructorPut cells top f.value (owned + 1) waiting n next words y words' → Kept cells top words words'
  con-kept (con_put less is) = kept-written less (con-cell less is)
  con-kept (con_full le) = kept-none cells top words

  con-high : {words' : List ℕ} {y : Laying} {b : Laid} → ConstructorPut cells top f.value (owned + 1) waiting n next words y words' → y ≡ Some b → drop (state_length b.used) words' ≡ drop (state_length b.used) words₀
  con-high {words'} {b = b} (con_put less is) q = let same : record { used = top + 1; size = owned + 1; next = next } ≡ b = cc in rw (← same) (high-then top (top + 1) words₀ words words' (omega arith) w.untouched (written-above (con-cell less is)))
  con-high (con_full le) q = full-is-not-done q

  con-moved : {words' : List ℕ} {y : Laying} → ConstructorPut cells top f.value (owned + 1) waiting n next words y words' → Moved line at (step_to y)
  con-moved (con_put less is) = moved_on (number-moved v.read e) w.on
  con-moved (con_full le) = stopped

  con-grows : {words' : List ℕ} {y : Laying} → ConstructorPut cells top f.value (owned + 1) waiting n next words y words' → Grows cells used y
  con-grows (con_put less is) = grows {b = record { used = top + 1; size = owned + 1; next = next }} (omega (arith, w.low)) (omega arith) (omega (arith, w.small))
  con-grows (con_full le) = full

  pub con-laid : {words' : List ℕ} {y : Laying} → ConstructorPut cells top f.value (owned + 1) waiting n next words y words' → Lays line index at cells used words₀ y words' (λ n P. value_behind P (value_at n P) con_form)
  con-laid put = record {
    says = λ text P x h hs m q. by-fields v e P m q (λ t c ws less known tag whole read. rw whole (con-as P t c tag (all_laid (w.says text P x h hs t c less known tag m read) low high) put));
    on = con-moved put;
    kept = kept_then w.low w.kept (con-kept put);
    high = λ q. con-high put q;
    grown = con-grows put;
  }
