-- The values of a line laid one after the other, and the line as a whole, return by return.
use Rattle.std.specs.Prelude.{Result as Outcome, Ok, Err, Some, None, ok_or}
use Rattle.language.specs.declared.refusals.Refusal.{Refusal}
use Prim.Native.Nat.{ℕ, suc, ◌+◌, ◌-◌, ◌≤◌, ◌<◌}
use mathlib.Core.List.{List, [], ◌∷◌, ◌++◌}
use Rattle.std.specs.Prelude.{Bool, false, ◌≡◌, refl, set, eqb}
use Rattle.std.proofs.Math.Bool.{true}
use Rattle.std.proofs.Math.Option.{Option, none, some}
use Rattle.std.proofs.Math.Path.{sym, ap}
use Rattle.std.proofs.Common.{◌∙◌, take-append-drop}
use native.Mathlib.Omega.{arith}
use Rattle.std.proofs.Math.ListN.{length, take, drop, length-set}
use Rattle.std.proofs.Math.Seq.{length-take-le, take-suc-set, drop-set-lt}
use Rattle.std.proofs.Math.Dec.{leb}
use borrow.Author.Tests.{le-leb, lt-leb, eqb-true, eqb-false}
use Rattle.language.specs.Limits.{byte_range, channels_most}
use Rattle.language.specs.Codes.{kind_input_line}
use Rattle.language.specs.Refusals.{heap_spent}
use Rattle.language.specs.Result.{ok, no, need, when, chain}
use Rattle.language.specs.Syntax.{File, channel_frame}
use Rattle.language.specs.Heap.{Cell, Tree}
use Rattle.language.specs.Layout.{state_length}
use Rattle.language.specs.Parser.{Read, got, bad, Parser, byte, many}
use Rattle.language.specs.Line.{value_at, all_read_of, input_trees, trees_fit, line_trees}
use Rattle.language.specs.Machine.{build, put_inputs}
use Rattle.theory.specs.Lists.{none-is-not-some, false-is-not-true, drop_more}
use Rattle.theory.specs.HeldChannels.{input_types}
use Rattle.text.specs.declared.Cursor.{Cursor}
use Rattle.text.specs.declared.Found.{Found}
use Rattle.text_lines.specs.Lines.{LineEnd}
use Rattle.text.specs.Bytes.{Number, bytes_of, bytes_from, bytes_left, Moved, ReadsNumber, Below}
use Rattle.text_lines.specs.Lines.{is_some, line_end}
use Rattle.text.specs.Places.{bytes-start}
use Rattle.text.specs.StepLaws.{number-bad, number-moved, ends-within, moved_none, moved_on}
use Rattle.index.specs.Sections.{counts_in}
use Rattle.index.specs.Indexed.{Indexed}
use Rattle.index.specs.declared.Counts.{Counts}
use Rattle.index.specs.ParserLaws.{many-begins, many-bad, bad-is-not-got, got-value}
use Rattle.state_words.specs.Holds.{Holds}
use Rattle.input_cells.specs.declared.Laid.{Laid}
use Rattle.input_line.specs.InputLaws.{inputs-counted, no_bytes, bytes-are}
use Rattle.input_line.specs.LineLaws.{line-bad, line-longer, line_read}
use Rattle.input_cells.specs.Lays.{Laying, Inputs, Kept, Lays, put_all, put_full, within, beyond, ValuesLaid, InputsLaid}
use Rattle.input_cells.specs.CellLaws.{kept-none, kept_then, high-then}
use Rattle.input_cells.specs.FieldsLaidLaws.{last-cell, done-as, full-more, grows-done}

-- ---- values that were read: the first, and the others behind it
record FirstValue (p : Parser Tree) (m : ℕ) (bs : List ℕ) (vs : List Tree) (rest : List ℕ) : Type 0 where
  first : Tree
  others : List Tree
  left : List ℕ
  whole : vs ≡ first ∷ others
  read : p bs ≡ got first left
  then : many p m left ≡ got others rest

first-value : (p : Parser Tree) (m : ℕ) (bs : List ℕ) {vs : List Tree} {rest : List ℕ} → many p (suc m) bs ≡ got vs rest → FirstValue p m bs vs rest
first-value p m bs {vs} {rest} e = cases (p bs) refl
  where
    cases : (x : Read Tree) → p bs ≡ x → FirstValue p m bs vs rest
    cases (got v left) q = let b = many-begins p m bs q e in record { first = v; others = b.others; left = left; whole = b.whole; read = q; then = b.is }
    cases (bad n) q = bad-is-not-got (sym (many-bad p m bs q) ∙ e)

-- ---- from the first of n values on: those before input i are laid
pub record PartPut (P : File) (line : List ℕ) (cells n : ℕ) (vs : List Tree) (rest : List ℕ) (h : List Cell) (m i : ℕ) (next : Cursor) (top : ℕ) (words roots : List ℕ) : Type 0 where
  pub left : List Tree
  pub heap : List Cell
  pub holds : Holds words top heap
  pub read : many (value_at m P) (n - i) (bytes_from line next.at) ≡ got left rest
  pub same : put_inputs P cells 0 vs h [] ≡ put_inputs P cells i left heap (take i roots)

pub record InputsTo (line index : List ℕ) (cells used : ℕ) (words₀ roots₀ : List ℕ) (n : ℕ) (first : Cursor) (i : ℕ) (next : Cursor) (top : ℕ) (words roots : List ℕ) : Type 0 where
  pub on : Moved line first.at (Ok next)
  pub kept : Kept cells used words₀ words
  pub untouched : drop (state_length top) words ≡ drop (state_length top) words₀
  pub low : used ≤ top
  pub high : top ≤ cells
  pub wide : length roots ≡ length roots₀
  pub others : drop i roots ≡ drop i roots₀
  pub says : (text : List ℕ) (P : File) → Indexed text index P → (h : List Cell) → Holds words₀ used h → n ≤ length roots₀ → (m : ℕ) {vs : List Tree} {rest : List ℕ} → many (value_at m P) n (bytes_from line first.at) ≡ got vs rest →
      PartPut P line cells n vs rest h m i next top words roots

module _ {line index : List ℕ} {cells used n i top : ℕ} {words₀ roots₀ words roots words' : List ℕ} {first next : Cursor} {y : Laying} (v : InputsTo line index cells used words₀ roots₀ n first i next top words roots) (less : i < n)
    (u : Lays line index next.at cells top words y words' (λ n P. value_at n P)) where
  next-value : (P : File) {m : ℕ} {vs : List Tree} {rest : List ℕ} {h : List Cell} (q : PartPut P line cells n vs rest h m i next top words roots) → FirstValue (value_at m P) (n - suc i) (bytes_from line next.at) q.left rest
  next-value P {m} q = let one : n - i ≡ suc (n - suc i) = omega arith in first-value (value_at m P) (n - suc i) (bytes_from line next.at) (rw one at q.read)

  pub input-grows : {b : Laid} → y ≡ Some b → (top < b.used) × ((b.used ≤ cells) × (b.size + top ≤ b.used))
  input-grows e = grows-done (rw e at u.grown)

  pub inputs-next : {b : Laid} {roots' : List ℕ} → y ≡ Some b → roots' ≡ set roots i (b.used - 1) → InputsTo line index cells used words₀ roots₀ n first (i + 1) b.next b.used words' roots'
  unfolding put_inputs need
  inputs-next {b} {roots'} e put =
      let on : i + 1 ≡ suc i = omega arith in
      record {
        on = moved_on v.on (rw e at u.on);
        kept = kept_then v.low v.kept u.kept;
        untouched = high-then top b.used words₀ words words' (omega (arith, (input-grows e).0)) v.untouched (u.high e);
        low = omega (arith, v.low, (input-grows e).0);
        high = (input-grows e).1.0;
        wide = ap length put ∙ length-set roots i (b.used - 1) ∙ v.wide;
        others = ap (λ j. drop j roots') on ∙ ap (drop (suc i)) put ∙ drop-set-lt (suc i) roots i (b.used - 1) (omega arith) ∙ drop_more i (suc i) roots roots₀ (omega arith) v.others ∙ ap (λ j. drop j roots₀) (sym on);
        says = λ text P x h hs wide m {vs} {rest} read.
            let q = v.says text P x h hs wide m read in
            let w = next-value P q in
            let laid = done-as e (u.says text P x q.heap q.holds m w.read) in
            let made = build P w.first q.heap in
            let place : b.used - 1 ≡ made.location = sym (last-cell P w.first q.heap ∙ ap (λ j. j - 1) (sym laid.holds.count)) in
            let taken : take (suc i) roots' ≡ take i roots ++ (made.location ∷ []) = ap (take (suc i)) put ∙ take-suc-set roots i (b.used - 1) (omega (arith, v.wide)) ∙ ap (λ (j : ℕ). take i roots ++ (j ∷ [])) place in
            let fits : leb (length made.heap) cells ≡ true = le-leb (length made.heap) cells (omega (arith, laid.holds.count, (input-grows e).1.0)) in
            record {
              left = w.others;
              heap = made.heap;
              holds = laid.holds;
              read = ap (λ j. many (value_at m P) (n - j) (bytes_from line b.next.at)) on ∙ ap (many (value_at m P) (n - suc i)) laid.ends ∙ w.then;
              same = q.same ∙ ap (λ (l : List Tree). put_inputs P cells i l q.heap (take i roots)) w.whole
                  ∙ ap (λ t. need t heap_spent (channel_frame P i) (put_inputs P cells (suc i) w.others made.heap (take i roots ++ (made.location ∷ [])))) fits
                  ∙ ap (put_inputs P cells (suc i) w.others made.heap) (sym taken) ∙ ap (λ j. put_inputs P cells j w.others made.heap (take j roots')) (sym on);
            };
      }

  -- the definition refuses this input
  input-refused : (P : File) {m : ℕ} {vs : List Tree} {rest : List ℕ} {h : List Cell} (q : PartPut P line cells n vs rest h m i next top words roots) → cells < length (build P (next-value P q).first q.heap).heap →
      put_inputs P cells 0 vs h [] ≡ no heap_spent (channel_frame P i)
  unfolding put_inputs need
  input-refused P q more =
      let w = next-value P q in
      let made = build P w.first q.heap in
      q.same ∙ ap (λ (l : List Tree). put_inputs P cells i l q.heap (take i roots)) w.whole
      ∙ ap (λ t. need t heap_spent (channel_frame P i) (put_inputs P cells (suc i) w.others made.heap (take i roots ++ (made.location ∷ [])))) (lt-leb (length made.heap) cells more)

-- the input of a value that has no room is the one handed on
pub input-full : {o : Laying} {e i : ℕ} → ◌≡◌ {A = Outcome Laid ℕ} (Err e) (ok_or o i) → o ≡ None → e ≡ i
input-full {o = Some b} q n = cc
input-full {o = None} q n = cc

full-is-not-used : {B : Type 0} {c n : ℕ} → Err c ≡ Ok n → B
full-is-not-used e = absurd (let z : ◌≡◌ {A = ℕ} 0 1 = cc in omega arith)

-- ---- the bytes of a line
-- as many values as there are inputs were read
values-read : (P : File) (k : ℕ) (cs : List ℕ) {vs : List Tree} → input_trees P (k ∷ cs) ≡ some vs → many (value_at (length cs) P) (length P.inputs) cs ≡ got vs []
unfolding input_trees chain when all_read_of
values-read P k cs {vs} e = kind (eqb k kind_input_line) e
  where
    all : (y : Read (List Tree)) → all_read_of y ≡ some vs → y ≡ got vs []
    all (got ws []) q = let same : ws ≡ vs = cc in ap (λ (l : List Tree). got l []) same
    all (got ws (b ∷ bs)) q = none-is-not-some q
    all (bad n) q = none-is-not-some q

    kind : (b : Bool) → chain (when b cs) (λ ds. all_read_of (many (value_at (length ds) P) (length P.inputs) ds)) ≡ some vs → many (value_at (length cs) P) (length P.inputs) cs ≡ got vs []
    kind true q = all (many (value_at (length cs) P) (length P.inputs) cs) q
    kind false q = none-is-not-some q

-- what stands behind the kind of the line
values-are : {line text index : List ℕ} {x : Number} {f : Found} {counts : Counts} {P : File} → ReadsNumber line 0 x (byte (bytes_from line 0)) × Below byte_range x → x ≡ Ok f → counts ≡ counts_in index → Indexed text index P →
    {vs : List Tree} → input_trees P (bytes_of line) ≡ some vs → many (value_at (bytes_left line f.next.at) P) counts.inputs (bytes_from line f.next.at) ≡ got vs []
values-are {line} {f = f} {P = P} v e told i q = rw (inputs-counted i told) (values-read P f.value (bytes_from line f.next.at) (rw (bytes-are line v e) at q))

module _ {line index : List ℕ} {cells used : ℕ} {words₀ roots₀ : List ℕ} {x : Number} (room : used ≤ cells) (v : ReadsNumber line 0 x (byte (bytes_from line 0)) × Below byte_range x) where
  pub values-none : {n : Refusal} → x ≡ Err n → ValuesLaid line index cells used words₀ roots₀ (Ok used) words₀ roots₀
  unfolding input_trees
  values-none e = record {
    says = λ text P i h hs wide q. none-is-not-some (ap (input_trees P) (sym (no_bytes (bytes_of line) (ap byte (sym (bytes-start line)) ∙ number-bad v.0 e))) ∙ q);
    kept = kept-none cells used words₀;
    high = λ q. refl;
    grown = within {n = used} (omega arith) room;
  }

  module _ {f : Found} (e : x ≡ Ok f) where
    pub values-start : {n : ℕ} → InputsTo line index cells used words₀ roots₀ n f.next 0 f.next used words₀ roots₀
    values-start {n} = record {
      on = moved_none (ends-within (number-moved v.0 e));
      kept = kept-none cells used words₀;
      untouched = refl;
      low = omega arith;
      high = room;
      wide = refl;
      others = refl;
      says = λ text P i h hs wide m {vs} read. let all : n ≡ n - 0 = omega arith in record { left = vs; heap = h; holds = hs; read = ap (λ j. many (value_at m P) j (bytes_from line f.next.at)) (sym all) ∙ read; same = refl };
    }

    module _ {counts : Counts} (told : counts ≡ counts_in index) where
      pub values-stop : {i top : ℕ} {next : Cursor} {words roots words' : List ℕ} {y : Laying} → InputsTo line index cells used words₀ roots₀ counts.inputs f.next i next top words roots → i < counts.inputs →
          Lays line index next.at cells top words y words' (λ n P. value_at n P) → y ≡ None → ValuesLaid line index cells used words₀ roots₀ (Err i) words' roots
      values-stop {i} w less u is-full = record {
        says = λ text P x h hs wide q.
            let count : counts.inputs ≤ length roots₀ = rw (inputs-counted x told) wide in
            let part = w.says text P x h hs count (bytes_left line f.next.at) (values-are v e told x q) in
            rw (input-refused w less u P part (full-more is-full (u.says text P x part.heap part.holds (bytes_left line f.next.at) (next-value w less u P part).read))) (put_full {c = i});
        kept = kept_then w.low w.kept u.kept;
        high = λ q. full-is-not-used q;
        grown = beyond;
      }

      pub values-laid : {i top : ℕ} {next : Cursor} {words roots : List ℕ} → InputsTo line index cells used words₀ roots₀ counts.inputs f.next i next top words roots → i ≤ counts.inputs → counts.inputs ≤ i →
          ValuesLaid line index cells used words₀ roots₀ (Ok top) words roots
      unfolding many put_inputs
      values-laid {i} {top} {next} {words} {roots} w low high = record {
        says = λ text P x h hs wide {vs} q.
            let count : counts.inputs ≤ length roots₀ = rw (inputs-counted x told) wide in
            let part = w.says text P x h hs count (bytes_left line f.next.at) (values-are v e told x q) in
            let none_left : counts.inputs - i ≡ 0 = omega arith in
            let ended = ap (λ j. many (value_at (bytes_left line f.next.at) P) j (bytes_from line next.at)) (sym none_left) ∙ part.read in
            let state : put_inputs P cells 0 vs h [] ≡ ok (record { heap = part.heap; roots = take i roots }) = part.same ∙ ap (λ (l : List Tree). put_inputs P cells i l part.heap (take i roots)) (sym (got-value ended)) in
            let as_many : length (take i roots) ≡ i = length-take-le i roots (omega (arith, w.wide)) in
            rw state (put_all {s = record { heap = part.heap; roots = take i roots }} part.holds
            (sym (take-append-drop i roots) ∙ ap (λ (l : List ℕ). take i roots ++ l) (w.others ∙ ap (λ j. drop j roots₀) (sym as_many))));
        kept = w.kept;
        high = λ {n = m} q. let same : top ≡ m = cc in rw (← same) w.untouched;
        grown = within w.low w.high;
      }

-- ---- the line
chain-when : {A : Type 0} (o : Option A) (test : A → Bool) {a : A} → chain o (λ b. when (test b) b) ≡ some a → o ≡ some a
unfolding chain when
chain-when {A} (some b) test {a} e = cases (test b) e
  where
    cases : (t : Bool) → when t b ≡ some a → some b ≡ some a
    cases true q = q
    cases false q = none-is-not-some q
chain-when none test e = none-is-not-some e

-- an allowed line is its values' text and LF
allowed-values : {text index : List ℕ} {P : File} → Indexed text index P → (line : List ℕ) {vs : List Tree} → line_trees P line ≡ some vs → input_trees P (bytes_of (take (length line - 1) line)) ≡ some vs
unfolding is_some
allowed-values {text} {index} {P} x line {vs} e = cases (line_end line 0) refl
  where
    one_line : (end : ℕ) → line_end line 0 ≡ Some end → (b : Bool) → eqb (length line - end) 1 ≡ b → input_trees P (bytes_of (take (length line - 1) line)) ≡ some vs
    one_line end q true h =
        let one = eqb-true (length line - end) 1 h in
        let place : length line - 1 ≡ end = omega arith in
        rw place (chain-when (input_trees P (bytes_of (take end line))) (λ ws. trees_fit P ws (input_types P)) (sym (line_read line refl q P one) ∙ e))
    one_line end q false h = false-is-not-true ((line-longer line index refl q (eqb-false (length line - end) 1 h)).says text P x ∙ ap is_some e)

    cases : (y : LineEnd) → line_end line 0 ≡ y → input_trees P (bytes_of (take (length line - 1) line)) ≡ some vs
    cases (Some end) q = one_line end q (eqb (length line - end) 1) refl
    cases None q = false-is-not-true ((line-bad line index refl q).says text P x ∙ ap is_some e)

pub inputs-none : {line index : List ℕ} {cells used : ℕ} {words roots : List ℕ} → used ≤ cells → length line ≡ 0 → InputsLaid line index cells used words roots (Ok used) words roots
unfolding input_trees bytes_of
inputs-none {line} {index} {cells} {used} {words} room empty = record {
  says = λ text P x h hs {vs} e. none-is-not-some (nothing P line empty (allowed-values x line e));
  kept = kept-none cells used words;
  high = λ q. refl;
  grown = within {n = used} (omega arith) room;
}
  where
    nothing : (P : File) (l : List ℕ) {vs : List Tree} → length l ≡ 0 → input_trees P (bytes_of (take (length l - 1) l)) ≡ some vs → none ≡ some vs
    nothing P [] z q = q
    nothing P (c ∷ l) z q = absurd (omega arith)

pub inputs-laid : {line part index : List ℕ} {cells used : ℕ} {words roots words' roots' : List ℕ} {r : Inputs} → part ≡ take (length line - 1) line → length roots ≡ channels_most →
    ValuesLaid part index cells used words roots r words' roots' → InputsLaid line index cells used words roots r words' roots'
inputs-laid {line} is wide u = record {
  says = λ text P x h hs e. u.says text P x h hs (omega (arith, wide, x.within.few_inputs)) (rw is (allowed-values x line e));
  kept = u.kept;
  high = u.high;
  grown = u.grown;
}
