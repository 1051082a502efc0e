-- An iteration with the board's words lent, return by return.
use Rattle.std.specs.Prelude.{ℕ, ◌≤◌, ◌<◌, Bool, true, false, ◌≡◌}
use mathlib.Core.List.{List}
use Rattle.std.proofs.Math.Path.{refl, ap}
use Rattle.std.proofs.Common.{sym, ◌∙◌, arith}
use Rattle.std.proofs.Math.ListN.{length, replicate}
use borrow.Author.Tests.{le-leb}
use Rattle.language.specs.Refusals.{no_frame, not_lent, bad_input_line}
use Rattle.language.specs.Result.{Result, from, both}
use Rattle.language.specs.Syntax.{File, channel_frame}
use Rattle.language.specs.Heap.{Tree}
use Rattle.language.specs.Slide.{State}
use Rattle.language.specs.Layout.{state_length, load_state}
use Rattle.language.specs.Line.{line_trees}
use Rattle.language.specs.Machine.{Board, iterate_state}
use Rattle.theory.specs.FrameNumbers.{channel_total}
use Rattle.theory.specs.IterationAgrees.{refused-iff-rules, iteration-numbered}
use Rattle.theory.specs.StateWords.{state-loaded}
use Rattle.theory.specs.LineExact.{line-forth-exact, inputs-count}
use Rattle.text_lines.specs.Lines.{is_some}
use Rattle.heads.specs.Places.{channel-line}
use Rattle.index.specs.Indexed.{Indexed}
use Rattle.node_order.specs.NextLaws.{readings-gathered}
use Rattle.state_words.specs.StateLaws.{loaded-held}
use Rattle.cell_check.specs.CellLaws.{some_of, none_of}
use Rattle.state_check.specs.Loads.{StateJudged}
use Rattle.input_line.specs.Judges.{LineJudged}
use Rattle.std.specs.Prelude.{Err}
use Rattle.language.specs.declared.refusals.Refusal.TheVariants.{NotLent, BadInputLine}
use Rattle.language.specs.RefusalNumbers.{number_of}
use Rattle.iteration.specs.Promises.{Updated}
use Rattle.iteration.specs.Whole.{Begun, Given, AgreesIteration, is_done, is_refused, IteratesState}
use Rattle.runtime.specs.Runs.{frame_at, Answered, reached, Told, told_done, told_refused, Lent, IteratesLent}

-- the frame of a channel is found by the index
frame_found : {text index : List ℕ} {P : File} (c : ℕ) → Indexed text index P → c < channel_total P → frame_at index c ≡ channel_frame P c
frame_found c x less = omega (arith, channel-line c x less)

-- what an iteration answered
told-by : {text index ends readings line : List ℕ} {cells : ℕ} {words : List ℕ} {P : File} (b : Board) {s : State} {vs : List Tree} {words₂ : List ℕ} {x : Updated} {o : Result State} {r : Answered} → Given text index ends readings line cells words P s vs → iterate_state P b s vs ≡ o →
    AgreesIteration P cells words words₂ x o → r ≡ reached index x → Told cells words r words₂ o
told-by b g e (is_done w) q = rw q (told_done w)
told-by {line = line} {P = P} b {s} {vs} g e (is_refused {e = why} w) q =
    let fit = (line-forth-exact P line vs g.allowed).1 in
    let met = (refused-iff-rules g.plain b (state-loaded g.indexed.within g.loaded).typed vs fit (number_of why.refusal) (channel_frame P why.channel)).0 e in
    let below = (iteration-numbered vs (omega (arith, inputs-count P vs fit)) met).to_last in
    rw (q, frame_found why.channel g.indexed (omega (arith, below))) (told_refused {e = record { refusal = why.refusal; frame = channel_frame P why.channel }} w)

module _ (text index ends readings line : List ℕ) (cells calls : ℕ) (words scratch slots : List ℕ) (l : Lent text index ends readings cells words scratch) {given : Bool} {scratch₁ : List ℕ} (v : StateJudged index words cells scratch given scratch₁) where
  -- enough is lent, so the test is whether there is a state
  valid-is : {P : File} → Indexed text index P → given ≡ is_some (load_state P cells words)
  unfolding both
  valid-is {P} x =
      let wide : state_length cells ≤ length words = omega (arith, l.board) in
      v.says text P x l.clean.is ∙ rw (le-leb _ _ wide, le-leb _ _ l.room) refl

  same : scratch₁ ≡ scratch
  same = v.none l.clean.is

  pub state-refused : given ≡ false → IteratesLent text index line cells calls words scratch slots (Err (record { refusal = NotLent; frame = no_frame })) words scratch₁ slots
  unfolding from
  state-refused d = record {
    says = λ {P} x well. rw (none_of (load_state P cells words) (sym (valid-is x) ∙ d)) (told_refused {e = record { refusal = NotLent; frame = no_frame }} refl);
    clean = same;
    long = refl;
  }

  module _ (valid : given ≡ true) where
    pub begun : Begun index words cells
    begun = some_of (load_state l.file cells words) (sym (valid-is l.indexed) ∙ valid) _ (λ s loads.
        let h = loaded-held l.indexed.within (omega (arith, l.board)) loads in
        let c = l.indexed.counted in
        let w = l.indexed.within in
        record { board = l.board; most = l.most; used = omega (arith, h.used, h.room); few = record { few = omega (arith, c.input_count, c.node_count, w.few_inputs, w.few_nodes) } })

    pub scratch-room : cells ≤ length scratch₁
    scratch-room = omega (arith, l.room, ap length same)

    module _ {allowed : Bool} (a : LineJudged line index allowed) where
      pub line_refused : allowed ≡ false → IteratesLent text index line cells calls words scratch slots (Err (record { refusal = BadInputLine; frame = no_frame })) words scratch₁ slots
      unfolding from
      line_refused d = record {
        says = λ {P} x well. some_of (load_state P cells words) (sym (valid-is x) ∙ valid) _ (λ s loads. rw (loads, none_of (line_trees P line) (sym (a.says text P x) ∙ d)) (told_refused {e = record { refusal = BadInputLine; frame = no_frame }} refl));
        clean = same;
        long = refl;
      }

      pub lent-iterated : {x : Updated} {words₂ scratch₂ slots₂ : List ℕ} {r : Answered} → allowed ≡ true → IteratesState text index ends readings line cells calls words scratch₁ slots x words₂ scratch₂ slots₂ → r ≡ reached index x →
          IteratesLent text index line cells calls words scratch slots r words₂ scratch₂ slots₂
      unfolding from
      lent-iterated {x} good w q =
          let zero : scratch₁ ≡ replicate (length scratch₁) 0 = same ∙ l.clean.is ∙ ap (λ (z : List ℕ). replicate (length z) 0) (sym same) in
          record {
            says = λ {P} i well. some_of (load_state P cells words) (sym (valid-is i) ∙ valid) _ (λ s loads. some_of (line_trees P line) (sym (a.says text P i) ∙ good) _ (λ vs reads.
                let g : Given text index ends readings line cells words P s vs = record { indexed = i; told = l.ends_told.says P i; gathered = readings-gathered i l.readings_told; plain = well; loaded = loads; allowed = reads } in rw (loads, reads) (told-by _ g refl (w.says g zero) q)));
            clean = w.clean zero ∙ same;
            long = w.long;
          }
