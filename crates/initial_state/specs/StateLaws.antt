-- The words once all initial values are laid and the cells used are named.
use Rattle.std.specs.Prelude.{ℕ, ◌+◌, ◌-◌, ◌*◌, ◌≤◌, List, ◌≡◌, length, take, drop, set, replicate}
use Rattle.std.proofs.Common.{sym, ap, ◌∙◌, subst, arith, length-set, take_all, drop-set-lt, get_or-set_same}
use Rattle.std.proofs.lemmas.List.{length-replicate}
use Rattle.language.specs.Limits.{channels_most, cell_words}
use Rattle.language.specs.Syntax.{File}
use Rattle.language.specs.Layout.{state_length, all_zero}
use Rattle.theory.specs.Padding.{zeros-zero}
use Rattle.index.specs.declared.Counts.{Counts}
use Rattle.index.specs.Sections.{counts_in}
use Rattle.index.specs.Indexed.{Indexed}
use Rattle.state_words.specs.Holds.{Holds}
use Rattle.state_words.specs.HoldLaws.{holds-header}
use Rattle.state_words.specs.StateLaws.{HoldsState, held-words}
use Rattle.ends.specs.Told.{TellsInitials}
use Rattle.ends.specs.Initials.{initials-long}
use Rattle.initial_state.specs.Promises.{LaysState, AtStart, LaysInitials}
use Rattle.initial_state.specs.LayLaws.{zeros_of, zeros-back}

module _ {text index ends : List ℕ} (t : TellsInitials text index ends) (words : List ℕ) {words₀ : List ℕ} (cleared : words₀ ≡ replicate (length words) 0) {n : Counts} (are : n ≡ counts_in index) where
  at-start : {P : File} {cells : ℕ} → Indexed text index P → length words ≡ state_length cells → AtStart text index ends (n.inputs + n.nodes) words₀ P cells
  at-start {P} {cells} h board =
      let inputs : length P.inputs ≡ n.inputs = h.counted.input_count ∙ ap (λ (m : Counts). m.inputs) (sym are) in
      let nodes : length P.nodes ≡ n.nodes = h.counted.node_count ∙ ap (λ (m : Counts). m.nodes) (sym are) in
      let clear : words₀ ≡ replicate (state_length cells) 0 = cleared ∙ ap (λ m. replicate m 0) board in
      record {
        indexed = h;
        told = t.says P h;
        all = sym (initials-long h ∙ omega (arith, inputs, nodes));
        board = ap length clear ∙ length-replicate (state_length cells) 0;
        clear = clear;
      }

  -- the header's first word written last
  pub state-laid : {calls used : ℕ} {slots words₁ slots₁ words₂ : List ℕ} → LaysInitials text index ends (n.inputs + n.nodes) calls words₀ slots used words₁ slots₁ → words₂ ≡ set words₁ 0 used → LaysState text index calls words slots words₂ slots₁
  state-laid {calls} {used} {slots} {words₁} {slots₁} {words₂} l put = record {
    says = λ {P} {cells} {s} h board begins.
        let st = at-start h board in
        let laid = l.says st begins in
        let count = laid.heap.count in
        let long : length words₁ ≡ state_length cells = laid.long ∙ st.board in
        let fits : used ≤ cells = omega (arith, laid.heap.room, long) in
        let behind : drop (state_length used) words₁ ≡ zeros_of (cell_words * (cells - used)) = laid.beyond ∙ ap (drop (state_length used)) st.clear ∙ zeros-back (state_length used) (cell_words * (cells - used)) (state_length cells) (omega (arith, fits)) in
        let held : HoldsState cells (set words₁ 0 used) s = record {
          heap = subst (λ i. Holds (set words₁ 0 used) i s.heap) count (holds-header 0 used (omega arith) laid.heap);
          used = get_or-set_same words₁ 0 used 0 (omega (arith, long)) ∙ count;
          channels = ap (take channels_most) (drop-set-lt 1 words₁ 0 used (omega arith)) ∙ laid.channels;
          room = omega (arith, fits, count);
          lent = omega (arith, length-set words₁ 0 used, long);
          beyond = ap (λ i. all_zero (take (cell_words * (cells - i)) (drop (state_length i) (set words₁ 0 used)))) (sym count) ∙ ap (λ z. all_zero (take (cell_words * (cells - used)) z)) (drop-set-lt (state_length used) words₁ 0 used (omega arith) ∙ behind)
              ∙ ap all_zero (take_all (cell_words * (cells - used)) (zeros_of (cell_words * (cells - used))) (omega (arith, length-replicate {A = ℕ} (cell_words * (cells - used)) 0))) ∙ zeros-zero (cell_words * (cells - used));
        } in
        put ∙ sym (take_all (state_length cells) (set words₁ 0 used) (omega (arith, length-set words₁ 0 used, long))) ∙ held-words (set words₁ 0 used) held;
    long = l.long;
  }
