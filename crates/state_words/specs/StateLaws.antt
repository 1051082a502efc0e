-- A whole state in words: what its words say, and that words that say it are the definition's. For whoever starts, loads or leaves a
-- state.
use Rattle.std.specs.Prelude.{ℕ, suc, ◌+◌, ◌-◌, ◌*◌, ◌≤◌, List, [], ◌∷◌, ◌++◌, true, ◌≡◌, refl, length, take, drop, replicate}
use Rattle.std.proofs.Common.{append_assoc, sym, ap, ◌∙◌, arith, length-drop, take-append-drop, take_at, drop_at, take-add, drop-drop, length-take-le}
use Rattle.std.proofs.Math.Option.{some}
use Rattle.std.proofs.lemmas.List.{length-replicate}
use Rattle.language.specs.Limits.{channels_most, header_words, cell_words}
use Rattle.language.specs.Syntax.{File}
use Rattle.language.specs.Within.{All, Within}
use Rattle.language.specs.Format.{spell_all}
use Rattle.language.specs.Slide.{State}
use Rattle.language.specs.Layout.{padded, words_of, state_length, state_words, all_zero, load_state}
use Rattle.language.specs.Machine.{written}
use Rattle.theory.specs.Padding.{zeros-zero, zero-is-zeros, padded-length}
use Rattle.theory.specs.CellWords.{Writable}
use Rattle.theory.specs.HeapWords.{heap-words-length}
use Rattle.theory.specs.Reaches.{Linked}
use Rattle.theory.specs.TypedStates.{holds-linked}
use Rattle.theory.specs.StateWritable.{state-writable}
use Rattle.theory.specs.StateWords.{state-loaded}
use Rattle.state_words.specs.Words.{used_in}
use Rattle.state_words.specs.WriteLaws.{drop_of_take}
use Rattle.state_words.specs.Holds.{Holds}

-- on a board of so many cells
pub record HoldsState (cells : ℕ) (words : List ℕ) (s : State) : Type 0 where
  pub heap : Holds words (length s.heap) s.heap
  pub used : used_in words ≡ length s.heap
  pub channels : take channels_most (drop 1 words) ≡ padded channels_most s.roots
  pub room : length s.heap ≤ cells
  pub lent : state_length cells ≤ length words
  pub beyond : all_zero (take (cell_words * (cells - length s.heap)) (drop (state_length (length s.heap)) words)) ≡ true

-- ---- the words are the definition's
pub held-words : {cells : ℕ} (words : List ℕ) {s : State} → HoldsState cells words s → take (state_length cells) words ≡ state_words cells s
unfolding state_words
held-words [] v = absurd (omega (arith, v.lent))
held-words {cells} (w ∷ ws) {s} v =
    let count = length s.heap in
    let free = cell_words * (cells - count) in
    let after = drop channels_most ws in
    let rest = drop (cell_words * count) after in
    let split : state_length cells ≡ suc (channels_most + (cell_words * count + free)) = omega (arith, v.room) in
    let heap : take (cell_words * count) after ≡ spell_all words_of s.heap = sym (drop_of_take header_words (cell_words * count) (w ∷ ws)) ∙ v.heap.is in
    let place : drop (state_length count) (w ∷ ws) ≡ rest = sym (drop-drop (cell_words * count) header_words (w ∷ ws)) in
    let clear : all_zero (take free rest) ≡ true = ap (λ x. all_zero (take free x)) (sym place) ∙ v.beyond in
    let long : length (take free rest) ≡ free = length-take-le free rest (omega (arith, v.room, v.lent, length-drop (cell_words * count) after, length-drop channels_most ws)) in
    let zeros : take free rest ≡ replicate free 0 = zero-is-zeros (take free rest) clear ∙ ap (λ n. replicate n 0) long in
    rw (split, v.used, take-add channels_most (cell_words * count + free) ws, take-add (cell_words * count) free after, v.channels, heap, zeros)

pub held-written : {cells : ℕ} (words words₀ : List ℕ) {s : State} → HoldsState cells words s → drop (state_length cells) words ≡ drop (state_length cells) words₀ → words ≡ written cells s words₀
unfolding written
held-written {cells} words words₀ {s} v e = sym (take-append-drop (state_length cells) words) ∙ rw (held-words words v, e)

-- ---- what the definition's words say
pub words-held : {cells : ℕ} (words : List ℕ) {s : State} → length s.heap ≤ cells → state_length cells ≤ length words → take (state_length cells) words ≡ state_words cells s → HoldsState cells words s
unfolding state_words
words-held {cells} words {s} room lent e =
    let count = length s.heap in
    let roots = padded channels_most s.roots in
    let heap = spell_all words_of s.heap in
    let zeros : List ℕ = replicate (cell_words * (cells - count)) 0 in
    let rest = drop (state_length cells) words in
    let header : List ℕ = count ∷ roots in
    let whole : words ≡ (header ++ (heap ++ zeros)) ++ rest = sym (take-append-drop (state_length cells) words) ∙ ap (λ (x : List ℕ). x ++ rest) e in
    let parts : words ≡ header ++ (heap ++ (zeros ++ rest)) = whole ∙ append_assoc header (heap ++ zeros) rest ∙ ap (λ (x : List ℕ). header ++ x) (append_assoc heap zeros rest) in
    let wide : length header ≡ header_words = omega (arith, padded-length channels_most s.roots) in
    let long : length heap ≡ cell_words * count = heap-words-length s.heap in
    let behind : drop header_words words ≡ heap ++ (zeros ++ rest) = ap (drop header_words) parts ∙ drop_at header (heap ++ (zeros ++ rest)) header_words wide in
    let free : length zeros ≡ cell_words * (cells - count) = length-replicate (cell_words * (cells - count)) 0 in
    record {
      heap = record { count = refl; room = omega arith; is = drop_of_take header_words (cell_words * count) words ∙ ap (take (cell_words * count)) behind ∙ take_at heap (zeros ++ rest) (cell_words * count) long };
      used = ap used_in parts;
      channels = ap (λ x. take channels_most (drop 1 x)) parts ∙ take_at roots (heap ++ (zeros ++ rest)) channels_most (padded-length channels_most s.roots);
      room = room;
      lent = lent;
      beyond = ap (λ x. all_zero (take (cell_words * (cells - count)) x)) (sym (drop-drop (cell_words * count) header_words words) ∙ ap (drop (cell_words * count)) behind ∙ drop_at heap (zeros ++ rest) (cell_words * count) long)
          ∙ ap all_zero (take_at zeros rest (cell_words * (cells - count)) free) ∙ zeros-zero (cell_words * (cells - count));
    }

-- ---- a state that is loaded is held
pub loaded-held : {P : File} {cells : ℕ} {words : List ℕ} {s : State} → Within P → state_length cells ≤ length words → load_state P cells words ≡ some s → HoldsState cells words s
loaded-held {words = words} within lent e = let r = state-loaded within e in words-held words r.room lent (r.words lent)

-- its cells are of the file, each names lower ones, and each channel one of them
pub loaded-writable : {P : File} (cells : ℕ) (words : List ℕ) {s : State} → Within P → load_state P cells words ≡ some s → All (Writable P) s.heap
loaded-writable cells words within e = state-writable within (state-loaded within e).typed

pub loaded-linked : {P : File} (cells : ℕ) (words : List ℕ) {s : State} → Within P → load_state P cells words ≡ some s → Linked s
loaded-linked cells words within e = holds-linked (state-loaded within e).typed.holds
