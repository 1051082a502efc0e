-- A state in words and back: a state of the file is loaded from its words, and words that hold a state are that state's. Boards of more or fewer cells.
use Rattle.std.specs.Prelude.{ℕ, zero, suc, ◌+◌, ◌-◌, ◌*◌, ◌≤◌, List, [], ◌∷◌, ◌++◌, true, ◌≡◌, refl, length, get_or, take, drop, replicate, leb}
use Rattle.std.proofs.Common.{append_assoc, sym, ap, ◌∙◌, arith, length-append, length-drop, take_at, drop_at, take-add, drop-drop, length-take-le, take-take, le-leb, leb-true}
use Rattle.std.proofs.Math.Option.{some}
use Rattle.std.proofs.lemmas.List.{length-replicate, take-append-le}
use Rattle.language.specs.Limits.{channels_most, header_words, cell_words}
use Rattle.language.specs.Result.{both, when, chain, choose}
use Rattle.language.specs.Syntax.{File, declared_types}
use Rattle.language.specs.Within.{Within}
use Rattle.language.specs.Format.{spell_all}
use Rattle.language.specs.Slide.{State}
use Rattle.language.specs.Layout.{padded, words_of, state_length, state_words, all_zero, cells_of_words, state_of_words, state_right, load_state}
use Rattle.theory.specs.Lists.{both_left, both_right}
use Rattle.theory.specs.Tests.{Whenever, w_some, w_none, whenever, whenever-chain, whenever-when, whenever-is}
use Rattle.theory.specs.HeapValues.{env-length}
use Rattle.theory.specs.TypedStates.{StateTyped}
use Rattle.theory.specs.StateRight.{typed-right, right-typed}
use Rattle.theory.specs.Choices.{whenever-choose}
use Rattle.theory.specs.Padding.{zeros-zero, zero-is-zeros, zero-joined, zero-fewer, padded-length, padded-front, padded-rest, filled-up}
use Rattle.theory.specs.StateWritable.{channels-few, state-writable}
use Rattle.theory.specs.HeapWords.{heap-words-length, cells-read-back, cells-read}

-- ---- as many words as the board lends
pub state-words-length : (cells : ℕ) (s : State) → length s.heap ≤ cells → length (state_words cells s) ≡ state_length cells
unfolding state_words
state-words-length cells s room =
    let header = length s.heap ∷ padded channels_most s.roots in
    let zeros : List ℕ = replicate (cell_words * (cells - length s.heap)) 0 in
    let clear : length zeros ≡ cell_words * (cells - length s.heap) = length-replicate (cell_words * (cells - length s.heap)) 0 in
    omega (arith, length-append header (spell_all words_of s.heap ++ zeros), length-append (spell_all words_of s.heap) zeros, padded-length channels_most s.roots, heap-words-length s.heap)

-- ---- what the words say of the state that they are laid out as
pub record LaidOut (P : File) (cells : ℕ) (ws : List ℕ) (s : State) : Type 0 where
  pub used : get_or ws 0 0 ≡ length s.heap
  pub room : length s.heap ≤ cells
  pub roots : take (length (declared_types P)) (drop 1 ws) ≡ s.roots
  pub unused : all_zero (drop (length (declared_types P)) (take channels_most (drop 1 ws))) ≡ true
  pub heap : cells_of_words P (length s.heap) (drop header_words ws) ≡ some s.heap
  pub rest : all_zero (take (cell_words * (cells - length s.heap)) (drop (state_length (length s.heap)) ws)) ≡ true

laid-out-read : {P : File} {cells : ℕ} {ws : List ℕ} {s : State} → LaidOut P cells ws s → state_of_words P cells ws ≡ some s
unfolding state_of_words choose both chain
laid-out-read {P} {cells} {ws} {s} o = rw (o.used, le-leb (length s.heap) cells o.room, o.unused, o.rest, o.heap, o.roots)

read-laid-out : (P : File) (cells : ℕ) (ws : List ℕ) → Whenever (LaidOut P cells ws) (state_of_words P cells ws)
unfolding state_of_words
read-laid-out P cells ws = whenever-choose _ (λ clear. whenever-chain (whenever (cells_of_words P (get_or ws 0 0) (drop header_words ws))) (λ h e.
    let count : length h ≡ get_or ws 0 0 = (whenever-is (cells-read P (get_or ws 0 0) (drop header_words ws)) e).count in
    let zero = both_right (leb (get_or ws 0 0) cells) _ clear in
    w_some (record {
      used = sym count;
      room = omega (arith, leb-true (get_or ws 0 0) cells (both_left _ _ clear));
      roots = refl;
      unused = both_left _ _ zero;
      heap = rw count e;
      rest = rw count (both_right _ _ zero);
    }))) (λ dirty. w_none)

-- ---- from the state's words
written-laid-out : {P : File} {s : State} → Within P → StateTyped P s → (cells : ℕ) → length s.heap ≤ cells → (rest : List ℕ) → LaidOut P cells (state_words cells s ++ rest) s
unfolding state_words
written-laid-out {P} {s} within t cells room rest =
    let count = length s.heap in
    let roots = padded channels_most s.roots in
    let heap = spell_all words_of s.heap in
    let zeros : List ℕ = replicate (cell_words * (cells - count)) 0 in
    let after : List ℕ = heap ++ (zeros ++ rest) in
    let apart : (roots ++ (heap ++ zeros)) ++ rest ≡ roots ++ after = append_assoc roots (heap ++ zeros) rest ∙ ap (λ x. roots ++ x) (append_assoc heap zeros rest) in
    let words : state_words cells s ++ rest ≡ count ∷ (roots ++ after) = ap (λ x. count ∷ x) apart in
    let channels : length s.roots ≡ length (declared_types P) = env-length t.holds.channels in
    let few : length s.roots ≤ channels_most = omega (arith, channels-few within) in
    let size : length roots ≡ channels_most = padded-length channels_most s.roots in
    let beyond : drop channels_most (roots ++ after) ≡ after = drop_at roots after channels_most size in
    let further : drop (state_length count) (count ∷ (roots ++ after)) ≡ zeros ++ rest =
    sym (drop-drop (cell_words * count) header_words (count ∷ (roots ++ after))) ∙ ap (drop (cell_words * count)) beyond ∙ drop_at heap (zeros ++ rest) (cell_words * count) (heap-words-length s.heap) in
    let clear : take (cell_words * (cells - count)) (zeros ++ rest) ≡ zeros = take_at zeros rest (cell_words * (cells - count)) (length-replicate (cell_words * (cells - count)) 0) in
    record {
      used = refl;
      room = room;
      roots = rw (words, ← channels, take-append-le (length s.roots) roots after (omega arith)) (padded-front channels_most s.roots few);
      unused = rw (words, ← channels, take_at roots after channels_most size) (padded-rest channels_most s.roots few);
      heap = rw (words, beyond) (cells-read-back (state-writable within t) (zeros ++ rest));
      rest = rw (words, further, clear) (zeros-zero (cell_words * (cells - count)));
    }

pub state-read-back : {P : File} {s : State} → Within P → StateTyped P s → (cells : ℕ) → length s.heap ≤ cells → (rest : List ℕ) → state_of_words P cells (state_words cells s ++ rest) ≡ some s
state-read-back within t cells room rest = laid-out-read (written-laid-out within t cells room rest)

pub state-load-back : {P : File} {s : State} → Within P → StateTyped P s → (cells : ℕ) → length s.heap ≤ cells → (rest : List ℕ) → load_state P cells (state_words cells s ++ rest) ≡ some s
unfolding load_state chain when
state-load-back within t cells room rest = rw (state-read-back within t cells room rest, typed-right t)

-- ---- from any words
laid-out-words : {P : File} {cells : ℕ} (ws : List ℕ) {s : State} → Within P → LaidOut P cells ws s → state_length cells ≤ length ws → take (state_length cells) ws ≡ state_words cells s
unfolding state_words
laid-out-words [] within o long = absurd (omega arith)
laid-out-words {P} {cells} (w ∷ ws) {s} within o long =
    let count = length s.heap in
    let channels = length (declared_types P) in
    let free = cell_words * (cells - count) in
    let after = drop channels_most ws in
    let beyond : List ℕ = drop (cell_words * count) after in
    let split : state_length cells ≡ suc (channels_most + (cell_words * count + free)) = omega (arith, o.room) in
    let enough : length after ≡ length ws - channels_most = length-drop channels_most ws in
    let roots : take channels_most ws ≡ padded channels_most s.roots =
    sym (filled-up channels_most channels (take channels_most ws) (length-take-le channels_most ws (omega arith)) o.unused)
    ∙ ap (padded channels_most) (take-take channels channels_most ws (channels-few within) ∙ o.roots) in
    let heap : take (cell_words * count) after ≡ spell_all words_of s.heap = (whenever-is (cells-read P count after) o.heap).words (omega arith) in
    let place : drop (state_length count) (w ∷ ws) ≡ beyond = sym (drop-drop (cell_words * count) header_words (w ∷ ws)) in
    let clear : all_zero (take free beyond) ≡ true = ap (λ x. all_zero (take free x)) (sym place) ∙ o.rest in
    let all_there : length (take free beyond) ≡ free = length-take-le free beyond (omega (arith, o.room, length-drop (cell_words * count) after)) in
    let zeros : take free beyond ≡ replicate free 0 = zero-is-zeros (take free beyond) clear ∙ ap (λ n. replicate n 0) all_there in
    rw (split, o.used, take-add channels_most (cell_words * count + free) ws, take-add (cell_words * count) free after, roots, heap, zeros)

-- what a loaded state is
pub record Loaded (P : File) (cells : ℕ) (ws : List ℕ) (s : State) : Type 0 where
  pub typed : StateTyped P s
  pub right : state_right P s ≡ true
  pub room : length s.heap ≤ cells
  pub words : state_length cells ≤ length ws → take (state_length cells) ws ≡ state_words cells s

pub loaded-laid-out : (P : File) (cells : ℕ) (ws : List ℕ) → Whenever (λ s. LaidOut P cells ws s × (state_right P s ≡ true)) (load_state P cells ws)
unfolding load_state
loaded-laid-out P cells ws = whenever-chain (read-laid-out P cells ws) (λ s o. whenever-when (state_right P s) s (λ e. (o, e)))

laid-out-loaded : {P : File} {cells : ℕ} {ws : List ℕ} {s : State} → LaidOut P cells ws s → state_right P s ≡ true → load_state P cells ws ≡ some s
unfolding load_state chain when
laid-out-loaded o e = rw (laid-out-read o, e)

pub state-loaded : {P : File} {cells : ℕ} {ws : List ℕ} {s : State} → Within P → load_state P cells ws ≡ some s → Loaded P cells ws s
state-loaded {P} {cells} {ws} {s} within e =
    let r = whenever-is (loaded-laid-out P cells ws) e in
    record { typed = right-typed P s r.1; right = r.1; room = r.0.room; words = laid-out-words ws within r.0 }

-- ---- boards of more and of fewer cells
pub load-on-more : (P : File) (ws : List ℕ) {m n : ℕ} {s : State} → m ≤ n → all_zero (take (cell_words * (n - m)) (drop (state_length m) ws)) ≡ true → load_state P m ws ≡ some s → load_state P n ws ≡ some s
load-on-more P ws {m} {n} {s} le clear e =
    let r = whenever-is (loaded-laid-out P m ws) e in
    let o = r.0 in
    let count = length s.heap in
    let rest = drop (state_length count) ws in
    let more : cell_words * (n - count) ≡ cell_words * (m - count) + cell_words * (n - m) = omega (arith, o.room) in
    let place : state_length count + cell_words * (m - count) ≡ state_length m = omega (arith, o.room) in
    laid-out-loaded (record {
      used = o.used;
      room = omega (arith, o.room);
      roots = o.roots;
      unused = o.unused;
      heap = o.heap;
      rest = rw (more, take-add (cell_words * (m - count)) (cell_words * (n - m)) rest, drop-drop (cell_words * (m - count)) (state_length count) ws, place)
          (zero-joined (take (cell_words * (m - count)) rest) (take (cell_words * (n - m)) (drop (state_length m) ws)) o.rest clear);
    }) r.1

pub load-on-fewer : (P : File) (ws : List ℕ) {m n : ℕ} {s : State} → m ≤ n → length s.heap ≤ m → load_state P n ws ≡ some s → load_state P m ws ≡ some s
load-on-fewer P ws {m} {n} {s} le room e =
    let r = whenever-is (loaded-laid-out P n ws) e in
    let o = r.0 in
    let count = length s.heap in
    laid-out-loaded (record {
      used = o.used;
      room = room;
      roots = o.roots;
      unused = o.unused;
      heap = o.heap;
      rest = zero-fewer (cell_words * (m - count)) (cell_words * (n - count)) (drop (state_length count) ws) (omega arith) o.rest;
    }) r.1
