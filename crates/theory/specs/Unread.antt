-- "a longer buffer's rest is neither read nor written", and start "doesn't look at the old contents of the state": two states of one length
-- that agree in the board's words, for start in none, give one answer, and agree in these words afterwards.
use Rattle.std.specs.Prelude.{ℕ, ◌≤◌, List, ◌++◌, Bool, ◌≡◌, length, take, drop}
use Rattle.std.proofs.Math.Bool.{true, false}
use Rattle.std.proofs.Math.Option.{Option, none, some}
use Rattle.std.proofs.Math.Path.{refl, sym}
use Rattle.std.proofs.Common.{ap, ◌∙◌, subst, arith, take-append-drop}
use Rattle.language.specs.Refusals.{no_frame, not_lent, bad_input_line}
use Rattle.language.specs.Result.{Result, ok, no, bind, need, from}
use Rattle.language.specs.Syntax.{File}
use Rattle.language.specs.Within.{Within}
use Rattle.language.specs.Reader.{read_file}
use Rattle.language.specs.PlainTypes.{plain_types}
use Rattle.language.specs.Order.{orderly}
use Rattle.language.specs.Slide.{State}
use Rattle.language.specs.Layout.{state_length, state_words, load_state}
use Rattle.language.specs.Line.{line_trees}
use Rattle.language.specs.Machine.{Board, Record, lengths_lent, buffers_lent, start, iterate_state, iterate_file, iterated, iterate}
use Rattle.theory.specs.Lists.{none-is-not-some}
use Rattle.theory.specs.ReaderExact.{reader-forth}
use Rattle.theory.specs.StateWords.{state-loaded, state-load-back}
use Rattle.theory.specs.Room.{words-front}
use Rattle.theory.specs.FileIterates.{file-iterates-iff-rules}
use Rattle.theory.specs.FileAnswers.{state-lent}
use Rattle.theory.specs.LineAnswers.{after-room}

-- ---- a state is read from the board's words
module _ {P : File} (within : Within P) (cells : ℕ) where
  load_from : (v w : List ℕ) → take (state_length cells) v ≡ take (state_length cells) w → state_length cells ≤ length v → {s : State} → load_state P cells v ≡ some s → load_state P cells w ≡ some s
  load_from v w same long {s} e =
      let x = state-loaded within e in
      let front : take (state_length cells) w ≡ state_words cells s = sym same ∙ x.words long in
      let whole : state_words cells s ++ drop (state_length cells) w ≡ w = ap (λ l. l ++ drop (state_length cells) w) (sym front) ∙ take-append-drop (state_length cells) w in
      subst (λ l. load_state P cells l ≡ some s) whole (state-load-back within x.typed cells x.room (drop (state_length cells) w))

  pub load_same : (v w : List ℕ) → take (state_length cells) v ≡ take (state_length cells) w → state_length cells ≤ length v → state_length cells ≤ length w → load_state P cells v ≡ load_state P cells w
  load_same v w same long long' = by_both (load_state P cells v) refl (load_state P cells w) refl
    where
      by_both : (o : Option State) → load_state P cells v ≡ o → (p : Option State) → load_state P cells w ≡ p → o ≡ p
      by_both none d none e = refl
      by_both none d (some r) e = none-is-not-some (sym d ∙ load_from w v (sym same) long' e)
      by_both (some s) d p e = sym (load_from v w same long d) ∙ e

lent_same : (b : Board) (v w scratch slots : List ℕ) → length v ≡ length w → buffers_lent b v scratch slots ≡ buffers_lent b w scratch slots
unfolding lengths_lent
lent_same b v w scratch slots long = rw long

-- ---- start
pub start-reads-no-state : (t : List ℕ) (b : Board) (list : List Record) (v w scratch slots : List ℕ) → length v ≡ length w →
    ((start t b list v scratch slots).answer ≡ (start t b list w scratch slots).answer) × ((start t b list v scratch slots).list ≡ (start t b list w scratch slots).list)
unfolding start
start-reads-no-state t b list v w scratch slots long = rw (lent_same b v w scratch slots long) (refl, refl)

-- ---- iterate
module _ (t : List ℕ) (b : Board) (v w scratch slots line : List ℕ) (long : length v ≡ length w) (same : take (state_length b.cells) v ≡ take (state_length b.cells) w) where
  -- an iteration from where what is lent is tested
  abbrev lent_run : File → Bool → List ℕ → Result State
  lent_run P lent ws = need lent not_lent no_frame (from (load_state P b.cells ws) not_lent no_frame (λ s. from (line_trees P line) bad_input_line no_frame (λ vs. iterate_state P b s vs)))

  file-same : (lent : Bool) → buffers_lent b v scratch slots ≡ lent → iterate_file t b lent v line ≡ iterate_file t b lent w line
  unfolding iterate_file bind need from
  file-same lent is = by_read (read_file t) refl
    where
      by-lent : (P : File) → Within P → (lent : Bool) → buffers_lent b v scratch slots ≡ lent →
          lent_run P lent v ≡ lent_run P lent w
      by-lent P within false e = refl
      by-lent P within true e = let enough = state-lent b v scratch slots e in rw (load_same within b.cells v w same enough (omega arith))

      by_read : (r : Result File) → read_file t ≡ r →
          bind r (λ P. plain_types P (orderly P (lent_run P lent v))) ≡ bind r (λ P. plain_types P (orderly P (lent_run P lent w)))
      by_read (no n frame) e = refl
      by_read (ok P) e = ap (λ x. plain_types P (orderly P x)) (by-lent P (reader-forth t P e).within lent is)

  by_result : (r : Result State) → iterate_file t b (buffers_lent b v scratch slots) v line ≡ r →
      ((iterated r b.cells v scratch slots).answer ≡ (iterated r b.cells w scratch slots).answer) ×
      (take (state_length b.cells) (iterated r b.cells v scratch slots).state ≡ take (state_length b.cells) (iterated r b.cells w scratch slots).state)
  unfolding iterated
  by_result (ok s) e =
      let room = after-room t b v scratch slots line s ((file-iterates-iff-rules t b (buffers_lent b v scratch slots) v line s).0 e) in
      (refl, words-front b.cells s v room ∙ sym (words-front b.cells s w room))
  by_result (no n frame) e = (refl, same)

  pub iterate-reads-the-board : ((iterate t b v scratch slots line).answer ≡ (iterate t b w scratch slots line).answer) ×
      (take (state_length b.cells) (iterate t b v scratch slots line).state ≡ take (state_length b.cells) (iterate t b w scratch slots line).state)
  unfolding iterate
  iterate-reads-the-board = rw (← (lent_same b v w scratch slots long), ← (file-same (buffers_lent b v scratch slots) refl)) (by_result _ refl)
