-- Refusals, for every text, state, line, board and lengths: "A refusal leaves the state unchanged; scratch, slots and instance list
-- end zero." A call is refused where its answer's number is not 0, and only there. Scratch and slots end zero on acceptance too.
use Rattle.std.specs.Prelude.{ℕ, List, Bool, ◌≡◌, length, replicate}
use Rattle.std.proofs.Math.Path.{refl}
use Rattle.std.proofs.Common.{sym, ap, ◌∙◌, arith}
use Rattle.language.specs.Result.{Result, ok, no}
use Rattle.language.specs.Slide.{State}
use Rattle.language.specs.Machine.{Board, Record, empty_record, Answer, Verdict, accepted, done, refusal, short, answer, Accepted, judged, verdict_of, final_list, check, written, start_words, buffers_lent, zeros, start, iterate_file, iterated, iterate}
use Rattle.language.specs.Answers.{Refused}
use Rattle.language.specs.Run.{Reported}
use Rattle.theory.specs.Judged.{judge-zero}
use Rattle.theory.specs.RefusalNumbers.{CheckRefusal, check-refusals}
use Rattle.theory.specs.FileIterates.{iterate-refusals}

-- ---- check
refused_list : (v : Verdict) (r : Result Accepted) (n : ℕ) → Refused (answer v) → final_list v r n ≡ replicate n empty_record
unfolding answer final_list
refused_list (accepted x) r n is = absurd (is refl)
refused_list done r n is = absurd (is refl)
refused_list (refusal m frame) r n is = refl
refused_list (short m x) r n is = refl

pub refused-check-clears-list : (t : List ℕ) (b : Board) (list : List Record) → Refused (check t b list).answer → (check t b list).list ≡ replicate (length list) empty_record
unfolding check
refused-check-clears-list t b list is = refused_list (verdict_of b _) _ (length list) is

-- ---- start
refused-words : (v : Verdict) (r : Result Accepted) (cells : ℕ) (ws : List ℕ) → Refused (answer v) → start_words v r cells ws ≡ ws
unfolding answer start_words
refused-words (accepted x) r cells ws is = absurd (is refl)
refused-words done r cells ws is = absurd (is refl)
refused-words (refusal m frame) r cells ws is = refl
refused-words (short m x) r cells ws is = refl

module _ (t : List ℕ) (b : Board) (list : List Record) (state scratch slots : List ℕ) where
  pub refused-start-clears-list : Refused (start t b list state scratch slots).answer → (start t b list state scratch slots).list ≡ replicate (length list) empty_record
  unfolding start
  refused-start-clears-list is = refused_list (verdict_of b _) _ (length list) is

  pub refused-start-keeps-state : Refused (start t b list state scratch slots).answer → (start t b list state scratch slots).state ≡ state
  unfolding start
  refused-start-keeps-state is = refused-words (verdict_of b _) _ b.cells state is

  pub start-clears-scratch : (start t b list state scratch slots).scratch ≡ zeros scratch
  unfolding start
  start-clears-scratch = refl

  pub start-clears-slots : (start t b list state scratch slots).slots ≡ zeros slots
  unfolding start
  start-clears-slots = refl

-- ---- iterate
module _ (cells : ℕ) (state scratch slots : List ℕ) where
  refused_state : (r : Result State) → Refused (iterated r cells state scratch slots).answer → (iterated r cells state scratch slots).state ≡ state
  unfolding iterated answer
  refused_state (ok s) is = absurd (is refl)
  refused_state (no n frame) is = refl

  cleared-scratch : (r : Result State) → (iterated r cells state scratch slots).scratch ≡ zeros scratch
  unfolding iterated
  cleared-scratch (ok s) = refl
  cleared-scratch (no n frame) = refl

  cleared-slots : (r : Result State) → (iterated r cells state scratch slots).slots ≡ zeros slots
  unfolding iterated
  cleared-slots (ok s) = refl
  cleared-slots (no n frame) = refl

module _ (t : List ℕ) (b : Board) (state scratch slots line : List ℕ) where
  pub refused-iterate-keeps-state : Refused (iterate t b state scratch slots line).answer → (iterate t b state scratch slots line).state ≡ state
  unfolding iterate
  refused-iterate-keeps-state is = refused_state b.cells state scratch slots _ is

  pub iterate-clears-scratch : (iterate t b state scratch slots line).scratch ≡ zeros scratch
  unfolding iterate
  iterate-clears-scratch = cleared-scratch b.cells state scratch slots _

  pub iterate-clears-slots : (iterate t b state scratch slots line).slots ≡ zeros slots
  unfolding iterate
  iterate-clears-slots = cleared-slots b.cells state scratch slots _

-- ---- a call that answers 0 was not refused
verdict-zero : {t : List ℕ} (b : Board) (o : Result Accepted) → ((n frame : ℕ) → o ≡ no n frame → CheckRefusal t n frame) → (answer (verdict_of b o)).number ≡ 0 → answer (verdict_of b o) ≡ answer (accepted (answer (verdict_of b o)).bounds)
unfolding verdict_of judged answer
verdict-zero b (no n frame) numbered e = absurd (omega (arith, (numbered n frame refl).least))
verdict-zero b (ok a) numbered e = let is = judge-zero b _ e in is ∙ ap (λ (r : Answer). answer (accepted r.bounds)) (sym is)

-- so where the checker answers 0, the numbers in its answer are reported
pub answered-zero-reports : (t : List ℕ) (b : Board) (list : List Record) → (check t b list).answer.number ≡ 0 → Reported t (check t b list).answer.bounds
unfolding check
answered-zero-reports t b list e = record { board = b; list = list; is = verdict-zero b _ (λ n frame. check-refusals t _) e }

pub zero-is-started : (t : List ℕ) (b : Board) (list : List Record) (state scratch slots : List ℕ) → (start t b list state scratch slots).answer.number ≡ 0 →
    (start t b list state scratch slots).answer ≡ answer (accepted (start t b list state scratch slots).answer.bounds)
unfolding start
zero-is-started t b list state scratch slots e = verdict-zero b _ (λ n frame. check-refusals t _) e

-- an iteration that was not refused: the state that it made, which is written
pub record Iteration (t : List ℕ) (b : Board) (state scratch slots line : List ℕ) : Type 0 where
  pub after : State
  pub is : iterate_file t b (buffers_lent b state scratch slots) state line ≡ ok after
  pub answers : (iterate t b state scratch slots line).answer ≡ answer done
  pub writes : (iterate t b state scratch slots line).state ≡ written b.cells after state

pub zero-is-iterated : (t : List ℕ) (b : Board) (state scratch slots line : List ℕ) → (iterate t b state scratch slots line).answer.number ≡ 0 → Iteration t b state scratch slots line
unfolding iterate iterated answer
zero-is-iterated t b state scratch slots line e = by_result (iterate_file t b lent state line) refl
  where
    lent : Bool
    lent = buffers_lent b state scratch slots

    by_result : (r : Result State) → iterate_file t b lent state line ≡ r → Iteration t b state scratch slots line
    by_result (ok s) is = record { after = s; is = is; answers = rw is; writes = rw is }
    by_result (no n frame) is = absurd (let z : n ≡ 0 = rw is at e in omega (arith, (iterate-refusals t b lent state line is).least))
