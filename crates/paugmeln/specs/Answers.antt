-- What the answer for a text says of its reading: a refusal's number and frame, or 0 and 0; no bounds. And the calls for a board by its numbers.
use Rattle.std.specs.Prelude.{ℕ, List, ◌≡◌}
use Rattle.std.proofs.Common.{ap, subst, ◌∙◌}
use Rattle.language.specs.Result.{Result, ok, no}
use Rattle.language.specs.Syntax.{File}
use Rattle.reader.specs.Texts.{Reading, TextRead, done, fault}
use Rattle.answers.specs.declared.Board.{Board}
use Rattle.answers.specs.declared.Answer.{Answer}
use Rattle.answers.specs.Boards.{refusal_of, answer_of}
use Rattle.runtime.specs.Runs.{Iterates}
use Rattle.startup.specs.Starts.{StartsWords}
use Rattle.checker.specs.Checks.{ChecksWords}

pub data Answers (r : Answer) : Result File → Type 0 where
  was_read : {P : File} → r ≡ refusal_of 0 0 → Answers r (ok P)
  was_refused : {m frame : ℕ} → r ≡ refusal_of m frame → Answers r (no m frame)

pub text-answered : {text index : List ℕ} {x : Reading} {r : Answer} {file : Result File} → TextRead text x index file → r ≡ answer_of x → Answers r file
unfolding answer_of
text-answered (done e w) is = was_read (is ∙ ap answer_of e)
text-answered (fault e w) is = was_refused (is ∙ ap answer_of e)

abbrev pub board : ℕ → ℕ → ℕ → Board
board cells slots calls = record { cells = cells; slots = slots; calls = calls }

-- ---- the calls, for a board by its numbers
module _ {cells slots calls : ℕ} {b : Board} (e : b ≡ board cells slots calls) where
  pub checks-board : {text words' : List ℕ} {records : ℕ} {r : Answer} → ChecksWords text b records r words' → ChecksWords text (board cells slots calls) records r words'
  checks-board {text} {words'} {records} {r} c = subst (λ z. ChecksWords text z records r words') e c

  pub starts-board : {text state scratch environment words' state' scratch' environment' : List ℕ} {records : ℕ} {r : Answer} → StartsWords text b records state scratch environment r words' state' scratch' environment' →
      StartsWords text (board cells slots calls) records state scratch environment r words' state' scratch' environment'
  starts-board {text} {state} {scratch} {environment} {words'} {state'} {scratch'} {environment'} {records} {r} s = subst (λ z. StartsWords text z records state scratch environment r words' state' scratch' environment') e s

  pub iterates-board : {text state scratch environment line state' scratch' environment' : List ℕ} {r : Answer} → Iterates text b state scratch environment line r state' scratch' environment' →
      Iterates text (board cells slots calls) state scratch environment line r state' scratch' environment'
  iterates-board {text} {state} {scratch} {environment} {line} {state'} {scratch'} {environment'} {r} i = subst (λ z. Iterates text z state scratch environment line r state' scratch' environment') e i
