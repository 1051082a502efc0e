-- Accepted files: where some board is answered with the numbers x, the file is within the limits, its plain types hold, no node reads
-- itself, its sizes are derived, and x is exactly what the derivation needs. And then every board that lends as much is answered with x.
use Rattle.std.specs.Prelude.{ℕ, ◌+◌, ◌≤◌, ◌<◌, List, Bool, true, ◌≡◌, refl}
use Rattle.std.proofs.Common.{sym, ap, ◌∙◌, arith}
use Rattle.language.specs.Limits.{number_most}
use Rattle.language.specs.Refusals.{no_frame, not_lent}
use Rattle.language.specs.Result.{Result, ok, no, bind, need}
use Rattle.language.specs.Syntax.{File}
use Rattle.language.specs.Within.{Within}
use Rattle.language.specs.Reader.{read_file}
use Rattle.language.specs.Order.{Acyclic}
use Rattle.language.specs.Estimate.{Estimate, stop, stopped}
use Rattle.language.specs.Typing.{WellSized}
use Rattle.language.specs.Checker.{SizedFile, sized_file}
use Rattle.language.specs.Cells.{channel_cells, input_cells, updates_numbers, numbers_needed}
use Rattle.language.specs.Machine.{Board, Record, accepted, Answer, answer, Accepted, check_file, judged, verdict_of, list_lent, check}
use Rattle.language.specs.Run.{Enough, Reported}
use Rattle.theory.specs.Lists.{both_left}
use Rattle.theory.specs.Outcomes.{Outcome, accepted as passed, refused, bind-outcome, need-outcome}
use Rattle.theory.specs.FilePasses.{plain-outcome, orderly-outcome, outcome-of}
use Rattle.language.specs.PlainTyping.{WellPlain}
use Rattle.theory.specs.PlainTypesAgree.{well-plain-passes}
use Rattle.theory.specs.Orderly.{acyclic-passes}
use Rattle.theory.specs.PlainFileSizes.{well-plain-refusals}
use Rattle.theory.specs.ReaderExact.{reader-forth}
use Rattle.theory.specs.CheckerAgrees.{accepted-is-derived}
use Rattle.theory.specs.Judged.{BoardAllowed, board-allowed, judge-accepted, judge-enough}

-- ---- the passes over a file
-- what an accepted check says of a file that was read
pub record Passed (P : File) (lent : Bool) (a : Accepted) : Type 0 where
  pub given : lent ≡ true
  pub plain : WellPlain P
  pub acyclic : Acyclic P
  pub file : a.file ≡ P
  pub sized : sized_file P ≡ ok a.sizes

-- a refusal has a number
abbrev pub Numbered : ℕ → ℕ → Type 0
Numbered n frame = 1 ≤ n

pub file-outcome : (t : List ℕ) (P : File) (lent : Bool) → read_file t ≡ ok P → Outcome (Passed P lent) Numbered (check_file t lent)
unfolding check_file bind
file-outcome t P lent read = rw read (plain-outcome P (λ frame _. omega arith) (λ plain.
    orderly-outcome (reader-forth t P read).within (λ i x. omega arith) (λ acyclic.
    need-outcome lent not_lent no_frame (λ _. omega arith) (λ given.
    bind-outcome (outcome-of (sized_file P) (λ n frame e. omega (arith, well-plain-refusals plain e))) (λ q sized _.
    passed (record { given = given; plain = plain; acyclic = acyclic; file = refl; sized = sized }))))))

-- ---- accepted files
-- the text t is accepted as the file P with the numbers x
pub record AcceptedFile (t : List ℕ) (P : File) (x : Estimate) : Type 0 where
  pub read : read_file t ≡ ok P
  pub within : Within P
  pub plain : WellPlain P
  pub acyclic : Acyclic P
  pub sizes : SizedFile
  pub sized : sized_file P ≡ ok sizes
  pub derived : WellSized P sizes.updates
  pub reported : x ≡ stopped (numbers_needed P sizes.updates)
  pub exact : x ≡ numbers_needed P sizes.updates

below-the-stop : (n : ℕ) → stop n < number_most → stop n ≡ n
below-the-stop n less = omega arith

-- numbers that an allowed board lends are below the stop
pub lent-exact : (b : Board) (y : Estimate) → BoardAllowed b → Enough (stopped y) b → stopped y ≡ y
lent-exact b y allowed e = λ i. record { env = below-the-stop y.env (omega arith) i; heap = below-the-stop y.heap (omega arith) i; stack = below-the-stop y.stack (omega arith) i }

pub reported-accepted : {t : List ℕ} {P : File} {x : Estimate} → read_file t ≡ ok P → Reported t x → AcceptedFile t P x
unfolding check list_lent verdict_of judged answer
reported-accepted {t} {P} {x} read r = by-outcome (check_file t (list_lent b r.list)) (file-outcome t P (list_lent b r.list) read) r.is
  where
    b : Board
    b = r.board

    by-outcome : (o : Result Accepted) → Outcome (Passed P (list_lent b r.list)) Numbered o → answer (verdict_of b o) ≡ answer (accepted x) → AcceptedFile t P x
    by-outcome (no n frame) (refused least) e = absurd (let z : n ≡ 0 = ap (λ (a : Answer). a.number) e in omega arith)
    by-outcome (ok a) (passed p) e =
        let within = (reader-forth t P read).within in
        let needed : Estimate = numbers_needed P a.sizes.updates in
        let verdict = judge-accepted b (stopped needed) x (rw p.file at e) in
        let exact = lent-exact b needed (board-allowed b (both_left _ _ p.given)) verdict.1 in
        record {
          read = read;
          within = within;
          plain = p.plain;
          acyclic = p.acyclic;
          sizes = a.sizes;
          sized = p.sized;
          derived = (accepted-is-derived within p.sized).sizes;
          reported = sym verdict.0;
          exact = sym verdict.0 ∙ exact;
        }

-- a text has one set of numbers
pub one-report : {t : List ℕ} {P : File} {x y : Estimate} → AcceptedFile t P x → AcceptedFile t P y → x ≡ y
one-report {P} a b =
    let same : a.sizes ≡ b.sizes = cc in
    a.exact ∙ ap (λ (q : SizedFile). numbers_needed P q.updates) same ∙ sym b.exact

-- the numbers, by what they pay for: "Heap needed = cells of all channels + cells of the inputs again + the nodes' heap estimates summed."
pub record Paid (P : File) (xs : List Estimate) (b : Board) : Type 0 where
  pub cells : channel_cells P + input_cells P + (updates_numbers xs).heap ≤ b.cells
  pub slots : (updates_numbers xs).env ≤ b.slots
  pub calls : (updates_numbers xs).stack ≤ b.calls

module _ {t : List ℕ} {P : File} {x : Estimate} (a : AcceptedFile t P x) where
  -- ---- a board that lends them
  pub enough-paid : {b : Board} → Enough x b → Paid P a.sizes.updates b
  unfolding numbers_needed
  enough-paid {b} e = let lent : Enough (numbers_needed P a.sizes.updates) b = rw a.exact at e in record { cells = lent.cells; slots = lent.slots; calls = lent.calls }

  pub channels-have-room : {b : Board} → Enough x b → channel_cells P ≤ b.cells
  channels-have-room e = omega (arith, (enough-paid e).cells)

  -- ---- checked again
  abbrev pub accepted_as : Accepted
  accepted_as = record { file = P; sizes = a.sizes }

  pub checks-again : (lent : Bool) → lent ≡ true → check_file t lent ≡ ok accepted_as
  unfolding check_file bind need
  checks-again lent given = rw (a.read, given, well-plain-passes P _ a.plain, acyclic-passes P _ a.acyclic, a.sized)

  pub judged-again : (b : Board) → Enough x b → judged b accepted_as ≡ accepted x
  unfolding judged
  judged-again b e = rw (← a.reported) (judge-enough b x e)

  pub reported-again : (b : Board) (list : List Record) → Enough x b → list_lent b list ≡ true → (check t b list).answer ≡ answer (accepted x)
  unfolding check verdict_of
  reported-again b list e lent = rw (checks-again _ lent, judged-again b e)
