-- Every refusal of the checker and of start bears a number of the table, 1 to 14, 18 or 25, for every text, board and lengths, and its frame
-- is 0 or one of the text's; with 25 it is that of the lowest node that reads itself. So a call that answers 0 was not refused.
use Rattle.std.specs.Prelude.{ℕ, ◌≤◌, ◌<◌, List, Bool, true, ◌≡◌, refl}
use Rattle.std.proofs.Common.{arith}
use Rattle.language.specs.Refusals.{no_frame, heap_short, not_lent, self_reading}
use Rattle.language.specs.Result.{ok, no}
use Rattle.language.specs.Syntax.{node_channel}
use Rattle.language.specs.Checker.{sized_file}
use Rattle.language.specs.Order.{Acyclic}
use Rattle.language.specs.Reader.{read_file}
use Rattle.language.specs.Machine.{Accepted, check_file}
use Rattle.language.specs.Answers.{FrameNamed}
use Rattle.language.specs.Acceptance.{SelfReading}
use Rattle.language.specs.PlainTyping.{WellPlain}
use Rattle.theory.specs.Outcomes.{Outcome, accepted, when-refused, bind-outcome, need-outcome}
use Rattle.theory.specs.FilePasses.{plain-outcome, orderly-outcome, outcome-of}
use Rattle.theory.specs.PlainFileSizes.{well-plain-refusals}
use Rattle.theory.specs.FrameNumbers.{channel-frame, no-frame-named}
use Rattle.theory.specs.ReaderExact.{reader-forth}
use Rattle.theory.specs.ReaderRefusals.{reader-refusals, reader-frames, in-file}

-- 15 to 17 are no refusals of the file
pub record CheckRefusal (t : List ℕ) (n frame : ℕ) : Type 0 where
  pub least : 1 ≤ n
  pub most : n ≤ self_reading
  pub gap : heap_short ≤ n → not_lent ≤ n
  pub gap_in_order : not_lent < n → n ≡ self_reading
  pub framed : FrameNamed t n frame
  pub order : n ≡ self_reading → SelfReading t frame

-- what a check that is not refused says of the text
pub record Passes (t : List ℕ) (lent : Bool) (a : Accepted) : Type 0 where
  pub given : lent ≡ true
  pub read : read_file t ≡ ok a.file
  pub plain : WellPlain a.file
  pub acyclic : Acyclic a.file
  pub sized : sized_file a.file ≡ ok a.sizes

-- any number but 25
numbered : {t : List ℕ} {n frame : ℕ} → 1 ≤ n → n ≤ not_lent → (heap_short ≤ n → not_lent ≤ n) → FrameNamed t n frame → CheckRefusal t n frame
numbered low high gap framed = record { least = low; most = omega arith; gap = gap; gap_in_order = λ more. absurd (omega arith); framed = framed; order = λ is. absurd (omega arith) }

pub check-outcome : (t : List ℕ) (lent : Bool) → Outcome (Passes t lent) (CheckRefusal t) (check_file t lent)
unfolding check_file
check-outcome t lent = bind-outcome (outcome-of (read_file t) (λ n frame e. let r = reader-refusals t e in numbered r.least (omega arith) (λ more. omega arith) (reader-frames t e))) (λ P read _.
    let is = reader-forth t P read in
    plain-outcome P (λ frame f. numbered (omega arith) (omega arith) (λ more. omega arith) (in-file read f (omega arith) (λ more. omega arith) (λ is. omega arith))) (λ plain.
    orderly-outcome is.within (λ i x. record {
      least = omega arith;
      most = omega arith;
      gap = λ more. omega arith;
      gap_in_order = λ more. refl;
      framed = in-file read (channel-frame P (node_channel P i) (omega (arith, x.node))) (omega arith) (λ more. omega arith) (λ is. omega arith);
      order = λ _. record { file = P; is = is; plain = plain; node = i; lowest = x; named = refl };
    }) (λ acyclic.
    need-outcome lent not_lent no_frame (λ _. numbered (omega arith) (omega arith) (λ more. omega arith) (no-frame-named (λ _. omega arith) (λ more. absurd (omega arith)))) (λ given.
    bind-outcome (outcome-of (sized_file P) (λ n frame e. let r = well-plain-refusals plain e in
    numbered (omega arith) (omega arith) (λ more. omega arith) (in-file read (record { least = r.from_first; most = r.to_last }) (omega arith) (λ more. omega arith) (λ is. omega arith)))) (λ q sized _.
    accepted (record { given = given; read = read; plain = plain; acyclic = acyclic; sized = sized }))))))

pub check-refusals : (t : List ℕ) (lent : Bool) {n frame : ℕ} → check_file t lent ≡ no n frame → CheckRefusal t n frame
check-refusals t lent e = when-refused (check-outcome t lent) e
