-- Demand 2's acceptance, both ways: a text is accepted with numbers exactly where they are derived, what the call asks for is lent, and
-- the board has them; 15, 16 and 17 are answered exactly where they are derived and the board is short; 25 exactly where a node reads
-- itself, in the frame of the lowest.
use Rattle.std.specs.Prelude.{ℕ, ◌≤◌, List, Bool, false, ◌≡◌}
use Rattle.std.proofs.Math.Bool.{true}
use Rattle.std.proofs.Math.Path.{refl, sym, ap, subst}
use Rattle.std.proofs.Common.{◌∙◌, arith}
use Rattle.language.specs.Limits.{instances_most}
use Rattle.language.specs.Refusals.{too_many_instances, heap_short, stack_short, not_lent, self_reading}
use Rattle.language.specs.Result.{Result, ok, no, bind, need}
use Rattle.language.specs.Syntax.{File}
use Rattle.language.specs.Reader.{read_file}
use Rattle.language.specs.PlainTyping.{WellPlain}
use Rattle.language.specs.Order.{Acyclic}
use Rattle.language.specs.Estimate.{Estimate, stop, stopped}
use Rattle.language.specs.Typing.{WellSized}
use Rattle.language.specs.Instances.{MoreThan, Needed}
use Rattle.language.specs.Checker.{SizedFile, sized_file}
use Rattle.language.specs.Cells.{numbers_needed}
use Rattle.language.specs.Machine.{Board, board_allowed, Answer, accepted, short, answer, Accepted, check_file, judge, judged, verdict_of}
use Rattle.language.specs.Run.{Enough}
use Rattle.language.specs.Acceptance.{SelfReading, Derived, AcceptedWith, TextOf, ShortOf, heap-short, environment-short, stack-short, RefusedShort}
use Rattle.theory.specs.Outcomes.{when-accepted}
use Rattle.theory.specs.PlainTypesAgree.{well-plain-passes}
use Rattle.theory.specs.Orderly.{acyclic-passes, lowest-refused}
use Rattle.theory.specs.ReaderExact.{reader-forth, reader-back}
use Rattle.theory.specs.CheckerAgrees.{accepted-iff-few, refused-iff-many}
use Rattle.theory.specs.Judged.{BoardAllowed, board-allowed, judge-accepted, judge-enough, judge-short, judge-cases}
use Rattle.theory.specs.AcceptedFiles.{file-outcome, lent-exact}
use Rattle.theory.specs.RefusalNumbers.{check-refusals}

abbrev pub needs : Accepted → Estimate
needs a = numbers_needed a.file a.sizes.updates

-- ---- what passes the checker is derived
pub record Passing (t : List ℕ) (lent : Bool) (a : Accepted) : Type 0 where
  pub given : lent ≡ true
  pub derived : Derived t (needs a)

pub passing : (t : List ℕ) (lent : Bool) {a : Accepted} → check_file t lent ≡ ok a → Passing t lent a
unfolding check_file bind
passing t lent {a} is = by-reading (read_file t) refl
  where
    by-reading : (r : Result File) → read_file t ≡ r → Passing t lent a
    by-reading (no n frame) e = absurd (let refused : no n frame ≡ ok a = rw e at is in let z : ◌≡◌ {A = ℕ} 0 1 = cc in omega arith)
    by-reading (ok P) e =
        let p = when-accepted (file-outcome t P lent e) is in
        let exact = reader-forth t P e in
        record {
          given = p.given;
          derived = record {
            file = P;
            is = exact;
            plain = p.plain;
            acyclic = p.acyclic;
            updates = a.sizes.updates;
            sizes = (accepted-iff-few exact.within a.sizes.updates).0 (record { list = a.sizes.list; is = p.sized });
            numbers = ap (λ Q. numbers_needed Q a.sizes.updates) p.file;
          };
        }

-- ---- what is derived passes it
pub record Passes (t : List ℕ) (lent : Bool) (x : Estimate) : Type 0 where
  pub found : Accepted
  pub is : check_file t lent ≡ ok found
  pub numbers : needs found ≡ x

pub passes : {t : List ℕ} {lent : Bool} {x : Estimate} → Derived t x → lent ≡ true → Passes t lent x
unfolding check_file bind need
passes {t} d given =
    let P = d.file in
    let read = reader-back d.is in
    let sized = (accepted-iff-few d.is.within d.updates).1 d.sizes in
    record {
      found = record { file = P; sizes = record { updates = d.updates; list = sized.list } };
      is = rw (read, given, well-plain-passes P _ d.plain, acyclic-passes P _ d.acyclic, sized.is);
      numbers = sym d.numbers;
    }

-- ---- what is reported stops at 65,535, which an allowed board never has
module _ {b : Board} (allowed : BoardAllowed b) where
  enough-stopped : (x : Estimate) → Enough x b → x ≡ stopped x
  enough-stopped x e =
      let env : x.env ≡ stop x.env = omega (arith, e.slots, allowed.slots) in
      let heap : x.heap ≡ stop x.heap = omega (arith, e.cells, allowed.cells) in
      let stack : x.stack ≡ stop x.stack = omega (arith, e.calls, allowed.calls) in
      λ i. record { env = env i; heap = heap i; stack = stack i }

  short-stopped : {x : Estimate} {n : ℕ} → ShortOf x b n → ShortOf (stopped x) b n
  short-stopped (heap-short less) = heap-short (omega (arith, allowed.cells))
  short-stopped (environment-short cells less) = environment-short (omega arith) (omega (arith, allowed.slots))
  short-stopped (stack-short cells slots less) = stack-short (omega arith) (omega arith) (omega (arith, allowed.calls))

  pub stopped-short : {x : Estimate} {n : ℕ} → ShortOf (stopped x) b n → ShortOf x b n
  stopped-short (heap-short less) = heap-short (omega arith)
  stopped-short (environment-short cells less) = environment-short (omega (arith, allowed.cells)) (omega arith)
  stopped-short (stack-short cells slots less) = stack-short (omega (arith, allowed.cells)) (omega (arith, allowed.slots)) (omega arith)

pub short-least : {x : Estimate} {b : Board} {n : ℕ} → ShortOf x b n → heap_short ≤ n
short-least (heap-short less) = omega arith
short-least (environment-short cells less) = omega arith
short-least (stack-short cells slots less) = omega arith

pub short-most : {x : Estimate} {b : Board} {n : ℕ} → ShortOf x b n → n ≤ stack_short
short-most (heap-short less) = omega arith
short-most (environment-short cells less) = omega arith
short-most (stack-short cells slots less) = omega arith

-- ---- the answer of a call that asks for what `lent` tests, an allowed board among it
module _ (t : List ℕ) (lent : Bool) (b : Board) (asks : lent ≡ true → board_allowed b ≡ true) where
  abbrev said : Answer
  said = answer (verdict_of b (check_file t lent))

  pub judged-needs : (a : Accepted) → check_file t lent ≡ ok a → said ≡ answer (judge b (stopped (needs a)))
  unfolding verdict_of judged
  judged-needs a e = rw e

  pub accepted-derived : (x : Estimate) → said ≡ answer (accepted x) → AcceptedWith t lent b x
  unfolding verdict_of answer
  accepted-derived x is = by_result (check_file t lent) refl
    where
      by_result : (r : Result Accepted) → check_file t lent ≡ r → AcceptedWith t lent b x
      by_result (no n frame) e = absurd (let z : n ≡ 0 = ap (λ (a : Answer). a.number) (rw e at is) in omega (arith, z, check-refusals t lent e))
      by_result (ok a) e =
          let p = passing t lent e in
          let verdict = judge-accepted b (stopped (needs a)) x (sym (judged-needs a e) ∙ is) in
          let exact = lent-exact b (needs a) (board-allowed b (asks p.given)) verdict.1 in
          record { derived = subst (Derived t) (sym exact ∙ verdict.0) p.derived; given = p.given; enough = subst (λ y. Enough y b) verdict.0 verdict.1 }

  pub derived-accepted : (x : Estimate) → AcceptedWith t lent b x → said ≡ answer (accepted x)
  derived-accepted x d =
      let p = passes d.derived d.given in
      let same = enough-stopped (board-allowed b (asks d.given)) x d.enough in
      judged-needs p.found p.is ∙ ap (λ y. answer (judge b (stopped y))) p.numbers ∙ ap (λ y. answer (judge b y)) (sym same) ∙ ap answer (judge-enough b x d.enough)

  pub short-derived : (a : Answer) → heap_short ≤ a.number → a.number ≤ stack_short → said ≡ a → RefusedShort t lent b a
  unfolding verdict_of answer
  short-derived a least most is = by_result (check_file t lent) refl
    where
      by_result : (r : Result Accepted) → check_file t lent ≡ r → RefusedShort t lent b a
      by_result (no n frame) e = absurd (
          let z : n ≡ a.number = ap (λ (c : Answer). c.number) (rw e at is) in
          let beyond : not_lent ≤ n = (check-refusals t lent e).gap (omega (arith, z)) in
          omega (arith, z))
      by_result (ok v) e =
          let p = passing t lent e in
          let judged-as : answer (judge b (stopped (needs v))) ≡ a = sym (judged-needs v e) ∙ is in
          judge-cases b (stopped (needs v))
          (λ enough. absurd (let z : 0 ≡ a.number = ap (λ (c : Answer). c.number) (sym (ap answer (judge-enough b _ enough)) ∙ judged-as) in omega (arith, z)))
          (λ n lacks.
          let whole : answer (short n (stopped (needs v))) ≡ a = sym (ap answer (judge-short b _ lacks)) ∙ judged-as in
          record {
            numbers = needs v;
            derived = p.derived;
            given = p.given;
            short = subst (ShortOf (needs v) b) (ap (λ (c : Answer). c.number) whole) (stopped-short (board-allowed b (asks p.given)) lacks);
            frame = sym (ap (λ (c : Answer). c.frame) whole);
            bounds = sym (ap (λ (c : Answer). c.bounds) whole);
          })

  pub derived-short : (a : Answer) → RefusedShort t lent b a → said ≡ a
  unfolding answer
  derived-short a d =
      let p = passes d.derived d.given in
      let lacks = short-stopped (board-allowed b (asks d.given)) d.short in
      let frame = d.frame in
      let bounds = d.bounds in
      judged-needs p.found p.is ∙ ap (λ y. answer (judge b (stopped y))) p.numbers ∙ ap answer (judge-short b _ lacks) ∙ (λ i. record { number = a.number; frame = sym frame i; bounds = sym bounds i })

  -- 25, in the frame of the lowest node that reads itself
  pub order-derived : (frame : ℕ) → (said.number ≡ self_reading) × (said.frame ≡ frame) → SelfReading t frame
  unfolding verdict_of answer
  order-derived frame is = by_result (check_file t lent) refl
    where
      by_result : (r : Result Accepted) → check_file t lent ≡ r → SelfReading t frame
      by_result (no n f) e =
          let z : n ≡ self_reading = rw e at is.0 in
          let w : f ≡ frame = rw e at is.1 in
          subst (SelfReading t) w ((check-refusals t lent e).order z)
      by_result (ok a) e =
          let x : Estimate = stopped (needs a) in
          let judged-as : (answer (judge b x)).number ≡ self_reading = sym (ap (λ (c : Answer). c.number) (judged-needs a e)) ∙ is.0 in
          absurd (judge-cases b x (λ enough. omega (arith, rw (judge-enough b x enough) at judged-as)) (λ n lacks. omega (arith, short-most lacks, rw (judge-short b x lacks) at judged-as)))

  pub derived-order : (frame : ℕ) → SelfReading t frame → (said.number ≡ self_reading) × (said.frame ≡ frame)
  unfolding check_file bind verdict_of answer
  derived-order frame x = rw (reader-back x.is, well-plain-passes x.file _ x.plain, lowest-refused x.is.within x.lowest _) (refl, sym x.named)

  -- 14, of a file whose sizes the rules derive. Where they do not, 10 to 14 are by the checker's definition alone.
  module _ {P : File} {xs : List Estimate} (is : TextOf P t) (plain : WellPlain P) (acyclic : Acyclic P) (w : WellSized P xs) where
    reads : read_file t ≡ ok P
    reads = reader-back is

    pub many-needed : said.number ≡ too_many_instances → (lent ≡ true) × MoreThan instances_most (Needed w)
    unfolding check_file bind need verdict_of answer
    many-needed answered = by-lent lent refl
      where
        by_sizes : (r : Result SizedFile) → sized_file P ≡ r → lent ≡ true → (lent ≡ true) × MoreThan instances_most (Needed w)
        by_sizes (no n frame) e given =
            let z : n ≡ too_many_instances = rw (reads, given, well-plain-passes P _ plain, acyclic-passes P _ acyclic, e) at answered in
            (given, (refused-iff-many is.within w).0 (record { frame = frame; is = e ∙ ap (λ m. no m frame) z }))
        by_sizes (ok q) e given =
            let passed : check_file t lent ≡ ok (record { file = P; sizes = q }) = rw (reads, given, well-plain-passes P _ plain, acyclic-passes P _ acyclic, e) in
            let x : Estimate = stopped (numbers_needed P q.updates) in
            let judged-as : (answer (judge b x)).number ≡ too_many_instances = sym (ap (λ (c : Answer). c.number) (judged-needs _ passed)) ∙ answered in
            absurd (judge-cases b x (λ enough. omega (arith, rw (judge-enough b x enough) at judged-as)) (λ n lacks. omega (arith, short-least lacks, rw (judge-short b x lacks) at judged-as)))

        by-lent : (l : Bool) → lent ≡ l → (lent ≡ true) × MoreThan instances_most (Needed w)
        by-lent true e = by_sizes (sized_file P) refl e
        by-lent false e = absurd (let z : not_lent ≡ too_many_instances = rw (reads, e, well-plain-passes P _ plain, acyclic-passes P _ acyclic) at answered in omega (arith, z))

    pub many-refused : lent ≡ true → MoreThan instances_most (Needed w) → said.number ≡ too_many_instances
    unfolding check_file bind need verdict_of answer
    many-refused given many = rw (reads, given, well-plain-passes P _ plain, acyclic-passes P _ acyclic, ((refused-iff-many is.within w).1 many).is)
