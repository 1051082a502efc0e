-- At which place a text is answered: of no file, 1 to 8; of a file whose plain types disagree, 9; else where a node reads itself, 25; else
-- where too little is lent, 18; else where no numbers are derived, 10 to 14; else where the board is short of them, 15 to 17; else 0.
use Rattle.std.specs.Prelude.{ℕ, ◌≤◌, List, Bool, true, false}
use Rattle.std.proofs.Math.Path.{◌≡◌, refl, sym, ap}
use Rattle.std.proofs.Common.{◌∙◌, arith}
use Rattle.language.specs.Refusals.{no_refusal, no_frame, text_too_long, no_base_constructor, types_disagree, size_outside, too_many_instances, not_lent, self_reading}
use Rattle.language.specs.Result.{Result, ok, no, bind, need}
use Rattle.language.specs.Syntax.{File}
use Rattle.language.specs.Reader.{read_file}
use Rattle.language.specs.PlainTyping.{WellPlain}
use Rattle.language.specs.Order.{Acyclic, orderly}
use Rattle.language.specs.Estimate.{Estimate, stopped}
use Rattle.language.specs.Checker.{sized_file}
use Rattle.language.specs.Machine.{Board, board_allowed, answer, Accepted, check_file, judged, verdict_of}
use Rattle.language.specs.Acceptance.{Derived, AcceptedWith, ShortOf, TextOf}
use Rattle.theory.specs.Outcomes.{Outcome, accepted as passed, when-refused, bind-outcome, need-outcome}
use Rattle.theory.specs.FilePasses.{plain-outcome, orderly-outcome, outcome-of}
use Rattle.theory.specs.SizeRefusals.{Anything}
use Rattle.theory.specs.PlainTypesAgree.{well-plain-passes}
use Rattle.theory.specs.PlainFileSizes.{well-plain-refusals}
use Rattle.theory.specs.ReaderExact.{reader-forth, reader-back}
use Rattle.theory.specs.ReaderRefusals.{reader-refusals}
use Rattle.theory.specs.Judged.{board-allowed, judge-enough, judge-short, judge-cases}
use Rattle.theory.specs.CheckExact.{needs, passing, passes, stopped-short, accepted-derived, judged-needs}

-- the place of an answer's number, with its condition. Of the conditions one alone holds.
pub data Placed (t : List ℕ) (lent : Bool) (b : Board) : ℕ → Type 0 where
  at_text : {n : ℕ} → ((P : File) → TextOf P t → ⊥) → text_too_long ≤ n → n ≤ no_base_constructor → Placed t lent b n
  at_types : {P : File} → TextOf P t → (WellPlain P → ⊥) → Placed t lent b types_disagree
  at_order : {P : File} → TextOf P t → WellPlain P → (Acyclic P → ⊥) → Placed t lent b self_reading
  at_lending : {P : File} → TextOf P t → WellPlain P → Acyclic P → lent ≡ false → Placed t lent b not_lent
  at_sizes : {n : ℕ} {P : File} → TextOf P t → WellPlain P → Acyclic P → lent ≡ true → ((x : Estimate) → Derived t x → ⊥) → size_outside ≤ n → n ≤ too_many_instances → Placed t lent b n
  at_board : {n : ℕ} {x : Estimate} → Derived t x → lent ≡ true → ShortOf x b n → Placed t lent b n
  at_end : {x : Estimate} → AcceptedWith t lent b x → Placed t lent b no_refusal

-- ---- a refusal of a file that was read
data At (P : File) (lent : Bool) : ℕ → ℕ → Type 0 where
  by_types : {frame : ℕ} → At P lent types_disagree frame
  by_order : {frame : ℕ} → WellPlain P → (Acyclic P → ⊥) → At P lent self_reading frame
  by_lending : WellPlain P → Acyclic P → lent ≡ false → At P lent not_lent no_frame
  by_sizes : {n frame : ℕ} → WellPlain P → Acyclic P → lent ≡ true → sized_file P ≡ no n frame → At P lent n frame

refused-at : (t : List ℕ) (P : File) (lent : Bool) → read_file t ≡ ok P → Outcome Anything (At P lent) (check_file t lent)
unfolding check_file bind
refused-at t P lent read = rw read (plain-outcome P (λ frame _. by_types) (λ plain.
    orderly-outcome (reader-forth t P read).within (λ i x. by_order plain (λ acyclic. acyclic i x.node x.itself)) (λ acyclic.
    need-outcome lent not_lent no_frame (λ e. by_lending plain acyclic e) (λ given.
    bind-outcome (outcome-of (sized_file P) (λ n frame e. by_sizes plain acyclic given e)) (λ q _ _. passed tt)))))

-- where plain types hold, 9 is not answered
not-nine : (t : List ℕ) {P : File} (lent : Bool) {frame : ℕ} → read_file t ≡ ok P → WellPlain P → check_file t lent ≡ no types_disagree frame → ⊥
unfolding check_file bind
not-nine t {P} lent {frame} read plain e = when-refused after-types (rw (read, well-plain-passes P _ plain) at e) refl
  where
    after-types : Outcome {A = Accepted} Anything (λ n frame. n ≡ types_disagree → ⊥) (orderly P (need lent not_lent no_frame (bind (sized_file P) (λ q. ok (record { file = P; sizes = q })))))
    after-types = orderly-outcome (reader-forth t P read).within (λ i x is. omega arith) (λ acyclic.
        need-outcome lent not_lent no_frame (λ _ is. omega arith) (λ given.
        bind-outcome (outcome-of (sized_file P) (λ n frame s is. omega (arith, well-plain-refusals plain s))) (λ q _ _. passed tt)))

-- ---- every answer
module _ (t : List ℕ) (lent : Bool) (b : Board) (asks : lent ≡ true → board_allowed b ≡ true) where
  read-placed : {P : File} {n frame : ℕ} → read_file t ≡ ok P → At P lent n frame → check_file t lent ≡ no n frame → Placed t lent b n
  read-placed {P} read by_types e = at_types (reader-forth t P read) (λ plain. not-nine t lent read plain e)
  read-placed {P} read (by_order plain not) e = at_order (reader-forth t P read) plain not
  read-placed {P} read (by_lending plain acyclic l) e = at_lending (reader-forth t P read) plain acyclic l
  read-placed {P} {n} {frame} read (by_sizes plain acyclic given s) e =
      let sizes = well-plain-refusals plain s in
      at_sizes (reader-forth t P read) plain acyclic given (λ x d. let p = passes d given in let z : ok p.found ≡ no n frame = sym p.is ∙ e in let w : ◌≡◌ {A = ℕ} 0 1 = cc in omega arith) sizes.least sizes.most

  refused-placed : {n frame : ℕ} → check_file t lent ≡ no n frame → Placed t lent b n
  unfolding check_file bind
  refused-placed {n} {frame} e = by-reading (read_file t) refl
    where
      by-reading : (r : Result File) → read_file t ≡ r → Placed t lent b n
      by-reading (ok P) read = read-placed read (when-refused (refused-at t P lent read) e) e
      by-reading (no m f) read =
          let same : ◌≡◌ {A = Result Accepted} (no m f) (no n frame) = rw read at e in
          let number : m ≡ n = cc in
          let refusal = reader-refusals t read in
          at_text {n = n} (λ P is. let z : ok P ≡ no m f = sym (reader-back is) ∙ read in let w : ◌≡◌ {A = ℕ} 0 1 = cc in omega arith) (omega (arith, refusal.least)) (omega (arith, refusal.most))

  pub placed : Placed t lent b (answer (verdict_of b (check_file t lent))).number
  unfolding verdict_of judged answer
  placed = by_result (check_file t lent) refl
    where
      by_result : (r : Result Accepted) → check_file t lent ≡ r → Placed t lent b (answer (verdict_of b r)).number
      by_result (no n frame) e = refused-placed e
      by_result (ok a) e =
          let p = passing t lent e in
          let x : Estimate = stopped (needs a) in
          judge-cases b x
          (λ enough. rw (judge-enough b x enough) (at_end (accepted-derived t lent b asks x (judged-needs t lent b asks a e ∙ ap answer (judge-enough b x enough)))))
          (λ n lacks. rw (judge-short b x lacks) (at_board p.derived p.given (stopped-short (board-allowed b (asks p.given)) lacks)))
