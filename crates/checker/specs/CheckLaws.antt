-- Each return behind the reader: what is known there gives the machine's answer and list.
use Rattle.std.specs.Prelude.{ℕ, List, Bool, true, false, Option, Some, None, Ok, Err, length, set, replicate}
use Rattle.language.specs.declared.refusals.RefusalAt.{RefusalAt}
use Rattle.language.specs.declared.refusals.Refusal.TheVariants.{TypesDisagree, SelfReading, NotLent}
use Rattle.std.proofs.Math.Path.{◌≡◌, refl, ap}
use Rattle.std.proofs.Common.{◌∙◌, arith}
use Rattle.language.specs.Refusals.{no_frame, not_lent}
use Rattle.language.specs.Result.{Result, ok, no, bind, need}
use Rattle.language.specs.Estimate.{stopped}
use Rattle.language.specs.Checker.{SizedFile, sized_file}
use Rattle.language.specs.Cells.{numbers_needed}
use Rattle.language.specs.PlainTypes.{plain_types}
use Rattle.language.specs.Order.{orderly}
use Rattle.language.specs.Machine.{Accepted, check_file}
use Rattle.theory.specs.PlainTypesAgree.{well-plain-passes}
use Rattle.theory.specs.PlainFileSizes.{well-plain-refusals}
use Rattle.theory.specs.Orderly.{acyclic-passes}
use Rattle.encoding.specs.FrameLines.{line_at}
use Rattle.cells.specs.ChannelLaws.{channels-told}
use Rattle.estimate.specs.declared.Estimate.{Estimate as HeldNumbers}
use Rattle.instance_list.specs.Records.{records_words, list_words}
use Rattle.ends.specs.Told.{TellsReadings}
use Rattle.node_order.specs.Files.{FewChannels, OrderFrame, JudgesOrder}
use Rattle.node_order.specs.FileLaws.{orderly-refused, frame-acyclic}
use Rattle.node_order.specs.NextLaws.{readings-gathered}
use Rattle.plain_types.specs.Verdicts.{JudgesAll}
use Rattle.plain_types.specs.JudgeLaws.{plain-types-passes, plain-types-refused, verdict-well}
use Rattle.size_steps.specs.declared.Counted.{Counted as CountedFile}
use Rattle.size_steps.specs.Outcomes.{Counting}
use Rattle.size_steps.specs.Agreement.{Before, before_6, before_9}
use Rattle.size_laws.specs.Promises.{lent}
use Rattle.size_laws.specs.FilePromises.{AgreesFile, file_agrees, file_refused, file_beyond, SizesFile}
use Rattle.answers.specs.declared.Board.{Board}
use Rattle.answers.specs.declared.Answer.{Answer}
use Rattle.answers.specs.Boards.{numbers_of, answer_of, Judges}
use Rattle.checker.specs.Checks.{ChecksGiven, ReadHeld, OrderedHeld, Needs, SizesAgree, SizesFound, sizes_refused, sizes_agree}
use Rattle.checker.specs.Outcomes.{sizes_of, check-of, refused, not-enough, enough-lent}

-- ---- 9 and 25
module _ {text index : List ℕ} (z : ReadHeld text index) where
  pub few-channels : FewChannels index
  few-channels = let c = z.indexed.counted in let w = z.indexed.within in record { few = omega (arith, c.input_count, c.node_count, w.few_inputs, w.few_nodes) }

  pub order-frame : {row : List ℕ} {node : Option ℕ} → TellsReadings text index row → JudgesOrder index row node → OrderFrame z.file node
  order-frame t o = o.says z.indexed (readings-gathered z.indexed t)

  pub ordered : {row : List ℕ} → JudgesAll text index None → TellsReadings text index row → JudgesOrder index row None → OrderedHeld text index
  ordered v t o = record { held = z; plain = verdict-well v z.indexed; acyclic = frame-acyclic (order-frame t o) }

  module _ (given : Bool) where
    abbrev behind : Result Accepted
    behind = need given not_lent no_frame (sizes_of z.file)

    after-reading : check_file text given ≡ plain_types z.file (orderly z.file behind)
    unfolding bind
    after-reading = check-of text given z.indexed.read

    pub types-refused : {frame : ℕ} {words' : List ℕ} → JudgesAll text index (Some frame) → SizesFound text index given (Err (record { refusal = TypesDisagree; frame = frame })) words'
    types-refused v = sizes_refused {e = record { refusal = TypesDisagree; frame = _ }} (after-reading ∙ plain-types-refused v z.indexed (orderly z.file behind))

    pub order-refused : {frame : ℕ} {row words' : List ℕ} → JudgesAll text index None → TellsReadings text index row → JudgesOrder index row (Some frame) → SizesFound text index given (Err (record { refusal = SelfReading; frame = frame })) words'
    order-refused v t o = sizes_refused {e = record { refusal = SelfReading; frame = _ }} (after-reading ∙ plain-types-passes v z.indexed (orderly z.file behind) ∙ orderly-refused z.indexed.within (order-frame t o) behind)

-- ---- and what follows
module _ {text index : List ℕ} (y : OrderedHeld text index) where
  abbrev z : ReadHeld text index
  z = y.held

  module _ (given : Bool) where
    after-order : check_file text given ≡ need given not_lent no_frame (sizes_of z.file)
    unfolding bind
    after-order = check-of text given z.indexed.read ∙ well-plain-passes z.file _ y.plain ∙ acyclic-passes z.file _ y.acyclic

    pub lent-refused : {words' : List ℕ} → given ≡ false → SizesFound text index given (Err (record { refusal = NotLent; frame = no_frame })) words'
    unfolding need
    lent-refused e = sizes_refused {e = record { refusal = NotLent; frame = no_frame }} (after-order ∙ ap (λ d. need d not_lent no_frame (sizes_of z.file)) e)

    module _ (enough : given ≡ true) where
      after-lent : check_file text given ≡ sizes_of z.file
      unfolding need
      after-lent = after-order ∙ ap (λ d. need d not_lent no_frame (sizes_of z.file)) enough

      -- 6 and 9 were judged before
      not-before : {m f : ℕ} {A : Type 0} → sized_file z.file ≡ no m f → Before m → A
      not-before q before_6 = absurd (let w = well-plain-refusals y.plain q in omega (arith, w.least))
      not-before q before_9 = absurd (let w = well-plain-refusals y.plain q in omega (arith, w.least))

      pub sizes-found : {words words' : List ℕ} {x : Counting} → length words ≡ list_words → SizesFile (lent text index) words x words' → SizesFound text index given x words'
      unfolding bind
      sizes-found {words} {words'} {x} long s = go (sized_file z.file) refl (s.says z.file z.indexed (omega (arith, long)))
        where
          sized : (u : Result SizedFile) → sized_file z.file ≡ u → check_file text given ≡ bind u (λ w. ok (record { file = z.file; sizes = w }))
          sized u q = after-lent ∙ ap (λ v. bind v (λ w. ok (record { file = z.file; sizes = w }))) q

          go : (u : Result SizedFile) → sized_file z.file ≡ u → AgreesFile z.file words' x u → SizesFound text index given x words'
          go u q (file_agrees {x = f} {memo = m} d st h) = rw d (sizes_agree z enough (record { sizes = f; memo = m; is = sized (ok f) q; numbers = st; holds = h }))
          go u q (file_refused d) = rw d (sizes_refused (sized _ q))
          go u q (file_beyond w) = not-before q w

-- ---- the answer of a file that was read, and its words
module _ {text index : List ℕ} (b : Board) (given : Bool) where
  pub check-refused : {e : RefusalAt} {r : Answer} {words words' : List ℕ} (k : ℕ) → SizesFound text index given (Err e) words → r ≡ answer_of {A = Unit {0}} (Err e) → words' ≡ replicate k 0 → ChecksGiven text b given r words'
  unfolding answer_of
  check-refused k (sizes_refused said) told c = refused text b given k said told c

  module _ {k : CountedFile} {held : HeldNumbers} (u : Needs index k.numbers held) {r : Answer} (j : Judges b held r) where
    numbers-are : {words : List ℕ} (h : ReadHeld text index) (a : SizesAgree text given h.file words k) → numbers_of held ≡ stopped (numbers_needed h.file a.sizes.updates)
    numbers-are h a = u.says h.file h.indexed.within h.sections.types (channels-told index (line_at text) h.indexed.within h.sections.channels) h.indexed.counted a.sizes.updates a.numbers

    pub board-refused : {words words' : List ℕ} → SizesFound text index given (Ok k) words → (r.number ≡ 0 → ⊥) → words' ≡ replicate (length words) 0 → ChecksGiven text b given r words'
    board-refused {words} (sizes_agree h enough a) some c = not-enough text b given a.is (numbers-are h a) j (length words) some c

    pub board-accepts : {words words' : List ℕ} → SizesFound text index given (Ok k) words → length words ≡ list_words → r.number ≡ 0 → words' ≡ set words records_words k.used → ChecksGiven text b given r words'
    board-accepts (sizes_agree h enough a) long none put = enough-lent text b given a.is (numbers-are h a) j enough none a.holds long put
