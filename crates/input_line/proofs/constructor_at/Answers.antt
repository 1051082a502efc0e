-- A constructor behind its code, return by return.
use Rattle.language.specs.Oks.{was_ok, was_err}
use Rattle.input_line.specs.ConstructorLaws.{con-plain, con-no-size, con-no-type, con-other-type, con-answer}
use Rattle.input_line.proofs.constructor_at.Goals as goal

pub returns-then-word-lt-CONSTRUCTOR_TAGS : goal.returns-then-word-lt-CONSTRUCTOR_TAGS
returns-then-word-lt-CONSTRUCTOR_TAGS c = con-plain _ _ _ _ c.if-word-lt-CONSTRUCTOR_TAGS.true

pub returns-then-word_size-eq0 : goal.returns-then-word_size-eq0
returns-then-word_size-eq0 c = con-no-size _ _ _ _ c.word_size.ensures c.if-word_size-eq0.true

pub returns-in_err-f : goal.returns-in_err-f
returns-in_err-f c = rw c.from_residual.ensures (con-no-type _ _ _ _ c.byte.ensures (was_err _ c.ok.ensures.value c.in_err-f.was).1)

pub returns-then-f-t : goal.returns-then-f-t
returns-then-f-t c = con-other-type _ _ _ _ c.byte.ensures (was_ok _ c.ok.ensures.value c.in_ok-f.was) c.if-word-lt-CONSTRUCTOR_TAGS.false c.tag_type-t.ensures c.if-f-t.true

pub returns : goal.returns
returns c = con-answer _ _ _ _ c.byte.ensures (was_ok _ c.ok.ensures.value c.in_ok-f.was) c.if-word-lt-CONSTRUCTOR_TAGS.false c.tag_type-t.ensures c.if-f-t.false c.constructors.ensures c.index.ensures c.word_size.ensures c.if-word_size-eq0.false _ c.ok-2.ensures.value
