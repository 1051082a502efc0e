-- A result type is read by its first byte; behind a named type's number its size is passed over.
use Rattle.language.specs.Oks.{was_ok, was_err}
use Rattle.plain_types.specs.ReadLaws.{result-stops, result-leaf, result-cut, result-open, result-named}
use Rattle.plain_types.proofs.words.result_type.Goals as goal

pub returns-in_err-f : goal.returns-in_err-f
returns-in_err-f c = rw c.from_residual.ensures (result-stops _ _ c.byte.ensures (was_err _ c.ok.ensures.value c.in_err-f.was).1)

pub returns-then-form-lt-TYPE_NAMED : goal.returns-then-form-lt-TYPE_NAMED
returns-then-form-lt-TYPE_NAMED c = result-leaf _ _ c.byte.ensures (was_ok _ c.ok.ensures.value c.in_ok-f.was) c.if-form-lt-TYPE_NAMED.true c.from.ensures c.answer.ensures

pub returns-in_err-g : goal.returns-in_err-g
returns-in_err-g c = rw c.from_residual-in_err-g.ensures (result-cut _ _ c.byte.ensures (was_ok _ c.ok.ensures.value c.in_ok-f.was) c.if-form-lt-TYPE_NAMED.false c.byte-2.ensures (was_err _ c.ok-2.ensures.value c.in_err-g.was).1)

pub returns-in_err-next : goal.returns-in_err-next
returns-in_err-next c = rw c.from_residual-in_err-next.ensures (result-open _ _ c.byte.ensures (was_ok _ c.ok.ensures.value c.in_ok-f.was) c.if-form-lt-TYPE_NAMED.false c.byte-2.ensures (was_ok _ c.ok-2.ensures.value c.in_ok-g.was) c.size.ensures (was_err _ c.ok-3.ensures.value c.in_err-next.was).1)

pub returns : goal.returns
returns c = result-named _ _ c.byte.ensures (was_ok _ c.ok.ensures.value c.in_ok-f.was) c.if-form-lt-TYPE_NAMED.false c.byte-2.ensures (was_ok _ c.ok-2.ensures.value c.in_ok-g.was) c.size.ensures (was_ok _ c.ok-3.ensures.value c.in_ok-next.was) c.named.ensures c.answer-2.ensures
