-- An Int behind its code, return by return.
use Rattle.language.specs.Oks.{was_ok, was_err}
use Rattle.input_line.specs.LeafLaws.{int-unwanted, int-none, int-read}
use Rattle.input_line.proofs.int_behind.Goals as goal

pub returns-then-word-ne-FIELD_INT : goal.returns-then-word-ne-FIELD_INT
returns-then-word-ne-FIELD_INT c = int-unwanted _ _ _ c.if-word-ne-FIELD_INT.true

pub returns-in_err-next : goal.returns-in_err-next
returns-in_err-next c = rw c.from_residual.ensures (int-none _ _ _ c.past_int.ensures (was_err _ c.ok.ensures.value c.in_err-next.was).1)

pub returns : goal.returns
returns c = int-read _ _ _ c.past_int.ensures c.if-word-ne-FIELD_INT.false (was_ok _ c.ok.ensures.value c.in_ok-next.was)
