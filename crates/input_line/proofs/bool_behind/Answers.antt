-- A Bool behind its code, return by return.
use Rattle.language.specs.Oks.{was_ok, was_err}
use Rattle.input_line.specs.LeafLaws.{bool-unwanted, bool-none, bool-read}
use Rattle.input_line.proofs.bool_behind.Goals as goal

pub returns-then-word-ne-FIELD_BOOL : goal.returns-then-word-ne-FIELD_BOOL
returns-then-word-ne-FIELD_BOOL c = bool-unwanted _ _ _ c.if-word-ne-FIELD_BOOL.true

pub returns-in_err-f : goal.returns-in_err-f
returns-in_err-f c = rw c.from_residual.ensures (bool-none _ _ _ c.code.ensures (was_err _ c.ok.ensures.value c.in_err-f.was).1)

pub returns : goal.returns
returns c = bool-read _ _ _ c.code.ensures c.if-word-ne-FIELD_BOOL.false (was_ok _ c.ok.ensures.value c.in_ok-f.was)
