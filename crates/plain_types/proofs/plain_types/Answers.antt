-- Frame by frame: those before agree, and the first that does not is the answer.
use Rattle.plain_types.specs.JudgeLaws.{judged-refused, judged-all}
use Rattle.plain_types.proofs.plain_types.Goals as goal

pub returns-then-not-frame_agrees : goal.returns-then-not-frame_agrees
returns-then-not-frame_agrees c = judged-refused _ _ c.loop-i.invariant c.frame_agrees.ensures c.if-not-frame_agrees.true c.line_behind_types.ensures

pub returns : goal.returns
returns c = judged-all _ _ c.loop-i-test.false c.loop-i.invariant
