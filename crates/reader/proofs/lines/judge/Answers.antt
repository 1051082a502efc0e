-- The answer on a text: at each turn the lines so far are counted and in the index, and what is left decides the rest.
use native.Mathlib.Omega.{arith}
use Rattle.std.specs.Prelude.{Some}
use Rattle.std.proofs.Common.{ap, ◌∙◌}
use Rattle.text_lines.specs.TextJudge.{one_at_most}
use Rattle.reader.specs.JudgeLaws.{judged-start, too-long-judges, frame-behind, frame-before, frame-within, extra-behind, bad-judges, judged-extra, judged-frame, all-judges}
use Rattle.reader.proofs.lines.judge.Goals as goal

pub returns-then-text-gt-TEXT_MOST : goal.returns-then-text-gt-TEXT_MOST
returns-then-text-gt-TEXT_MOST c = too-long-judges _ _ c.if-text-gt-TEXT_MOST.true

pub loop-at-init : goal.loop-at-init
loop-at-init c = judged-start _ _ c.if-text-gt-TEXT_MOST.false c.requires

pub loop-at-smaller-in-Extra : goal.loop-at-smaller-in-Extra
loop-at-smaller-in-Extra c = omega (arith, extra-behind c.loop-at.invariant c.rule_line.ensures (c.in-Some.is ∙ ap Some c.in-Extra.is), c.loop-at-test.true)

pub loop-at-preserved-in-Extra : goal.loop-at-preserved-in-Extra
loop-at-preserved-in-Extra c = judged-extra c.loop-at.invariant c.rule_line.ensures (c.in-Some.is ∙ ap Some c.in-Extra.is)

pub overflow_cast-at : goal.overflow_cast-at
overflow_cast-at c = omega (arith, c.loop-at.invariant.counted.within, c.loop-at.invariant.fits, frame-before c.loop-at.invariant c.rule_line.ensures (c.in-Some.is ∙ ap Some c.in-Frame.is), frame-within c.loop-at.invariant c.rule_line.ensures (c.in-Some.is ∙ ap Some c.in-Frame.is))

pub overflow_sub-end : goal.overflow_sub-end
overflow_sub-end c = omega (arith, frame-behind c.loop-at.invariant c.rule_line.ensures (c.in-Some.is ∙ ap Some c.in-Frame.is))

pub overflow_cast-end : goal.overflow_cast-end
overflow_cast-end c = omega (arith, c.loop-at.invariant.fits, frame-before c.loop-at.invariant c.rule_line.ensures (c.in-Some.is ∙ ap Some c.in-Frame.is), frame-within c.loop-at.invariant c.rule_line.ensures (c.in-Some.is ∙ ap Some c.in-Frame.is))

pub slice_bounds-channel-count : goal.slice_bounds-channel-count
slice_bounds-channel-count c = omega (arith, frame-behind c.loop-at.invariant c.rule_line.ensures (c.in-Some.is ∙ ap Some c.in-Frame.is))

pub slice_bounds-channel-start : goal.slice_bounds-channel-start
slice_bounds-channel-start c = omega (arith, frame-behind c.loop-at.invariant c.rule_line.ensures (c.in-Some.is ∙ ap Some c.in-Frame.is))

pub slice_bounds-channel-end : goal.slice_bounds-channel-end
slice_bounds-channel-end c = omega (arith, frame-before c.loop-at.invariant c.rule_line.ensures (c.in-Some.is ∙ ap Some c.in-Frame.is), frame-within c.loop-at.invariant c.rule_line.ensures (c.in-Some.is ∙ ap Some c.in-Frame.is))

pub overflow_add-channels : goal.overflow_add-channels
overflow_add-channels c = omega (arith, c.loop-at.invariant.counted.among, c.loop-at.invariant.counted.fewer, c.loop-at.invariant.counted.within, c.loop-at.invariant.fits, one_at_most _ c.channel-channels.ensures)

pub loop-at-smaller : goal.loop-at-smaller
loop-at-smaller c = omega (arith, frame-behind c.loop-at.invariant c.rule_line.ensures (c.in-Some.is ∙ ap Some c.in-Frame.is), frame-before c.loop-at.invariant c.rule_line.ensures (c.in-Some.is ∙ ap Some c.in-Frame.is), c.loop-at-test.true)

pub loop-at-preserved : goal.loop-at-preserved
loop-at-preserved c = judged-frame c.loop-at.invariant c.rule_line.ensures (c.in-Some.is ∙ ap Some c.in-Frame.is) c.put_frame.ensures c.channel-channels.ensures

pub returns-in_default : goal.returns-in_default
returns-in_default c = bad-judges c.loop-at.invariant c.rule_line.ensures c.loop-at-test.true c.in_default.is

pub returns : goal.returns
returns c = all-judges c.loop-at.invariant c.loop-at-test.false
