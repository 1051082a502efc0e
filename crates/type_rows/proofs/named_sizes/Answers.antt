-- The sizes of the named types of a row, written one by one.
use Rattle.type_rows.specs.NamedLaws.{writing-named, writing-plain, writing-end}
use Rattle.type_rows.proofs.named_sizes.Goals as goal
use Rattle.type_rows.proofs.named_sizes.Goals.{then-word-ge-TYPE_STEP, else-word-ge-TYPE_STEP}

pub loop-i-preserved : goal.loop-i-preserved
loop-i-preserved c =
    elim c.if-word-ge-TYPE_STEP.branch [
      | then-word-ge-TYPE_STEP w ↦ writing-named c.loop-i.invariant c.loop-i-test.true c.word_at-word.ensures w.if-word-ge-TYPE_STEP.true w.put_size.ensures w.sizes-is w.count-is
      | else-word-ge-TYPE_STEP w ↦ writing-plain c.loop-i.invariant c.loop-i-test.true c.word_at-word.ensures w.if-word-ge-TYPE_STEP.false w.sizes-is w.count-is
    ]

pub returns : goal.returns
returns c = writing-end c.loop-i.invariant c.loop-i-test.false
