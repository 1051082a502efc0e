-- No record, or the words of one.
use Rattle.instance_list.specs.RecordLaws.{record-beyond, record-here}
use Rattle.instance_list.proofs.record_at.Goals as goal

pub returns-then-i-ge-INSTANCES_MOST : goal.returns-then-i-ge-INSTANCES_MOST
returns-then-i-ge-INSTANCES_MOST c = record-beyond _ _ c.if-i-ge-INSTANCES_MOST.true c.empty.ensures

pub returns : goal.returns
returns c = record-here _ _ c.if-i-ge-INSTANCES_MOST.false c.word_at-function.ensures c.sizes_at-sizes.ensures c.word_at-environment.ensures c.word_at-heap.ensures c.word_at-stack.ensures
