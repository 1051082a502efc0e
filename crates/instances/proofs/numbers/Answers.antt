-- The numbers of a record, read from their words.
use Rattle.instances.specs.FindLaws.{numbers-read}
use Rattle.instances.proofs.numbers.Goals as goal

pub returns : goal.returns
returns c = numbers-read c.word_at-env.ensures c.word_at-heap.ensures c.word_at-stack.ensures
