-- Words of fields of the type itself, counted one by one.
use Rattle.index.specs.CountLaws.{counted-on, counted-end}
use Rattle.signatures.proofs.types.own_among.Goals as goal

pub loop-i-preserved : goal.loop-i-preserved
loop-i-preserved c = counted-on c.loop-i.invariant c.loop-i-test.true c.word_at-word.ensures c.one_if-sum.ensures

pub returns : goal.returns
returns c = counted-end c.loop-i.invariant c.loop-i-test.false
