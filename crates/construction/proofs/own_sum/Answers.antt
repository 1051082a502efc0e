-- The fields one by one.
use Rattle.construction.specs.ConstructLaws.{summed-start, summed-on, summed-over, summed-end}
use Rattle.construction.proofs.own_sum.Goals as goal

pub returns-in_err-own : goal.returns-in_err-own
returns-in_err-own c = rw c.from_residual.ensures (summed-over c.loop-i.invariant c.loop-i-test.true c.field_word-word.ensures c.word_at-l.ensures c.with_field.ensures c.in_err-own.was)

pub loop-i-preserved : goal.loop-i-preserved
loop-i-preserved c = summed-on c.loop-i.invariant c.loop-i-test.true c.field_word-word.ensures c.word_at-l.ensures c.with_field.ensures c.in_ok-own.was

pub returns : goal.returns
returns c = summed-end c.loop-i.invariant c.loop-i-test.false
