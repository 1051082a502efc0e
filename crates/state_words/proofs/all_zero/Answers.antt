-- Every word tested, none left out.
use Rattle.state_words.specs.RowLaws.{zero-start, zero-on}
use Rattle.state_words.proofs.all_zero.Goals as goal

pub loop-word-init : goal.loop-word-init
loop-word-init c = zero-start _

pub loop-word-preserved : goal.loop-word-preserved
loop-word-preserved c = zero-on c.loop-word.invariant c.loop-word-test.true
