use borrow.Author.Rules.{rules}
use Rattle.channel_sets.specs.Sets.{in_set}
use Rattle.channel_sets.proofs.has.Goals as goal

pub returns : goal.returns
unfolding in_set
returns c = search rules
