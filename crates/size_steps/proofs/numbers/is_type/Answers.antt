use Rattle.std.proofs.Common.{◌∙◌}
use Rattle.size_steps.specs.LeafLaws.{types-tested}
use Rattle.size_steps.proofs.numbers.is_type.Goals as goal

pub returns : goal.returns
returns c = c.eq.ensures ∙ types-tested _ _
