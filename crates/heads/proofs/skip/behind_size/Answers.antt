-- `behind_size` meets its contract: the step goes over the written size.
use Rattle.language.specs.Limits.{size_variables_most}
use Rattle.theory.specs.ExactTypes.{size_exact}
use Rattle.heads.specs.SkipLaws.{over-step}
use Rattle.heads.proofs.skip.behind_size.Goals as goal

pub returns : goal.returns
returns c = over-step (size_exact size_variables_most) _ c.size.ensures _ c.unwrap_or.ensures
