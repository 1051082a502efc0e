-- `behind_result` meets its contract: the step goes over the return type.
use Rattle.language.specs.Limits.{types_most, size_variables_most}
use Rattle.theory.specs.ExactTypes.{result-exact}
use Rattle.heads.specs.SkipLaws.{over-step}
use Rattle.heads.proofs.skip.behind_result.Goals as goal

pub returns : goal.returns
returns c = over-step (result-exact types_most size_variables_most) _ c.result.ensures _ c.unwrap_or.ensures
