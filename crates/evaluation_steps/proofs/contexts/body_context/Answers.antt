-- Where a function's body is evaluated, from the index.
use Rattle.evaluation_steps.specs.LeafLaws.{body-found}
use Rattle.evaluation_steps.proofs.contexts.body_context.Goals as goal

pub returns : goal.returns
returns c = body-found _ c.args.p _ _ c.body_start-at.ensures c.line_behind_types-line.ensures
