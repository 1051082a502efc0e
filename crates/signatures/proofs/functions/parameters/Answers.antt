-- The section of functions is lent, and the parameters of one entered there.
use native.Mathlib.Omega.{arith}
use Rattle.index.specs.Sections.{functions_from, function_table_words}
use Rattle.index.specs.EnterLaws.{enters-lent}
use Rattle.signatures.proofs.functions.parameters.Goals as goal

pub returns : goal.returns
returns c = enters-lent functions_from function_table_words _ _ (omega arith) c.head_into.auto.functions c.head_into.ensures
