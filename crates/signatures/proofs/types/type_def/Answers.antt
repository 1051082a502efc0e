-- The section of types is lent, and a type entered there.
use native.Mathlib.Omega.{arith}
use Rattle.index.specs.Sections.{types_from, type_table_words}
use Rattle.index.specs.EnterLaws.{enters-lent}
use Rattle.signatures.proofs.types.type_def.Goals as goal

pub returns : goal.returns
returns c = enters-lent types_from type_table_words _ _ (omega arith) c.type_into.auto.types c.type_into.ensures
