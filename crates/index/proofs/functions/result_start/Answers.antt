-- The result is the first of the four parts.
use Prim.Native.Nat.{ℕ, ◌+◌, ◌*◌}
use mathlib.Core.Path.{ap, ◌∙◌}
use native.Mathlib.Nat.{add-zero}
use lib.ListN.{get_or}
use Rattle.index.specs.Tables.{function_words}
use Rattle.index.specs.FunctionTable.{head_words}
use Rattle.index.specs.Sections.{functions_of}
use Rattle.index.proofs.functions.result_start.Goals as goal

pub returns : goal.returns
returns c = c.part_start.ensures ∙ ap (λ (i : ℕ). get_or (functions_of c.args.index.now) i 0) (add-zero (function_words * c.args.f + head_words))
