-- The section of functions is lent, and four places of an entry written.
use Prim.Native.Nat.{◌+◌, ◌*◌}
use mathlib.Core.Path.{◌≡◌}
use native.Mathlib.Omega.{arith}
use lib.ListN.{set}
use Rattle.index.specs.Tables.{function_words}
use Rattle.index.specs.FunctionTable.{head_words}
use Rattle.index.specs.Sections.{functions_from, function_table_words}
use Rattle.index.specs.SectionLaws.{section-lent}
use Rattle.index_writer.proofs.put_places.Goals as goal

pub returns : goal.returns
returns c = section-lent (λ x y. y ≡ set (set (set (set x (function_words * c.args.f + head_words) c.args.res) (function_words * c.args.f + head_words + 1) c.args.conditions) (function_words * c.args.f + head_words + 2) c.args.measure) (function_words * c.args.f + head_words + 3) c.args.body)
    functions_from function_table_words _ _ (omega arith) c.places_into.auto.functions c.places_into.ensures
