use Prim.Native.Nat.{◌+◌, ◌*◌}
use Rattle.index.specs.Tables.{function_words}
use Rattle.index.specs.Sections.{functions_of}
use Rattle.index.specs.Enters.{is_named}
use Rattle.index.specs.CountLaws.{Counted}
use Rattle.index.proofs.functions.named.Given as goal

abbrev pub invariant-loop-i : goal.invariant-loop-i
invariant-loop-i l = Counted is_named (functions_of l.index) (function_words * l.f + 1) l.n l.i l.sum
