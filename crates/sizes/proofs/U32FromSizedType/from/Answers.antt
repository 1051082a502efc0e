-- The word of a type meets its contract, return by return.
use native.Mathlib.Omega.{arith}
use Rattle.sizes.specs.WordLaws.{word-bool, word-int, word-named}
use Rattle.sizes.proofs.U32FromSizedType.from.Goals as goal

pub returns-in-Bool : goal.returns-in-Bool
returns-in-Bool c = word-bool c.in-Bool.is

pub returns-in-Int : goal.returns-in-Int
returns-in-Int c = word-int c.in-Int.is

pub returns-in-Named : goal.returns-in-Named
returns-in-Named c = word-named c.in-Named.is (omega arith) (omega arith)
