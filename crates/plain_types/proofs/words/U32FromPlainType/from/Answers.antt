-- The word of a type, return by return.
use native.Mathlib.Omega.{arith}
use Rattle.plain_types.specs.WordLaws.{word-bool, word-int, word-named}
use Rattle.plain_types.proofs.words.U32FromPlainType.from.Goals as goal

pub returns-in-Bool : goal.returns-in-Bool
returns-in-Bool c = word-bool c.in-Bool.is

pub returns-in-Int : goal.returns-in-Int
returns-in-Int c = word-int c.in-Int.is

pub returns-in-Named : goal.returns-in-Named
returns-in-Named c = rw c.from.ensures (word-named c.in-Named.is (omega arith))
