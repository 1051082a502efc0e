-- The kinds are those of the definition, by their codes.
use Rattle.std.proofs.Common.{arith}
use Rattle.language.specs.Parser.{decode}
use Rattle.language.specs.Result.{choose}
use Rattle.reader.specs.OrderLaws.{unknown_code}
use Rattle.reader.proofs.frames.kind_of.Goals as goal

pub returns-in-1 : goal.returns-in-1
unfolding decode choose
returns-in-1 c = rw c.in-1.is

pub returns-in-2 : goal.returns-in-2
unfolding decode choose
returns-in-2 c = rw c.in-2.is

pub returns-in-3 : goal.returns-in-3
unfolding decode choose
returns-in-3 c = rw c.in-3.is

pub returns-in-4 : goal.returns-in-4
unfolding decode choose
returns-in-4 c = rw c.in-4.is

pub returns-in_default : goal.returns-in_default
returns-in_default c = unknown_code c.args.code (λ e. omega arith) (λ e. omega arith) (λ e. omega arith) (λ e. omega arith)
