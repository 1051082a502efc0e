-- Words of parameters of named types, counted one by one.
use native.Mathlib.Omega.{arith}
use Rattle.index.specs.Enters.{is_named}
use Rattle.index.specs.CountLaws.{counted_start, counted-on, named-in-all}
use Rattle.index.proofs.functions.named.Goals as goal

pub loop-i-init : goal.loop-i-init
loop-i-init c = counted_start is_named _ _ _

pub overflow_add-sum : goal.overflow_add-sum
overflow_add-sum c = omega (arith, c.loop-i.invariant.low, c.one_if-sum.ensures.1)

pub loop-i-preserved : goal.loop-i-preserved
loop-i-preserved c = counted-on c.loop-i.invariant c.loop-i-test.true c.parameter_word-word.ensures c.one_if-sum.ensures

pub returns : goal.returns
returns c = named-in-all c.arity-n.ensures c.loop-i-test.false c.loop-i.invariant
