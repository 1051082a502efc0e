-- A constructor: its size, and its fields.
use native.Mathlib.Omega.{arith}
use Rattle.size_steps.specs.LeafLaws.{made-too-large, made-differs, made-done}
use Rattle.size_steps.proofs.leaves.made.Goals as goal

pub returns-then-size-ge-SIZE_MOST : goal.returns-then-size-ge-SIZE_MOST
returns-then-size-ge-SIZE_MOST c = made-too-large _ c.own_sum-size.ensures c.if-size-ge-SIZE_MOST.true

pub returns-then-not-fields_agree : goal.returns-then-not-fields_agree
returns-then-not-fields_agree c = made-differs _ c.own_sum-size.ensures (omega (arith, c.if-size-ge-SIZE_MOST.false)) c.fields_agree.ensures c.if-not-fields_agree.true

pub returns : goal.returns
returns c = made-done _ c.own_sum-size.ensures (omega (arith, c.if-size-ge-SIZE_MOST.false)) c.fields_agree.ensures c.if-not-fields_agree.false c.requires.1 c.one_cell.ensures c.after-numbers.ensures
