-- A frame is in order: kind by kind, in turn or late.
use Rattle.std.proofs.Common.{refl, ap, ◌∙◌, arith}
use Rattle.reader.specs.Frames.{meant}
use Rattle.reader.specs.OrderLaws.{node-order, input-order, function-order, type-order, input-late, function-late, type-late}
use Rattle.reader.proofs.frames.in_order.Goals.{then-known-eq0, else-known-eq0, then-known-eq0-2, else-known-eq0-2, then-known-eq0-4, else-known-eq0-4}
use Rattle.reader.proofs.frames.in_order.Goals as goal

pub returns-then-known-eq0-3 : goal.returns-then-known-eq0-3
returns-then-known-eq0-3 c = type-order (ap meant c.in-Type.is) c.if-known-eq0-3.true.0 c.if-known-eq0-3.true.1 c.if-known-eq0-3.true.2

pub returns-else-known-eq0-3 : goal.returns-else-known-eq0-3
returns-else-known-eq0-3 c =
    elim c.if-known-eq0-2.branch [
      | then-known-eq0-2 w ↦ type-late w.t-5-is (omega arith) (ap meant c.in-Type.is) (omega arith)
      | else-known-eq0-2 w ↦ elim c.if-known-eq0.branch [ then-known-eq0 v ↦ type-late (w.t-5-is ∙ v.t-6-is) (omega arith) (ap meant c.in-Type.is) (omega arith) | else-known-eq0 v ↦ type-late (w.t-5-is ∙ v.t-6-is) (omega arith) (ap meant c.in-Type.is) (omega arith) ]
    ]

pub returns-then-known-eq0-5 : goal.returns-then-known-eq0-5
returns-then-known-eq0-5 c = function-order (ap meant c.in-Function.is) c.if-known-eq0-5.true.0 c.if-known-eq0-5.true.1

pub returns-else-known-eq0-5 : goal.returns-else-known-eq0-5
returns-else-known-eq0-5 c = elim c.if-known-eq0-4.branch [ then-known-eq0-4 w ↦ function-late w.t-9-is (omega arith) (ap meant c.in-Function.is) (omega arith) | else-known-eq0-4 w ↦ function-late w.t-9-is (omega arith) (ap meant c.in-Function.is) (omega arith) ]

pub returns-then-known-eq0-6 : goal.returns-then-known-eq0-6
returns-then-known-eq0-6 c = input-order (ap meant c.in-Input.is) c.if-known-eq0-6.true

pub returns-else-known-eq0-6 : goal.returns-else-known-eq0-6
returns-else-known-eq0-6 c = input-late refl c.if-known-eq0-6.false (ap meant c.in-Input.is) (omega arith)

pub returns-in-Node : goal.returns-in-Node
returns-in-Node c = node-order (ap meant c.in-Node.is)
