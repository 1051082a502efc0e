-- Records compared one after the other.
use Rattle.std.proofs.Common.{◌≡◌, arith, sym, ◌∙◌, length}
use Rattle.instance_list.specs.RecordLaws.{from-hit, from-miss, from_end, finds}
use Rattle.instance_list.proofs.find.Goals as goal

pub loop-i-preserved : goal.loop-i-preserved
loop-i-preserved c = record { low = omega arith; rest = from-miss _ _ _ _ c.loop-i-test.true (sym c.if-same.ensures) c.loop-i.invariant.rest }

pub returns : goal.returns
returns c =
    let all : c.loop-i.i ≡ length c.args.list.now = omega (arith, c.loop-i.invariant.low, c.loop-i-test.false) in
    finds (sym all ∙ from_end _ _ _ c.loop-i.invariant.low c.loop-i-test.false c.loop-i.invariant.rest)

pub returns-then-same : goal.returns-then-same
returns-then-same c = finds (from-hit _ _ _ _ c.loop-i-test.true (sym c.if-same.ensures) c.loop-i.invariant.rest)
