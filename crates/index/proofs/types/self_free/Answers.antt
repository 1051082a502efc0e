-- A constructor without a field of the type itself, looked for one by one.
use Rattle.index.specs.FreeLaws.{free-start, free-found, free_on, free-none}
use Rattle.index.proofs.types.self_free.Goals as goal

pub loop-c-init : goal.loop-c-init
loop-c-init c = free-start _ _

pub returns-then-own_fields-eq0 : goal.returns-then-own_fields-eq0
returns-then-own_fields-eq0 c = free-found c.constructors-n.ensures c.loop-c.invariant c.loop-c-test.true c.own_fields.ensures c.if-own_fields-eq0.true

pub loop-c-preserved : goal.loop-c-preserved
loop-c-preserved c = free_on c.constructors-n.ensures c.loop-c.invariant c.loop-c-test.true c.own_fields.ensures c.if-own_fields-eq0.false

pub returns : goal.returns
returns c = free-none c.constructors-n.ensures c.loop-c.invariant c.loop-c-test.false
