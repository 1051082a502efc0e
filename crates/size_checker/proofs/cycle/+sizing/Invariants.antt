use Prim.Native.Nat.{◌+◌, ◌-◌}
use lib.ListN.{take, drop}
use Rattle.size_laws.specs.Loads.{load}
use Rattle.language.specs.Limits.{byte_range}
use Rattle.size_laws.specs.SeveralLaws.{Gathers}
use Rattle.size_laws.specs.Walks.{Walks}
use Rattle.size_laws.specs.SplitRanks.{walk_left}
use Rattle.size_laws.specs.Promises.{lent_by, buffers_of, SameList}
use Rattle.size_checker.proofs.cycle.+sizing.Given as goal

abbrev pub decreases-adjust : goal.decreases-adjust
decreases-adjust l = load l.p 900

abbrev pub decreases-apply : goal.decreases-apply
decreases-apply l = load l.p 800

abbrev pub decreases-at_splits : goal.decreases-at_splits
decreases-at_splits l = load l.p 100

abbrev pub decreases-binding : goal.decreases-binding
decreases-binding l = load l.p 900

abbrev pub decreases-body : goal.decreases-body
decreases-body l = load l.p 80

abbrev pub decreases-branch : goal.decreases-branch
decreases-branch l = load l.p 200

abbrev pub decreases-branches : goal.decreases-branches
decreases-branches l = load l.p (300 + (byte_range - l.k))

abbrev pub decreases-call : goal.decreases-call
decreases-call l = load l.p 900

abbrev pub decreases-case_of : goal.decreases-case_of
decreases-case_of l = load l.p 900

abbrev pub decreases-choice : goal.decreases-choice
decreases-choice l = load l.p 900

abbrev pub decreases-compound : goal.decreases-compound
decreases-compound l = load l.p 1000

abbrev pub decreases-construct : goal.decreases-construct
decreases-construct l = load l.p 900

abbrev pub decreases-enter : goal.decreases-enter
decreases-enter l = load l.p 90

abbrev pub decreases-enter_new : goal.decreases-enter_new
decreases-enter_new l = load l.p 85

abbrev pub decreases-expr : goal.decreases-expr
decreases-expr l = load l.p 0

abbrev pub decreases-fit : goal.decreases-fit
decreases-fit l = load l.p 900

abbrev pub decreases-operation : goal.decreases-operation
decreases-operation l = load l.p 900

abbrev pub decreases-several : goal.decreases-several
decreases-several l = load l.p 300

abbrev pub invariant-at_splits-loop-more : goal.invariant-at_splits-loop-more
invariant-at_splits-loop-more l = Walks l.s l.k (lent_by l.source) (buffers_of l.initial.instances l.initial.scope) l.p l.more (buffers_of l.instances l.scope) l.all × SameList l.initial.instances l.instances

abbrev pub decreases-at_splits-loop-more : goal.decreases-at_splits-loop-more
decreases-at_splits-loop-more l = walk_left l.more (take l.own (drop l.p.sizes l.scope.sizes))

abbrev pub invariant-several-loop-i : goal.invariant-several-loop-i
invariant-several-loop-i l = Gathers (lent_by l.source) (buffers_of l.initial.instances l.initial.scope) l.p l.n l.initial.row l.i (buffers_of l.instances l.scope) l.row l.all × SameList l.initial.instances l.instances
