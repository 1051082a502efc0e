use Prim.Native.Nat.{◌+◌, ◌*◌, ◌-◌}
use Rattle.language.specs.Limits.{byte_range}
use Rattle.expression_reader.specs.NestedLaws.{NestedTo}
use Rattle.text.specs.Places.{bytes_left}
use Rattle.expression_reader.specs.Weights.{level_weight, behind_rank, form_rank, branches_rank, nested_rank, head_rank}
use Rattle.expression_reader.proofs.+passing.Given as goal

abbrev pub decreases-behind : goal.decreases-behind
decreases-behind l = l.levels * level_weight + behind_rank

abbrev pub decreases-binding : goal.decreases-binding
decreases-binding l = l.levels * level_weight + form_rank

abbrev pub decreases-branches : goal.decreases-branches
decreases-branches l = l.levels * level_weight + (branches_rank + (byte_range - l.k))

abbrev pub decreases-case_of : goal.decreases-case_of
decreases-case_of l = l.levels * level_weight + form_rank

abbrev pub decreases-fit : goal.decreases-fit
decreases-fit l = l.levels * level_weight + form_rank

abbrev pub decreases-head : goal.decreases-head
decreases-head l = l.levels * level_weight + head_rank

abbrev pub decreases-nested : goal.decreases-nested
decreases-nested l = l.levels * level_weight + nested_rank

abbrev pub invariant-nested-loop-left : goal.invariant-nested-loop-left
invariant-nested-loop-left l = NestedTo l.line l.index l.initial.next l.s l.levels l.most l.next l.waiting l.depth l.left

abbrev pub decreases-nested-loop-left : goal.decreases-nested-loop-left
decreases-nested-loop-left l = bytes_left l.line l.next.at * 2 + l.depth
