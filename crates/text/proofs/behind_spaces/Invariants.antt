use Rattle.std.proofs.Common.{◌≡◌}
use Rattle.text.specs.Places.{pair_place_of}
use Rattle.text.proofs.behind_spaces.Given as goal

abbrev pub invariant-loop-at : goal.invariant-loop-at
invariant-loop-at l = pair_place_of l.line l.at ≡ pair_place_of l.line l.from
