use mathlib.Core.Path.{◌≡◌}
use Rattle.plain_types.specs.Words.{entered}
use Rattle.plain_types.proofs.words.enter.Given as goal

abbrev pub invariant-loop-i : goal.invariant-loop-i
invariant-loop-i l = l.scope ≡ entered l.index l.want l.initial.scope l.to l.i
