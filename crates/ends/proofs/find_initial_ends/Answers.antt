-- The bodies first, then the initial values, whose lines stand behind them.
use mathlib.Core.Path.{refl}
use Rattle.ends.specs.ToldLaws.{initials-told}
use Rattle.ends.proofs.find_initial_ends.Goals as goal

pub returns : goal.returns
returns c = initials-told c.frame_counts-c.ensures.0 c.lines_ends.ensures refl refl c.lines_ends-2.ensures
