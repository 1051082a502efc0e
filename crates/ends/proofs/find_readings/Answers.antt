-- The updates alone, with a table of ends that nobody asks for.
use Rattle.ends.specs.ToldLaws.{readings_told}
use Rattle.ends.proofs.find_readings.Goals as goal

pub returns : goal.returns
returns c = readings_told c.frame_counts.ensures.0 c.updates_ends.ensures
