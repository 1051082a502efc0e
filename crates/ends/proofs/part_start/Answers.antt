-- The start of a part, by the accessor of its section.
use Rattle.ends.specs.Told.{start_of}
use Rattle.ends.proofs.part_start.Goals as goal

pub returns-in-Body : goal.returns-in-Body
unfolding start_of
returns-in-Body c = rw (c.in-Body.is) c.body_start.ensures

pub returns-in-Initial : goal.returns-in-Initial
unfolding start_of
returns-in-Initial c = rw (c.in-Initial.is) c.initial_start.ensures

pub returns-in-Update : goal.returns-in-Update
unfolding start_of
returns-in-Update c = rw (c.in-Update.is) c.update_start.ensures
