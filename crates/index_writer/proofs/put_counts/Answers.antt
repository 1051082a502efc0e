-- Four words, one after the other.
use native.Mathlib.Omega.{arith}
use Rattle.index.specs.SectionLaws.{counts-put}
use Rattle.index_writer.proofs.put_counts.Goals as goal

pub returns : goal.returns
returns c = rw (c.put-4.ensures, c.put-3.ensures, c.put-2.ensures, c.put.ensures) (counts-put _ _ (omega arith))
