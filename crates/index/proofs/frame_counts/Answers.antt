-- Four words, each taken as a byte.
use mathlib.Core.Path.{refl}
use native.Mathlib.Omega.{arith}
use Rattle.index.proofs.frame_counts.Goals as goal

pub returns : goal.returns
returns c = (
  rw (c.section_word.ensures, c.section_word-2.ensures, c.section_word-3.ensures, c.section_word-4.ensures) refl,
  record { types = omega arith; functions = omega arith; inputs = omega arith; nodes = omega arith },
)
