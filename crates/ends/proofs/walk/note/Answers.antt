-- A word of the table stored; beyond it nothing changes.
use native.Mathlib.Omega.{arith}
use Rattle.ends.specs.WalkLaws.{note-stored, note-large, note-beyond}
use Rattle.ends.proofs.walk.note.Goals as goal

pub returns-then-word-gt-TEXT_MOST : goal.returns-then-word-gt-TEXT_MOST
returns-then-word-gt-TEXT_MOST c = note-large c.if-word-gt-TEXT_MOST.true

pub returns-then-ends-from : goal.returns-then-ends-from
returns-then-ends-from c = note-beyond (omega (arith, c.if-ends-from.true))

pub returns-then-ends-from-2 : goal.returns-then-ends-from-2
returns-then-ends-from-2 c = note-beyond (omega (arith, c.if-ends-from-2.true))

pub returns : goal.returns
returns c = note-stored (omega arith)
