-- A word of a table stored; beyond it nothing changes.
use mathlib.Core.Path.{sym}
use lib.Seq.{set_out}
use Rattle.index.proofs.put.Goals as goal

pub returns-else-i-row : goal.returns-else-i-row
returns-else-i-row c = sym (set_out _ _ _ c.if-i-row.false)
