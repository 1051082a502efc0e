-- Too many cells, too many channels, words that are not zero.
use Rattle.state_check.specs.LoadLaws.{laid-short, laid-unclear, laid-beyond}
use Rattle.state_check.proofs.laid_out.Goals as goal

pub returns-then-cells-used : goal.returns-then-cells-used
returns-then-cells-used c = laid-short c.if-cells-used.true

pub returns-then-not-channels_clear : goal.returns-then-not-channels_clear
returns-then-not-channels_clear c = laid-unclear c.if-cells-used.false c.channels_clear.ensures c.if-not-channels_clear.true

pub returns : goal.returns
returns c = laid-beyond c.if-cells-used.false c.channels_clear.ensures c.if-not-channels_clear.false c.cells_clear.ensures
