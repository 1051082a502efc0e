-- The cells, the channels, what they reach.
use Rattle.std.proofs.Common.{◌≡◌, true, false, sym, ◌∙◌}
use Rattle.state_check.specs.LoadLaws.{right-no-cells, right-no-channels, right-reached}
use Rattle.state_check.proofs.state_right.Goals as goal
use Rattle.state_check.proofs.state_right.Goals.{then-cells_fit, else-cells_fit}

pub returns-then-channels_fit : goal.returns-then-channels_fit
returns-then-channels_fit c = elim c.if-cells_fit.branch [
  | then-cells_fit w ↦ right-reached c.cells_fit.ensures w.if-cells_fit.true w.channels_fit.ensures (sym w.value-is ∙ c.if-channels_fit.true) c.all_reached.ensures
  | else-cells_fit w ↦ absurd (let z : true ≡ false = sym c.if-channels_fit.true ∙ w.value-is ∙ w.if-cells_fit.false in cc)
]

pub returns-else-channels_fit : goal.returns-else-channels_fit
returns-else-channels_fit c = rw c.if-channels_fit.false (elim c.if-cells_fit.branch [
  | then-cells_fit w ↦ right-no-channels c.cells_fit.ensures w.if-cells_fit.true w.channels_fit.ensures (sym w.value-is ∙ c.if-channels_fit.false)
  | else-cells_fit w ↦ right-no-cells c.cells_fit.ensures w.if-cells_fit.false
])
