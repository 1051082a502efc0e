-- `levels_in` meets its contract, return by return.
use Rattle.expression_reader.specs.ScopeLaws.{wide-variables, wide-sizes, all-levels}
use Rattle.expression_reader.proofs.levels_in.Goals.{else-s-le-VARIABLES_MOST-via-then-s-le-VARIABLES_MOST+else-s-le-SIZE_VARIABLES_MOST, else-s-le-VARIABLES_MOST-via-else-s-le-VARIABLES_MOST}
use Rattle.expression_reader.proofs.levels_in.Goals as goal

pub returns-then-s-le-SIZE_VARIABLES_MOST : goal.returns-then-s-le-SIZE_VARIABLES_MOST
returns-then-s-le-SIZE_VARIABLES_MOST c = all-levels c.args.s c.args.levels c.if-s-le-VARIABLES_MOST.true c.if-s-le-SIZE_VARIABLES_MOST.true

pub returns-else-s-le-VARIABLES_MOST : goal.returns-else-s-le-VARIABLES_MOST
returns-else-s-le-VARIABLES_MOST c = elim c.else-s-le-VARIABLES_MOST.branch [ else-s-le-VARIABLES_MOST-via-then-s-le-VARIABLES_MOST+else-s-le-SIZE_VARIABLES_MOST w ↦ wide-sizes c.args.s c.args.levels w.if-s-le-VARIABLES_MOST.true w.if-s-le-SIZE_VARIABLES_MOST.false | else-s-le-VARIABLES_MOST-via-else-s-le-VARIABLES_MOST w ↦ wide-variables c.args.s c.args.levels w.if-s-le-VARIABLES_MOST.false ]
