-- Each number that is needed, against the board.
use Rattle.answers.specs.JudgeLaws.{heap-over, environment-over, stack-over, enough}
use Rattle.answers.proofs.judge.Goals as goal

pub returns-then-b-x : goal.returns-then-b-x
returns-then-b-x c = heap-over c.bounds.ensures c.if-b-x.true

pub returns-then-b-x-2 : goal.returns-then-b-x-2
returns-then-b-x-2 c = environment-over c.bounds-then-b-x-2.ensures c.if-b-x.false c.if-b-x-2.true

pub returns-then-b-x-3 : goal.returns-then-b-x-3
returns-then-b-x-3 c = stack-over c.bounds-then-b-x-3.ensures c.if-b-x.false c.if-b-x-2.false c.if-b-x-3.true

pub returns : goal.returns
returns c = enough c.bounds-2.ensures c.if-b-x.false c.if-b-x-2.false c.if-b-x-3.false
