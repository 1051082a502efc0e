use Rattle.std.proofs.Common.{refl}
use Rattle.answers.specs.Boards.{answer_of}
use Rattle.answers.proofs.AnswerFromResultUnitRefusalAt.from.Goals as goal

pub returns-in-Ok : goal.returns-in-Ok
unfolding answer_of
returns-in-Ok c = rw c.in-Ok.is refl

pub returns-in-Err : goal.returns-in-Err
unfolding answer_of
returns-in-Err c = rw (c.in-Err.is, c.number.ensures) refl
