-- Demand 2 for the code, by its promise: each place of document 01's table exactly where its condition holds; acceptance with the numbers
-- that are derived.
use Rattle.std.specs.Prelude.{ℕ, List}
use Rattle.std.proofs.Common.{sym, subst}
use Rattle.language.specs.Machine.{list_lent}
use Rattle.language.specs.Acceptance.{CheckerDemand}
use Rattle.theory.specs.CheckerDemands.{check-demand}
use Rattle.instance_list.specs.declared.Instance.{Instance}
use Rattle.instance_list.specs.Records.{records_of}
use Rattle.answers.specs.declared.Board.{Board}
use Rattle.answers.specs.declared.Answer.{Answer}
use Rattle.answers.specs.Boards.{board_of, said}
use Rattle.checker.specs.Checks.{Checks}

pub checked-demand : {text : List ℕ} {b : Board} {list list' : List Instance} {r : Answer} → Checks text b list r list' → CheckerDemand text (list_lent (board_of b) (records_of list)) (board_of b) (said r)
checked-demand {text} {b} {list} c = subst (CheckerDemand text _ (board_of b)) (sym c.answer) (check-demand text (board_of b) (records_of list))
