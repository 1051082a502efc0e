-- What the size checker answers: what was checked, or why it is refused and in which frame.
use Rattle.std.specs.Prelude.{ℕ, Result as Outcome, Err}
use Rattle.language.specs.declared.refusals.Refusal.{Refusal}
use Rattle.language.specs.declared.refusals.RefusalAt.{RefusalAt}
use Rattle.size_steps.specs.declared.Checked.{Checked}
use Rattle.size_steps.specs.declared.Counted.{Counted}
use Rattle.size_steps.specs.declared.Entry.{Entry}

-- an expression
abbrev pub Sizing : Type 0
Sizing = Outcome Checked RefusalAt

-- arguments or fields
abbrev pub Counting : Type 0
Counting = Outcome Counted RefusalAt

-- a call up to its body
abbrev pub Entering : Type 0
Entering = Outcome Entry RefusalAt

abbrev pub Refused : {A : Type 0} → Refusal → ℕ → Outcome A RefusalAt
Refused n frame = Err (record { refusal = n; frame = frame })
