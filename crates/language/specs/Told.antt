-- What an answer of the code says, as the definitions have it: the value, or the number of the refusal and its frame.
use Rattle.std.specs.Prelude.{Result as Outcome, Ok, Err}
use Rattle.language.specs.declared.refusals.RefusalAt.{RefusalAt}
use Rattle.language.specs.RefusalNumbers.{number_of}
use Rattle.language.specs.Result.{Result, ok, no}

unfoldable pub told : {A : Type 0} → Outcome A RefusalAt → Result A
told (Ok a) = ok a
told (Err e) = no (number_of e.refusal) e.frame
