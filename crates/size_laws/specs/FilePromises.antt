-- What the sizes of a whole file promise: the numbers of its updates together, and the list of instances in words.
use Rattle.language.specs.RefusalNumbers.{number_of}
use Rattle.language.specs.declared.refusals.RefusalAt.{RefusalAt}
use Rattle.std.specs.Prelude.{Ok, Err}
use Rattle.size_steps.specs.Outcomes.{Counting}
use Rattle.std.specs.Prelude.{ℕ, ◌*◌, ◌≤◌, List, ◌≡◌, length}
use Rattle.language.specs.Limits.{instances_most}
use Rattle.language.specs.Result.{Result, ok, no}
use Rattle.language.specs.Syntax.{File}
use Rattle.language.specs.Checker.{SizedFile, sized_file}
use Rattle.language.specs.Cells.{updates_numbers}
use Rattle.estimate.specs.Stands.{Stands}
use Rattle.instances.specs.Listed.{instance_words_count}
use Rattle.size_steps.specs.declared.Counted.{Counted}
use Rattle.size_steps.specs.Agreement.{table, Holds, Before}
use Rattle.size_laws.specs.Promises.{Lent, IndexedFile}

-- environment and stack are the largest over the updates, their heap numbers are summed
pub data AgreesFile (P : File) (words : List ℕ) (r : Counting) : Result SizedFile → Type 0 where
  file_agrees : {k : Counted} {x : SizedFile} {memo : List ℕ} → r ≡ Ok k → Stands k.numbers (updates_numbers x.updates) → Holds P (table words memo) k.used x.list → AgreesFile P words r (ok x)
  file_refused : {why : RefusalAt} → r ≡ Err why → AgreesFile P words r (no (number_of why.refusal) why.frame)
  file_beyond : {n frame : ℕ} → Before n → AgreesFile P words r (no n frame)

pub record SizesFile (t : Lent) (list : List ℕ) (r : Counting) (list' : List ℕ) : Type 0 where
  pub says : (P : File) → IndexedFile t P → instance_words_count * instances_most ≤ length list → AgreesFile P list' r (sized_file P)
