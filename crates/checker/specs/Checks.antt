-- What checking a text promises: the answer of the machine's `check`, and its list.
use Rattle.std.specs.Prelude.{ℕ, List, Bool, true, Ok, Err, ◌≡◌}
use Rattle.language.specs.declared.refusals.RefusalAt.{RefusalAt}
use Rattle.language.specs.RefusalNumbers.{number_of}
use Rattle.language.specs.Result.{ok, no}
use Rattle.language.specs.Checker.{SizedFile}
use Rattle.language.specs.Syntax.{File}
use Rattle.language.specs.PlainTyping.{WellPlain}
use Rattle.language.specs.Order.{Acyclic}
use Rattle.language.specs.Within.{Within}
use Rattle.language.specs.Estimate.{Estimate as Exact, stopped}
use Rattle.language.specs.Cells.{updates_numbers, numbers_needed}
use Rattle.language.specs.Machine.{answer, verdict_of, final_list, check_file, check}
use Rattle.index.specs.Tables.{type_table}
use Rattle.index.specs.Sections.{counts_in, types_of}
use Rattle.index.specs.Whole.{FileSections}
use Rattle.cells.specs.Counts.{ChannelsTold}
use Rattle.estimate.specs.declared.Estimate.{Estimate as Held}
use Rattle.estimate.specs.Stands.{Stands}
use Rattle.index.specs.Indexed.{Indexed, Counted}
use Rattle.instance_list.specs.declared.Instance.{Instance}
use Rattle.instance_list.specs.Records.{records_of, filled}
use Rattle.size_steps.specs.declared.Counted.{Counted as CountedFile}
use Rattle.size_steps.specs.Outcomes.{Counting}
use Rattle.size_steps.specs.Agreement.{table, Holds}
use Rattle.answers.specs.declared.Board.{Board}
use Rattle.answers.specs.declared.Answer.{Answer}
use Rattle.answers.specs.Boards.{board_of, numbers_of, said, lent_records, Granted}

-- ---- the promise of the public call
pub record Checks (text : List ℕ) (b : Board) (list : List Instance) (r : Answer) (list' : List Instance) : Type 0 where
  pub answer : said r ≡ (check text (board_of b) (records_of list)).answer
  pub instances : records_of list' ≡ (check text (board_of b) (records_of list)).list

-- ---- the same in words, which fill a list of so many records
pub record ChecksWords (text : List ℕ) (b : Board) (records : ℕ) (r : Answer) (words' : List ℕ) : Type 0 where
  pub answer : said r ≡ (check text (board_of b) (lent_records records)).answer
  pub instances : records_of (filled words' records) ≡ (check text (board_of b) (lent_records records)).list

-- ---- a file that was read, whether enough is lent having been judged
pub record ChecksGiven (text : List ℕ) (b : Board) (given : Bool) (r : Answer) (words' : List ℕ) : Type 0 where
  pub says : said r ≡ answer (verdict_of (board_of b) (check_file text given))
  pub instances : (n : ℕ) → Granted given n → records_of (filled words' n) ≡ final_list (verdict_of (board_of b) (check_file text given)) (check_file text given) n

-- ---- a text that was read, and its index
pub record ReadHeld (text index : List ℕ) : Type 0 where
  pub file : File
  pub indexed : Indexed text index file
  pub sections : FileSections text index file

-- and it is of right plain types, and no node reads itself
pub record OrderedHeld (text index : List ℕ) : Type 0 where
  pub held : ReadHeld text index
  pub plain : WellPlain held.file
  pub acyclic : Acyclic held.file

-- ---- the parts
pub record Needs (index : List ℕ) (updates r : Held) : Type 0 where
  pub says : (P : File) → Within P → types_of index ≡ type_table P.types → ChannelsTold index P → Counted (counts_in index) P → (xs : List Exact) → Stands updates (updates_numbers xs) → numbers_of r ≡ stopped (numbers_needed P xs)

-- the numbers and the instances of a file whose sizes agree
pub record SizesAgree (text : List ℕ) (given : Bool) (P : File) (words : List ℕ) (k : CountedFile) : Type 0 where
  pub sizes : SizedFile
  pub memo : List ℕ
  pub is : check_file text given ≡ ok (record { file = P; sizes = sizes })
  pub numbers : Stands k.numbers (updates_numbers sizes.updates)
  pub holds : Holds P (table words memo) k.used sizes.list

-- what the passes over a file that was read find: a refusal, or sizes that agree, where enough is lent
pub data SizesFound (text index : List ℕ) (given : Bool) : Counting → List ℕ → Type 0 where
  sizes_refused : {e : RefusalAt} {words' : List ℕ} → check_file text given ≡ no (number_of e.refusal) e.frame → SizesFound text index given (Err e) words'
  sizes_agree : {k : CountedFile} {words' : List ℕ} (z : ReadHeld text index) → given ≡ true → SizesAgree text given z.file words' k → SizesFound text index given (Ok k) words'
