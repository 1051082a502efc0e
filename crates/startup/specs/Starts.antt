-- What starting a text promises: the machine's answer, and every lent buffer as it leaves it.
use Rattle.std.specs.Prelude.{ℕ, List, ◌≡◌, length}
use Rattle.language.specs.Machine.{Started, start}
use Rattle.instance_list.specs.declared.Instance.{Instance}
use Rattle.instance_list.specs.Records.{records_of, filled}
use Rattle.answers.specs.declared.Board.{Board}
use Rattle.answers.specs.declared.Answer.{Answer}
use Rattle.answers.specs.Boards.{board_of, said, lent_records}

-- ---- the promise of the public call
pub record Starts (text : List ℕ) (b : Board) (list : List Instance) (state scratch slots : List ℕ) (r : Answer) (list' : List Instance) (state' scratch' slots' : List ℕ) : Type 0 where
  pub answer_is : said r ≡ (start text (board_of b) (records_of list) state scratch slots).answer
  pub list_is : records_of list' ≡ (start text (board_of b) (records_of list) state scratch slots).list
  pub state_is : state' ≡ (start text (board_of b) (records_of list) state scratch slots).state
  pub scratch_is : scratch' ≡ (start text (board_of b) (records_of list) state scratch slots).scratch
  pub slots_is : slots' ≡ (start text (board_of b) (records_of list) state scratch slots).slots

-- ---- the same with the list in words, which fill one of so many records
abbrev pub started : List ℕ → Board → ℕ → List ℕ → List ℕ → List ℕ → Started
started text b records state scratch slots = start text (board_of b) (lent_records records) state scratch slots

pub record StartsWords (text : List ℕ) (b : Board) (records : ℕ) (state scratch slots : List ℕ) (r : Answer) (words' state' scratch' slots' : List ℕ) : Type 0 where
  pub answer_is : said r ≡ (started text b records state scratch slots).answer
  pub list_is : records_of (filled words' records) ≡ (started text b records state scratch slots).list
  pub state_is : state' ≡ (started text b records state scratch slots).state
  pub scratch_is : scratch' ≡ (started text b records state scratch slots).scratch
  pub slots_is : slots' ≡ (started text b records state scratch slots).slots

-- ---- the parts
pub record StartsRead (text : List ℕ) (b : Board) (records : ℕ) (state scratch slots : List ℕ) (r : Answer) (words' state' slots' : List ℕ) : Type 0 where
  pub answer_is : said r ≡ (started text b records state scratch slots).answer
  pub list_is : records_of (filled words' records) ≡ (started text b records state scratch slots).list
  pub state_is : state' ≡ (started text b records state scratch slots).state
  pub long : length slots' ≡ length slots
