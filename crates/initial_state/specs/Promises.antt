-- What laying the state at the start promises: wherever the rules lead from a file's initial values to a state, the words are that state's.
use Rattle.std.specs.Prelude.{ℕ, List, ◌≡◌, length, drop, take, replicate}
use Rattle.language.specs.Limits.{channels_most}
use Rattle.language.specs.Syntax.{File, initial_values}
use Rattle.language.specs.Slide.{State}
use Rattle.language.specs.Layout.{padded, state_length, state_words}
use Rattle.language.specs.InitialValues.{FileBegins}
use Rattle.index.specs.Indexed.{Indexed}
use Rattle.state_words.specs.Holds.{Holds}
use Rattle.ends.specs.Ended.{InitialsTold}
use Rattle.evaluator.specs.ChannelValues.{board_lent}

-- ---- the promise of the public function
pub record LaysState (text index : List ℕ) (calls : ℕ) (words slots words' slots' : List ℕ) : Type 0 where
  pub says : {P : File} {cells : ℕ} {s : State} → Indexed text index P → length words ≡ state_length cells → FileBegins P (board_lent cells slots calls) s → words' ≡ state_words cells s
  pub long : length slots' ≡ length slots

-- ---- the cells and the channels
-- a file with n channels, its table of ends, and a board's words, all zero
pub record AtStart (text index ends : List ℕ) (n : ℕ) (words : List ℕ) (P : File) (cells : ℕ) : Type 0 where
  pub indexed : Indexed text index P
  pub told : InitialsTold text index ends P
  pub all : n ≡ length (initial_values P)
  pub board : length words ≡ state_length cells
  pub clear : words ≡ replicate (state_length cells) 0

-- a state's cells and channels are in the words, which are otherwise as they were
pub record Laid (words words' : List ℕ) (used : ℕ) (s : State) : Type 0 where
  pub heap : Holds words' used s.heap
  pub channels : take channels_most (drop 1 words') ≡ padded channels_most s.roots
  pub beyond : drop (state_length used) words' ≡ drop (state_length used) words
  pub long : length words' ≡ length words

pub record LaysInitials (text index ends : List ℕ) (n calls : ℕ) (words slots : List ℕ) (used : ℕ) (words' slots' : List ℕ) : Type 0 where
  pub says : {P : File} {cells : ℕ} {s : State} → AtStart text index ends n words P cells → FileBegins P (board_lent cells slots calls) s → Laid words words' used s
  pub long : length slots' ≡ length slots
