-- The records of the lent list beside the machine's; the words in which the checker keeps them, and the list that they fill.
use Rattle.std.specs.Prelude.{ℕ, zero, suc, ◌+◌, ◌*◌, List, [], ◌∷◌, map, Bool, ◌≡◌, get_or, drop, set, replicate, eqb, leb}
use Rattle.std.proofs.Math.Option.{Option, none as nothing-there, some}
use Rattle.language.specs.Limits.{parameters_most, instances_most}
use Rattle.language.specs.Result.{both, choose}
use Rattle.language.specs.Sizes.{same_sizes}
use Rattle.language.specs.Layout.{padded}
use Rattle.language.specs.Estimate.{Estimate}
use Rattle.language.specs.Checker.{Instance as Entered, find}
use Rattle.language.specs.Machine.{Record}
use Rattle.instances.specs.Listed.{instance_words_count, numbers_from}
use Rattle.instance_list.specs.declared.Instance.{Instance}

-- ---- the code's records as the machine's
abbrev pub shown : Instance → Record
shown r = record { function = r.function; sizes = r.sizes; numbers = record { env = r.environment; heap = r.heap; stack = r.stack } }

abbrev pub records_of : List Instance → List Record
records_of list = map shown list

abbrev pub none : Instance
none = record { function = 0; sizes = replicate parameters_most 0; environment = 0; heap = 0; stack = 0 }

-- ---- in words: the records, and behind them how many are in use
abbrev pub records_words : ℕ
records_words = instances_most * instance_words_count

abbrev pub list_words : ℕ
list_words = records_words + 1

abbrev pub used_in : List ℕ → ℕ
used_in words = get_or words records_words 0

-- the sizes from a word on
abbrev pub sizes_from : List ℕ → ℕ → List ℕ
sizes_from words from = padded parameters_most (drop from words)

abbrev pub record_from : List ℕ → ℕ → Instance
record_from words at =
    record {
      function = get_or words at 0;
      sizes = sizes_from words (at + 1);
      environment = get_or words (at + numbers_from) 0;
      heap = get_or words (at + numbers_from + 1) 0;
      stack = get_or words (at + numbers_from + 2) 0;
    }

unfoldable pub record_at : List ℕ → ℕ → Instance
record_at words i = choose (leb instances_most i) none (record_from words (instance_words_count * i))

-- the first records of the words put over those of a list
unfoldable pub laid : List ℕ → ℕ → List Instance → List Instance
laid words zero list = list
laid words (suc i) list = set (laid words i list) i (record_at words i)

-- the list of so many records that the words fill
abbrev pub filled : List ℕ → ℕ → List Instance
filled words n = laid words (used_in words) (replicate n none)

-- ---- looking up
-- a record as the definition's instance, its sizes filled up
abbrev pub entered : Instance → Entered
entered r = record { function = r.function; sizes = r.sizes; numbers = record { env = r.environment; heap = r.heap; stack = r.stack } }

abbrev pub same_key : Instance → Instance → Bool
same_key r key = both (eqb r.function key.function) (same_sizes r.sizes key.sizes)

-- the place of the first record with the key's function and sizes, or the length
unfoldable pub place_of : List Instance → Instance → ℕ
place_of [] key = zero
place_of (r ∷ list) key = choose (same_key r key) zero (suc (place_of list key))

unfoldable pub numbers_at : List Entered → ℕ → Option Estimate
numbers_at [] i = nothing-there
numbers_at (r ∷ list) zero = some r.numbers
numbers_at (r ∷ list) (suc i) = numbers_at list i

-- what stands at the place is what the definition's `find` finds
pub record FindsPlace (list : List Instance) (key : Instance) (r : ℕ) : Type 0 where
  pub place : r ≡ place_of list key
  pub found : find (map entered list) key.function key.sizes ≡ numbers_at (map entered list) r
