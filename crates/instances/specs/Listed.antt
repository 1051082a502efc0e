-- The list of instances in words, and what the functions on it promise.
use Rattle.std.specs.Prelude.{ℕ, suc, ◌+◌, ◌*◌, ◌≤◌, ◌<◌, List, [], ◌∷◌, ◌++◌, ◌≡◌, length, get_or, take, drop, set, Some, None, Option as Maybe}
use Rattle.std.proofs.Math.Option.{none, some}
use Rattle.std.proofs.Math.ListN.{get_elem? as look}
use Rattle.std.proofs.lemmas.List.Edits.{sets}
use Rattle.language.specs.Limits.{parameters_most, instances_most}
use Rattle.language.specs.Format.{spell_all}
use Rattle.language.specs.Layout.{padded}
use Rattle.language.specs.Estimate.{Estimate as Exact, nothing, stop}
use Rattle.language.specs.Checker.{Instance, find}
use Rattle.language.specs.Within.{All}
use Rattle.theory.specs.Different.{Distinct}
use Rattle.theory.specs.Instances.{keys_of}
use Rattle.estimate.specs.declared.Estimate.{Estimate as Held}
use Rattle.estimate.specs.Stands.{Stands}

-- ---- a record: the function, its sizes (unused 0), environment, heap and stack
abbrev pub instance_words_count : ℕ
instance_words_count = 1 + parameters_most + 3

-- where its numbers start
abbrev pub numbers_from : ℕ
numbers_from = 1 + parameters_most

-- how many hints there are
abbrev pub hint_words : ℕ
hint_words = instances_most

-- what is kept beside the list, behind the hints: the word of the result type of record i
unfoldable pub result_word : List ℕ → ℕ → ℕ
result_word memo i = get_or memo (hint_words + i) 0

abbrev pub key_words : ℕ → List ℕ → List ℕ
key_words f ks = f ∷ padded parameters_most ks

abbrev pub stopped_words : Exact → List ℕ
stopped_words n = stop n.env ∷ stop n.heap ∷ stop n.stack ∷ []

unfoldable pub instance_words : Instance → List ℕ
instance_words r = key_words r.function r.sizes ++ stopped_words r.numbers

abbrev pub flat : List Instance → List ℕ
flat L = spell_all instance_words L

-- the words start with the records of L
pub record Listed (words : List ℕ) (L : List Instance) : Type 0 where
  pub room : instance_words_count * length L ≤ length words
  pub is : take (instance_words_count * length L) words ≡ flat L

-- ---- what is given: sizes, unused 0
pub record SizesAre (sizes ks : List ℕ) : Type 0 where
  pub few : length ks ≤ parameters_most
  pub is : padded parameters_most sizes ≡ padded parameters_most ks

-- a record of the same function has as many sizes
abbrev pub SameArity : ℕ → List ℕ → Instance → Type 0
SameArity f ks r = r.function ≡ f → length r.sizes ≡ length ks

-- ---- looking up
-- the number of the record that is the instance, if one is
abbrev pub Search : Type 0
Search = Maybe ℕ

pub data Agrees (L : List Instance) (f : ℕ) (ks : List ℕ) : Search → Type 0 where
  found : {i : ℕ} {r : Instance} → look L i ≡ some r → r.function ≡ f → r.sizes ≡ ks → find L f ks ≡ some r.numbers → Agrees L f ks (Some i)
  absent : find L f ks ≡ none → Agrees L f ks None

-- in a list where no instance stands twice, so that it does not matter which record is looked at first
pub record Finds (words : List ℕ) (used f : ℕ) (sizes : List ℕ) (r : Search) : Type 0 where
  pub says : (L : List Instance) (ks : List ℕ) → Listed words L → used ≡ length L → Distinct (keys_of L) → SizesAre sizes ks → All (SameArity f ks) L → Agrees L f ks r

-- ---- writing: ws from a place on, if they fit; all other words are kept
pub record Writes (words : List ℕ) (from : ℕ) (ws words' : List ℕ) : Type 0 where
  pub fits : from + length ws ≤ length words → words' ≡ sets words from ws
  pub short : length words < from + length ws → words' ≡ words
  pub below : take from words' ≡ take from words
  pub behind : drop (from + length ws) words' ≡ drop (from + length ws) words
  pub long : length words' ≡ length words

-- three numbers, as they are held
abbrev pub number_words : Held → List ℕ
number_words x = x.env ∷ x.heap ∷ x.stack ∷ []

pub record Adds (words : List ℕ) (used f : ℕ) (sizes words' : List ℕ) : Type 0 where
  pub writes : Writes words (instance_words_count * used) (key_words f sizes ++ (0 ∷ 0 ∷ 0 ∷ [])) words'
  pub says : (L : List Instance) (ks : List ℕ) → Listed words L → used ≡ length L → SizesAre sizes ks → instance_words_count * suc used ≤ length words →
      Listed words' (L ++ (record { function = f; sizes = ks; numbers = nothing } ∷ []))

-- beside the list: the words of the records before stay, and there is one more
pub record Notes (memo : List ℕ) (used word : ℕ) (memo' : List ℕ) : Type 0 where
  pub kept : (i : ℕ) → i < used → result_word memo' i ≡ result_word memo i
  pub here : used < instances_most → result_word memo' used ≡ word

pub record Finishes (words : List ℕ) (i : ℕ) (x : Held) (words' : List ℕ) : Type 0 where
  pub writes : Writes words (instance_words_count * i + numbers_from) (number_words x) words'
  pub says : (L : List Instance) (r : Instance) (n : Exact) → Listed words L → look L i ≡ some r → Stands x n →
      Listed words' (set L i (record { function = r.function; sizes = r.sizes; numbers = n }))
