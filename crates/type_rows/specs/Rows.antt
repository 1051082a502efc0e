-- What the functions of this crate promise of rows of type words, by the types that the words stand for.
use Rattle.std.specs.Prelude.{ℕ, ◌+◌, ◌*◌, ◌/◌, ◌%◌, ◌^◌, ◌≤◌, ◌<◌, List, ◌++◌, map, Bool, ◌≡◌, length, get_or, take, drop, eqb, ltb}
use Rattle.language.specs.Limits.{fields_most}
use Rattle.language.specs.Result.{choose}
use Rattle.language.specs.Syntax.{Field, owns, Ty}
use Rattle.language.specs.Layout.{tag_step}
use Rattle.language.specs.Within.{All, WithinField}
use Rattle.language.specs.Sizes.{sizes_of, field_types, own_sizes, same_types, sum}
use Rattle.text.specs.Bytes.{declared_word, field_word}
use Rattle.index.specs.Tables.{constructor_words, type_words}
use Rattle.index.specs.Enters.{is_own}
use Rattle.index.specs.Indexed.{field_at}
use Rattle.sizes.specs.Promises.{Small}

-- ---- words alone: the size in a word; a field's word against a value's; a field's word with the size bound to a field of the type itself
unfoldable pub size_in : ℕ → ℕ
size_in word = choose (ltb word tag_step) 0 (word % tag_step)

unfoldable pub field_agrees : ℕ → ℕ → ℕ → Bool
field_agrees field word t = choose (is_own field) (eqb (word / tag_step) (t + 1)) (eqb field word)

unfoldable pub bound_word : ℕ → ℕ → ℕ → ℕ
bound_word field t k = choose (is_own field) (tag_step * (t % tag_step + 1) + k) field

-- ---- what a table tells of the fields of a constructor, and a row of n types
pub record ToldFields (types : List ℕ) (t c : ℕ) (fs : List Field) : Type 0 where
  pub count : get_or types (type_words * t + 1 + constructor_words * c) 0 ≡ length fs
  pub few : length fs ≤ fields_most
  pub each : (i : ℕ) → i < length fs → field_at types t c i ≡ get_or (map field_word fs) i 0
  pub within : All (WithinField t) fs
  pub small : t < 255

pub record ToldRow (row : List ℕ) (n : ℕ) (τs : List Ty) : Type 0 where
  pub words : take n row ≡ map declared_word τs
  pub long : length τs ≡ n
  pub small : All Small τs

-- ---- the promises
pub record NamedSizes (row : List ℕ) (n : ℕ) (sizes : List ℕ) (r : ℕ) (sizes' : List ℕ) : Type 0 where
  pub says : (τs : List Ty) → ToldRow row n τs → length (sizes_of τs) ≤ length sizes → (r ≡ length (sizes_of τs)) × (sizes' ≡ sizes_of τs ++ drop (length (sizes_of τs)) sizes)
  pub few : r ≤ n
  pub long : length sizes' ≡ length sizes

pub record OwnSum (types row : List ℕ) (t c r : ℕ) : Type 0 where
  pub says : (fs : List Field) (τs : List Ty) → ToldFields types t c fs → ToldRow row (length fs) τs → r ≡ sum (own_sizes fs τs)
  pub less : r < 2 ^ 16

pub record FieldsAgree (types row : List ℕ) (t c : ℕ) (r : Bool) : Type 0 where
  pub says : (fs : List Field) (τs : List Ty) → ToldFields types t c fs → ToldRow row (length fs) τs → r ≡ same_types (field_types t fs (own_sizes fs τs)) τs

pub record FieldsBound (types scope sizes : List ℕ) (t c to from : ℕ) (scope' : List ℕ) : Type 0 where
  pub says : (fs : List Field) (ks : List ℕ) → ToldFields types t c fs → take (owns fs) (drop from sizes) ≡ ks → length ks ≡ owns fs → to + length fs ≤ length scope →
      (take (to + length fs) scope' ≡ take to scope ++ map declared_word (field_types t fs ks)) × (drop (to + length fs) scope' ≡ drop (to + length fs) scope)
  pub before : take to scope' ≡ take to scope
  pub long : length scope' ≡ length scope
