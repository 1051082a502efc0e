-- What the functions promise that read a header into a table: they pass over what the parser reads, and add its words to the table.
use Rattle.std.specs.Prelude.{ℕ, zero, suc, ◌+◌, ◌*◌, ◌≤◌, ◌<◌, List, [], ◌∷◌, ◌++◌, map, Bool, ◌≡◌, length, get_or, eqb, leb}
use Rattle.language.specs.Limits.{byte_range, constructors_most, fields_most, parameters_most}
use Rattle.language.specs.Syntax.{Field, Constructor, TypeDef, owns, self_free, Plain}
use Rattle.language.specs.Format.{bit}
use Rattle.language.specs.Layout.{padded, tag_step}
use Rattle.language.specs.Scope.{named_count}
use Rattle.language.specs.Parser.{Read, got, Parser, counted}
use Rattle.language.specs.ReadExpr.{field}
use Rattle.text.specs.Bytes.{Step, Passes, forget, field_word, plain_word}
use Rattle.index.specs.Tables.{constructor_words, type_words, function_words}

-- from a place of the line on, into the table behind its words so far, which end at the place `to`
pub record Enters {A : Type 0} (words : A → List ℕ) (line : List ℕ) (at to : ℕ) (table : List ℕ) (r : Step) (table' : List ℕ) (x : Read A) : Type 0 where
  pub passes : Passes line at r (forget x)
  pub enters : (n : ℕ) (before : List ℕ) {a : A} {rest : List ℕ} → x ≡ got a rest → table ≡ padded n before → length before ≡ to → to + length (words a) ≤ n → table' ≡ padded n (before ++ words a)

-- ---- the words of one field, of one parameter; of all parameters, as an entry begins
abbrev pub field_words : Field → List ℕ
field_words f = field_word f ∷ []

abbrev pub plain_words : Plain → List ℕ
plain_words p = plain_word p ∷ []

unfoldable pub parameters_entry : List Plain → List ℕ
parameters_entry ps = length ps ∷ padded parameters_most (map plain_word ps)

-- ---- a constructor, and a type before which so many types stand
abbrev pub constructor_behind : ℕ → Parser Constructor
constructor_behind t = counted 0 fields_most (field t)

abbrev pub type_behind : ℕ → Parser TypeDef
type_behind t = counted 1 constructors_most (constructor_behind t)

-- ---- how many of n words from a place on pass a test: the word of a field of the type itself, of a named type
unfoldable pub how_many : (ℕ → Bool) → List ℕ → ℕ → ℕ → ℕ
how_many test table from zero = 0
how_many test table from (suc n) = bit (test (get_or table from 0)) + how_many test table (suc from) n

abbrev pub is_own : ℕ → Bool
is_own word = eqb word 2

abbrev pub is_named : ℕ → Bool
is_named word = leb tag_step word

-- ---- what a table says of a type: its constructors, their fields and own-type fields
pub record TellsType (types : List ℕ) (t : ℕ) (d : TypeDef) : Type 0 where
  pub few : length d ≤ constructors_most
  pub constructors : get_or types (type_words * t) 0 ≡ length d
  pub few_fields : (c : ℕ) → c < length d → length (get_or d c []) ≤ fields_most
  pub fields : (c : ℕ) → c < length d → get_or types (type_words * t + 1 + constructor_words * c) 0 ≡ length (get_or d c [])
  pub owns : (c : ℕ) → c < length d → get_or types (type_words * t + 2 + constructor_words * c) 0 ≡ owns (get_or d c [])

-- and of a function's parameters
pub record TellsParameters (functions : List ℕ) (f : ℕ) (ps : List Plain) : Type 0 where
  pub few : length ps ≤ parameters_most
  pub count : get_or functions (function_words * f) 0 ≡ length ps
  pub each : (i : ℕ) → i < length ps → get_or functions (function_words * f + 1 + i) 0 ≡ get_or (map plain_word ps) i 0

pub record SelfFree (types : List ℕ) (t : ℕ) (r : Bool) : Type 0 where
  pub says : (d : TypeDef) → TellsType types t d → r ≡ self_free d

pub record Named (functions : List ℕ) (f r : ℕ) : Type 0 where
  pub says : (ps : List Plain) → TellsParameters functions f ps → r ≡ named_count ps
  pub small : r < byte_range
