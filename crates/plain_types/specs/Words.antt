-- Plain types as the code computes them: of words, by operators, by the index; their words; and what reading a result type promises.
use Rattle.std.specs.Prelude.{ℕ, zero, suc, ◌+◌, ◌-◌, ◌*◌, ◌/◌, ◌%◌, ◌≤◌, List, ◌≡◌, length, get_or, set, eqb, ltb}
use Rattle.std.proofs.Math.Option.{some}
use Rattle.std.proofs.Math.ListN.{get_elem? as look}
use Rattle.language.specs.Limits.{size_variables_most}
use Rattle.language.specs.Result.{choose}
use Rattle.language.specs.Syntax.{ResultType, Function, File}
use Rattle.language.specs.Format.{result_bytes}
use Rattle.language.specs.Within.{WithinPlain, WithinResult}
use Rattle.language.specs.Layout.{tag_step}
use Rattle.language.specs.PlainTypes.{plain_result}
use Rattle.text.specs.declared.Cursor.{Cursor}
use Rattle.text.specs.Bytes.{plain_word}
use Rattle.index.specs.Tables.{function_words}
use Rattle.index.specs.Sections.{types_of, functions_of}
use Rattle.text.specs.Places.{past}
use Rattle.encoding.specs.Spells.{Spells}
use Rattle.index.specs.Indexed.{field_at, Indexed}
use Rattle.plain_types.specs.declared.words.PlainType.{PlainType}
use Rattle.plain_types.specs.declared.words.PlainType.TheVariants.{Bool as BoolIs, Int as IntIs, Named}
use Rattle.plain_types.specs.declared.words.Want.{Want}
use Rattle.plain_types.specs.declared.words.Want.TheVariants.{Parameters, Fields}
use Rattle.plain_types.specs.Agrees.{Typing, meaning, Agrees}

-- a named type, its number a byte
abbrev pub named_type : ℕ → PlainType
named_type t = Named (t % tag_step)

-- ---- the type of a word, which may have a size, and the word of a type: the number of a named type is a byte
abbrev pub type_at : ℕ → PlainType
type_at word = choose (eqb word 0) BoolIs (choose (ltb word tag_step) IntIs (named_type (word / tag_step - 1)))

pub record WordOf (x : PlainType) (r : ℕ) : Type 0 where
  pub is : r ≡ plain_word (meaning x)
  pub small : WithinPlain tag_step (meaning x)

-- ---- operators, by their codes
abbrev pub operand_of : ℕ → PlainType
operand_of o = choose (ltb o 6) IntIs BoolIs

abbrev pub outcome_of : ℕ → PlainType
outcome_of o = choose (ltb o 3) IntIs BoolIs

-- ---- what is wanted of expression j of a list
abbrev pub own_or_other : ℕ → ℕ → PlainType
own_or_other t word = choose (eqb word 2) (named_type t) (type_at word)

unfoldable pub wanted_type : List ℕ → Want → ℕ → PlainType
wanted_type index (Parameters f) j = type_at (get_or (functions_of index) (function_words * f + 1 + j) 0)
wanted_type index (Fields t c) j = own_or_other t (field_at (types_of index) t c j)

abbrev pub wanted_word : List ℕ → Want → ℕ → ℕ
wanted_word index want j = plain_word (meaning (wanted_type index want j))

-- the words of the first n of these types in the scope, from a place on
unfoldable pub entered : List ℕ → Want → List ℕ → ℕ → ℕ → List ℕ
entered index want scope to zero = scope
entered index want scope to (suc n) = set (entered index want scope to n) (to + n) (wanted_word index want n)

-- ---- result types
pub record ReadsResult (line : List ℕ) (c : Cursor) (r : Typing) : Type 0 where
  pub says : {types vars : ℕ} {ρ : ResultType} → types ≤ tag_step → vars ≤ size_variables_most → WithinResult types vars ρ → Spells result_bytes line c.at ρ → Agrees r (past line c.at (length (result_bytes ρ))) (some (plain_result ρ))

pub record Returns (text index : List ℕ) (f : ℕ) (r : PlainType) : Type 0 where
  pub says : {P : File} {F : Function} → Indexed text index P → look P.functions f ≡ some F → meaning r ≡ plain_result F.result
