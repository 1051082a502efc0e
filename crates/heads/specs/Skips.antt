-- What the functions that skip an expression promise: for every scope whose types and arities the tables tell, and every
-- expression within the limits that is spelled there, where the next thing starts.
use Rattle.std.specs.Prelude.{ℕ, zero, suc, ◌+◌, ◌*◌, ◌%◌, ◌<◌, ◌≤◌, List, [], ◌≡◌, length, get_or}
use Rattle.language.specs.Limits.{byte_range, types_most, parameters_most}
use Rattle.language.specs.Syntax.{Expr, Exprs, enil, econs}
use Rattle.language.specs.Format.{expr_bytes, exprs_bytes}
use Rattle.language.specs.Scope.{Scope}
use Rattle.language.specs.Within.{WithinExpr}
use Rattle.text.specs.declared.Cursor.{Cursor}
use Rattle.text.specs.Places.{past}
use Rattle.index.specs.Tables.{type_words, constructor_words, function_words}
use Rattle.index.specs.Enters.{TellsType}
use Rattle.encoding.specs.Spells.{Spells}
use Rattle.heads.specs.declared.Form.{Form}
use Rattle.heads.specs.declared.Form.TheVariants.{Bool as BoolForm, Int, Variable, Now, Last, Let, If, Operator, Call, Construct, Case, Adjust, Fit, Missing}

-- the tables tell the scope's types and arities
pub record Shapes (types functions : List ℕ) (S : Scope) : Type 0 where
  pub each : (t : ℕ) → t < length S.types → TellsType types t (get_or S.types t [])
  pub arities : (f : ℕ) → f < length S.arities → get_or functions (function_words * f) 0 ≡ get_or S.arities f 0
  pub few : (f : ℕ) → f < length S.arities → get_or S.arities f 0 ≤ parameters_most
  pub few_types : length S.types ≤ types_most

-- so many expressions, each within the limits in some scope of its own: arguments, fields, branches, arms
pub data Skippable (types functions : List ℕ) (levels : ℕ) : ℕ → Exprs → Type 0 where
  no_more : Skippable types functions levels zero enil
  one_more : {m : ℕ} {S : Scope} {e : Expr} {es : Exprs} → Shapes types functions S → WithinExpr levels S e → Skippable types functions levels m es → Skippable types functions levels (suc m) (econs e es)

pub record Skips (line types functions : List ℕ) (c : Cursor) (levels : ℕ) (r : Cursor) : Type 0 where
  pub says : (S : Scope) (e : Expr) → Shapes types functions S → WithinExpr levels S e → Spells expr_bytes line c.at e → r.at ≡ past line c.at (length (expr_bytes e))

pub record SkipsAll (line types functions : List ℕ) (c : Cursor) (levels n : ℕ) (r : Cursor) : Type 0 where
  pub says : (es : Exprs) → Skippable types functions levels n es → Spells exprs_bytes line c.at es → r.at ≡ past line c.at (length (exprs_bytes es))

-- the cursor stands behind what is spelled at a place and within the limits
pub record Over {A : Type 0} (bytes : A → List ℕ) (Limited : A → Type 0) (line : List ℕ) (at : ℕ) (r : Cursor) : Type 0 where
  pub says : (a : A) → Limited a → Spells bytes line at a → r.at ≡ past line at (length (bytes a))

-- how many expressions, one after the other, end an expression of a form
abbrev pub parts_of : List ℕ → List ℕ → Form → ℕ
parts_of types functions (BoolForm b) = 0
parts_of types functions (Int n) = 0
parts_of types functions (Variable v) = 0
parts_of types functions (Now c) = 0
parts_of types functions (Last c) = 0
parts_of types functions Let = 2
parts_of types functions If = 3
parts_of types functions (Operator o) = 2
parts_of types functions (Call f) = get_or functions (function_words * f) 0 % byte_range
parts_of types functions (Construct t c) = get_or types (type_words * t + 1 + constructor_words * c) 0 % byte_range
parts_of types functions (Case t) = get_or types (type_words * t) 0 % byte_range
parts_of types functions Adjust = 1
parts_of types functions (Fit k) = 3
parts_of types functions Missing = 0
