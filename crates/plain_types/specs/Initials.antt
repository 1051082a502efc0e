-- What the functions promise that test whether an expression is an initial value: the test of the definition, and where the value ends.
use Rattle.std.specs.Prelude.{ℕ, ◌<◌, List, [], length, get_or}
use Rattle.language.specs.Result.{when}
use Rattle.language.specs.Syntax.{TypeDef, pbool, Expr, Exprs}
use Rattle.language.specs.Format.{expr_bytes, exprs_bytes}
use Rattle.language.specs.Scope.{Scope}
use Rattle.language.specs.Within.{WithinExpr, WithinExprs}
use Rattle.language.specs.PlainTypes.{is_initial, are_initial}
use Rattle.text.specs.declared.Cursor.{Cursor}
use Rattle.index.specs.Enters.{TellsType}
use Rattle.text.specs.Places.{past}
use Rattle.encoding.specs.Spells.{Spells}
use Rattle.plain_types.specs.Agrees.{Typing, Agrees}

-- the section tells the types
abbrev pub TellsTypes : List ℕ → List TypeDef → Type 0
TellsTypes types ds = (t : ℕ) → t < length ds → TellsType types t (get_or ds t [])

-- an answer stands for true
pub record TestsInitial (line types : List ℕ) (c : Cursor) (levels : ℕ) (r : Typing) : Type 0 where
  pub says : {S : Scope} {e : Expr} → TellsTypes types S.types → WithinExpr levels S e → Spells expr_bytes line c.at e → Agrees r (past line c.at (length (expr_bytes e))) (when (is_initial e) pbool)

pub record TestsInitials (line types : List ℕ) (c : Cursor) (levels n : ℕ) (r : Typing) : Type 0 where
  pub says : {S : Scope} {es : Exprs} → TellsTypes types S.types → WithinExprs levels S n es → Spells exprs_bytes line c.at es → Agrees r (past line c.at (length (exprs_bytes es))) (when (are_initial es) pbool)
