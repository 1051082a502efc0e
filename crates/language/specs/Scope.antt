-- Scopes: what an expression may name where it stands. Document 01, "The rule file".
use Rattle.std.specs.Prelude.{ℕ, suc, ◌+◌, List, [], ◌∷◌, ◌++◌, map, Bool, length, leb}
use Rattle.language.specs.Limits.{variables_most, size_variables_most}
use Rattle.language.specs.Syntax.{TypeDef, Plain, pbool, pint, pnamed, Function}
use Rattle.language.specs.Result.{both}

-- How many variables and size variables are in scope, how many channels `13` and `14` may
-- name, the types, and the number of parameters of each function that may be called.
pub record Scope : Type 0 where
  pub variables : ℕ
  pub sizes : ℕ
  pub channels : ℕ
  pub types : List TypeDef
  pub arities : List ℕ

-- "Variables are numbered by binding": the scope with v variables and s size variables more
unfoldable pub wider : ℕ → ℕ → Scope → Scope
wider v s S = record { variables = S.variables + v; sizes = S.sizes + s; channels = S.channels; types = S.types; arities = S.arities }

-- "At most 32 variables and 8 size variables stand in scope"
unfoldable pub room_in : Scope → Bool
room_in S = both (leb S.variables variables_most) (leb S.sizes size_variables_most)

-- "Each named-type parameter brings the next size variable"
unfoldable pub named_count : List Plain → ℕ
named_count [] = 0
named_count (pbool ∷ ps) = named_count ps
named_count (pint ∷ ps) = named_count ps
named_count (pnamed t ∷ ps) = suc (named_count ps)

abbrev pub arities_of : List Function → List ℕ
arities_of Fs = map (λ (F : Function). length F.parameters) Fs

-- "A function calls only earlier ones and itself. Its body names no channel."
unfoldable pub body_scope : List TypeDef → List Function → List Plain → Scope
body_scope types earlier ps = record { variables = length ps; sizes = named_count ps; channels = 0; types = types; arities = arities_of earlier ++ (length ps ∷ []) }

-- a scope outside all functions: "`13` may name any channel" (R-3), as "`14` names any channel"
unfoldable pub outer_scope : List TypeDef → List Function → ℕ → Scope
outer_scope types functions channels = record { variables = 0; sizes = 0; channels = channels; types = types; arities = arities_of functions }
