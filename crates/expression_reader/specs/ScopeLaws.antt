-- Scopes that the index tells, and levels left in them.
use Rattle.std.specs.Prelude.{ℕ, ◌+◌, ◌%◌, ◌≤◌, ◌<◌, List, Bool, true, false, ◌≡◌, refl, leb}
use Rattle.std.proofs.Common.{ap, ◌∙◌, arith, le-leb, leb-true}
use Rattle.std.proofs.lemmas.Bool.{lt-leb}
use Rattle.language.specs.Limits.{byte_range, variables_most, size_variables_most}
use Rattle.language.specs.Result.{both, choose}
use Rattle.language.specs.Scope.{Scope, wider, room_in}
use Rattle.theory.specs.Lists.{both_left, both_right}
use Rattle.expression_reader.specs.declared.Names.{Names}
use Rattle.expression_reader.specs.Follows.{Tells, Roomy, levels_in, wider_names}

pub tells-wider : {index : List ℕ} {s : Names} {S : Scope} (v z : ℕ) → Tells index s S → Tells index (wider_names v z s) (wider v z S)
unfolding wider
tells-wider v z t = record { variables = ap (λ n. n + v) t.variables; sizes = ap (λ n. n + z) t.sizes; channels = t.channels; type_count = t.type_count; function_count = t.function_count; each = t.each; arities = t.arities; few = t.few }

tells-room : {index : List ℕ} {s : Names} {S : Scope} → Tells index s S → room_in S ≡ both (leb s.variables variables_most) (leb s.sizes size_variables_most)
unfolding room_in
tells-room t = rw (t.variables, t.sizes)

pub tells-roomy : {index : List ℕ} {s : Names} {S : Scope} → Tells index s S → Roomy s → room_in S ≡ true
unfolding both
tells-roomy {s} t w = tells-room t ∙ rw (le-leb s.variables variables_most w.variables, le-leb s.sizes size_variables_most w.sizes)

-- a byte's remainder is itself
pub small : (n m : ℕ) → m ≡ n → n < byte_range → m % byte_range ≡ n
small n m e less = omega arith

-- ---- the levels left in a scope
pub wide-variables : (s : Names) (levels : ℕ) → variables_most < s.variables → 0 ≡ levels_in s levels
unfolding both choose
wide-variables s levels less = rw (lt-leb s.variables variables_most less)

pub wide-sizes : (s : Names) (levels : ℕ) → s.variables ≤ variables_most → size_variables_most < s.sizes → 0 ≡ levels_in s levels
unfolding both choose
wide-sizes s levels le less = rw (le-leb s.variables variables_most le, lt-leb s.sizes size_variables_most less)

pub all-levels : (s : Names) (levels : ℕ) → s.variables ≤ variables_most → s.sizes ≤ size_variables_most → levels ≡ levels_in s levels
unfolding both choose
all-levels s levels le few = rw (le-leb s.variables variables_most le, le-leb s.sizes size_variables_most few)

-- either the scope is roomy and all levels are left, or it is too wide and none is
pub data LevelsIn (s : Names) (levels : ℕ) : ℕ → Type 0 where
  roomy : Roomy s → LevelsIn s levels levels
  narrow : both (leb s.variables variables_most) (leb s.sizes size_variables_most) ≡ false → LevelsIn s levels 0

pub levels-in : (s : Names) (levels : ℕ) {most : ℕ} → most ≡ levels_in s levels → LevelsIn s levels most
unfolding choose
levels-in s levels e = rw e (by (both (leb s.variables variables_most) (leb s.sizes size_variables_most)) refl)
  where
    by : (b : Bool) → both (leb s.variables variables_most) (leb s.sizes size_variables_most) ≡ b → LevelsIn s levels (choose b levels 0)
    by true h = roomy (record { variables = leb-true _ _ (both_left _ _ h); sizes = leb-true _ _ (both_right _ _ h) })
    by false h = narrow h

pub levels-roomy : {s : Names} {levels most : ℕ} → LevelsIn s levels most → 0 < most → Roomy s
levels-roomy (roomy w) some = w
levels-roomy (narrow h) some = absurd (omega arith)

pub levels-most : {s : Names} {levels most : ℕ} → LevelsIn s levels most → most ≤ levels
levels-most (roomy w) = omega arith
levels-most (narrow h) = omega arith

pub narrow-scope : {index : List ℕ} {s : Names} {S : Scope} → Tells index s S → both (leb s.variables variables_most) (leb s.sizes size_variables_most) ≡ false → room_in S ≡ false
narrow-scope t h = tells-room t ∙ h
