-- The fields of a constructor in a heap: as the scope of a branch at a split over their sizes, and from the scope of arguments.
use Prim.Native.Nat.{ℕ, suc, ◌≤◌}
use Rattle.std.specs.Prelude.{List, [], ◌∷◌, ◌≡◌, length}
use Rattle.std.proofs.Math.Path.{refl, ap}
use Rattle.std.proofs.Common.{arith}
use Rattle.language.specs.Syntax.{Field, fbool, fint, own, other, Constructor, File, owns}
use Rattle.language.specs.Within.{all_nil, all_cons}
use Rattle.language.specs.Sizes.{sum, field_types}
use Rattle.language.specs.Heap.{Cell}
use Rattle.language.specs.Rules.{FieldSizes, z_none, z_bool, z_int, z_own, z_other}
use Rattle.theory.specs.SplitsCover.{Under, under_nil, under_cons, Positive}
use Rattle.theory.specs.HeapValues.{h_named, v_con, Vals, vs_nil, vs_bool, vs_int, vs_own, vs_other, Env, env_nil, env_cons, has-less, val-less, val-positive}

module _ {P : File} {h : List Cell} where
  pub vals-length : {b t : ℕ} {fs : List Field} {ls ks : List ℕ} → Vals P h b t fs ls ks → length ls ≡ length fs
  vals-length vs_nil = refl
  vals-length (vs_bool low v vs) = ap suc (vals-length vs)
  vals-length (vs_int low v vs) = ap suc (vals-length vs)
  vals-length (vs_own low v vs) = ap suc (vals-length vs)
  vals-length (vs_other low v vs) = ap suc (vals-length vs)

  -- ---- the sizes at fields of the type itself
  pub vals-owns : {b t : ℕ} {fs : List Field} {ls ks : List ℕ} → Vals P h b t fs ls ks → length ks ≡ owns fs
  unfolding owns
  vals-owns vs_nil = refl
  vals-owns (vs_bool low v vs) = vals-owns vs
  vals-owns (vs_int low v vs) = vals-owns vs
  vals-owns (vs_own low v vs) = ap suc (vals-owns vs)
  vals-owns (vs_other low v vs) = vals-owns vs

  pub vals-positive : {b t : ℕ} {fs : List Field} {ls ks : List ℕ} → Vals P h b t fs ls ks → Positive ks
  vals-positive vs_nil = all_nil
  vals-positive (vs_bool low v vs) = vals-positive vs
  vals-positive (vs_int low v vs) = vals-positive vs
  vals-positive (vs_own low v vs) = all_cons (val-positive v) (vals-positive vs)
  vals-positive (vs_other low v vs) = vals-positive vs

  -- they are what E-CTOR reads in the cells
  pub vals-sizes : {b t : ℕ} {fs : List Field} {ls ks : List ℕ} → Vals P h b t fs ls ks → FieldSizes h fs ls ks
  vals-sizes vs_nil = z_none
  vals-sizes (vs_bool low v vs) = z_bool (vals-sizes vs)
  vals-sizes (vs_int low v vs) = z_int (vals-sizes vs)
  vals-sizes (vs_own low (v_con e f us s) vs) = z_own e (vals-sizes vs)
  vals-sizes (vs_other low (h_named (v_con e f us s) le) vs) = z_other e le (vals-sizes vs)

  -- ---- fields as a scope: their types at a split that is over their sizes
  pub vals-env : {b t : ℕ} {fs : List Field} {ls ks js : List ℕ} → Vals P h b t fs ls ks → Under ks js → Env P h ls (field_types t fs js)
  unfolding field_types
  vals-env vs_nil under_nil = env_nil
  vals-env (vs_bool low v vs) u = env_cons v (vals-env vs u)
  vals-env (vs_int low v vs) u = env_cons v (vals-env vs u)
  vals-env (vs_own low v vs) (under_cons le u) = env_cons (h_named v le) (vals-env vs u)
  vals-env (vs_other low v vs) u = env_cons v (vals-env vs u)

-- ---- arguments as fields of the next cell
pub record Fields (P : File) (h : List Cell) (t : ℕ) (fs : Constructor) (ls : List ℕ) (most : ℕ) : Type 0 where
  pub sizes : List ℕ
  pub are : Vals P h (length h) t fs ls sizes
  pub few : sum sizes ≤ most

pub env-vals : {P : File} {h : List Cell} (t : ℕ) (fs : Constructor) (ks : List ℕ) {ls : List ℕ} → Env P h ls (field_types t fs ks) → Fields P h t fs ls (sum ks)
unfolding field_types sum
env-vals t [] ks env_nil = record { sizes = []; are = vs_nil; few = omega arith }
env-vals t (fbool ∷ fs) ks (env_cons v vs) = let r = env-vals t fs ks vs in record { sizes = r.sizes; are = vs_bool (has-less v) v r.are; few = r.few }
env-vals t (fint ∷ fs) ks (env_cons v vs) = let r = env-vals t fs ks vs in record { sizes = r.sizes; are = vs_int (has-less v) v r.are; few = r.few }
env-vals t (own ∷ fs) [] (env_cons (h_named v le) vs) = absurd (omega (arith, val-positive v))
env-vals t (own ∷ fs) (k ∷ ks) (env_cons (h_named {j} v le) vs) = let r = env-vals t fs ks vs in record { sizes = j ∷ r.sizes; are = vs_own (val-less v) v r.are; few = omega arith }
env-vals t (other u k ∷ fs) ks (env_cons v vs) = let r = env-vals t fs ks vs in record { sizes = r.sizes; are = vs_other (has-less v) v r.are; few = r.few }
