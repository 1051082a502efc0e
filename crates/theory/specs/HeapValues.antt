-- What a location of a heap holds: a value of a type, with its sizes; what stands in scope. All of it survives when the heap grows.
use Rattle.std.specs.Prelude.{ℕ, zero, suc, ◌≤◌, ◌<◌, List, [], ◌∷◌, ◌++◌, Bool, ◌≡◌, refl, length}
use Rattle.std.proofs.Math.Option.{some}
use Rattle.std.proofs.Common.{ap, subst, arith, le_trans}
use Rattle.std.proofs.Math.ListN.{get_elem? as look}
use Rattle.language.specs.Limits.{int_range}
use Rattle.language.specs.Syntax.{Field, fbool, fint, own, other, Constructor, Ty, tbool, tint, tnamed, File, constructors_of}
use Rattle.language.specs.Within.{All, all_nil, all_cons}
use Rattle.language.specs.Sizes.{sum}
use Rattle.language.specs.Heap.{kbool, kint, Cell, leaf, con, cell_at, size_in}
use Rattle.language.specs.Evaluator.{Channels, no_channels}
use Rattle.theory.specs.Lists.{none-is-not-some, look-less}
use Rattle.theory.specs.Heaps.{cell-at, Grown, look-grown}

module _ (P : File) (h : List Cell) where
  mutual
    -- a value of a type: of at most its size
    pub data Has : ℕ → Ty → Type 0 where
      h_bool : {l : ℕ} {b : Bool} → look h l ≡ some (leaf (kbool b)) → Has l tbool
      h_int : {l n : ℕ} → look h l ≡ some (leaf (kint n)) → n < int_range → Has l tint
      h_named : {l t j k : ℕ} → Val l t j → j ≤ k → Has l (tnamed t k)

    -- a value of type t whose true size is j, as its cell says
    pub data Val : ℕ → ℕ → ℕ → Type 0 where
      v_con : {l t c j : ℕ} {fs : Constructor} {ls ks : List ℕ} →
          look h l ≡ some (con t c j ls) → look (constructors_of P t) c ≡ some fs → Vals l t fs ls ks → j ≡ suc (sum ks) → Val l t j

    -- the fields of a constructor of type t, all below the cell b; ks: the true sizes at those of the type itself
    pub data Vals : ℕ → ℕ → List Field → List ℕ → List ℕ → Type 0 where
      vs_nil : {b t : ℕ} → Vals b t [] [] []
      vs_bool : {b t l : ℕ} {fs : List Field} {ls ks : List ℕ} → l < b → Has l tbool → Vals b t fs ls ks → Vals b t (fbool ∷ fs) (l ∷ ls) ks
      vs_int : {b t l : ℕ} {fs : List Field} {ls ks : List ℕ} → l < b → Has l tint → Vals b t fs ls ks → Vals b t (fint ∷ fs) (l ∷ ls) ks
      vs_own : {b t l k : ℕ} {fs : List Field} {ls ks : List ℕ} → l < b → Val l t k → Vals b t fs ls ks → Vals b t (own ∷ fs) (l ∷ ls) (k ∷ ks)
      vs_other : {b t l u k : ℕ} {fs : List Field} {ls ks : List ℕ} → l < b → Has l (tnamed u k) → Vals b t fs ls ks → Vals b t (other u k ∷ fs) (l ∷ ls) ks

  -- the locations of variables, of arguments, of channels
  pub data Env : List ℕ → List Ty → Type 0 where
    env_nil : Env [] []
    env_cons : {l : ℕ} {τ : Ty} {ls : List ℕ} {τs : List Ty} → Has l τ → Env ls τs → Env (l ∷ ls) (τ ∷ τs)

-- what stands in scope: the variables, and each channel's value now and before the line
pub record Scoped (P : File) (N : Channels) (C : List Ty) (h : List Cell) (E : List ℕ) (Γ : List Ty) : Type 0 where
  pub variables : Env P h E Γ
  pub now : Env P h N.now C
  pub last : Env P h N.last C

-- ---- growth
module _ {P : File} {h g : List Cell} (w : Grown h g) where
  mutual
    pub has_grown : {l : ℕ} {τ : Ty} → Has P h l τ → Has P g l τ
    has_grown (h_bool {l} e) = h_bool (look-grown w l e)
    has_grown (h_int {l} e less) = h_int (look-grown w l e) less
    has_grown (h_named v le) = h_named (val-grown v) le

    pub val-grown : {l t j : ℕ} → Val P h l t j → Val P g l t j
    val-grown (v_con {l} e f vs s) = v_con (look-grown w l e) f (vals-grown vs) s

    pub vals-grown : {b t : ℕ} {fs : List Field} {ls ks : List ℕ} → Vals P h b t fs ls ks → Vals P g b t fs ls ks
    vals-grown vs_nil = vs_nil
    vals-grown (vs_bool low v vs) = vs_bool low (has_grown v) (vals-grown vs)
    vals-grown (vs_int low v vs) = vs_int low (has_grown v) (vals-grown vs)
    vals-grown (vs_own low v vs) = vs_own low (val-grown v) (vals-grown vs)
    vals-grown (vs_other low v vs) = vs_other low (has_grown v) (vals-grown vs)

  pub env-grown : {ls : List ℕ} {τs : List Ty} → Env P h ls τs → Env P g ls τs
  env-grown env_nil = env_nil
  env-grown (env_cons v vs) = env_cons (has_grown v) (env-grown vs)

  pub scoped-grown : {N : Channels} {C : List Ty} {E : List ℕ} {Γ : List Ty} → Scoped P N C h E Γ → Scoped P N C g E Γ
  scoped-grown S = record { variables = env-grown S.variables; now = env-grown S.now; last = env-grown S.last }

-- ---- scopes
module _ {P : File} {h : List Cell} where
  pub env-append : {ls ms : List ℕ} {σs τs : List Ty} → Env P h ls σs → Env P h ms τs → Env P h (ls ++ ms) (σs ++ τs)
  env-append env_nil q = q
  env-append (env_cons v p) q = env_cons v (env-append p q)

  pub scoped-append : {N : Channels} {C : List Ty} {E ls : List ℕ} {Γ τs : List Ty} → Scoped P N C h E Γ → Env P h ls τs → Scoped P N C h (E ++ ls) (Γ ++ τs)
  scoped-append S vs = record { variables = env-append S.variables vs; now = S.now; last = S.last }

  -- a body's scope
  pub scoped-body : {ls : List ℕ} {τs : List Ty} → Env P h ls τs → Scoped P no_channels [] h ls τs
  scoped-body vs = record { variables = vs; now = env_nil; last = env_nil }

  pub env-length : {ls : List ℕ} {τs : List Ty} → Env P h ls τs → length ls ≡ length τs
  env-length env_nil = refl
  env-length (env_cons v vs) = ap suc (env-length vs)

-- with one location of a grown heap bound
pub scoped-one : {P : File} {N : Channels} {C : List Ty} {h g : List Cell} {E : List ℕ} {l : ℕ} {Γ : List Ty} {τ : Ty} → Grown h g → Scoped P N C h E Γ → Has P g l τ → Scoped P N C g (E ++ (l ∷ [])) (Γ ++ (τ ∷ []))
scoped-one w S v = scoped-append (scoped-grown w S) (env_cons v env_nil)

-- a typed place in a list of locations
pub record Found (P : File) (h : List Cell) (ls : List ℕ) (v : ℕ) (τ : Ty) : Type 0 where
  pub location : ℕ
  pub at : look ls v ≡ some location
  pub has : Has P h location τ

pub env-look : {P : File} {h : List Cell} {ls : List ℕ} {τs : List Ty} → Env P h ls τs → (v : ℕ) {τ : Ty} → look τs v ≡ some τ → Found P h ls v τ
env-look env_nil v e = none-is-not-some e
env-look {P} {h} (env_cons {l} x p) zero e = record { location = l; at = refl; has = subst (Has P h l) (cc) x }
env-look (env_cons x p) (suc v) e = let f = env-look p v e in record { location = f.location; at = f.at; has = f.has }

-- ---- places and sizes
module _ {P : File} {h : List Cell} where
  pub val-less : {l t j : ℕ} → Val P h l t j → l < length h
  val-less (v_con {l} e f vs s) = look-less h l e

  pub has-less : {l : ℕ} {τ : Ty} → Has P h l τ → l < length h
  has-less (h_bool {l} e) = look-less h l e
  has-less (h_int {l} e less) = look-less h l e
  has-less (h_named v le) = val-less v

  pub env-less : {ls : List ℕ} {τs : List Ty} → Env P h ls τs → All (λ l. l < length h) ls
  env-less env_nil = all_nil
  env-less (env_cons v vs) = all_cons (has-less v) (env-less vs)

  pub vals-low : {b t : ℕ} {fs : List Field} {ls ks : List ℕ} → Vals P h b t fs ls ks → All (λ l. l < b) ls
  vals-low vs_nil = all_nil
  vals-low (vs_bool low v vs) = all_cons low (vals-low vs)
  vals-low (vs_int low v vs) = all_cons low (vals-low vs)
  vals-low (vs_own low v vs) = all_cons low (vals-low vs)
  vals-low (vs_other low v vs) = all_cons low (vals-low vs)

  pub val-positive : {l t j : ℕ} → Val P h l t j → 0 < j
  val-positive (v_con e f vs s) = omega arith

  -- the size word is the true size
  pub val-size-word : {l t j : ℕ} → Val P h l t j → size_in (cell_at h l) ≡ j
  unfolding size_in
  val-size-word (v_con {l} e f vs s) = rw (cell-at h l e)

  pub has-larger : {l t j k : ℕ} → j ≤ k → Has P h l (tnamed t j) → Has P h l (tnamed t k)
  has-larger le (h_named v small) = h_named v (le_trans small le)
