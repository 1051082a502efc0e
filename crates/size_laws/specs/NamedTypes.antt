-- Named types among the types that the code holds.
use Rattle.std.specs.Prelude.{ℕ, ◌≤◌, ◌≡◌}
use Rattle.std.proofs.Common.{sym, ap, ap₂, ◌∙◌, arith}
use Rattle.language.specs.Limits.{size_most}
use Rattle.language.specs.Syntax.{Ty, tnamed}
use Rattle.sizes.specs.declared.SizedType.{SizedType}
use Rattle.sizes.specs.declared.SizedType.TheVariants.{Bool as BoolIs, Int as IntIs, Named}
use Rattle.sizes.specs.Promises.{meaning}
use Rattle.size_steps.specs.Sites.{Bounded, bounded_bool, bounded_int, bounded_named}

pub is-named : {t k : ℕ} (x : SizedType) → meaning x ≡ tnamed t k → x ≡ Named t k
is-named BoolIs e = absurd (let z : ◌≡◌ {A = ℕ} 0 1 = cc in omega arith)
is-named IntIs e = absurd (let z : ◌≡◌ {A = ℕ} 0 1 = cc in omega arith)
is-named {t} {k} (Named u j) e = let type : u ≡ t = cc in let size : j ≡ k = cc in ap₂ Named type size

-- a type that is not named
abbrev pub NotNamed : SizedType → Type 0
NotNamed x = (t k : ℕ) → x ≡ Named t k → ⊥

-- a named type at another size, and its own size
pub bounded_at : {t j k : ℕ} {τ : Ty} → Bounded τ → τ ≡ tnamed t j → k ≤ size_most → Bounded (tnamed t k)
bounded_at bounded_bool e most = absurd (let z : ◌≡◌ {A = ℕ} 0 1 = cc in omega arith)
bounded_at bounded_int e most = absurd (let z : ◌≡◌ {A = ℕ} 0 1 = cc in omega arith)
bounded_at {t} {k} (bounded_named {t = u} less size) e most = let same : t ≡ u = cc in bounded_named {t = t} {k = k} (omega (arith, less, same)) most

pub bounded-size : {τ : Ty} {t k : ℕ} → Bounded τ → τ ≡ tnamed t k → k ≤ size_most
bounded-size bounded_bool e = absurd (let z : ◌≡◌ {A = ℕ} 0 1 = cc in omega arith)
bounded-size bounded_int e = absurd (let z : ◌≡◌ {A = ℕ} 0 1 = cc in omega arith)
bounded-size {k} (bounded_named {k = j} p q) e = let same : j ≡ k = cc in omega (arith, q, same)

-- the type that the code holds is the one that is named
pub named-type : {t j u i : ℕ} {x : SizedType} {τ : Ty} → x ≡ Named t j → meaning x ≡ τ → τ ≡ tnamed u i → (u ≡ t) × (i ≡ j)
named-type {t} {j} {u} {i} is type named = let same : tnamed u i ≡ tnamed t j = sym named ∙ sym type ∙ ap meaning is in (cc, cc)
