-- Heaps that grow in an evaluation: by at most n cells, and where every constructor is a value, every constructor still is.
use Rattle.std.specs.Prelude.{ℕ, ◌+◌, ◌≤◌, List, [], ◌∷◌, ◌++◌, ◌≡◌, length}
use Rattle.std.proofs.Math.Option.{some}
use Rattle.std.proofs.Common.{sym, ◌∙◌, subst, subst₂, arith, length-append}
use Rattle.std.proofs.Math.ListN.{get_elem? as look}
use Rattle.language.specs.Syntax.{Ty, File}
use Rattle.language.specs.Heap.{Constant, Cell, leaf, con}
use Rattle.theory.specs.Places.{look-snoc-cases}
use Rattle.theory.specs.Heaps.{Grown, grown-refl, grown-one, grown-trans}
use Rattle.theory.specs.HeapValues.{Has, h_bool, h_int, h_named, Val, v_con, val-grown}

-- every constructor in the heap is a value of its type, of the size that its cell says
pub record AllValues (P : File) (h : List Cell) : Type 0 where
  pub value : (l t c k : ℕ) (ls : List ℕ) → look h l ≡ some (con t c k ls) → Val P h l t k

-- what an evaluation does to a heap
pub record Grew (P : File) (h g : List Cell) (n : ℕ) : Type 0 where
  pub grown : Grown h g
  pub few : length g ≤ length h + n
  pub values : AllValues P h → AllValues P g

-- ---- one cell more
leaf-is-not-con : {A : Type 0} {x : Constant} {t c k : ℕ} {ls : List ℕ} → some (leaf x) ≡ some (con t c k ls) → A
leaf-is-not-con e = absurd (let z : ◌≡◌ {A = ℕ} 0 1 = cc in omega arith)

-- a constructor at a location that has a type is a value
has_value : {P : File} {h : List Cell} {l t c k : ℕ} {ls : List ℕ} {τ : Ty} → Has P h l τ → look h l ≡ some (con t c k ls) → Val P h l t k
has_value (h_bool e) q = leaf-is-not-con (sym e ∙ q)
has_value (h_int e less) q = leaf-is-not-con (sym e ∙ q)
has_value {P} {h} {l} {t} {k} (h_named {t = u} (v_con {j} e f vs s) le) q =
    let type : u ≡ t = cc in
    let size : j ≡ k = cc in
    subst₂ (Val P h l) type size (v_con e f vs s)

values-one-more : {P : File} (h : List Cell) (c : Cell) {τ : Ty} → Has P (h ++ (c ∷ [])) (length h) τ → AllValues P h → AllValues P (h ++ (c ∷ []))
values-one-more {P} h c {τ} new all = record {
  value = λ l t d k ls e. look-snoc-cases h c l e (λ q. val-grown (grown-one h c) (all.value l t d k ls q)) (λ last same. has_value (subst (λ i. Has P (h ++ (c ∷ [])) i τ) (sym last) new) e);
}

-- ---- growth
pub grew_none : {P : File} (h : List Cell) → Grew P h h 0
grew_none h = record { grown = grown-refl h; few = omega arith; values = λ all. all }

pub grew-one : {P : File} (h : List Cell) (c : Cell) {τ : Ty} → Has P (h ++ (c ∷ [])) (length h) τ → Grew P h (h ++ (c ∷ [])) 1
grew-one h c new = record { grown = grown-one h c; few = omega (arith, length-append h (c ∷ [])); values = values-one-more h c new }

pub grew_trans : {P : File} {f g h : List Cell} {m n : ℕ} → Grew P f g m → Grew P g h n → Grew P f h (m + n)
grew_trans p q = record { grown = grown-trans p.grown q.grown; few = omega arith; values = λ all. q.values (p.values all) }

pub grew-more : {P : File} {h g : List Cell} {m n : ℕ} → m ≤ n → Grew P h g m → Grew P h g n
grew-more le w = record { grown = w.grown; few = omega arith; values = w.values }
