-- The cell at a location, and heaps that grew: a cell that was there is there still.
use Rattle.std.specs.Prelude.{ℕ, ◌≤◌, ◌<◌, List, [], ◌∷◌, ◌++◌, false, ◌≡◌, refl, length}
use Rattle.std.proofs.Common.{append_assoc, append-nil, sym, ap, ◌∙◌, arith, length-append}
use Rattle.std.proofs.Math.Option.{some}
use Rattle.std.proofs.Math.ListN.{get_elem? as look}
use Rattle.language.specs.Within.{All}
use Rattle.language.specs.Heap.{kbool, Cell, leaf, cell_at}
use Rattle.theory.specs.Lists.{look-get_d, look-append}
use Rattle.theory.specs.Alls.{all_map}

pub cell-at : (h : List Cell) (l : ℕ) {c : Cell} → look h l ≡ some c → cell_at h l ≡ c
cell-at h l e = look-get_d h l (leaf (kbool false)) e

-- evaluation only appends
pub record Grown (h g : List Cell) : Type 0 where
  pub more : List Cell
  pub is : g ≡ h ++ more

pub grown-refl : (h : List Cell) → Grown h h
grown-refl h = record { more = []; is = sym (append-nil h) }

pub grown-one : (h : List Cell) (c : Cell) → Grown h (h ++ (c ∷ []))
grown-one h c = record { more = c ∷ []; is = refl }

pub grown-trans : {f g h : List Cell} → Grown f g → Grown g h → Grown f h
grown-trans {f} p q = record { more = p.more ++ q.more; is = q.is ∙ ap (λ x. x ++ q.more) p.is ∙ append_assoc f p.more q.more }

pub grown-length : {h g : List Cell} → Grown h g → length h ≤ length g
grown-length {h} w = omega (arith, ap length w.is, length-append h w.more)

pub low-grown : {h g : List Cell} {ls : List ℕ} → Grown h g → All (λ l. l < length h) ls → All (λ l. l < length g) ls
low-grown w low = all_map (λ l less. omega (arith, grown-length w)) low

pub look-grown : {h g : List Cell} → Grown h g → (l : ℕ) {c : Cell} → look h l ≡ some c → look g l ≡ some c
look-grown {h} w l e = rw w.is (look-append h w.more l e)
