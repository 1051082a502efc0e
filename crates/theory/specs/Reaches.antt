-- The cells reached: they hold the roots, with each cell the cells that it names, and lie in every set that does.
use Rattle.std.specs.Prelude.{ℕ, zero, suc, ◌+◌, ◌≤◌, ◌<◌, List, [], ◌∷◌, ◌++◌, Bool, true, false, ◌≡◌, refl, length}
use Rattle.std.proofs.Math.Option.{some}
use Rattle.std.proofs.Common.{sym, ◌∙◌, arith, add-zero, add-suc, suc-add, zero-add}
use Rattle.std.proofs.Math.ListN.{get_elem? as look}
use Rattle.language.specs.Result.{one_of, choose}
use Rattle.language.specs.Within.{All}
use Rattle.language.specs.Heap.{Cell, fields_in}
use Rattle.language.specs.Slide.{State, mem, reached_from, reached}
use Rattle.theory.specs.Lists.{none-is-not-some, look-less}
use Rattle.theory.specs.Choices.{one_left, one_right, one-cases}
use Rattle.theory.specs.Alls.{all_map}
use Rattle.theory.specs.Members.{mem-append, all-mem, mem-all, above-not-member}

abbrev pub Reached : State → ℕ → Type 0
Reached s l = mem l (reached s) ≡ true

-- every cell names lower ones
pub record NamesLower (h : List Cell) : Type 0 where
  pub low : (l : ℕ) (c : Cell) → look h l ≡ some c → All (λ i. i < l) (fields_in c)

-- and every channel a cell
pub record Linked (s : State) : Type 0 where
  pub lower : NamesLower s.heap
  pub roots : All (λ l. l < length s.heap) s.roots

-- a set that holds the roots, and with each cell the cells that it names
pub record Closed (s : State) (Q : ℕ → Type 0) : Type 0 where
  pub roots : All Q s.roots
  pub fields : (l : ℕ) (c : Cell) → look s.heap l ≡ some c → Q l → All Q (fields_in c)

-- the same of cells whose first one has a number
record LowerFrom (number : ℕ) (cs : List Cell) : Type 0 where
  low : (l : ℕ) (c : Cell) → look cs l ≡ some c → All (λ i. i < number + l) (fields_in c)

lower-head : {number : ℕ} {c : Cell} {cs : List Cell} → LowerFrom number (c ∷ cs) → All (λ i. i < number) (fields_in c)
lower-head {number} {c} w = rw add-zero at (w.low 0 c refl)

lower-tail : {number : ℕ} {c : Cell} {cs : List Cell} → LowerFrom number (c ∷ cs) → LowerFrom (suc number) cs
lower-tail {number} w = record { low = λ l c e. rw (suc-add, ← add-suc) (w.low (suc l) c e) }

-- ---- one cell more: S is what is reached from the cells above
-- the numbers that a lower cell adds are lower still
pub settled : (S : List ℕ) (b : Bool) {i : ℕ} {fields : List ℕ} → All (λ l. l < i) fields → (j : ℕ) → i ≤ j → mem j (choose b (fields ++ S) S) ≡ mem j S
unfolding choose one_of
settled S true {fields} low j le = rw (mem-append j fields S, above-not-member low j le)
settled S false low j le = refl

kept_on : (S fields : List ℕ) (b : Bool) (i : ℕ) → mem i S ≡ true → mem i (choose b (fields ++ S) S) ≡ true
unfolding choose
kept_on S fields true i e = rw mem-append (one_right (mem i fields) e)
kept_on S fields false i e = e

fields-added : (S fields : List ℕ) {b : Bool} (i : ℕ) → b ≡ true → mem i fields ≡ true → mem i (choose b (fields ++ S) S) ≡ true
unfolding choose
fields-added S fields i q e = rw (q, mem-append) (one_left (mem i S) e)

added-cases : {X : Type 0} (S fields : List ℕ) (b : Bool) (i : ℕ) → mem i (choose b (fields ++ S) S) ≡ true → (b ≡ true → mem i fields ≡ true → X) → (mem i S ≡ true → X) → X
unfolding choose
added-cases S fields true i m f g = one-cases (mem i fields) (mem i S) (sym (mem-append i fields S) ∙ m) (f refl) g
added-cases S fields false i m f g = g m

-- ---- the roots
root-reached : (R : List ℕ) (number : ℕ) (cs : List Cell) (i : ℕ) → mem i R ≡ true → mem i (reached_from R number cs) ≡ true
unfolding reached_from
root-reached R number [] i e = e
root-reached R number (c ∷ cs) i e = kept_on (reached_from R (suc number) cs) (fields_in c) _ i (root-reached R (suc number) cs i e)

-- ---- the cells that a reached cell names
named-reached : (R : List ℕ) (number : ℕ) (cs : List Cell) → LowerFrom number cs → (l : ℕ) (c : Cell) → look cs l ≡ some c →
    mem (number + l) (reached_from R number cs) ≡ true → All (λ i. mem i (reached_from R number cs) ≡ true) (fields_in c)
unfolding reached_from
named-reached R number [] w l c e m = none-is-not-some e
named-reached R number (d ∷ cs) w zero c e m =
    let S = reached_from R (suc number) cs in
    let same : d ≡ c = cc in
    let reached-above : mem number S ≡ true = sym (settled S (mem number S) (lower-head w) number (omega arith)) ∙ (rw add-zero at m) in
    mem-all (fields_in c) (λ i q. fields-added S (fields_in d) i reached-above (rw same q))
named-reached R number (d ∷ cs) w (suc l) c e m =
    let S = reached_from R (suc number) cs in
    let reached-above : mem (suc number + l) S ≡ true = sym (settled S (mem number S) (lower-head w) (suc number + l) (omega arith)) ∙ (rw (add-suc, ← suc-add) at m) in
    all_map (λ i q. kept_on S (fields_in d) (mem number S) i q) (named-reached R (suc number) cs (lower-tail w) l c e reached-above)

pub reached-closed : (s : State) → NamesLower s.heap → Closed s (Reached s)
unfolding reached
reached-closed s w = record {
  roots = mem-all s.roots (λ i e. root-reached s.roots 0 s.heap i e);
  fields = λ l c e m. named-reached s.roots 0 s.heap (record { low = λ i d at. rw zero-add (w.low i d at) }) l c e (rw zero-add m);
}

-- ---- nothing else
only-reached : (Q : ℕ → Type 0) (R : List ℕ) (number : ℕ) (cs : List Cell) → All Q R → ((l : ℕ) (c : Cell) → look cs l ≡ some c → Q (number + l) → All Q (fields_in c)) →
    (i : ℕ) → mem i (reached_from R number cs) ≡ true → Q i
unfolding reached_from
only-reached Q R number [] roots fields i m = all-mem roots i m
only-reached Q R number (c ∷ cs) roots fields i m =
    let S = reached_from R (suc number) cs in
    let above : (j : ℕ) → mem j S ≡ true → Q j = only-reached Q R (suc number) cs roots (λ l d e q. fields (suc l) d e (rw (add-suc, ← suc-add) q)) in
    added-cases S (fields_in c) (mem number S) i m (λ e z. all-mem (fields 0 c refl (rw add-zero (above number e))) i z) (above i)

pub reached-least : {s : State} {Q : ℕ → Type 0} → Closed s Q → (l : ℕ) → Reached s l → Q l
unfolding reached
reached-least {s} {Q} closed l m = only-reached Q s.roots 0 s.heap closed.roots (λ i c e q. closed.fields i c e (rw zero-add at q)) l m

-- so the cells reached are cells of the heap
pub reached-below : {s : State} → Linked s → (l : ℕ) → Reached s l → l < length s.heap
reached-below {s} linked = reached-least {s = s} {Q = λ i. i < length s.heap} (record {
  roots = linked.roots;
  fields = λ l c e less. all_map (λ i low. omega (arith, look-less s.heap l e)) (linked.lower.low l c e);
})
