-- Sizes read and compared one by one; records looked up one after the other.
use Rattle.std.specs.Prelude.{ℕ, zero, suc, ◌+◌, ◌*◌, ◌≤◌, ◌<◌, Bool, true, false, ◌≡◌, refl, length, get_or, eqb}
use mathlib.Core.List.{List, [], ◌∷◌, map}
use lib.Pointwise.{pointwise}
use Rattle.std.proofs.Math.Option.{some}
use Rattle.std.proofs.Math.Path.{sym, ap}
use Rattle.std.proofs.Common.{◌∙◌, add-one, arith, get_or-drop, ext_get_or}
use Rattle.std.proofs.Math.ListN.{drop}
use Rattle.std.proofs.Math.Seq.{drop-cons, drop-length}
use borrow.Author.Tests.{le-leb, lt-leb}
use Rattle.language.specs.Limits.{parameters_most, instances_most}
use Rattle.language.specs.Result.{both, choose}
use Rattle.language.specs.Sizes.{same_sizes}
use Rattle.language.specs.Checker.{find}
use Rattle.theory.specs.Padding.{padded-length}
use Rattle.index.specs.Padded.{padded-at}
use Rattle.instances.specs.Listed.{instance_words_count, numbers_from}
use Rattle.instance_list.specs.declared.Instance.{Instance}
use Rattle.instance_list.specs.Records.{none, sizes_from, record_at, same_key, place_of, entered, numbers_at, FindsPlace}

-- ---- sizes read: those before j
pub record ReadBefore (words : List ℕ) (from j : ℕ) (sizes : List ℕ) : Type 0 where
  pub long : length sizes ≡ parameters_most
  pub says : (k : ℕ) → k < j → get_or sizes k 0 ≡ get_or words (from + k) 0

module _ {words : List ℕ} {from : ℕ} where
  pub read-end : {sizes : List ℕ} {j : ℕ} → ReadBefore words from j sizes → parameters_most ≤ j → sizes ≡ sizes_from words from
  read-end {sizes} v ge =
      ext_get_or 0 sizes (sizes_from words from) (v.long ∙ sym (padded-length parameters_most (drop from words)))
      (λ k less. v.says k (omega (arith, v.long)) ∙ sym (padded-at parameters_most (drop from words) k (omega (arith, v.long)) ∙ get_or-drop from words k 0))

-- ---- a record read
pub record-beyond : (words : List ℕ) (i : ℕ) {r : Instance} → instances_most ≤ i → r ≡ none → r ≡ record_at words i
unfolding record_at choose
record-beyond words i h e = rw (le-leb _ _ h) e

pub record-here : (words : List ℕ) (i : ℕ) {sizes : List ℕ} {function environment heap stack : ℕ} → i < instances_most → function ≡ get_or words (instance_words_count * i) 0 → sizes ≡ sizes_from words (instance_words_count * i + 1) →
    environment ≡ get_or words (instance_words_count * i + numbers_from) 0 → heap ≡ get_or words (instance_words_count * i + numbers_from + 1) 0 → stack ≡ get_or words (instance_words_count * i + numbers_from + 2) 0 →
    record { function = function; sizes = sizes; environment = environment; heap = heap; stack = stack } ≡ record_at words i
unfolding record_at choose
record-here words i h f s e p t = rw (lt-leb _ _ h) (λ k. record { function = f k; sizes = s k; environment = e k; heap = p k; stack = t k })

-- ---- two rows of sizes
pub sizes-tested : (a b : List ℕ) → pointwise eqb a b ≡ same_sizes a b
unfolding same_sizes both
sizes-tested [] [] = refl
sizes-tested [] (y ∷ b) = refl
sizes-tested (x ∷ a) [] = refl
sizes-tested (x ∷ a) (y ∷ b) = ap (both (eqb x y)) (sizes-tested a b)

-- ---- looking up: what is found from i on
abbrev pub From : List Instance → Instance → ℕ → Type 0
From list key i = place_of list key ≡ i + place_of (drop i list) key

pub from_start : (list : List Instance) (key : Instance) → From list key 0
from_start list key = omega arith

pub from-hit : (list : List Instance) (key : Instance) (i : ℕ) (d : Instance) → i < length list → same_key (get_or list i d) key ≡ true → From list key i → i ≡ place_of list key
unfolding place_of choose
from-hit list key i d less h e =
    let here : place_of (drop i list) key ≡ 0 = rw (drop-cons list i d less, h) in
    omega (arith, here, e)

pub from-miss : (list : List Instance) (key : Instance) (i : ℕ) (d : Instance) → i < length list → same_key (get_or list i d) key ≡ false → From list key i → From list key (i + 1)
unfolding place_of choose
from-miss list key i d less h e =
    let here : place_of (drop i list) key ≡ suc (place_of (drop (suc i) list) key) = rw (drop-cons list i d less, h) in
    let f : place_of (drop (i + 1) list) key ≡ place_of (drop (suc i) list) key = rw add-one in
    omega (arith, here, e, f)

pub from_end : (list : List Instance) (key : Instance) (i : ℕ) → i ≤ length list → length list ≤ i → From list key i → i ≡ place_of list key
unfolding place_of
from_end list key i le ge e =
    let z : i ≡ length list = omega arith in
    let d : place_of (drop i list) key ≡ 0 = ap (λ n. place_of (drop n list) key) z ∙ ap (λ l. place_of l key) (drop-length list) in
    omega (arith, d, e)

-- the definition's `find` finds what stands there
find_at : (list : List Instance) (key : Instance) → find (map entered list) key.function key.sizes ≡ numbers_at (map entered list) (place_of list key)
unfolding find place_of numbers_at choose
find_at [] key = refl
find_at (r ∷ list) key = go (same_key r key) (find_at list key)
  where
    go : (b : Bool) → find (map entered list) key.function key.sizes ≡ numbers_at (map entered list) (place_of list key) →
        elim b [ true ↦ some (entered r).numbers | false ↦ find (map entered list) key.function key.sizes ] ≡ numbers_at (entered r ∷ map entered list) (choose b zero (suc (place_of list key)))
    go true rest = refl
    go false rest = rest

pub finds : {list : List Instance} {key : Instance} {i : ℕ} → i ≡ place_of list key → FindsPlace list key i
finds {list} {key} {i} e = record { place = e; found = find_at list key ∙ ap (numbers_at (map entered list)) (sym e) }
