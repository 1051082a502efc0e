-- Typed states: every constructor in the heap is a value, each channel holds one of its type, and every cell is reached.
use Rattle.std.specs.Prelude.{ℕ, suc, ◌<◌, List, map, true, ◌≡◌, refl, length}
use Rattle.std.proofs.Math.Option.{some}
use Rattle.std.proofs.Math.ListN.{get_elem? as look}
use Rattle.language.specs.Syntax.{Constructor, Ty, File, constructors_of, declared_types}
use Rattle.language.specs.Within.{All, all_nil}
use Rattle.language.specs.Sizes.{sum}
use Rattle.language.specs.Heap.{Cell, leaf, con, fields_in, tree_at}
use Rattle.language.specs.Values.{tree_size}
use Rattle.language.specs.Slide.{State}
use Rattle.language.specs.Line.{trees_fit}
use Rattle.theory.specs.Lists.{both_true}
use Rattle.theory.specs.HeapValues.{Val, v_con, Vals, Env, env_nil, env_cons, env-less, vals-low}
use Rattle.theory.specs.Growth.{AllValues}
use Rattle.theory.specs.ValuesFit.{value-fits, val-tree-size}
use Rattle.theory.specs.Reaches.{Reached, NamesLower, Linked}

-- a heap of values, and over it one of each type for the channels
pub record Holds (P : File) (τs : List Ty) (s : State) : Type 0 where
  pub values : AllValues P s.heap
  pub channels : Env P s.heap s.roots τs

-- a state of the file: a value of its declared type for each channel, and no cell that no channel reaches
pub record StateTyped (P : File) (s : State) : Type 0 where
  pub holds : Holds P (declared_types P) s
  pub all-reached : (i : ℕ) → i < length s.heap → Reached s i

-- ---- the constructor at a location
pub record ConValue (P : File) (h : List Cell) (l t c k : ℕ) (ls : List ℕ) : Type 0 where
  pub fields : Constructor
  pub sizes : List ℕ
  pub known : look (constructors_of P t) c ≡ some fields
  pub are : Vals P h l t fields ls sizes
  pub size : k ≡ suc (sum sizes)

pub con-value : {P : File} {h : List Cell} → AllValues P h → (l t c k : ℕ) (ls : List ℕ) → look h l ≡ some (con t c k ls) → ConValue P h l t c k ls
con-value {P} {h} all l t c k ls e = parts (all.value l t c k ls e)
  where
    parts : Val P h l t k → ConValue P h l t c k ls
    parts (v_con {c = d} {fs} {ls = ms} {ks} at known are size) =
        let same : d ≡ c = cc in
        let same-fields : ms ≡ ls = cc in
        record { fields = fs; sizes = ks; known = rw same at known; are = rw same-fields at are; size = size }

-- ---- what such a state has
pub values-lower : {P : File} {h : List Cell} → AllValues P h → NamesLower h
unfolding fields_in
values-lower {P} {h} all = record { low = fields-low }
  where
    fields-low : (l : ℕ) (c : Cell) → look h l ≡ some c → All (λ i. i < l) (fields_in c)
    fields-low l (leaf x) e = all_nil
    fields-low l (con t c k ls) e = vals-low (con-value all l t c k ls e).are

pub holds-linked : {P : File} {τs : List Ty} {s : State} → Holds P τs s → Linked s
holds-linked x = record { lower = values-lower x.values; roots = env-less x.channels }

-- "each size word is the true size"
pub size-word-true : {P : File} {h : List Cell} → AllValues P h → (l t c k : ℕ) (ls : List ℕ) → look h l ≡ some (con t c k ls) → tree_size P (tree_at h l) ≡ k
size-word-true all l t c k ls e = val-tree-size (all.value l t c k ls e)

-- "Each channel's value has its declared type, no size in it is above its declaration or field k"
pub channels-fit : {P : File} {τs : List Ty} {s : State} → Holds P τs s → trees_fit P (map (tree_at s.heap) s.roots) τs ≡ true
unfolding trees_fit
channels-fit {P} {s} x = each x.channels
  where
    each : {ls : List ℕ} {τs : List Ty} → Env P s.heap ls τs → trees_fit P (map (tree_at s.heap) ls) τs ≡ true
    each env_nil = refl
    each (env_cons v vs) = both_true (value-fits v) (each vs)
