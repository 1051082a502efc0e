-- Channels in a heap: a value's size word is at most its type's size; trees stay when the heap grows; the channels behind the first ones.
use Rattle.std.specs.Prelude.{ℕ, zero, suc, ◌≤◌, List, [], ◌∷◌, ◌++◌, map, ◌≡◌, refl, length, drop}
use Rattle.std.proofs.Common.{subst, arith}
use Rattle.std.proofs.lemmas.List.{length-map}
use Rattle.language.specs.Syntax.{Ty, Input, Node, File, declared_types}
use Rattle.language.specs.Sizes.{size_of_type}
use Rattle.language.specs.Heap.{Cell, cell_at, size_in, tree_at}
use Rattle.theory.specs.Alls.{all_map}
use Rattle.theory.specs.Members.{map_same}
use Rattle.theory.specs.Heaps.{cell-at, Grown}
use Rattle.theory.specs.HeapValues.{Has, h_bool, h_int, h_named, Env, env_cons, env-less, val-size-word}
use Rattle.theory.specs.ScopeTrees.{tree-grown}

abbrev pub input_types : File → List Ty
input_types P = map (λ (i : Input). i.declared) P.inputs

abbrev pub node_types : List Node → List Ty
node_types ns = map (λ (n : Node). n.declared) ns

-- "a node's value above its declared size": none is
pub size-at-most : {P : File} {h : List Cell} {l : ℕ} {τ : Ty} → Has P h l τ → size_in (cell_at h l) ≤ size_of_type τ
unfolding size_in size_of_type
size-at-most {h} (h_bool {l} e) = rw (cell-at h l e) (omega arith)
size-at-most {h} (h_int {l} e less) = rw (cell-at h l e) (omega arith)
size-at-most (h_named v le) = omega (arith, val-size-word v)

pub trees-stay : {P : File} {h g : List Cell} {ls : List ℕ} {τs : List Ty} → Grown h g → Env P h ls τs → map (tree_at g) ls ≡ map (tree_at h) ls
trees-stay {ls} grown vs = map_same ls (all_map (tree-grown grown) (env-less vs))

pub map-drop : {A B : Type 0} (f : A → B) (n : ℕ) (l : List A) → map f (drop n l) ≡ drop n (map f l)
map-drop f zero l = refl
map-drop f (suc n) [] = refl
map-drop f (suc n) (a ∷ l) = map-drop f n l

-- the channels behind the first
pub env-drop : {P : File} {h : List Cell} {ls : List ℕ} (σs : List Ty) {τs : List Ty} → Env P h ls (σs ++ τs) → Env P h (drop (length σs) ls) τs
env-drop [] vs = vs
env-drop (σ ∷ σs) (env_cons v vs) = env-drop σs vs

-- the nodes behind the inputs
pub nodes-left : {P : File} {h : List Cell} {ls : List ℕ} → Env P h ls (declared_types P) → Env P h (drop (length P.inputs) ls) (node_types P.nodes)
nodes-left {P} {h} {ls} vs = subst (λ n. Env P h (drop n ls) (node_types P.nodes)) (length-map P.inputs (λ (i : Input). i.declared)) (env-drop (input_types P) vs)
