-- In a state of a file within the limits every cell can be written into its words, and every channel has its word.
use Rattle.std.specs.Prelude.{ℕ, zero, suc, ◌≤◌, ◌<◌, List, [], map, ◌≡◌, length, get_or}
use Rattle.std.proofs.Math.Option.{some}
use Rattle.std.proofs.Common.{arith, le_refl, length-append}
use Rattle.std.proofs.Math.ListN.{get_elem? as look}
use Rattle.std.proofs.lemmas.List.{length-map}
use Rattle.language.specs.Limits.{channels_most, constructors_most, fields_most, int_range}
use Rattle.language.specs.Syntax.{Field, TypeDef, Constructor, Ty, tbool, tint, tnamed, Input, Node, File, declared_types}
use Rattle.language.specs.Within.{All, all_nil, all_cons, WithinTypes, wt_nil, wt_cons, Within}
use Rattle.language.specs.Heap.{kbool, kint, Cell, leaf, con, fields_in}
use Rattle.language.specs.Slide.{State}
use Rattle.theory.specs.Alls.{all-at, all-each}
use Rattle.theory.specs.Lists.{none-is-not-some, look-less}
use Rattle.theory.specs.Reaches.{reached-least}
use Rattle.theory.specs.HeapValues.{Has, h_bool, h_int, h_named, v_con, Vals, vs_nil, vs_bool, vs_int, vs_own, vs_other, Env, env_nil, env_cons}
use Rattle.theory.specs.Growth.{AllValues}
use Rattle.theory.specs.FieldValues.{vals-length}
use Rattle.theory.specs.TypedStates.{StateTyped, con-value}
use Rattle.theory.specs.CellWords.{Writable, bool_writable, int_writable, con_writable}

-- ---- limits of a file
pub channels-few : {P : File} → Within P → length (declared_types P) ≤ channels_most
channels-few {P} w =
    let inputs = map (λ (i : Input). i.declared) P.inputs in
    let nodes = map (λ (n : Node). n.declared) P.nodes in
    omega (arith, w.few_inputs, w.few_nodes, length-append inputs nodes, length-map P.inputs (λ (i : Input). i.declared), length-map P.nodes (λ (n : Node). n.declared))

record FewParts (c : ℕ) (fs : Constructor) : Type 0 where
  constructors : c < constructors_most
  fields : length fs ≤ fields_most

constructor-few : {earlier : ℕ} {ds : List TypeDef} → WithinTypes earlier ds → (t c : ℕ) {fs : Constructor} → look (get_or ds t []) c ≡ some fs → FewParts c fs
constructor-few wt_nil t c e = none-is-not-some e
constructor-few (wt_cons {d} w ws) zero c e = record { constructors = omega (arith, w.few, look-less d c e); fields = (all-at w.constructors c e).few }
constructor-few (wt_cons w ws) (suc t) c e = constructor-few ws t c e

-- ---- a cell that is reached has some type
record HasSomeType (P : File) (h : List Cell) (l : ℕ) : Type 0 where
  type : Ty
  has : Has P h l type

env-types : {P : File} {h : List Cell} {ls : List ℕ} {τs : List Ty} → Env P h ls τs → All (HasSomeType P h) ls
env-types env_nil = all_nil
env-types (env_cons {τ} v vs) = all_cons (record { type = τ; has = v }) (env-types vs)

vals-types : {P : File} {h : List Cell} {b t : ℕ} {fs : List Field} {ls ks : List ℕ} → Vals P h b t fs ls ks → All (HasSomeType P h) ls
vals-types vs_nil = all_nil
vals-types (vs_bool low v vs) = all_cons (record { type = tbool; has = v }) (vals-types vs)
vals-types (vs_int low v vs) = all_cons (record { type = tint; has = v }) (vals-types vs)
vals-types {t} (vs_own {k} low v vs) = all_cons (record { type = tnamed t k; has = h_named v (le_refl k) }) (vals-types vs)
vals-types (vs_other {u} {k} low v vs) = all_cons (record { type = tnamed u k; has = v }) (vals-types vs)

fields-types : {P : File} {h : List Cell} → AllValues P h → (l : ℕ) (c : Cell) → look h l ≡ some c → All (HasSomeType P h) (fields_in c)
unfolding fields_in
fields-types all l (leaf x) e = all_nil
fields-types all l (con t c k ls) e = vals-types (con-value all l t c k ls e).are

all_types : {P : File} {s : State} → StateTyped P s → (l : ℕ) → l < length s.heap → HasSomeType P s.heap l
all_types {P} {s} t l less = reached-least {s = s} {Q = HasSomeType P s.heap}
    (record { roots = env-types t.holds.channels; fields = λ i c e q. fields-types t.holds.values i c e }) l (t.all-reached l less)

-- ---- so each can be written
int-in-range : {P : File} {h : List Cell} {l n : ℕ} {τ : Ty} → Has P h l τ → look h l ≡ some (leaf (kint n)) → n < int_range
int-in-range (h_bool e) at = absurd (let z : ◌≡◌ {A = ℕ} 0 1 = cc in omega arith)
int-in-range {n} (h_int {n = m} e less) at = let same : m ≡ n = cc in omega arith
int-in-range (h_named (v_con e known vs size) le) at = absurd (let z : ◌≡◌ {A = ℕ} 0 1 = cc in omega arith)

pub state-writable : {P : File} {s : State} → Within P → StateTyped P s → All (Writable P) s.heap
state-writable {P} {s} within t = all-each s.heap writable
  where
    writable : (l : ℕ) (c : Cell) → look s.heap l ≡ some c → Writable P c
    writable l (leaf (kbool b)) e = bool_writable
    writable l (leaf (kint n)) e = int_writable (int-in-range (all_types t l (look-less s.heap l e)).has e)
    writable l (con u c k ls) e =
        let v = con-value t.holds.values l u c k ls e in
        let few = constructor-few within.types u c v.known in
        con_writable v.known (vals-length v.are) few.fields (omega (arith, few.constructors))
