-- Sliding keeps the type of every reached location; a heap of values slides to a typed state.
use Rattle.std.specs.Prelude.{ℕ, ◌<◌, List, map, ◌≡◌, length}
use Rattle.std.proofs.Math.Option.{some}
use Rattle.std.proofs.Common.{arith}
use Rattle.std.proofs.Math.ListN.{get_elem? as look}
use Rattle.language.specs.Syntax.{Field, Ty, File, declared_types}
use Rattle.language.specs.Within.{All, all_nil, all_cons}
use Rattle.language.specs.Heap.{Cell, leaf, con, fields_in}
use Rattle.language.specs.Slide.{State, renumber_cell, slide}
use Rattle.theory.specs.Lists.{look-less}
use Rattle.theory.specs.Alls.{all_map}
use Rattle.theory.specs.HeapValues.{Has, h_bool, h_int, h_named, Val, v_con, Vals, vs_nil, vs_bool, vs_int, vs_own, vs_other, Env, env_nil, env_cons}
use Rattle.theory.specs.Growth.{AllValues}
use Rattle.theory.specs.Reaches.{Reached, NamesLower, reached-closed}
use Rattle.theory.specs.Slides.{new_number, moved, new-number-less, slid-cell, slid-from, reached-fields}
use Rattle.theory.specs.SlideKept.{slid-all-reached}
use Rattle.theory.specs.TypedStates.{Holds, StateTyped, values-lower}

module _ {P : File} (s : State) (lower : NamesLower s.heap) where
  mutual
    unfolding renumber_cell fields_in

    pub has-slid : {l : ℕ} {τ : Ty} → Has P s.heap l τ → Reached s l → Has P (slide s).heap (new_number s l) τ
    has-slid (h_bool {l} e) m = h_bool (slid-cell s l e m)
    has-slid (h_int {l} e less) m = h_int (slid-cell s l e m) less
    has-slid (h_named v le) m = h_named (val-slid v m) le

    pub val-slid : {l t j : ℕ} → Val P s.heap l t j → Reached s l → Val P (slide s).heap (new_number s l) t j
    val-slid (v_con {l} e known vs size) m = v_con (slid-cell s l e m) known (vals-slid vs (look-less s.heap l e) (all_map (λ i q. q.1) (reached-fields s lower l e m))) size

    vals-slid : {b t : ℕ} {fs : List Field} {ls ks : List ℕ} → Vals P s.heap b t fs ls ks → b < length s.heap → All (Reached s) ls → Vals P (slide s).heap (new_number s b) t fs (map (new_number s) ls) ks
    vals-slid vs_nil less all_nil = vs_nil
    vals-slid {b} (vs_bool {l} low v vs) less (all_cons m ms) = vs_bool (new-number-less s l b low less m) (has-slid v m) (vals-slid vs less ms)
    vals-slid {b} (vs_int {l} low v vs) less (all_cons m ms) = vs_int (new-number-less s l b low less m) (has-slid v m) (vals-slid vs less ms)
    vals-slid {b} (vs_own {l} low v vs) less (all_cons m ms) = vs_own (new-number-less s l b low less m) (val-slid v m) (vals-slid vs less ms)
    vals-slid {b} (vs_other {l} low v vs) less (all_cons m ms) = vs_other (new-number-less s l b low less m) (has-slid v m) (vals-slid vs less ms)

  env-slid : {ls : List ℕ} {τs : List Ty} → Env P s.heap ls τs → All (Reached s) ls → Env P (slide s).heap (map (new_number s) ls) τs
  env-slid env_nil all_nil = env_nil
  env-slid (env_cons v vs) (all_cons m ms) = env_cons (has-slid v m) (env-slid vs ms)

values-slid : {P : File} (s : State) → AllValues P s.heap → AllValues P (slide s).heap
unfolding renumber_cell
values-slid {P} s all = record { value = λ l t c k ls e. let r = slid-from s l e in rw (← r.number) (cases t c k ls r.from r.cell r.at r.member r.is) }
  where
    cases : (t c k : ℕ) (ls : List ℕ) (from : ℕ) (d : Cell) → look s.heap from ≡ some d → Reached s from → con t c k ls ≡ moved s d → Val P (slide s).heap (new_number s from) t k
    cases t c k ls from (leaf x) at m is = absurd (let z : ◌≡◌ {A = ℕ} 0 1 = cc in omega arith)
    cases t c k ls from (con u d j ms) at m is =
        let type : t ≡ u = cc in
        let size : k ≡ j = cc in
        rw (type, size) (val-slid s (values-lower all) (all.value from u d j ms at) m)

pub slide-typed : {P : File} (s : State) → Holds P (declared_types P) s → StateTyped P (slide s)
unfolding slide
slide-typed s x = let lower = values-lower x.values in record {
  holds = record { values = values-slid s x.values; channels = env-slid s lower x.channels (reached-closed s lower).roots };
  all-reached = slid-all-reached s lower;
}
