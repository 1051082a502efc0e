-- Initial values by the rules: of an initial value whose tree fits its type, figure 4 derives the location and the heap that building the
-- tree gives, wherever there is room for its cells; slots and calls are not needed.
use Rattle.std.specs.Prelude.{ℕ, ◌+◌, ◌≤◌, ◌<◌, true, ◌≡◌, length}
use mathlib.Core.List.{List, [], ◌∷◌, ◌++◌, map}
use Rattle.std.proofs.Math.Path.{refl}
use Rattle.std.proofs.Common.{sym, ap, ◌∙◌, subst₂, arith, le_refl, length-append}
use Rattle.language.specs.Limits.{size_most}
use Rattle.language.specs.Syntax.{Field, Ty, Expr, ebool, eint, evar, enow, elast, elet, eif, eop, ecall, econ, ecase, eadj, efit, Exprs, enil, econs, File}
use Rattle.language.specs.Within.{All, all_cons, WithinField, w_other, Within}
use Rattle.language.specs.PlainTypes.{is_initial, are_initial}
use Rattle.language.specs.Sizes.{sum, size_of_type}
use Rattle.language.specs.Heap.{kbool, kint, Cell, leaf, con, Tree, Trees}
use Rattle.language.specs.Values.{tree_size}
use Rattle.language.specs.Slide.{State}
use Rattle.language.specs.Line.{trees_fit}
use Rattle.language.specs.Evaluator.{Channels, no_channels}
use Rattle.language.specs.Rules.{New, Runs, RunsAll, e_bool, e_int, e_ctor, e_adj, es_nil, es_cons}
use Rattle.language.specs.Machine.{Board, new_cell, build, build_fields, build_all}
use Rattle.language.specs.PlainMachine.{initial_tree, initial_fields}
use Rattle.language.specs.InitialValues.{Begins, begins_none, begins_next}
use Rattle.theory.specs.Lists.{false-is-not-true, look-inner-less, both_left, both_right}
use Rattle.theory.specs.Alls.{all-at}
use Rattle.theory.specs.RulesGive.{runs-unique}
use Rattle.theory.specs.TypedTrees.{TreeHas, has_named, val_con, FieldTrees, fields_bool, fields_int, fields_own, fields_other, val-size, fits-has}
use Rattle.theory.specs.CellsReached.{type_at}
use Rattle.theory.specs.FieldValues.{vals-sizes}
use Rattle.theory.specs.Builds.{fields-build, all-grows}
use Rattle.theory.specs.TypedBuilds.{fields-make}

new-cell : {cap : ℕ} (h : List Cell) (c : Cell) → length (h ++ (c ∷ [])) ≤ cap → New cap h c (length h) (h ++ (c ∷ []))
new-cell h c room = record { free = omega (arith, length-append h (c ∷ [])); at = refl; is = refl }

module _ {P : File} (within : Within P) {cap : ℕ} (N : Channels) (u s : ℕ) (E : List ℕ) where
  -- what the first field takes is within what all take
  fields-room : (v : Tree) (ws : Trees) (h : List Cell) → length (build_fields P ws (build P v h).heap).heap ≤ cap → length (build P v h).heap ≤ cap
  fields-room v ws h room = omega (arith, (fields-build P ws (build P v h).heap).count)

  mutual
    unfolding is_initial initial_tree build new_cell size_of_type sum

    pub initial-runs : (e : Expr) {τ : Ty} → is_initial e ≡ true → TreeHas P (initial_tree e) τ → size_of_type τ ≤ size_most → (h : List Cell) → length (build P (initial_tree e) h).heap ≤ cap →
        Runs P cap N u s E h e (build P (initial_tree e) h).location (build P (initial_tree e) h).heap
    initial-runs (ebool b) i has small h room = e_bool (new-cell h (leaf (kbool b)) room)
    initial-runs (eint n) i has small h room = e_int (new-cell h (leaf (kint n)) room)
    initial-runs (evar v) i has small h room = false-is-not-true i
    initial-runs (enow c) i has small h room = false-is-not-true i
    initial-runs (elast c) i has small h room = false-is-not-true i
    initial-runs (elet a b) i has small h room = false-is-not-true i
    initial-runs (eif a b d) i has small h room = false-is-not-true i
    initial-runs (eop o a b) i has small h room = false-is-not-true i
    initial-runs (ecall f es) i has small h room = false-is-not-true i
    initial-runs (econ t c es) i (has_named (val_con {fs} {ks} known fields size) le) small h room =
        let r = build_fields P (initial_fields es) h in
        let true_size : tree_size P (initial_tree (econ t c es)) ≡ 1 + sum ks = omega (arith, val-size (val_con known fields size)) in
        let behind = length-append r.heap (con t c (tree_size P (initial_tree (econ t c es))) r.locations ∷ []) in
        let bounds = (all-at (type_at within.types t t (look-inner-less P.types t c known) (omega arith)).constructors c known).fields in
        e_ctor (fields-run es i fields bounds (omega arith) h (omega arith)) known (vals-sizes (fields-make fields h).values) (omega arith)
        (record { free = omega arith; at = refl; is = ap (λ k. r.heap ++ (con t c k r.locations ∷ [])) true_size })
    initial-runs (ecase t e y bs) i has small h room = false-is-not-true i
    initial-runs (eadj z e) i has small h room = e_adj (initial-runs e i has small h room)
    initial-runs (efit k a b d) i has small h room = false-is-not-true i

    fields-run : {t n : ℕ} {fs : List Field} {ks : List ℕ} (es : Exprs) → are_initial es ≡ true → FieldTrees P t fs (initial_fields es) ks → All (WithinField n) fs → sum ks < size_most → (h : List Cell) →
        length (build_fields P (initial_fields es) h).heap ≤ cap → RunsAll P cap N u s E h es (build_fields P (initial_fields es) h).locations (build_fields P (initial_fields es) h).heap
    fields-run enil i fields bounds small h room = es_nil
    fields-run (econs e es) i (fields_bool x r) (all_cons w ws) small h room = es_cons (initial-runs e (both_left _ _ i) x (omega arith) h (fields-room (initial_tree e) (initial_fields es) h room)) (fields-run es (both_right _ _ i) r ws small _ room)
    fields-run (econs e es) i (fields_int x r) (all_cons w ws) small h room = es_cons (initial-runs e (both_left _ _ i) x (omega arith) h (fields-room (initial_tree e) (initial_fields es) h room)) (fields-run es (both_right _ _ i) r ws small _ room)
    fields-run (econs e es) i (fields_own x r) (all_cons w ws) small h room =
        es_cons (initial-runs e (both_left _ _ i) (has_named x (le_refl _)) (omega arith) h (fields-room (initial_tree e) (initial_fields es) h room)) (fields-run es (both_right _ _ i) r ws (omega arith) _ room)
    fields-run (econs e es) i (fields_other x r) (all_cons (w_other less bound) ws) small h room =
        es_cons (initial-runs e (both_left _ _ i) x bound.1 h (fields-room (initial_tree e) (initial_fields es) h room)) (fields-run es (both_right _ _ i) r ws small _ room)

-- ---- all channels
module _ {P : File} (within : Within P) (b : Board) where
  pub initials-begin : (es : List Expr) (τs : List Ty) (h : List Cell) (roots : List ℕ) → All (λ e. is_initial e ≡ true) es → trees_fit P (map initial_tree es) τs ≡ true → All (λ τ. size_of_type τ ≤ size_most) τs →
      length (build_all P (map initial_tree es) h roots).heap ≤ b.cells → Begins P b es h roots (build_all P (map initial_tree es) h roots)
  unfolding trees_fit build_all
  initials-begin [] τs h roots formed fit small room = begins_none refl
  initials-begin (e ∷ es) [] h roots formed fit small room = false-is-not-true fit
  initials-begin (e ∷ es) (τ ∷ τs) h roots (all_cons i is) fit (all_cons k ks) room =
      let r = build P (initial_tree e) h in
      begins_next (initial-runs within no_channels b.calls b.slots [] e i (fits-has (initial_tree e) τ (both_left _ _ fit)) k h (omega (arith, all-grows P (map initial_tree es) r.heap (roots ++ (r.location ∷ [])))))
      (initials-begin es τs r.heap (roots ++ (r.location ∷ [])) is (both_right _ _ fit) ks room)

-- the rules lead to one state
pub begins-unique : {P : File} {b : Board} {es : List Expr} {h : List Cell} {roots : List ℕ} {r s : State} → Begins P b es h roots r → Begins P b es h roots s → r ≡ s
begins-unique (begins_none e) (begins_none d) = e ∙ sym d
begins-unique {P} {b} {s} (begins_next {es} {roots} runs rest) (begins_next runs' rest') =
    let same = runs-unique runs' runs in
    begins-unique rest (subst₂ (λ l g. Begins P b es g (roots ++ (l ∷ [])) s) same.0 same.1 rest')
