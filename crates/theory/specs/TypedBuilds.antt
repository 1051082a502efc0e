-- A tree that fits a type, built, gives a location of the type and only values; the trees of all channels give a typed state.
use Rattle.std.specs.Prelude.{ℕ, suc, List, [], ◌∷◌, ◌++◌, true, ◌≡◌, length}
use Rattle.std.proofs.Common.{append-nil, ◌∙◌, subst, arith, le_refl}
use Rattle.std.proofs.Math.Option.{some}
use Rattle.std.proofs.Math.ListN.{get_elem? as look}
use Rattle.std.proofs.Math.Seq.{append_snoc}
use Rattle.language.specs.Syntax.{Field, Constructor, Ty, File, constructors_of, declared_types}
use Rattle.language.specs.Sizes.{sum}
use Rattle.language.specs.Heap.{Constant, kbool, kint, Cell, leaf, con, Tree, vleaf, vcon, Trees, vcons}
use Rattle.language.specs.Values.{tree_cells, trees_cells, tree_size, fits}
use Rattle.language.specs.Slide.{State}
use Rattle.language.specs.Line.{trees_fit}
use Rattle.language.specs.Layout.{cells_right, location_fits}
use Rattle.language.specs.Machine.{Built, BuiltAll, new_cell, build, build_fields, build_all}
use Rattle.theory.specs.Lists.{none-is-not-some, false-is-not-true, look-new, both_left, both_right}
use Rattle.theory.specs.Heaps.{Grown, grown-refl, grown-one}
use Rattle.theory.specs.TypedTrees.{TreeHas, has_bool, has_int, has_named, TreeVal, val_con, FieldTrees, fields_nil, fields_bool, fields_int, fields_own, fields_other, val-size, fits-has}
use Rattle.theory.specs.HeapValues.{Has, h_bool, h_int, h_named, Val, v_con, Vals, vs_nil, vs_bool, vs_int, vs_own, vs_other, env_nil, env_cons, has_grown, val-grown, vals-grown, env-grown, env-append, has-less, val-less}
use Rattle.theory.specs.Growth.{AllValues, Grew, grew_none, grew-one, grew_trans, grew-more}
use Rattle.theory.specs.Reaches.{Reached, reached-closed}
use Rattle.theory.specs.TypedStates.{Holds, StateTyped, values-lower}
use Rattle.theory.specs.CellsRight.{values-cells-right, has-location-right}
use Rattle.theory.specs.Builds.{build-builds, all-reach}

-- what building a tree gives: a heap grown by its cells, and a location
pub record Makes (P : File) (v : Tree) (τ : Ty) (h : List Cell) (r : Built) : Type 0 where
  pub grew : Grew P h r.heap (tree_cells v)
  pub has : Has P r.heap r.location τ

record MakesValue (P : File) (v : Tree) (t j : ℕ) (h : List Cell) (r : Built) : Type 0 where
  grew : Grew P h r.heap (tree_cells v)
  value : Val P r.heap r.location t j

pub record MakesFields (P : File) (ws : Trees) (t : ℕ) (fs : List Field) (ks : List ℕ) (h : List Cell) (r : BuiltAll) : Type 0 where
  pub grew : Grew P h r.heap (trees_cells ws)
  pub values : Vals P r.heap (length r.heap) t fs r.locations ks

-- ---- one lemma a rule
module _ {P : File} where
  leaf-makes : (x : Constant) {τ : Ty} (h : List Cell) → Has P (h ++ (leaf x ∷ [])) (length h) τ → Makes P (vleaf x) τ h (new_cell h (leaf x))
  unfolding new_cell tree_cells
  leaf-makes x h has = record { grew = grew-one h (leaf x) has; has = has }

  con-makes : {t : ℕ} {fs : Constructor} {ws : Trees} {ks : List ℕ} {h : List Cell} {q : BuiltAll} (c k : ℕ) →
      look (constructors_of P t) c ≡ some fs → k ≡ suc (sum ks) → MakesFields P ws t fs ks h q → MakesValue P (vcon t c ws) t k h (new_cell q.heap (con t c k q.locations))
  unfolding new_cell tree_cells
  con-makes {t} {q} c k known size m =
      let new = con t c k q.locations in
      let value : Val P (q.heap ++ (new ∷ [])) (length q.heap) t k = v_con (look-new q.heap new) known (vals-grown (grown-one q.heap new) m.values) size in
      record { grew = grew-more (omega arith) (grew_trans m.grew (grew-one q.heap new (h_named value (le_refl k)))); value = value }

  cons-makes : {w : Tree} {ws : Trees} {t : ℕ} {f : Field} {fs : List Field} {ks js : List ℕ} {h : List Cell} {r : Built} {q : BuiltAll} →
      Grew P h r.heap (tree_cells w) → MakesFields P ws t fs ks r.heap q →
      (Grown r.heap q.heap → Vals P q.heap (length q.heap) t (f ∷ fs) (r.location ∷ q.locations) js) →
      MakesFields P (vcons w ws) t (f ∷ fs) js h (record { locations = r.location ∷ q.locations; heap = q.heap })
  unfolding tree_cells
  cons-makes grew m values = record { grew = grew_trans grew m.grew; values = values m.grew.grown }

  mutual
    unfolding build tree_cells tree_size

    has-makes : {v : Tree} {τ : Ty} → TreeHas P v τ → (h : List Cell) → Makes P v τ h (build P v h)
    has-makes (has_bool {b}) h = leaf-makes (kbool b) h (h_bool (look-new h (leaf (kbool b))))
    has-makes (has_int {n} less) h = leaf-makes (kint n) h (h_int (look-new h (leaf (kint n))) less)
    has-makes (has_named x le) h = let m = val-makes x h in record { grew = m.grew; has = h_named m.value le }

    val-makes : {v : Tree} {t j : ℕ} → TreeVal P v t j → (h : List Cell) → MakesValue P v t j h (build P v h)
    val-makes (val_con {t} {c} {j} {ws} known fields size) h =
        let true_size : tree_size P (vcon t c ws) ≡ j = val-size (val_con known fields size) in
        subst (λ x. MakesValue P (vcon t c ws) t x h (build P (vcon t c ws) h)) true_size (con-makes c (tree_size P (vcon t c ws)) known (true_size ∙ size) (fields-make fields h))

    pub fields-make : {t : ℕ} {fs : List Field} {ws : Trees} {ks : List ℕ} → FieldTrees P t fs ws ks → (h : List Cell) → MakesFields P ws t fs ks h (build_fields P ws h)
    fields-make fields_nil h = record { grew = grew_none h; values = vs_nil }
    fields-make (fields_bool {w} x r) h =
        let m = has-makes x h in
        let q = fields-make r (build P w h).heap in
        cons-makes m.grew q (λ g. vs_bool (has-less (has_grown g m.has)) (has_grown g m.has) q.values)
    fields-make (fields_int {w} x r) h =
        let m = has-makes x h in
        let q = fields-make r (build P w h).heap in
        cons-makes m.grew q (λ g. vs_int (has-less (has_grown g m.has)) (has_grown g m.has) q.values)
    fields-make (fields_own {w} x r) h =
        let m = val-makes x h in
        let q = fields-make r (build P w h).heap in
        cons-makes m.grew q (λ g. vs_own (val-less (val-grown g m.value)) (val-grown g m.value) q.values)
    fields-make (fields_other {w} x r) h =
        let m = has-makes x h in
        let q = fields-make r (build P w h).heap in
        cons-makes m.grew q (λ g. vs_other (has-less (has_grown g m.has)) (has_grown g m.has) q.values)

-- ---- a tree that fits a type
pub build-makes : (P : File) (v : Tree) (τ : Ty) → fits P v τ ≡ true → (h : List Cell) → Makes P v τ h (build P v h)
build-makes P v τ e h = has-makes (fits-has v τ e) h

-- the same by the tests: the new cells are right over those below
pub build-right : (P : File) (v : Tree) (τ : Ty) → fits P v τ ≡ true → (h : List Cell) → AllValues P h →
    (cells_right P h (build-builds P v h).grown.more ≡ true) × (location_fits (build P v h).heap (build P v h).location τ ≡ true)
build-right P v τ e h all =
    let m = build-makes P v τ e h in
    let w = (build-builds P v h).grown in
    (values-cells-right h w.more (subst (AllValues P) w.is (m.grew.values all)), has-location-right (build P v h).heap m.has)

-- ---- the trees of all channels
-- one channel more
pub build-holds : (P : File) (v : Tree) (τ : Ty) → fits P v τ ≡ true → {σs : List Ty} {s : State} → Holds P σs s →
    Holds P (σs ++ (τ ∷ [])) (record { heap = (build P v s.heap).heap; roots = s.roots ++ ((build P v s.heap).location ∷ []) })
build-holds P v τ e {s} x =
    let m = build-makes P v τ e s.heap in
    record { values = m.grew.values x.values; channels = env-append (env-grown m.grew.grown x.channels) (env_cons m.has env_nil) }

pub all_hold : (P : File) (vs : List Tree) (τs : List Ty) → trees_fit P vs τs ≡ true → {σs : List Ty} {s : State} → Holds P σs s → Holds P (σs ++ τs) (build_all P vs s.heap s.roots)
unfolding trees_fit build_all
all_hold P [] [] e x = rw append-nil x
all_hold P [] (τ ∷ τs) e x = false-is-not-true e
all_hold P (v ∷ vs) [] e x = false-is-not-true e
all_hold P (v ∷ vs) (τ ∷ τs) e {σs} {s} x =
    let r = build P v s.heap in
    subst (λ σ. Holds P σ (build_all P vs r.heap (s.roots ++ (r.location ∷ [])))) (append_snoc σs τ τs) (all_hold P vs τs (both_right _ _ e) (build-holds P v τ (both_left _ _ e) x))

-- a state built from trees that fit the channels' declared types: each cell is reached, as nothing else is built
pub built-state-typed : (P : File) (vs : List Tree) → trees_fit P vs (declared_types P) ≡ true → StateTyped P (build_all P vs [] [])
built-state-typed P vs e =
    let s = build_all P vs [] [] in
    let nothing : AllValues P [] = record { value = λ l t c k ls at. none-is-not-some at } in
    let holds : Holds P (declared_types P) s = all_hold P vs (declared_types P) e {σs = []} {s = record { heap = []; roots = [] }} (record { values = nothing; channels = env_nil }) in
    let closed = reached-closed s (values-lower holds.values) in
    record { holds = holds; all-reached = λ i less. all-reach P s.heap (Reached s) closed.fields vs [] [] (grown-refl s.heap) closed.roots i (omega arith) less }
