-- The inputs laid and the nodes updated, return by return.
use Rattle.std.specs.Prelude.{Ok, Err}
use Rattle.language.specs.declared.refusals.Refusal.TheVariants.{HeapSpent}
use Rattle.std.specs.Prelude.{ℕ, suc, ◌+◌, ◌-◌, ◌≤◌, ◌<◌, true, ◌≡◌, refl, length, get_or, drop}
use mathlib.Core.List.{List, [], ◌∷◌, ◌++◌}
use Rattle.std.proofs.Math.Option.{some}
use Rattle.std.proofs.Common.{sym, ◌∙◌, subst, arith, length-append, length-drop, get_or-append-add, get_or-drop}
use Rattle.std.proofs.Math.Path.{ap}
use Rattle.std.proofs.Math.ListN.{take, get_or-append, get_or-eq_default, get_elem? as look}
use Rattle.language.specs.Limits.{fields_most, channels_most}
use Rattle.language.specs.Refusals.{heap_spent}
use Rattle.language.specs.Result.{Result, ok, no, bind}
use Rattle.language.specs.Syntax.{Constructor, Field, Ty, File, constructors_of, channel_frame}
use Rattle.language.specs.Within.{All, Within}
use Rattle.language.specs.Heap.{Cell, Tree, Trees}
use Rattle.language.specs.Slide.{State}
use Rattle.language.specs.Layout.{tag_step, state_length}
use Rattle.language.specs.Line.{trees_fit}
use Rattle.language.specs.Machine.{build, build_fields, build_all, new_cell, put_inputs}
use Rattle.language.specs.Values.{fits}
use Rattle.theory.specs.FrameNumbers.{channel_total}
use Rattle.theory.specs.Lists.{look-get_d, look-less, false-is-not-true, none-is-not-some, both_left, both_right}
use Rattle.theory.specs.Alls.{all_snoc}
use Rattle.theory.specs.Places.{below_or_not}
use Rattle.theory.specs.CellWords.{Writable, bool_writable, int_writable, con_writable}
use Rattle.theory.specs.TypedTrees.{TreeHas, has_bool, has_int, has_named, TreeVal, val_con, FieldTrees, fields_nil, fields_bool, fields_int, fields_own, fields_other, fits-has}
use Rattle.theory.specs.HeldChannels.{input_types}
use Rattle.theory.specs.InputsPut.{inputs-put}
use Rattle.theory.specs.LineExact.{line-forth-exact, inputs-count}
use Rattle.index.specs.Indexed.{Indexed}
use Rattle.state_words.specs.Words.{used_in, channel_at}
use Rattle.state_words.specs.Holds.{Holds}
use Rattle.state_words.specs.HoldLaws.{channel-held}
use Rattle.state_words.specs.StateLaws.{HoldsState, loaded-held, loaded-writable}
use Rattle.state_check.specs.LoadLaws.{channel-count}
use Rattle.theory.specs.StateWords.{state-loaded}
use Rattle.theory.specs.HeapValues.{env-length}
use Rattle.input_cells.specs.Lays.{Inputs, InputsLaid, PutAs, put_all, put_full, within, Within as FedWithin}
use Rattle.new_cells.specs.Steps.{Board as BoardHas, by_number, not_grown}
use Rattle.evaluation_steps.specs.KeepLaws.{Moved, kept_then, channel-kept}
use Rattle.iteration.specs.Promises.{Updated, NodeStage, not_updated, UpdatesNodes}
use Rattle.iteration.specs.Whole.{Begun, ChannelsTaken, Given, FeedsAndUpdates}

-- ---- a constructor of the file has few fields
few-parts : {text index : List ℕ} {P : File} (t c : ℕ) {fs : Constructor} → Indexed text index P → look (constructors_of P t) c ≡ some fs → (length fs ≤ fields_most) × (c < tag_step)
few-parts {P = P} t c {fs} x known = below_or_not t (length P.types) inside beyond
  where
    inside : t < length P.types → (length fs ≤ fields_most) × (c < tag_step)
    inside less =
        let told = (x.each_type t less).tells in
        let there = look-less (constructors_of P t) c known in
        (subst (λ (gs : Constructor). length gs ≤ fields_most) (look-get_d (constructors_of P t) c [] known) (told.few_fields c there), omega (arith, there, told.few))

    beyond : length P.types ≤ t → (length fs ≤ fields_most) × (c < tag_step)
    beyond le = none-is-not-some (ap (λ (l : List Constructor). look l c) (sym (get_or-eq_default P.types [] {n = t} le)) ∙ known)

-- ---- what is built of values that fit are cells of the file
fields-counted : {P : File} {t : ℕ} {fs : List Field} {ws : Trees} {ks : List ℕ} → FieldTrees P t fs ws ks → (h : List Cell) → length (build_fields P ws h).locations ≡ length fs
unfolding build_fields
fields-counted fields_nil h = refl
fields-counted (fields_bool v vs) h = ap suc (fields-counted vs _)
fields-counted (fields_int v vs) h = ap suc (fields-counted vs _)
fields-counted (fields_own v vs) h = ap suc (fields-counted vs _)
fields-counted (fields_other v vs) h = ap suc (fields-counted vs _)

module _ {text index : List ℕ} {P : File} (x : Indexed text index P) where
  mutual
    unfolding build new_cell

    has-writable : {v : Tree} {τ : Ty} → TreeHas P v τ → (h : List Cell) → All (Writable P) h → All (Writable P) (build P v h).heap
    has-writable has_bool h w = all_snoc w bool_writable
    has-writable (has_int less) h w = all_snoc w (int_writable less)
    has-writable (has_named v le) h w = val-writable v h w

    val-writable : {v : Tree} {t j : ℕ} → TreeVal P v t j → (h : List Cell) → All (Writable P) h → All (Writable P) (build P v h).heap
    val-writable (val_con {t} {c} known vs size) h w = let few = few-parts t c x known in all_snoc (fields-writable vs h w) (con_writable known (fields-counted vs h) few.0 few.1)

    fields-writable : {t : ℕ} {fs : List Field} {ws : Trees} {ks : List ℕ} → FieldTrees P t fs ws ks → (h : List Cell) → All (Writable P) h → All (Writable P) (build_fields P ws h).heap
    fields-writable fields_nil h w = w
    fields-writable (fields_bool v vs) h w = fields-writable vs _ (has-writable v h w)
    fields-writable (fields_int v vs) h w = fields-writable vs _ (has-writable v h w)
    fields-writable (fields_own v vs) h w = fields-writable vs _ (val-writable v h w)
    fields-writable (fields_other v vs) h w = fields-writable vs _ (has-writable v h w)

  pub all-writable : (vs : List Tree) (τs : List Ty) → trees_fit P vs τs ≡ true → (h : List Cell) (roots : List ℕ) → All (Writable P) h → All (Writable P) (build_all P vs h roots).heap
  unfolding trees_fit build_all
  all-writable [] τs e h roots w = w
  all-writable (v ∷ vs) [] e h roots w = false-is-not-true e
  all-writable (v ∷ vs) (τ ∷ τs) e h roots w = all-writable vs τs (both_right (fits P v τ) (trees_fit P vs τs) e) _ _ (has-writable (fits-has v τ (both_left (fits P v τ) (trees_fit P vs τs) e)) h w)

pub all-roots : (P : File) (vs : List Tree) (h : List Cell) (roots : List ℕ) → length (build_all P vs h roots).roots ≡ length roots + length vs
unfolding build_all
all-roots P [] h roots = omega arith
all-roots P (v ∷ vs) h roots = all-roots P vs _ (roots ++ ((build P v h).location ∷ [])) ∙ omega (arith, length-append roots ((build P v h).location ∷ []))

-- ---- the inputs laid: the nodes' stage
fed-row : (words row row₁ now last : List ℕ) (i n : ℕ) → length now ≡ i → length last ≡ n → i ≤ n → n ≤ channels_most → ((k : ℕ) → k < n → channel_at words k ≡ get_or last k 0) → ChannelsTaken words row → row₁ ≡ now ++ drop (length now) row →
    (k : ℕ) → k < n → get_or row₁ k 0 ≡ get_or (now ++ drop i last) k 0
fed-row words row row₁ now last i n long all le few before taken put k less =
    ap (λ (z : List ℕ). get_or z k 0) put ∙ below_or_not k i
    (λ low. get_or-append now (drop (length now) row) 0 k (omega (arith, long)) ∙ sym (get_or-append now (drop i last) 0 k (omega (arith, long))))
    (λ high.
    let place : k ≡ length now + (k - i) = omega (arith, long) in
    let there : length now + (k - i) ≡ k = omega (arith, long) in
    let there₂ : i + (k - i) ≡ k = omega arith in
    ap (λ j. get_or (now ++ drop (length now) row) j 0) place ∙ get_or-append-add now (drop (length now) row) (k - i) 0 ∙ get_or-drop (length now) row (k - i) 0 ∙ ap (λ j. get_or row j 0) there ∙
    taken.each k (omega arith) ∙ before k less ∙
    sym (ap (λ j. get_or (now ++ drop i last) j 0) place ∙ get_or-append-add now (drop i last) (k - i) 0 ∙ get_or-drop i last (k - i) 0 ∙ ap (λ j. get_or last j 0) there₂))

-- ---- what laying the inputs answered
record WasFed (P : File) (row row₁ words₁ : List ℕ) (o : Result State) (n : ℕ) : Type 0 where
  state : State
  is : o ≡ ok state
  held : Holds words₁ n state.heap
  roots : row₁ ≡ state.roots ++ drop (length state.roots) row

was-fed : {P : File} {row row₁ words₁ : List ℕ} {o : Result State} {x : Inputs} {n : ℕ} → PutAs P row row₁ words₁ o x → x ≡ Ok n → WasFed P row row₁ words₁ o n
was-fed {P} {row} {row₁} {words₁} {o} {x} {n} p d = go (subst (PutAs P row row₁ words₁ o) d p)
  where
    go : {o : Result State} → PutAs P row row₁ words₁ o (Ok n) → WasFed P row row₁ words₁ o n
    go (put_all {s} held put) = record { state = s; is = refl; held = held; roots = put }

was-full : {P : File} {row row₁ words₁ : List ℕ} {o : Result State} {x : Inputs} {c : ℕ} → PutAs P row row₁ words₁ o x → x ≡ Err c → o ≡ no heap_spent (channel_frame P c)
was-full {P} {row} {row₁} {words₁} {o} {x} {c} p d = go (subst (PutAs P row row₁ words₁ o) d p)
  where
    go : {o : Result State} → PutAs P row row₁ words₁ o (Err c) → o ≡ no heap_spent (channel_frame P c)
    go put_full = refl

was-within : {cells used n : ℕ} {x : Inputs} → FedWithin cells used x → x ≡ Ok n → (used ≤ n) × (n ≤ cells)
was-within {cells} {used} {n} w d = go (subst (FedWithin cells used) d w)
  where
    go : FedWithin cells used (Ok n) → (used ≤ n) × (n ≤ cells)
    go (within le few) = (le, few)

module _ (text index ends readings line : List ℕ) (cells calls : ℕ) (row words slots : List ℕ) (b : Begun index words cells) {used : ℕ} (u : used ≡ used_in words) {x : Inputs} {words₁ row₁ : List ℕ} (v : InputsLaid line index cells used words row x words₁ row₁) where
  -- what is known of a valid state
  module _ {P : File} {s : State} {vs : List Tree} (g : Given text index ends readings line cells words P s vs) where
    limits : Within P
    limits = g.indexed.within

    held : HoldsState cells words s
    held = loaded-held limits (omega (arith, b.board)) g.loaded

    heap : Holds words used s.heap
    heap = subst (λ n. Holds words n s.heap) (sym (u ∙ held.used)) held.heap

    fit : trees_fit P vs (input_types P) ≡ true
    fit = (line-forth-exact P line vs g.allowed).1

    roots-long : length s.roots ≡ channel_total P
    roots-long = env-length (state-loaded limits g.loaded).typed.holds.channels ∙ channel-count P

    roots-are : (k : ℕ) → k < channel_total P → channel_at words k ≡ get_or s.roots k 0
    roots-are k less = channel-held words s.roots held.channels k (omega (arith, less, limits.few_inputs, limits.few_nodes))

    put_as : PutAs P row row₁ words₁ (put_inputs P cells 0 vs s.heap []) x
    put_as = v.says text P g.indexed s.heap heap g.allowed

  pub fed-full : {c : ℕ} {r : Updated} → x ≡ Err c → r ≡ Err (record { refusal = HeapSpent; channel = c }) → FeedsAndUpdates text index ends readings line cells calls row words slots r row₁ words₁ slots
  unfolding bind
  fed-full {c} {r} d q = rw q (record {
    says = λ {P} {s} {vs} g taken. rw (was-full (put_as g) d) (not_updated by_number);
    kept = record { long = v.kept.long; low = ap (λ n. take (state_length n) words₁) (sym u) ∙ v.kept.below ∙ ap (λ n. take (state_length n) words) u; grown = not_grown };
    long = refl;
  })

  module _ {n : ℕ} (d : x ≡ Ok n) where
    cells-within : (used ≤ n) × (n ≤ cells)
    cells-within = was-within v.grown d

    pub fed-moved : Moved words (used_in words) words₁ n
    fed-moved = record {
      more = omega (arith, u, cells-within.0);
      fits = omega (arith, cells-within.1, b.board);
      long = v.kept.long;
      low = ap (λ i. take (state_length i) words₁) (sym u) ∙ v.kept.below ∙ ap (λ i. take (state_length i) words) u;
      high = v.high d;
    }

    pub fed-board : BoardHas words₁ n
    fed-board = record { fits = omega (arith, cells-within.1, b.board, v.kept.long); small = omega (arith, b.board, b.most, v.kept.long) }

    module _ {P : File} {s : State} {vs : List Tree} (g : Given text index ends readings line cells words P s vs) (taken : ChannelsTaken words row) where
      fed : WasFed P row row₁ words₁ (put_inputs P cells 0 vs s.heap []) n
      fed = was-fed (put_as g) d

      built : build_all P vs s.heap [] ≡ fed.state
      built = (inputs-put P cells 0 vs s.heap [] fed.is).built

      now-long : length fed.state.roots ≡ length P.inputs
      now-long = ap (λ (q : State). length q.roots) (sym built) ∙ all-roots P vs s.heap [] ∙ omega (arith, inputs-count P vs (fit g))

      all-long : length (fed.state.roots ++ drop (length P.inputs) s.roots) ≡ channel_total P
      all-long = length-append fed.state.roots (drop (length P.inputs) s.roots) ∙ omega (arith, now-long, length-drop (length P.inputs) s.roots, roots-long g)

      stage : NodeStage text index ends row₁ words₁ n P cells s.roots (fed.state.roots ++ drop (length P.inputs) s.roots) fed.state.heap
      stage =
          let w = limits g in
          record {
            indexed = g.indexed;
            told = g.told;
            standing = fed-row words row row₁ fed.state.roots s.roots (length P.inputs) (channel_total P) now-long (roots-long g) (omega arith) (omega (arith, w.few_inputs, w.few_nodes)) (roots-are g) taken fed.roots;
            before = λ k less. channel-kept fed-moved k (omega (arith, less, w.few_inputs, w.few_nodes)) ∙ roots-are g k less;
            lies = record {
              board = v.kept.long ∙ b.board;
              held = fed.held;
              writable = subst (λ (q : State). All (Writable P) q.heap) built (all-writable g.indexed vs (input_types P) (fit g) s.heap [] (loaded-writable cells words w g.loaded));
            };
          }

    pub fed-done : {r : Updated} {row₂ words₂ slots₂ : List ℕ} → UpdatesNodes text index ends readings n calls row₁ words₁ slots r row₂ words₂ slots₂ → FeedsAndUpdates text index ends readings line cells calls row words slots r row₂ words₂ slots₂
    unfolding bind
    fed-done w = record {
      says = λ {P} {s} {vs} g taken. rw (fed g taken).is (w.says (stage g taken) g.gathered (all-long g taken));
      kept = kept_then fed-moved w.kept;
      long = w.long;
    }
