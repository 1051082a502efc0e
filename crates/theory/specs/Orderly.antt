-- Refusal 25, exactly: a file within the limits passes where no node reads itself, directly or by others; else the frame is the lowest such
-- node's. The readings of such a file name nodes, so where it passes, its order respects the readings.
use Rattle.std.specs.Prelude.{ℕ, zero, suc, ◌+◌, ◌-◌, ◌<◌, List, [], ◌∷◌, Bool, true, false, not, ◌≡◌, refl, length, get_or, ltb}
use Rattle.std.proofs.Common.{sym, ap, ◌∙◌, arith, add-zero, ltb-false}
use Rattle.std.proofs.Math.ListN.{get_or-eq_default}
use Rattle.std.proofs.lemmas.Bool.{not-true, not-false}
use Rattle.language.specs.Refusals.{self_reading}
use Rattle.language.specs.Result.{Result, no, choose}
use Rattle.language.specs.Syntax.{Expr, Exprs, Constructor, File, no_node, node_at_of, node_channel, channel_frame}
use Rattle.language.specs.Scope.{Scope, wider, outer_scope}
use Rattle.language.specs.Within.{All, all_nil, all_cons, WithinExpr, w_bool, w_int, w_var, w_now, w_last, w_let, w_if, w_op, w_call, w_con, w_case, w_adj, w_fit, WithinExprs, ws_nil, ws_cons, WithinBranches, wb_nil, wb_cons, Within}
use Rattle.language.specs.Slide.{mem}
use Rattle.language.specs.Order.{readings, all_readings, nodes_among, node_readings, read_by, Acyclic, LowestSelfReader, all_through, none_reads_itself, orderly, order, Respects}
use Rattle.theory.specs.Lists.{false-is-not-true, look-get_d, look-less, not_of_false, never_true}
use Rattle.theory.specs.Alls.{all_append, all_get_d, all-each, all_map}
use Rattle.theory.specs.Tests.{AllTrue, each-passes, FirstFails, passes, fails, first-fails}
use Rattle.theory.specs.Places.{below_or_not}
use Rattle.theory.specs.Members.{all-mem}
use Rattle.theory.specs.ReadThrough.{below, Named, length-through, below-through, through-below}
use Rattle.theory.specs.OrderComplete.{NoneItself, order-respects, follow-nodes, order-follows}
use Rattle.theory.specs.AnyOrder.{readings-length, read-by}

-- ---- what is read is in scope
mutual
  unfolding readings wider

  pub readings-within : {n : ℕ} {S : Scope} {e : Expr} → WithinExpr n S e → All (λ c. c < S.channels) (readings e)
  readings-within (w_bool room) = all_nil
  readings-within (w_int room less) = all_nil
  readings-within (w_var room less) = all_nil
  readings-within (w_now room less) = all_cons less all_nil
  readings-within (w_last room less) = all_nil
  readings-within (w_let room a b) = all_append (readings-within a) (readings-within b)
  readings-within (w_if room a b d) = all_append (readings-within a) (all_append (readings-within b) (readings-within d))
  readings-within (w_op room a b) = all_append (readings-within a) (readings-within b)
  readings-within (w_call room less es) = all-readings-within es
  readings-within (w_con room less few es) = all-readings-within es
  readings-within (w_case room less e result bs) = all_append (readings-within e) (branch-readings-within bs)
  readings-within (w_adj room size e) = readings-within e
  readings-within (w_fit room bound a b d) = all_append (readings-within a) (all_append (readings-within b) (readings-within d))

  all-readings-within : {n m : ℕ} {S : Scope} {es : Exprs} → WithinExprs n S m es → All (λ c. c < S.channels) (all_readings es)
  all-readings-within ws_nil = all_nil
  all-readings-within (ws_cons e es) = all_append (readings-within e) (all-readings-within es)

  branch-readings-within : {n : ℕ} {S : Scope} {cs : List Constructor} {bs : Exprs} → WithinBranches n S cs bs → All (λ c. c < S.channels) (all_readings bs)
  branch-readings-within wb_nil = all_nil
  branch-readings-within (wb_cons b bs) = all_append (readings-within b) (branch-readings-within bs)

among-within : (inputs n : ℕ) (cs : List ℕ) → All (λ c. c < inputs + n) cs → All (λ j. j < n) (nodes_among inputs cs)
unfolding nodes_among choose
among-within inputs n [] all_nil = all_nil
among-within inputs n (c ∷ cs) (all_cons less all) = cases (ltb c inputs) refl (among-within inputs n cs all)
  where
    cases : (b : Bool) → ltb c inputs ≡ b → All (λ j. j < n) (nodes_among inputs cs) → All (λ j. j < n) (choose b (nodes_among inputs cs) ((c - inputs) ∷ nodes_among inputs cs))
    cases true e more = more
    cases false e more = all_cons {a = c - inputs} (omega (arith, ltb-false c inputs e)) more

pub readings-named : {P : File} → Within P → Named (node_readings P)
unfolding mem outer_scope
readings-named {P} within i j e = below_or_not i (length P.nodes)
    (λ less.
    let low = (readings-within (all_get_d within.nodes i no_node less).update) in
    rw readings-length (all-mem (among-within (length P.inputs) (length P.nodes) (readings (node_at_of P i).update) low) j (rw (read-by P i) at e)))
    (λ beyond. false-is-not-true (rw (get_or-eq_default (node_readings P) [] {n = i} (omega (arith, readings-length P))) at e))

-- ---- the tests
itself-at : (k : ℕ) (T : List (List ℕ)) (i : ℕ) → i < length T → get_or (none_reads_itself k T) i true ≡ not (mem (k + i) (get_or T i []))
unfolding none_reads_itself
itself-at k [] i less = absurd (omega arith)
itself-at k (js ∷ T) zero less = rw add-zero
itself-at k (js ∷ T) (suc i) less = let place : suc k + i ≡ k + suc i = omega arith in itself-at (suc k) T i (omega arith) ∙ ap (λ x. not (mem x (get_or T i []))) place

itself-length : (k : ℕ) (T : List (List ℕ)) → length (none_reads_itself k T) ≡ length T
unfolding none_reads_itself
itself-length k [] = refl
itself-length k (js ∷ T) = ap suc (itself-length (suc k) T)

module _ (P : File) where
  abbrev tests : List Bool
  tests = none_reads_itself 0 (all_through (node_readings P))

  tests-length : length tests ≡ length P.nodes
  tests-length = itself-length 0 (all_through (node_readings P)) ∙ length-through (node_readings P) (length (node_readings P)) ∙ readings-length P

  -- the test of a node, by its row of the table
  test_at : (i : ℕ) → i < length P.nodes → get_or tests i true ≡ not (below (node_readings P) (length (node_readings P)) i i)
  test_at i less =
      let at : 0 + i ≡ i = omega arith in
      itself-at 0 (all_through (node_readings P)) i (omega (arith, tests-length, itself-length 0 (all_through (node_readings P)))) ∙ ap (λ x. not (mem x (read_by (all_through (node_readings P)) i))) at

  -- where no node reads itself, no row of the table names its own node
  pub acyclic-rows : Acyclic P → NoneItself (node_readings P)
  acyclic-rows acyclic i less = never_true _ (λ e. acyclic i (omega (arith, readings-length P)) (below-through (node_readings P) (length (node_readings P)) i i e))

  acyclic-tests : Acyclic P → AllTrue tests
  acyclic-tests acyclic = all-each tests (λ i b e.
      let less : i < length P.nodes = omega (arith, tests-length, look-less tests i e) in
      sym (look-get_d tests i true e) ∙ test_at i less ∙ not_of_false (acyclic-rows acyclic i (omega (arith, readings-length P))))

-- and back; and the first row that does is the lowest such node's
module _ {P : File} (within : Within P) where
  pub rows-acyclic : NoneItself (node_readings P) → Acyclic P
  rows-acyclic none i less p = false-is-not-true (sym (none i (omega (arith, readings-length P))) ∙ through-below (node_readings P) (readings-named within) p)

  pub row-lowest : (i : ℕ) → i < length P.nodes → below (node_readings P) (length (node_readings P)) i i ≡ true → ((k : ℕ) → k < i → below (node_readings P) (length (node_readings P)) k k ≡ false) → LowestSelfReader P i
  row-lowest i less e before = record {
    node = less;
    itself = below-through (node_readings P) (length (node_readings P)) i i e;
    lowest = λ k small p. false-is-not-true (sym (before k small) ∙ through-below (node_readings P) (readings-named within) p);
  }

-- ---- the places of the order are nodes
pub order-places : (P : File) → All (λ i. i < length P.nodes) (order P)
unfolding order
order-places P = all_map (λ i less. omega (arith, readings-length P)) (follow-nodes (order-follows (node_readings P) (length P.nodes) []))

-- ---- where no node reads itself
pub acyclic-passes : {A : Type 0} (P : File) (r : Result A) → Acyclic P → orderly P r ≡ r
unfolding orderly
acyclic-passes P r acyclic = each-passes self_reading _ r (acyclic-tests P acyclic)

-- then the computed order is one that respects the readings
pub own-order : {P : File} → Within P → Acyclic P → Respects (node_readings P) (order P)
unfolding order
own-order {P} within acyclic = rw (← (readings-length P)) (order-respects (node_readings P) (readings-named within) (acyclic-rows P acyclic))

-- ---- refusal 25
-- "25, some node reads itself through `13`, directly or by others .. the frame is the lowest such node's"
pub data Refusal25 (P : File) {A : Type 0} (r : Result A) : Type 0 where
  none_itself : Acyclic P → orderly P r ≡ r → Refusal25 P r
  lowest_itself : {i : ℕ} → LowestSelfReader P i → orderly P r ≡ no self_reading (channel_frame P (node_channel P i)) → Refusal25 P r

pub refusal-25 : {P : File} → Within P → {A : Type 0} (r : Result A) → Refusal25 P r
unfolding orderly
refusal-25 {P} within r = by_first (first-fails self_reading r (channel_frame P (node_channel P 0)) (tests P))
  where
    by_first : FirstFails self_reading r (channel_frame P (node_channel P 0)) (tests P) → Refusal25 P r
    by_first (passes all e) = none_itself (rows-acyclic within (λ i less.
        let place : i < length P.nodes = omega (arith, readings-length P) in
        not-true _ (sym (test_at P i place) ∙ all_get_d all i true (omega (arith, tests-length P))))) e
    by_first (fails i low at before e) =
        let less : i < length P.nodes = omega (arith, tests-length P) in
        let frame : channel_frame P (node_channel P 0) + i ≡ channel_frame P (node_channel P i) = omega arith in
        lowest_itself (row-lowest within i less (not-false _ (sym (test_at P i less) ∙ at)) (λ k small. not-true _ (sym (test_at P k (omega arith)) ∙ before k small))) (e ∙ ap (no self_reading) frame)

-- there is one lowest
pub one-lowest : {P : File} {i k : ℕ} → LowestSelfReader P i → LowestSelfReader P k → i ≡ k
one-lowest {i} {k} x y = below_or_not i k (λ less. absurd (y.lowest i less x.itself)) (λ le. below_or_not k i (λ less. absurd (x.lowest k less y.itself)) (λ more. omega arith))

pub lowest-refused : {P : File} → Within P → {i : ℕ} → LowestSelfReader P i → {A : Type 0} (r : Result A) → orderly P r ≡ no self_reading (channel_frame P (node_channel P i))
lowest-refused {P} within {i} x r = by_order (refusal-25 within r)
  where
    by_order : Refusal25 P r → orderly P r ≡ no self_reading (channel_frame P (node_channel P i))
    by_order (none_itself acyclic e) = absurd (acyclic i x.node x.itself)
    by_order (lowest_itself y e) = e ∙ ap (λ k. no self_reading (channel_frame P (node_channel P k))) (one-lowest y x)
