-- The nodes one after the other: what is left decides the whole, turn by turn.
use Rattle.std.specs.Prelude.{ℕ, suc, ◌+◌, ◌-◌, ◌^◌, ◌≤◌, ◌<◌, Bool, true, false, ◌≡◌, leb, Option, Some, None, Result as Outcome, Ok, Err, MatchResult, IsErrAnd}
use mathlib.Core.List.{List, [], ◌∷◌, ◌++◌}
use Rattle.std.proofs.Math.Path.{refl, sym, ap, subst}
use Rattle.std.proofs.Common.{◌∙◌, get_or-set_same, get_or-set_other}
use native.Mathlib.Omega.{arith}
use Rattle.std.proofs.Math.Nat.{le_refl}
use Rattle.std.proofs.Math.ListN.{length, get_or, set, length-set}
use Rattle.std.specs.Int.Bits.{bit_or}
use Rattle.language.specs.Limits.{channels_most}
use Rattle.language.specs.Refusals.{value_too_large}
use Rattle.language.specs.Result.{Result, need}
use Rattle.language.specs.Syntax.{no_node, File, node_at_of, node_channel, channel_frame}
use Rattle.language.specs.Sizes.{size_of_type}
use Rattle.language.specs.Heap.{Cell, cell_at, size_in}
use Rattle.language.specs.Slide.{State}
use Rattle.language.specs.Order.{node_readings, order_from, order}
use Rattle.language.specs.Evaluator.{Out, value, refused, bind_out, needs, eval, run}
use Rattle.language.specs.Machine.{Board, channel_value, update_nodes}
use Rattle.theory.specs.FrameNumbers.{channel_total}
use Rattle.theory.specs.Places.{equal_or_not, look_at}
use Rattle.index.specs.declared.Counts.{Counts}
use Rattle.index.specs.Sections.{counts_in}
use Rattle.channel_sets.specs.Sets.{word_bits}
use Rattle.node_order.specs.Lowest.{LowestBelow}
use Rattle.node_order.specs.LowestLaws.{lowest-less}
use Rattle.node_order.specs.Rows.{ready_in}
use Rattle.node_order.specs.Files.{FewChannels, Gathered, DoneIs}
use Rattle.node_order.specs.NextLaws.{next-found, next-none, done_none, done_more}
use Rattle.new_cells.specs.declared.Value.{Value}
use Rattle.language.specs.declared.refusals.Refusal.{Refusal}
use Rattle.new_cells.specs.Steps.{Evaluated, Board as BoardHas, Agrees, Kept, has_grown}
use Rattle.evaluation_steps.specs.KeepLaws.{Moved, moved_by, kept_then, channel-kept}
use Rattle.evaluation_steps.specs.ArgumentLaws.{valued, not-valued}
use Rattle.evaluator.specs.ChannelValues.{board_lent}
use Rattle.iteration.specs.Promises.{Updated, NodeStage, node_value, UpdatesNode, are_updated, not_updated, UpdatesNodes}

-- ---- what a call answered whose refusal was mapped
module _ {A E D : Type 0} (x : Outcome A E) {y : Outcome A D} (Q : E → D → Type 0) (m : MatchResult x (λ v. y ≡ Ok v) (λ e. IsErrAnd y (Q e))) where
  pub mapped-ok : {v : A} → y ≡ Ok v → x ≡ Ok v
  mapped-ok {v} p = go x m
    where
      go : (z : Outcome A E) → MatchResult z (λ v. y ≡ Ok v) (λ e. IsErrAnd y (Q e)) → z ≡ Ok v
      go (Ok a) q = let same : ◌≡◌ {A = Outcome A D} (Ok a) (Ok v) = sym q ∙ p in cc
      go (Err e) q = absurd (subst (λ (z : Outcome A D). IsErrAnd z (Q e)) p q)

  pub mapped-err : {d : D} → y ≡ Err d → (e : E) × (x ≡ Err e) × Q e d
  mapped-err {d} p = go x m
    where
      go : (z : Outcome A E) → MatchResult z (λ v. y ≡ Ok v) (λ e. IsErrAnd y (Q e)) → (e : E) × (z ≡ Err e) × Q e d
      go (Ok a) q = absurd (let same : ◌≡◌ {A = Outcome A D} (Ok a) (Err d) = sym q ∙ p in cc)
      go (Err e) q = (e, refl, subst (λ (z : Outcome A D). IsErrAnd z (Q e)) p q)

-- ---- one node of the definition, by its value
node-first : (P : File) (b : Board) (last : List ℕ) (i : ℕ) (is : List ℕ) (h : List Cell) (now : List ℕ) →
    update_nodes P b last (i ∷ is) h now ≡ channel_value (channel_frame P (node_channel P i)) (node_value P b last now (node_at_of P i) h) (λ l g. update_nodes P b last is g (set now (node_channel P i) l))
unfolding update_nodes node_value channel_value need needs bind_out
node-first P b last i is h now = by (eval P (run P b.cells b.calls) b.cells (record { now = now; last = last }) (node_at_of P i).update [] b.slots h)
  where
    frame : ℕ
    frame = channel_frame P (node_channel P i)

    on : ℕ → List Cell → Result State
    on l g = update_nodes P b last is g (set now (node_channel P i) l)

    tested : (t : Bool) (l : ℕ) (g : List Cell) → need t value_too_large frame (on l g) ≡ channel_value frame (needs t value_too_large (value l g)) on
    tested true l g = refl
    tested false l g = refl

    by : (o : Out) → channel_value frame o (λ l g. need (leb (size_in (cell_at g l)) (size_of_type (node_at_of P i).declared)) value_too_large frame (on l g)) ≡
        channel_value frame (bind_out o (λ l g. needs (leb (size_in (cell_at g l)) (size_of_type (node_at_of P i).declared)) value_too_large (value l g))) on
    by (value l g) = tested (leb (size_in (cell_at g l)) (size_of_type (node_at_of P i).declared)) l g
    by (refused k) = refl

-- ---- a channel's cell put in its place
row-set : (x y : List ℕ) (c v n : ℕ) → c < length x → c < length y → ((k : ℕ) → k < n → get_or x k 0 ≡ get_or y k 0) → (k : ℕ) → k < n → get_or (set x c v) k 0 ≡ get_or (set y c v) k 0
row-set x y c v n inside inside₂ same k less = equal_or_not k c
    (λ here. rw here (get_or-set_same x c v 0 inside ∙ sym (get_or-set_same y c v 0 inside₂)))
    (λ apart. get_or-set_other x c k v 0 apart ∙ same k less ∙ sym (get_or-set_other y c k v 0 apart))

-- ---- the turns
-- after k turns: the nodes done and their set, the channels' cells and the heap as they stand
record LeftNodes (text index ends words₁ row₁ : List ℕ) (calls : ℕ) (slots : List ℕ) (set₁ k used₁ : ℕ) (P : File) (cells : ℕ) (last now : List ℕ) (h : List Cell) : Type 0 where
  done : List ℕ
  set_is : DoneIs (length P.inputs) (length P.nodes) done set₁
  now₁ : List ℕ
  heap : List Cell
  stage : NodeStage text index ends row₁ words₁ used₁ P cells last now₁ heap
  long : length now₁ ≡ channel_total P
  is : update_nodes P (board_lent cells slots calls) last (order P) h now ≡ update_nodes P (board_lent cells slots calls) last (order_from (node_readings P) (length P.nodes - k) done) heap now₁

pub record Updating (text index ends readings : List ℕ) (used calls : ℕ) (row words slots : List ℕ) (row₁ words₁ slots₁ : List ℕ) (used₁ set₁ k : ℕ) : Type 0 where
  pub moved : Moved words used words₁ used₁
  pub slots_long : length slots₁ ≡ length slots
  says : {P : File} {cells : ℕ} {last now : List ℕ} {h : List Cell} → NodeStage text index ends row words used P cells last now h → Gathered P readings → length now ≡ channel_total P →
      LeftNodes text index ends words₁ row₁ calls slots set₁ k used₁ P cells last now h

module _ {index : List ℕ} (few : FewChannels index) {n : Counts} (e : n ≡ counts_in index) where
  pub few-nodes : n.inputs + n.nodes ≤ word_bits
  few-nodes = omega (arith, few.few, ap (λ (m : Counts). m.inputs) e, ap (λ (m : Counts). m.nodes) e)

  pub few-inputs : n.inputs < word_bits
  few-inputs = omega (arith, few.few, ap (λ (m : Counts). m.inputs) e)

module _ (text index ends readings : List ℕ) (used calls : ℕ) (row words slots : List ℕ) (few : FewChannels index) {n : Counts} (e : n ≡ counts_in index) where
  inputs_are : {P : File} {cells used₁ : ℕ} {row₁ words₁ last now : List ℕ} {h : List Cell} → NodeStage text index ends row₁ words₁ used₁ P cells last now h → n.inputs ≡ length P.inputs
  inputs_are st = ap (λ (m : Counts). m.inputs) e ∙ sym st.indexed.counted.input_count

  nodes-are : {P : File} {cells used₁ : ℕ} {row₁ words₁ last now : List ℕ} {h : List Cell} → NodeStage text index ends row₁ words₁ used₁ P cells last now h → n.nodes ≡ length P.nodes
  nodes-are st = ap (λ (m : Counts). m.nodes) e ∙ sym st.indexed.counted.node_count

  pub updating-none : {set₁ : ℕ} → BoardHas words used → set₁ ≡ 2 ^ n.inputs - 1 → Updating text index ends readings used calls row words slots row words slots used set₁ 0
  unfolding order
  updating-none {set₁} board q = record {
    moved = record { more = le_refl used; fits = board.fits; long = refl; low = refl; high = refl };
    slots_long = refl;
    says = λ {P} {cells} {last} {now} {h} st g long.
        let all : length P.nodes ≡ length P.nodes - 0 = omega arith in
        record {
          done = [];
          set_is = subst (DoneIs (length P.inputs) (length P.nodes) []) (ap (λ m. 2 ^ m - 1) (sym (inputs_are st)) ∙ sym q) (done_none (length P.inputs) (length P.nodes) (omega (arith, few-inputs few e, inputs_are st)));
          now₁ = now;
          heap = h;
          stage = st;
          long = long;
          is = ap (λ m. update_nodes P (board_lent cells slots calls) last (order_from (node_readings P) m []) h now) all;
        };
  }

  module _ {row₁ words₁ slots₁ : List ℕ} {used₁ set₁ k : ℕ} (g : Updating text index ends readings used calls row words slots row₁ words₁ slots₁ used₁ set₁ k) where
    -- no node is left
    ended : {r : Updated} → ((P : File) (cells : ℕ) (last now : List ℕ) (h : List Cell) (st : NodeStage text index ends row words used P cells last now h) (a : Gathered P readings) (long : length now ≡ channel_total P) →
        order_from (node_readings P) (length P.nodes - k) (g.says st a long).done ≡ []) → r ≡ Ok used₁ → UpdatesNodes text index ends readings used calls row words slots r row₁ words₁ slots₁
    unfolding update_nodes
    ended {r} none q = rw q (record {
      says = λ {P} {cells} {last} {now} {h} st a long.
          let l = g.says st a long in
          rw (l.is ∙ ap (λ (z : List ℕ). update_nodes P (board_lent cells slots calls) last z l.heap l.now₁) (none P cells last now h st a long))
          (are_updated l.stage.lies.held l.stage.lies.writable (record { each = l.stage.standing; long = l.long }));
      kept = record { long = g.moved.long; low = g.moved.low; grown = has_grown g.moved.more g.moved.fits g.moved.high };
      long = g.slots_long;
    })

    pub updating-all : {r : Updated} → n.nodes ≤ k → r ≡ Ok used₁ → UpdatesNodes text index ends readings used calls row words slots r row₁ words₁ slots₁
    unfolding order_from
    updating-all all q = ended (λ P cells last now h st a long. let none : length P.nodes - k ≡ 0 = omega (arith, all, nodes-are st) in ap (λ m. order_from (node_readings P) m (g.says st a long).done) none) q

    module _ {x : Option ℕ} (f : LowestBelow (λ j. ready_in set₁ (n.inputs + j) (get_or readings j 0)) n.nodes x) where
      lowest-node : {P : File} {cells : ℕ} {last now : List ℕ} {h : List Cell} → NodeStage text index ends row words used P cells last now h →
          LowestBelow (λ j. ready_in set₁ (length P.inputs + j) (get_or readings j 0)) (length P.nodes) x
      lowest-node {P} st = subst (λ m. LowestBelow (λ j. ready_in set₁ (m + j) (get_or readings j 0)) (length P.nodes) x) (inputs_are st) (subst (λ m. LowestBelow (λ j. ready_in set₁ (n.inputs + j) (get_or readings j 0)) m x) (nodes-are st) f)

      pub updating-stopped : {r : Updated} → x ≡ None → r ≡ Ok used₁ → UpdatesNodes text index ends readings used calls row words slots r row₁ words₁ slots₁
      updating-stopped none q = ended (λ P cells last now h st a long. next-none st.indexed.within a (g.says st a long).set_is (length P.nodes - k) (rw none at (lowest-node st))) q

      lowest-is : {i : ℕ} {P : File} {cells : ℕ} {last now : List ℕ} {h : List Cell} → x ≡ Some i → NodeStage text index ends row words used P cells last now h →
          LowestBelow (λ j. ready_in set₁ (length P.inputs + j) (get_or readings j 0)) (length P.nodes) (Some i)
      lowest-is node st = rw node at (lowest-node st)

      pub next-below : {i : ℕ} → x ≡ Some i → i < n.nodes
      next-below d = lowest-less (rw d at f)

      module _ (turn : k < n.nodes) {i : ℕ} (node : x ≡ Some i) {c : ℕ} (at : c ≡ n.inputs + i) {y : Evaluated} {words₂ slots₂ : List ℕ} (v : UpdatesNode text index ends row₁ c used₁ calls words₁ slots₁ y words₂ slots₂) where
        module _ {P : File} {cells : ℕ} {last now : List ℕ} {h : List Cell} (st : NodeStage text index ends row words used P cells last now h) (a : Gathered P readings) (long : length now ≡ channel_total P) where
          l : LeftNodes text index ends words₁ row₁ calls slots set₁ k used₁ P cells last now h
          l = g.says st a long

          in-nodes : i < length P.nodes
          in-nodes = omega (arith, next-below node, nodes-are st)

          its : c ≡ node_channel P i
          its = at ∙ ap (λ m. m + i) (inputs_are st)

          answer : Agrees P words₂ y (node_value P (board_lent cells slots calls) last l.now₁ (node_at_of P i) l.heap)
          answer = subst (λ s. Agrees P words₂ y (node_value P (record { cells = cells; slots = s; calls = calls }) last l.now₁ (node_at_of P i) l.heap)) g.slots_long
              (v.says i (node_at_of P i) l.stage its (look_at P.nodes i no_node in-nodes))

          abbrev left : List ℕ
          left = order_from (node_readings P) (length P.nodes - (k + 1)) (l.done ++ (i ∷ []))

          opened : update_nodes P (board_lent cells slots calls) last (order P) h now ≡
              channel_value (channel_frame P c) (node_value P (board_lent cells slots calls) last l.now₁ (node_at_of P i) l.heap) (λ m j. update_nodes P (board_lent cells slots calls) last left j (set l.now₁ c m))
          opened =
              let count : length P.nodes - k ≡ suc (length P.nodes - (k + 1)) = omega (arith, turn, nodes-are st) in
              l.is ∙ ap (λ (z : List ℕ). update_nodes P (board_lent cells slots calls) last z l.heap l.now₁) (ap (λ m. order_from (node_readings P) m l.done) count ∙ next-found st.indexed.within a l.set_is (length P.nodes - (k + 1)) (lowest-is node st)) ∙
              node-first P (board_lent cells slots calls) last i left l.heap l.now₁ ∙
              ap (λ d. channel_value (channel_frame P d) (node_value P (board_lent cells slots calls) last l.now₁ (node_at_of P i) l.heap) (λ m j. update_nodes P (board_lent cells slots calls) last left j (set l.now₁ d m))) (sym its)

        pub updating-more : {z : Value} {one set₂ : ℕ} {row₂ : List ℕ} → y ≡ Ok z → length row₁ ≡ channels_most → row₂ ≡ set row₁ c z.cell → one ≡ 2 ^ c → set₂ ≡ bit_or set₁ one →
            Updating text index ends readings used calls row words slots row₂ words₂ slots₂ z.used set₂ (k + 1)
        unfolding channel_value
        updating-more {z} {one} {set₂} {row₂} d wide w o b = record {
          moved = moved_by (kept_then g.moved v.kept) d;
          slots_long = v.long ∙ g.slots_long;
          says = λ {P} {cells} {last} {now} {h} st a long.
              let p = l st a long in
              let u = valued (answer st a long) d in
              let m = moved_by v.kept d in
              let within = st.indexed.within in
              let inside : c < channel_total P = omega (arith, its st a long, in-nodes st a long) in
              record {
                done = p.done ++ (i ∷ []);
                set_is = subst (DoneIs (length P.inputs) (length P.nodes) (p.done ++ (i ∷ []))) (ap (λ b. bit_or set₁ (2 ^ b)) (sym (its st a long)) ∙ ap (bit_or set₁) (sym o) ∙ sym b)
                    (done_more i (omega (arith, within.few_inputs, within.few_nodes)) (in-nodes st a long) p.set_is);
                now₁ = set p.now₁ c z.cell;
                heap = u.heap;
                stage = record {
                  indexed = st.indexed;
                  told = st.told;
                  standing = λ j less. ap (λ (r : List ℕ). get_or r j 0) w ∙
                      row-set row₁ p.now₁ c z.cell (channel_total P) (omega (arith, wide, inside, within.few_inputs, within.few_nodes)) (omega (arith, inside, p.long)) p.stage.standing j less;
                  before = λ j less. channel-kept m j (omega (arith, less, within.few_inputs, within.few_nodes)) ∙ p.stage.before j less;
                  lies = record { board = m.long ∙ p.stage.lies.board; held = u.held; writable = u.writable };
                };
                long = length-set p.now₁ c z.cell ∙ p.long;
                is = opened st a long ∙ ap (λ (e : Out). channel_value (channel_frame P c) e (λ j q. update_nodes P (board_lent cells slots calls) last (left st a long) q (set p.now₁ c j))) u.is;
              };
        }

        pub updating-refused : {m : Refusal} {r : Updated} → y ≡ Err m → r ≡ Err (record { refusal = m; channel = c }) → UpdatesNodes text index ends readings used calls row words slots r row₁ words₂ slots₂
        unfolding channel_value
        updating-refused {m} {r} d q = rw q (record {
          says = λ {P} {cells} {last} {now} {h} st a long.
              let u = not-valued (answer st a long) d in
              rw (opened st a long ∙ ap (λ (z : Out). channel_value (channel_frame P c) z (λ j q. update_nodes P (board_lent cells slots calls) last (left st a long) q (set (l st a long).now₁ c j))) u.is) (not_updated u.numbered);
          kept = subst (Kept words words₂ used) d (kept_then g.moved v.kept);
          long = v.long ∙ g.slots_long;
        })
