-- A node's update, return by return.
use Rattle.std.specs.Prelude.{ℕ, ◌+◌, ◌*◌, ◌%◌, ◌≤◌, ◌<◌, List, [], ◌≡◌, refl, length, Ok, Err}
use Rattle.std.proofs.Math.Option.{some}
use Rattle.std.proofs.Common.{sym, ap, ◌∙◌, subst₂, arith}
use Rattle.std.proofs.Math.Path.{subst}
use Rattle.std.proofs.Math.ListN.{get_elem? as look}
use borrow.Author.Tests.{lt-ltb, le-ltb, le-leb, lt-leb}
use Rattle.language.specs.declared.refusals.Refusal.{Refusal}
use Rattle.language.specs.declared.refusals.Refusal.TheVariants.{ValueTooLarge}
use Rattle.language.specs.Result.{choose}
use Rattle.language.specs.Syntax.{Ty, tbool, tint, tnamed, Node, File}
use Rattle.language.specs.Sizes.{size_of_type}
use Rattle.language.specs.Within.{WithinDeclared, w_tnamed}
use Rattle.language.specs.Heap.{Cell, cell_at, size_in}
use Rattle.language.specs.Layout.{tag_step}
use Rattle.language.specs.Evaluator.{bind_out, needs, eval, run}
use Rattle.theory.specs.Lists.{look-less}
use Rattle.theory.specs.FrameNumbers.{channel_total}
use Rattle.text.specs.Bytes.{declared_word}
use Rattle.text.specs.declared.Cursor.{Cursor}
use Rattle.encoding.specs.WithinParts.{node-within}
use Rattle.index.specs.Sections.{channels_of}
use Rattle.index.specs.Indexed.{declared_at, update_at}
use Rattle.state_words.specs.Holds.{Reads}
use Rattle.new_cells.specs.declared.Value.{Value}
use Rattle.new_cells.specs.Steps.{Evaluated, by_number, Agrees, is_value, is_refused, not_grown, Kept}
use Rattle.evaluator.specs.ChannelValues.{OfChannel, EvalsChannel}
use Rattle.evaluation_steps.specs.ArgumentLaws.{valued, not-valued}
use Rattle.iteration.specs.Promises.{size_in_word, NodeStage, node_value, UpdatesNode}

-- ---- the declared size
declared-sized : (τ : Ty) {n : ℕ} → WithinDeclared n τ → size_in_word (declared_word τ) ≡ size_of_type τ
unfolding size_in_word declared_word size_of_type choose
declared-sized tbool w = refl
declared-sized tint w = refl
declared-sized (tnamed t k) (w_tnamed less bound) = rw (le-ltb (tag_step * (t + 1) + k) tag_step (omega arith)) (omega (arith, bound.1))

pub word-is-plain : (word : ℕ) → word < tag_step → 0 ≡ size_in_word word
unfolding size_in_word choose
word-is-plain word less = rw (lt-ltb word tag_step less)

pub word-is-named : {r : ℕ} (word : ℕ) → tag_step ≤ word → r ≡ word % tag_step → r ≡ size_in_word word
unfolding size_in_word choose
word-is-named word le e = rw (le-ltb word tag_step le) e

-- ---- the evaluation of an update
module _ (text index ends row : List ℕ) (c used calls : ℕ) (words slots : List ℕ) {at : Cursor} (e : at.at ≡ update_at (channels_of index) c) {x : Evaluated} {words' slots' : List ℕ} (v : EvalsChannel text index ends row c at.at used calls words slots x words' slots') where
  module _ {P : File} {cells : ℕ} {last now : List ℕ} {h : List Cell} (m : ℕ) (n : Node) (st : NodeStage text index ends row words used P cells last now h) (its : c ≡ length P.inputs + m) (there : look P.nodes m ≡ some n) where
    abbrev UpdateAt : ℕ → ℕ → Type 0
    UpdateAt i j = OfChannel text index ends row words used P cells i j (channel_total P) (record { now = now; last = last }) h n.update

    update-known : UpdateAt c at.at
    update-known =
        let less : m < length P.nodes = look-less P.nodes m there in
        subst₂ UpdateAt (sym its) (ap (update_at (channels_of index)) (sym its) ∙ sym e) (record {
          indexed = st.indexed;
          bodies = st.told.bodies;
          less = omega (arith, less);
          now_cells = st.standing;
          last_cells = st.before;
          few = omega (arith, st.indexed.within.few_inputs, st.indexed.within.few_nodes);
          lies = st.lies;
          within = (node-within st.indexed.within m there).update;
          spelled = (st.indexed.each_node m there).update;
          ended = st.told.each m there;
        })

    answer : Agrees P words' x (eval P (run P cells calls) cells (record { now = now; last = last }) n.update [] (length slots) h)
    answer = v.says update-known

    declared : declared_at (channels_of index) c ≡ declared_word n.declared
    declared = ap (declared_at (channels_of index)) its ∙ (st.indexed.each_node m there).channel.declared

    most : size_in_word (declared_at (channels_of index) c) ≡ size_of_type n.declared
    most = ap size_in_word declared ∙ declared-sized n.declared (node-within st.indexed.within m there).declared

  pub node-refused : {k : Refusal} {r : Evaluated} → x ≡ Err k → r ≡ Err k → UpdatesNode text index ends row c used calls words slots r words' slots'
  unfolding node_value bind_out
  node-refused d q = rw q (record {
    says = λ {P} {cells} {last} {now} m n st at there.
        let k = not-valued (answer m n st at there) d in
        rw k.is (is_refused k.numbered);
    kept = subst (Kept words words' used) d v.kept;
    long = v.long;
  })

  module _ {y : Value} (d : x ≡ Ok y) {bound size : ℕ} (b : bound ≡ size_in_word (declared_at (channels_of index) c)) (s : Reads words' y.used (λ h. size_in (cell_at h y.cell)) size) where
    pub node-large : {r : Evaluated} → bound < size → r ≡ Err ValueTooLarge → UpdatesNode text index ends row c used calls words slots r words' slots'
    unfolding node_value bind_out needs
    node-large large q = rw q (record {
      says = λ {P} {cells} {last} {now} m n st at there.
          let u = valued (answer m n st at there) d in
          rw (u.is, lt-leb (size_in (cell_at u.heap y.cell)) (size_of_type n.declared) (omega (arith, large, b, most m n st at there, s.says u.heap u.held))) (is_refused by_number);
      kept = record { long = v.kept.long; low = v.kept.low; grown = not_grown };
      long = v.long;
    })

    pub node_done : {r : Evaluated} → size ≤ bound → r ≡ Ok y → UpdatesNode text index ends row c used calls words slots r words' slots'
    unfolding node_value bind_out needs
    node_done {r} small q = rw q (record {
      says = λ {P} {cells} {last} {now} m n st at there.
          let u = valued (answer m n st at there) d in
          rw (u.is, le-leb (size_in (cell_at u.heap y.cell)) (size_of_type n.declared) (omega (arith, small, b, most m n st at there, s.says u.heap u.held))) (is_value u.held u.writable);
      kept = subst (Kept words words' used) d v.kept;
      long = v.long;
    })
