-- The initial values one after the other: what is left leads to the state, turn by turn.
use Rattle.std.specs.Prelude.{Ok, Err, ℕ, suc, ◌+◌, ◌*◌, ◌≤◌, ◌<◌, List, [], ◌∷◌, ◌++◌, true, ◌≡◌, refl, length, get_or, drop, set, replicate}
use Rattle.std.proofs.Math.Option.{some}
use Rattle.std.proofs.Common.{sym, ◌∙◌, subst, subst₂, arith, length-append, length-set, take_at, drop_at, drop-cons, drop-set-lt}
use Rattle.std.proofs.Math.Path.{ap}
use Rattle.std.proofs.Math.ListN.{take, length-take, drop_of_length-le, get_elem? as look}
use Rattle.std.proofs.lemmas.List.{length-replicate, replicate-append-replicate, drop-set-add}
use Rattle.std.proofs.Math.Seq.{take-set-lt}
use Rattle.language.specs.declared.refusals.Refusal.{Refusal}
use Rattle.language.specs.Limits.{channels_most, header_words, cell_words}
use Rattle.language.specs.Syntax.{Expr, ebool, File, initial_values}
use Rattle.language.specs.Format.{spell_all}
use Rattle.language.specs.Within.{all_nil}
use Rattle.language.specs.Heap.{Cell}
use Rattle.language.specs.Slide.{State}
use Rattle.language.specs.Layout.{padded, state_length}
use Rattle.language.specs.Evaluator.{value, no_channels, eval, run}
use Rattle.language.specs.Machine.{Board}
use Rattle.language.specs.InitialValues.{Begins, begins_none, begins_next}
use Rattle.theory.specs.Lists.{take-fewer, drop_more}
use Rattle.theory.specs.Places.{look_at}
use Rattle.theory.specs.RulesGive.{runs-eval, value-refused}
use Rattle.text.specs.declared.Cursor.{Cursor}
use Rattle.index.specs.Sections.{channels_of}
use Rattle.index.specs.Indexed.{initial_at}
use Rattle.index.specs.Padded.{padded-none, padded-next}
use Rattle.state_words.specs.WriteLaws.{drop_of_take}
use Rattle.state_words.specs.Holds.{Holds}
use Rattle.state_words.specs.HoldLaws.{holds-header}
use Rattle.new_cells.specs.declared.Value.{Value}
use Rattle.new_cells.specs.Steps.{Evaluated, Board as BoardHas, Lies, Agrees}
use Rattle.ends.specs.Initials.{initial-known, initials-long}
use Rattle.evaluation_steps.specs.KeepLaws.{Moved, moved_by}
use Rattle.evaluation_steps.specs.ArgumentLaws.{Valued, valued, not-valued}
use Rattle.evaluator.specs.ChannelValues.{board_lent, OfChannel, EvalsChannel}
use Rattle.initial_state.specs.Promises.{AtStart, LaysInitials}

-- ---- so many zeros
abbrev pub zeros_of : ℕ → List ℕ
zeros_of n = replicate n 0

module _ (m n k : ℕ) (e : k ≡ m + n) where
  zeros-parts : zeros_of k ≡ zeros_of m ++ zeros_of n
  zeros-parts = ap zeros_of e ∙ sym (replicate-append-replicate m n 0)

  zeros-front : take m (zeros_of k) ≡ zeros_of m
  zeros-front = ap (take m) zeros-parts ∙ take_at (zeros_of m) (zeros_of n) m (length-replicate m 0)

  pub zeros-back : drop m (zeros_of k) ≡ zeros_of n
  zeros-back = ap (drop m) zeros-parts ∙ drop_at (zeros_of m) (zeros_of n) m (length-replicate m 0)

no-channels : (cells : ℕ) → take channels_most (drop 1 (zeros_of (state_length cells))) ≡ padded channels_most []
no-channels cells =
    let rest = channels_most + cell_words * cells in
    ap (take channels_most) (zeros-back 1 rest (state_length cells) (omega arith)) ∙ zeros-front channels_most (cell_words * cells) rest refl ∙ sym (padded-none channels_most)

-- ---- the channels' words: kept by what is laid above, and one of them written
channels-kept : (words words' : List ℕ) (used : ℕ) → take (state_length used) words' ≡ take (state_length used) words → take channels_most (drop 1 words') ≡ take channels_most (drop 1 words)
channels-kept words words' used low = sym (drop_of_take 1 channels_most words') ∙ ap (drop 1) (take-fewer header_words (state_length used) words' words (omega arith) low) ∙ drop_of_take 1 channels_most words

channel-put : (words roots : List ℕ) (c l : ℕ) → take channels_most (drop 1 words) ≡ padded channels_most roots → length roots ≡ c → c < channels_most → take channels_most (drop 1 (set words (1 + c) l)) ≡ padded channels_most (roots ++ (l ∷ []))
channel-put words roots c l e long less =
    ap (take channels_most) (drop-set-add 1 words c l) ∙ take-set-lt channels_most (drop 1 words) c l less ∙ ap (λ (z : List ℕ). set z c l) e ∙ ap (λ i. set (padded channels_most roots) i l) (sym long) ∙
    padded-next channels_most roots l

-- ---- one initial value by the rules
record Next (P : File) (b : Board) (e : Expr) (es : List Expr) (h : List Cell) (roots : List ℕ) (s : State) : Type 0 where
  at : ℕ
  heap : List Cell
  gives : eval P (run P b.cells b.calls) b.cells no_channels e [] b.slots h ≡ value at heap
  rest : Begins P b es heap (roots ++ (at ∷ [])) s

next_of : {P : File} {b : Board} {e : Expr} {es : List Expr} {h : List Cell} {roots : List ℕ} {s : State} → Begins P b (e ∷ es) h roots s → Next P b e es h roots s
next_of {P} {b} (begins_next {g = g} {l = l} runs rest) = record { at = l; heap = g; gives = runs-eval P b.cells runs; rest = rest }

-- ---- the turns
-- the channels from c on, with the heap as it stands
record LaidTo (words words₁ : List ℕ) (used c : ℕ) (P : File) (cells : ℕ) (b : Board) (s : State) : Type 0 where
  heap : List Cell
  roots : List ℕ
  count : length roots ≡ c
  lies : Lies P cells words₁ used heap
  rest : Begins P b (drop c (initial_values P)) heap roots s
  channels : take channels_most (drop 1 words₁) ≡ padded channels_most roots
  beyond : drop (state_length used) words₁ ≡ drop (state_length used) words

pub record Laying (text index ends : List ℕ) (n calls : ℕ) (words slots words₁ slots₁ : List ℕ) (used c : ℕ) : Type 0 where
  pub long : length words₁ ≡ length words
  pub fits : state_length used ≤ length words
  pub slots_long : length slots₁ ≡ length slots
  says : {P : File} {cells : ℕ} {s : State} → AtStart text index ends n words P cells → Begins P (board_lent cells slots calls) (initial_values P) [] [] s → LaidTo words words₁ used c P cells (board_lent cells slots calls) s

module _ (text index ends : List ℕ) (n calls : ℕ) (words slots : List ℕ) where
  pub laying-none : BoardHas words 0 → Laying text index ends n calls words slots words slots 0 0
  unfolding spell_all
  laying-none board = record {
    long = refl;
    fits = board.fits;
    slots_long = refl;
    says = λ {P} {cells} st begins. record {
      heap = [];
      roots = [];
      count = refl;
      lies = record {
        board = st.board;
        held = record { count = refl; room = board.fits; is = drop_of_length-le (take (state_length 0) words) {i = header_words} (omega (arith, length-take (state_length 0) words)) };
        writable = all_nil;
      };
      rest = begins;
      channels = ap (λ z. take channels_most (drop 1 z)) st.clear ∙ no-channels cells;
      beyond = refl;
    };
  }

  module _ {words₁ slots₁ : List ℕ} {used c : ℕ} (g : Laying text index ends n calls words slots words₁ slots₁ used c) where
    module _ (less : c < n) {row : List ℕ} {at : Cursor} (start : at.at ≡ initial_at (channels_of index) c) {x : Evaluated} {words₂ slots₂ : List ℕ} (v : EvalsChannel text index ends row c at.at used calls words₁ slots₁ x words₂ slots₂) where
      module _ {P : File} {cells : ℕ} {s : State} (st : AtStart text index ends n words P cells) (begins : Begins P (board_lent cells slots calls) (initial_values P) [] [] s) where
        k : LaidTo words words₁ used c P cells (board_lent cells slots calls) s
        k = g.says st begins

        abbrev initial : Expr
        initial = get_or (initial_values P) c (ebool true)

        in-time : c < length (initial_values P)
        in-time = omega (arith, less, st.all)

        there : look (initial_values P) c ≡ some initial
        there = look_at (initial_values P) c (ebool true) in-time

        next : Next P (board_lent cells slots calls) initial (drop (suc c) (initial_values P)) k.heap k.roots s
        next = next_of (subst (λ (z : List Expr). Begins P (board_lent cells slots calls) z k.heap k.roots s) (drop-cons (initial_values P) c (ebool true) in-time) k.rest)

        known : OfChannel text index ends row words₁ used P cells c at.at 0 no_channels k.heap initial
        known =
            let i = initial-known st.indexed c there in
            subst (λ a. OfChannel text index ends row words₁ used P cells c a 0 no_channels k.heap initial) (sym start) (record {
              indexed = st.indexed;
              bodies = st.told.bodies;
              less = i.less;
              now_cells = λ j below. absurd (omega (arith, below));
              last_cells = λ j below. absurd (omega (arith, below));
              few = omega arith;
              lies = k.lies;
              within = i.within;
              spelled = i.spelled;
              ended = st.told.each c there;
            })

        answer : Agrees P words₂ x (value next.at next.heap)
        answer = subst (Agrees P words₂ x) (ap (λ i. eval P (run P cells calls) cells no_channels initial [] i k.heap) g.slots_long ∙ next.gives) (v.says known)

      pub laying_refused : {m : Refusal} → x ≡ Err m → LaysInitials text index ends n calls words slots used words₂ slots₂
      laying_refused d = record { says = λ st begins. absurd (value-refused (not-valued (answer st begins) d).is); long = v.long ∙ g.slots_long }

      module _ {y : Value} (d : x ≡ Ok y) where
        moved : Moved words₁ used words₂ y.used
        moved = moved_by v.kept d

        pub laying-more : {words₃ : List ℕ} → words₃ ≡ set words₂ (1 + c) y.cell → Laying text index ends n calls words slots words₃ slots₂ y.used (c + 1)
        laying-more {words₃} put = record {
          long = ap length put ∙ length-set words₂ (1 + c) y.cell ∙ moved.long ∙ g.long;
          fits = omega (arith, moved.fits, g.long);
          slots_long = v.long ∙ g.slots_long;
          says = λ {P} {cells} {s} st begins.
              let z = k st begins in
              let u : Valued P words₂ y.used y.cell (value (next st begins).at (next st begins).heap) = valued (answer st begins) d in
              let where-is : (next st begins).at ≡ y.cell = (let e = u.is in cc) in
              let which : (next st begins).heap ≡ u.heap = (let e = u.is in cc) in
              let one : suc c ≡ c + 1 = omega arith in
              let few : c < channels_most = omega (arith, in-time st begins, initials-long st.indexed, st.indexed.within.few_inputs, st.indexed.within.few_nodes) in
              let behind : drop (state_length y.used) words₂ ≡ drop (state_length y.used) words = moved.high ∙ drop_more (state_length used) (state_length y.used) words₁ words (omega (arith, moved.more)) z.beyond in
              record {
                heap = u.heap;
                roots = z.roots ++ (y.cell ∷ []);
                count = length-append z.roots (y.cell ∷ []) ∙ ap (λ i. i + 1) z.count;
                lies = record {
                  board = ap length put ∙ length-set words₂ (1 + c) y.cell ∙ moved.long ∙ z.lies.board;
                  held = rw put (holds-header (1 + c) y.cell (omega (arith, few)) u.held);
                  writable = u.writable;
                };
                rest = subst (λ i. Begins P (board_lent cells slots calls) (drop i (initial_values P)) u.heap (z.roots ++ (y.cell ∷ [])) s) one
                    (subst₂ (λ l h. Begins P (board_lent cells slots calls) (drop (suc c) (initial_values P)) h (z.roots ++ (l ∷ [])) s) where-is which (next st begins).rest);
                channels = ap (λ y. take channels_most (drop 1 y)) put ∙ channel-put words₂ z.roots c y.cell (channels-kept words₁ words₂ used moved.low ∙ z.channels) z.count few;
                beyond = ap (drop (state_length y.used)) put ∙ drop-set-lt (state_length y.used) words₂ (1 + c) y.cell (omega (arith, few)) ∙ behind;
              };
        }

    pub laying-all : n ≤ c → LaysInitials text index ends n calls words slots used words₁ slots₁
    laying-all all = record {
      says = λ {P} {cells} {s} st begins.
          let k = g.says st begins in
          let none : drop c (initial_values P) ≡ [] = drop_of_length-le (initial_values P) {i = c} (omega (arith, all, st.all)) in
          let same = ends-in (subst (λ (z : List Expr). Begins P (board_lent cells slots calls) z k.heap k.roots s) none k.rest) in
          record {
            heap = subst (λ (q : State). Holds words₁ used q.heap) (sym same) k.lies.held;
            channels = k.channels ∙ ap (λ (q : State). padded channels_most q.roots) (sym same);
            beyond = k.beyond;
            long = g.long;
          };
      long = g.slots_long;
    }
      where
        ends-in : {P : File} {b : Board} {h : List Cell} {roots : List ℕ} {s : State} → Begins P b [] h roots s → s ≡ record { heap = h; roots = roots }
        ends-in (begins_none e) = e
