-- The parts of the test, and that together they are the definition's.
use Rattle.std.specs.Prelude.{ℕ, zero, suc, ◌+◌, ◌-◌, ◌*◌, ◌≤◌, ◌<◌, Bool, true, false, not, refl, leb, eqb}
use mathlib.Core.List.{List, [], ◌∷◌, ◌++◌, map}
use Rattle.std.proofs.Math.Option.{Option, none, some}
use Rattle.std.proofs.Math.Path.{◌≡◌, sym, ap}
use Rattle.std.proofs.Common.{◌∙◌, subst, add-one, arith, length-append}
use Rattle.std.proofs.Math.ListN.{length, get_or, take, drop, replicate, take-append-drop, get_elem? as look}
use Rattle.std.proofs.lemmas.List.{length-map, length-replicate}
use Rattle.std.proofs.Math.Seq.{drop-cons, drop-length, length-take-le}
use borrow.Author.Tests.{le-leb, lt-leb, leb-true}
use Rattle.language.specs.Limits.{channels_most, header_words, cell_words}
use Rattle.language.specs.Result.{both, when, chain, choose}
use Rattle.language.specs.Syntax.{Ty, tbool, Input, Node, File, declared_types}
use Rattle.language.specs.Within.{All, WithinDeclared, Within}
use Rattle.language.specs.Heap.{Cell}
use Rattle.language.specs.Slide.{mem, reached}
use Rattle.language.specs.Layout.{state_length, all_zero, cells_of_words, state_of_words, cells_right, location_fits, roots_right, all_reached, state_right, load_state}
use Rattle.theory.specs.Lists.{both_left, both-never, look-past, look-append, look-map, look-get_d}
use Rattle.theory.specs.Places.{below_or_not}
use Rattle.theory.specs.Alls.{all_map, all-to-map, all_append, all_get_d}
use Rattle.theory.specs.CellWords.{Writable}
use Rattle.theory.specs.StateWritable.{channels-few}
use Rattle.text.specs.Bytes.{declared_word}
use Rattle.text_lines.specs.Lines.{is_some}
use Rattle.index.specs.declared.Counts.{Counts}
use Rattle.index.specs.Sections.{counts_in, channels_of}
use Rattle.index.specs.Indexed.{Indexed, declared_at}
use Rattle.state_words.specs.Words.{used_in, channel_at, row_of}
use Rattle.state_words.specs.RowLaws.{row-length, row_at, row-taken, zeros-taken}
use Rattle.state_words.specs.Holds.{Holds}
use Rattle.marking.specs.Marks.{Marks}
use Rattle.marking.specs.MarkLaws.{not-marked, marked, unmarked, has-mark}
use Rattle.cell_check.specs.Judged.{heap_to, LocationJudged, CellsJudged}
use Rattle.cell_check.specs.CellLaws.{some_of, none_of}
use Rattle.cell_check.specs.HeapLaws.{heap_is, heap-below}
use Rattle.state_check.specs.Loads.{state_of, heap_right, laid_out, ChannelsJudged, MarksJudged, ReachedJudged, LaidJudged, RightJudged, StateJudged}

-- ---- the declared type of a channel, in the index
types-declared : {P : File} → Within P → All (WithinDeclared (length P.types)) (declared_types P)
types-declared w = all_append (all-to-map (λ (i : Input). i.declared) (all_map (λ i v. v.declared) w.inputs)) (all-to-map (λ (n : Node). n.declared) (all_map (λ n v. v.declared) w.nodes))

pub channel-count : (P : File) → length (declared_types P) ≡ length P.inputs + length P.nodes
channel-count P = length-append (map (λ (i : Input). i.declared) P.inputs) (map (λ (n : Node). n.declared) P.nodes) ∙ omega (arith, length-map P.inputs (λ (i : Input). i.declared), length-map P.nodes (λ (n : Node). n.declared))

with-element : {A : Type 0} (l : List A) (i : ℕ) → i < length l → (X : Type 0) → ((a : A) → look l i ≡ some a → X) → X
with-element [] i small X f = absurd (omega arith)
with-element (a ∷ l) zero small X f = f a refl
with-element (a ∷ l) (suc i) small X f = with-element l i (omega arith) X f

module _ {text index : List ℕ} {P : File} (x : Indexed text index P) (c : ℕ) where
  abbrev ins : List Ty
  ins = map (λ (i : Input). i.declared) P.inputs

  abbrev outs : List Ty
  outs = map (λ (n : Node). n.declared) P.nodes

  input-declared : c < length P.inputs → declared_at (channels_of index) c ≡ declared_word (get_or (declared_types P) c tbool)
  input-declared less = with-element P.inputs c less _ (λ i e.
      (x.each_input c e).declared ∙ ap declared_word (sym (look-get_d (ins ++ outs) c tbool (look-append ins outs c (look-map (λ (k : Input). k.declared) P.inputs c e)))))

  node-declared : length P.inputs ≤ c → c < length (declared_types P) → declared_at (channels_of index) c ≡ declared_word (get_or (declared_types P) c tbool)
  node-declared le less = with-element P.nodes (c - length P.inputs) (omega (arith, channel-count P)) _ (λ n e.
      let m : ℕ = c - length P.inputs in
      let place : length P.inputs + m ≡ c = omega arith in
      let mapped : length ins + m ≡ c = omega (arith, length-map P.inputs (λ (k : Input). k.declared)) in
      let there : look (ins ++ outs) c ≡ some n.declared = ap (look (ins ++ outs)) (sym mapped) ∙ look-past ins outs m ∙ look-map (λ (k : Node). k.declared) P.nodes m e in
      ap (declared_at (channels_of index)) (sym place) ∙ (x.each_node m e).channel.declared ∙ ap declared_word (sym (look-get_d (ins ++ outs) c tbool there)))

  channel-declared : c < length (declared_types P) → declared_at (channels_of index) c ≡ declared_word (get_or (declared_types P) c tbool)
  channel-declared less = below_or_not c (length P.inputs) input-declared (λ le. node-declared le less)

-- ---- the channels one after the other
pub record ChannelsFrom (index words : List ℕ) (channels used c : ℕ) : Type 0 where
  pub says : (text : List ℕ) (P : File) → Indexed text index P → channels ≡ length (declared_types P) → (h : List Cell) → Holds words used h → All (Writable P) h →
      roots_right h (row_of (channel_at words) channels) (declared_types P) ≡ roots_right h (drop c (row_of (channel_at words) channels)) (drop c (declared_types P))

pub channels-start : (index words : List ℕ) (channels used : ℕ) → ChannelsFrom index words channels used 0
channels-start index words channels used = record { says = λ text P x count h v all. refl }

module _ {index words : List ℕ} {channels used c l word : ℕ} {b : Bool} (k : ChannelsFrom index words channels used c) (less : c < channels) (p : l ≡ channel_at words c) (q : word ≡ declared_at (channels_of index) c) (j : LocationJudged words used l word b) where
  next-channel : (text : List ℕ) (P : File) → Indexed text index P → channels ≡ length (declared_types P) → (h : List Cell) → Holds words used h → All (Writable P) h →
      roots_right h (row_of (channel_at words) channels) (declared_types P) ≡ both b (roots_right h (drop (c + 1) (row_of (channel_at words) channels)) (drop (c + 1) (declared_types P)))
  unfolding roots_right
  next-channel text P x count h v all =
      let roots = row_of (channel_at words) channels in
      let inside : c < length roots = omega (arith, row-length (channel_at words) channels) in
      let type = get_or (declared_types P) c tbool in
      let fits : b ≡ location_fits h (channel_at words c) type = j.says P h v all type (all_get_d (types-declared x.within) c tbool (omega arith)) (q ∙ channel-declared x c (omega arith)) ∙ ap (λ i. location_fits h i type) p in
      k.says text P x count h v all ∙ rw (add-one, drop-cons roots c 0 inside, drop-cons (declared_types P) c tbool (omega arith), row_at (channel_at words) channels c less, fits)

  pub channels-on : b ≡ true → ChannelsFrom index words channels used (c + 1)
  unfolding both
  channels-on e = record { says = λ text P x count h v all. next-channel text P x count h v all ∙ rw e }

  pub channels-not : b ≡ false → ChannelsJudged index words channels used false
  unfolding both
  channels-not e = record { says = λ text P x count h v all. sym (next-channel text P x count h v all ∙ rw e) }

pub channels-end : {index words : List ℕ} {channels used c : ℕ} → c ≤ channels → channels ≤ c → ChannelsFrom index words channels used c → ChannelsJudged index words channels used true
unfolding roots_right
channels-end {index} {words} {channels} {used} {c} low high k = record {
  says = λ text P x count h v all.
      let roots = row_of (channel_at words) channels in
      let all-roots : drop c roots ≡ [] = (let size : c ≡ length roots = omega (arith, row-length (channel_at words) channels) in ap (λ i. drop i roots) size ∙ drop-length roots) in
      let all_types : drop c (declared_types P) ≡ [] = (let size : c ≡ length (declared_types P) = omega arith in ap (λ i. drop i (declared_types P)) size ∙ drop-length (declared_types P)) in
      sym (k.says text P x count h v all ∙ rw (all-roots, all_types));
}

-- ---- the marks one after the other
pub record MarkedTo (marks : List ℕ) (i : ℕ) : Type 0 where
  pub says : (R : List ℕ) → Marks marks R → i ≤ length marks → all_reached R i ≡ true

pub all_start : (marks : List ℕ) → MarkedTo marks 0
unfolding all_reached
all_start marks = record { says = λ R m le. refl }

pub all-on : {marks : List ℕ} {i : ℕ} {r : Bool} → MarkedTo marks i → r ≡ not (eqb (get_or marks i 0) 0) → r ≡ true → MarkedTo marks (i + 1)
unfolding all_reached both
all-on {marks} {i} v q e = record {
  says = λ R m. rw add-one (λ le.
      let is : mem i R ≡ true = marked (mem i R) (λ z. has-mark q e (m.at i (omega arith) ∙ z)) in
      rw is (v.says R m (omega arith)));
}

one-not : (R : List ℕ) (i n : ℕ) → mem i R ≡ false → i < n → all_reached R n ≡ false
unfolding all_reached both
one-not R i zero e less = absurd (omega arith)
one-not R i (suc n) e less = below_or_not i n (λ below. both-never (mem n R) (one-not R i n e below)) (λ le. let last : n ≡ i = omega arith in rw (last, e))

pub all-not : {marks : List ℕ} {i used : ℕ} {r : Bool} → i < used → r ≡ not (eqb (get_or marks i 0) 0) → r ≡ false → MarksJudged marks used false
all-not {marks} {i} {used} less q e = record { says = λ R m long. sym (one-not R i used (not-marked (mem i R) (sym (m.at i (omega arith)) ∙ unmarked q e)) less) }

-- ---- unused words
module _ {words : List ℕ} {channels used cells : ℕ} where
  pub laid-short : cells < used → LaidJudged words channels used cells false
  unfolding both
  laid-short less = record { room = λ e. absurd (let z : ◌≡◌ {A = ℕ} 0 1 = cc in omega arith); says = λ few. rw (lt-leb used cells less) }

  pub laid-unclear : {b : Bool} → used ≤ cells → b ≡ all_zero (drop channels (take channels_most (drop 1 words))) → b ≡ false → LaidJudged words channels used cells false
  unfolding both
  laid-unclear le q e = record { room = λ z. le; says = λ few. rw (le-leb used cells le, ← q, e) }

  pub laid-beyond : {b r : Bool} → used ≤ cells → b ≡ all_zero (drop channels (take channels_most (drop 1 words))) → b ≡ true → r ≡ all_zero (take (cell_words * (cells - used)) (drop (state_length used) words)) → LaidJudged words channels used cells r
  unfolding both
  laid-beyond le q e z = record { room = λ y. le; says = λ few. z ∙ rw (le-leb used cells le, ← q, e) }

-- ---- cells, channels, what is reached
zeros-same : {marks : List ℕ} {used : ℕ} → marks ≡ replicate used 0 → length marks ≡ used
zeros-same {used} e = ap length e ∙ length-replicate used 0

module _ {index words marks : List ℕ} {types channels used : ℕ} {b : Bool} (j : CellsJudged index types words used b) where
  pub right-no-cells : b ≡ false → RightJudged index words types channels used marks false marks
  unfolding heap_right
  right-no-cells e = record { none = λ z. refl; says = λ text P x count all room z. rw (none_of (heap_to P words used) (sym (j.says text P x count room) ∙ e)) }

  module _ (e : b ≡ true) {d : Bool} (k : ChannelsJudged index words channels used d) where
    pub right-no-channels : d ≡ false → RightJudged index words types channels used marks false marks
    unfolding heap_right both
    right-no-channels q = record {
      none = λ z. refl;
      says = λ text P x count all room z. some_of (heap_to P words used) (sym (j.says text P x count room) ∙ e) _ (λ h is.
          let w = heap-below x words used room is in
          rw (is, ← (k.says text P x all h w.holds w.writable), q));
    }

    pub right-reached : {r : Bool} {marks' : List ℕ} → d ≡ true → ReachedJudged index words channels used marks r marks' → RightJudged index words types channels used marks r marks'
    unfolding heap_right both
    right-reached {r} {marks'} q g = record {
      none = λ z. g.none ∙ sym z;
      says = λ text P x count all room z. some_of (heap_to P words used) (sym (j.says text P x count room) ∙ e) _ (λ h is.
          let w = heap-below x words used room is in
          let there : r ≡ all_reached (reached (state_of h (row_of (channel_at words) channels))) (length h) =
          g.says h (record { text = text; file = P; indexed = x; holds = w.holds; writable = w.writable; each = zeros-same z }) z ∙ ap (all_reached (reached (state_of h (row_of (channel_at words) channels)))) w.holds.count in
          there ∙ rw (is, ← (k.says text P x all h w.holds w.writable), q));
    }

-- ---- the whole
some-when : {A : Type 0} (b : Bool) (a : A) → is_some (when b a) ≡ b
unfolding is_some when
some-when true a = refl
some-when false a = refl

found_right : (P : File) (roots : List ℕ) (o : Option (List Cell)) → is_some (chain (chain o (λ h. some (state_of h roots))) (λ s. when (state_right P s) s)) ≡ heap_right P roots (chain o (λ h. when (cells_right P [] h) h))
unfolding chain is_some heap_right state_right when both
found_right P roots none = refl
found_right P roots (some h) = some-when (state_right P (state_of h roots)) (state_of h roots) ∙ cases (cells_right P [] h)
  where
    cases : (b : Bool) → both b (both (roots_right h roots (declared_types P)) (all_reached (reached (state_of h roots)) (length h))) ≡ heap_right P roots (when b h)
    cases true = refl
    cases false = refl

pub load_is : (P : File) (cells : ℕ) (words : List ℕ) → state_length cells ≤ length words →
    is_some (load_state P cells words) ≡ both (laid_out words (length (declared_types P)) (used_in words) cells) (heap_right P (take (length (declared_types P)) (drop 1 words)) (heap_to P words (used_in words)))
unfolding load_state state_of_words choose chain both is_some
load_is P cells words room = cases (laid_out words (length (declared_types P)) (used_in words) cells) refl
  where
    cases : (b : Bool) → laid_out words (length (declared_types P)) (used_in words) cells ≡ b →
        is_some (chain (choose b (chain (cells_of_words P (used_in words) (drop header_words words)) (λ h. some (state_of h (take (length (declared_types P)) (drop 1 words))))) none) (λ s. when (state_right P s) s))
        ≡ both b (heap_right P (take (length (declared_types P)) (drop 1 words)) (heap_to P words (used_in words)))
    cases true e =
        let low : used_in words ≤ cells = leb-true (used_in words) cells (both_left _ _ e) in
        found_right P (take (length (declared_types P)) (drop 1 words)) (cells_of_words P (used_in words) (drop header_words words))
        ∙ ap (heap_right P (take (length (declared_types P)) (drop 1 words))) (sym (heap_is P words (used_in words) (omega arith)))
    cases false e = refl

-- ---- as the function comes by them
counted-channels : {text index : List ℕ} {P : File} → Indexed text index P → {n : Counts} → n ≡ counts_in index → n.inputs + n.nodes ≡ length (declared_types P)
counted-channels {P = P} x e = rw e (omega (arith, channel-count P, x.counted.input_count, x.counted.node_count))

module _ (index words : List ℕ) (cells : ℕ) (scratch : List ℕ) where
  pub state-short : {place : ℕ} → place ≡ state_length cells → length words < place → StateJudged index words cells scratch false scratch
  unfolding both
  state-short p less = record { none = λ z. refl; says = λ text P x z. rw (lt-leb (state_length cells) (length words) (omega arith)) }

  pub scratch-short : length scratch < cells → StateJudged index words cells scratch false scratch
  unfolding both
  scratch-short less = record { none = λ z. refl; says = λ text P x z. rw (lt-leb cells (length scratch) less, both-never (leb (state_length cells) (length words)) refl) }

  module _ {place used : ℕ} {n : Counts} {b : Bool} (p : place ≡ state_length cells) (lent : place ≤ length words) (enough : cells ≤ length scratch) (u : used ≡ used_in words) (e : n ≡ counts_in index)
      (l : LaidJudged words (n.inputs + n.nodes) used cells b) where
    test-is : (P : File) → both (both (leb (state_length cells) (length words)) (leb cells (length scratch))) (is_some (load_state P cells words)) ≡ is_some (load_state P cells words)
    unfolding both
    test-is P = rw (le-leb (state_length cells) (length words) (omega arith), le-leb cells (length scratch) enough)

    laid-is : {text : List ℕ} (P : File) → Indexed text index P → b ≡ laid_out words (length (declared_types P)) (used_in words) cells
    laid-is P x =
        let count = counted-channels x e in
        subst (λ k. b ≡ laid_out words k (used_in words) cells) count (subst (λ v. b ≡ laid_out words (n.inputs + n.nodes) v cells) u (l.says (omega (arith, count, channels-few x.within))))

    pub state-unlaid : b ≡ false → StateJudged index words cells scratch false scratch
    unfolding both
    state-unlaid q = record { none = λ z. refl; says = λ text P x z. sym (test-is P ∙ load_is P cells words (omega arith) ∙ rw (← (laid-is P x), q)) }

    pub state-judged : {r : Bool} {part : List ℕ} → b ≡ true → used ≤ length scratch → RightJudged index words n.types (n.inputs + n.nodes) used (take used scratch) r part → StateJudged index words cells scratch r (part ++ drop used scratch)
    unfolding both
    state-judged {r} {part} q le g =
        let size : length (take used scratch) ≡ used = length-take-le used scratch le in
        let start : scratch ≡ replicate (length scratch) 0 → take used scratch ≡ replicate used 0 = λ z. ap (take used) z ∙ zeros-taken used (length scratch) le in
        record {
          none = λ z. ap (λ (y : List ℕ). y ++ drop used scratch) (g.none (start z ∙ ap (λ k. replicate k 0) (sym size))) ∙ take-append-drop used scratch;
          says = λ text P x z.
              let count = counted-channels x e in
              let room : state_length used ≤ length words = omega (arith, l.room q) in
              let roots : row_of (channel_at words) (n.inputs + n.nodes) ≡ take (length (declared_types P)) (drop 1 words) = row-taken words 1 (n.inputs + n.nodes) (omega (arith, count, channels-few x.within)) ∙ ap (λ k. take k (drop 1 words)) count in
              let types : n.types ≡ length P.types = rw e (sym x.counted.type_count) in
              g.says text P x types count room (start z)
              ∙ ap (λ y. heap_right P y (heap_to P words used)) roots ∙ ap (λ k. heap_right P (take (length (declared_types P)) (drop 1 words)) (heap_to P words k)) u
              ∙ sym (test-is P ∙ load_is P cells words (omega arith) ∙ rw (← (laid-is P x), q));
        }
