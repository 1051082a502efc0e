-- The channels' cells taken and put, a refusal that leaves the state as it was, and the slide.
use Rattle.std.specs.Prelude.{Ok, Err}
use Rattle.language.specs.declared.refusals.Refusal.{Refusal}
use Rattle.language.specs.RefusalNumbers.{number_of}
use Rattle.language.specs.Refusals.{heap_spent}
use Rattle.language.specs.Line.{trees_fit}
use Rattle.theory.specs.HeldChannels.{input_types}
use Rattle.theory.specs.IterationAgrees.{refused-iff-rules, iteration-numbered}
use Rattle.new_cells.specs.Steps.{Numbered, by_number}
use Prim.Native.Nat.{ℕ, zero, suc, ◌+◌, ◌-◌, ◌*◌, ◌≤◌, ◌<◌}
use mathlib.Core.List.{List, [], ◌∷◌, ◌++◌}
use Rattle.std.specs.Prelude.{true, ◌≡◌, refl, length, get_or, drop, set, eqb}
use Rattle.std.proofs.Math.Path.{sym, ap, subst}
use Rattle.std.proofs.Common.{◌∙◌, arith, le_refl, add-one, length-drop, length-append, length-take-le, get_or-append-add, drop_at, ext_get_or, take_all, drop-drop}
use Rattle.std.proofs.Math.ListN.{take, get_or-append}
use Rattle.std.proofs.lemmas.List.Edits.{sets, sets-eq}
use Rattle.std.proofs.Math.Seq.{length-sets, drop-length, take-length}
use Rattle.language.specs.Limits.{channels_most, header_words, cell_words}
use Rattle.language.specs.Result.{Result, ok, no, bind}
use Rattle.language.specs.Syntax.{File, channel_frame}
use Rattle.language.specs.Within.{All}
use Rattle.language.specs.Heap.{Cell, Tree}
use Rattle.language.specs.Slide.{State, slide}
use Rattle.language.specs.Order.{order}
use Rattle.language.specs.Layout.{padded, state_length, state_words, all_zero}
use Rattle.language.specs.Machine.{written, put_inputs, update_nodes, iterate_in, iterate_state}
use Rattle.theory.specs.FrameNumbers.{channel_total}
use Rattle.theory.specs.Lists.{both_right, take-fewer, drop_more, sets-append}
use Rattle.theory.specs.Padding.{padded-rest}
use Rattle.theory.specs.HeapValues.{env-length}
use Rattle.theory.specs.Reaches.{Linked}
use Rattle.theory.specs.CellWords.{Writable}
use Rattle.theory.specs.IterationSteps.{full-linked}
use Rattle.theory.specs.LineExact.{line-forth-exact, inputs-count}
use Rattle.theory.specs.StateWords.{state-loaded}
use Rattle.index.specs.declared.Counts.{Counts}
use Rattle.index.specs.Sections.{counts_in}
use Rattle.node_order.specs.Lowest.{Below}
use Rattle.node_order.specs.RowLaws.{Filled}
use Rattle.state_words.specs.Words.{used_in, channel_at, row_of, cleared}
use Rattle.state_words.specs.Holds.{Holds}
use Rattle.state_words.specs.RowLaws.{row_at, row-length}
use Rattle.state_words.specs.HoldLaws.{cleared-restores, holds-header}
use Rattle.state_words.specs.StateLaws.{HoldsState, loaded-held}
use Rattle.state_words.specs.WriteLaws.{drop_of_take, channels-tested}
use Rattle.state_check.specs.LoadLaws.{channel-count}
use Rattle.sliding.specs.Sliding.{Unslid, Collects}
use Rattle.evaluation_steps.specs.KeepLaws.{Moved, moved_by}
use Rattle.evaluator.specs.ChannelValues.{board_lent}
use Rattle.iteration.specs.declared.nodes.RefusalIn.{RefusalIn}
use Rattle.iteration.specs.Promises.{Updated, RowIs, AgreesNodes, are_updated, not_updated, as_value}
use Rattle.iteration.specs.Whole.{Begun, ChannelsTaken, ChannelsPut, Given, FeedsAndUpdates, is_done, is_refused, IteratesState}

-- ---- taken
pub taken-all : {words row : List ℕ} {c : ℕ} → Below (Filled (channel_at words) row) c → channels_most ≤ c → ChannelsTaken words row
taken-all g all = record { each = λ k less. (g.each k (omega arith)).is }

-- ---- put
pub put-none : (row words : List ℕ) → ChannelsPut row 0 words words
unfolding row_of
put-none row words = record { is = refl }

pub put-more : {row words words₁ words₂ : List ℕ} {c l : ℕ} → ChannelsPut row c words words₁ → l ≡ get_or row c 0 → words₂ ≡ set words₁ (1 + c) l → ChannelsPut row (c + 1) words words₂
unfolding row_of
put-more {row} {words} {words₁} {words₂} {c} {l} g q w =
    let f : ℕ → ℕ = λ k. get_or row k 0 in
    record { is = rw (add-one) (w ∙ ap (λ (z : List ℕ). set z (1 + c) l) g.is ∙ ap (λ i. set (sets words 1 (row_of f c)) (1 + i) l) (sym (row-length f c)) ∙ ap (λ v. set (sets words 1 (row_of f c)) (1 + length (row_of f c)) v) q ∙ sym (sets-append (row_of f c) (f c ∷ []) words 1)) }

pub put-long : {row words words₁ : List ℕ} {n : ℕ} → ChannelsPut row n words words₁ → length words₁ ≡ length words
put-long {row} {words} {n = n} g = ap length g.is ∙ length-sets words 1 (row_of (λ k. get_or row k 0) n)

pub put-done : {row words words₁ : List ℕ} {c n : ℕ} → ChannelsPut row c words words₁ → c ≤ n → n ≤ c → ChannelsPut row n words words₁
put-done {row} {words} {words₁} {c} {n} g le all = let same : c ≡ n = omega arith in subst (λ m. ChannelsPut row m words words₁) same g

-- ---- what the definition does, in two steps
abbrev fed_and_updated : File → ℕ → ℕ → ℕ → State → List Tree → Result State
fed_and_updated P cells slots calls s vs = bind (put_inputs P cells 0 vs s.heap []) (λ q. update_nodes P (record { cells = cells; slots = slots; calls = calls }) s.roots (order P) q.heap (q.roots ++ drop (length P.inputs) s.roots))

whole_is : (P : File) (cells slots calls : ℕ) (s : State) (vs : List Tree) → iterate_state P (record { cells = cells; slots = slots; calls = calls }) s vs ≡ bind (fed_and_updated P cells slots calls s vs) (λ r. ok (slide r))
unfolding iterate_state iterate_in bind
whole_is P cells slots calls s vs = by (put_inputs P cells 0 vs s.heap [])
  where
    on : State → Result State
    on q = update_nodes P (record { cells = cells; slots = slots; calls = calls }) s.roots (order P) q.heap (q.roots ++ drop (length P.inputs) s.roots)

    by : (o : Result State) → bind o (λ q. bind (on q) (λ r. ok (slide r))) ≡ bind (bind o on) (λ r. ok (slide r))
    by (ok q) = refl
    by (no n frame) = refl

-- the two steps, where both are done
record Stepped (P : File) (cells slots calls : ℕ) (s : State) (vs : List Tree) (full : State) : Type 0 where
  fed : State
  put : put_inputs P cells 0 vs s.heap [] ≡ ok fed
  updated : update_nodes P (record { cells = cells; slots = slots; calls = calls }) s.roots (order P) fed.heap (fed.roots ++ drop (length P.inputs) s.roots) ≡ ok full

stepped : (P : File) (cells slots calls : ℕ) (s : State) (vs : List Tree) (full : State) → fed_and_updated P cells slots calls s vs ≡ ok full → Stepped P cells slots calls s vs full
unfolding bind
stepped P cells slots calls s vs full e = by (put_inputs P cells 0 vs s.heap []) refl e
  where
    on : State → Result State
    on q = update_nodes P (record { cells = cells; slots = slots; calls = calls }) s.roots (order P) q.heap (q.roots ++ drop (length P.inputs) s.roots)

    by : (o : Result State) → put_inputs P cells 0 vs s.heap [] ≡ o → bind o on ≡ ok full → Stepped P cells slots calls s vs full
    by (ok q) p e = record { fed = q; put = p; updated = e }
    by (no n frame) p e = absurd (let z : ◌≡◌ {A = ℕ} 0 1 = cc in omega arith)

-- ---- what the answer says
record IsFull (P : File) (words' row' : List ℕ) (top : ℕ) (o : Result State) : Type 0 where
  full : State
  is : o ≡ ok full
  held : Holds words' top full.heap
  writable : All (Writable P) full.heap
  row : RowIs row' full.roots (channel_total P)

is-full : {P : File} {words' row' : List ℕ} {x : Updated} {o : Result State} {top : ℕ} → AgreesNodes P words' row' x o → x ≡ Ok top → IsFull P words' row' top o
is-full {P} {words'} {row'} {x} {o} {top} a d = go (subst (λ z. AgreesNodes P words' row' z o) d a)
  where
    go : {o : Result State} → AgreesNodes P words' row' (Ok top) o → IsFull P words' row' top o
    go (are_updated {s} held writable row) = record { full = s; is = refl; held = held; writable = writable; row = row }

-- a refusal, by the number that the definition gives it
record NotFull (P : File) (e : RefusalIn) (o : Result State) : Type 0 where
  number : ℕ
  is : o ≡ no number (channel_frame P e.channel)
  numbered : Numbered e.refusal number

not_full : {P : File} {words' row' : List ℕ} {x : Updated} {o : Result State} {e : RefusalIn} → AgreesNodes P words' row' x o → x ≡ Err e → NotFull P e o
not_full {P} {words'} {row'} {x} {o} {e} a d = go (subst (λ z. AgreesNodes P words' row' z o) d a)
  where
    go : {o : Result State} → AgreesNodes P words' row' (Err e) o → NotFull P e o
    go (not_updated {m = m} n) = record { number = m; is = refl; numbered = n }

-- a refusal of a valid state and an allowed line is one of 20 to 23
its-number : {e : Refusal} {m : ℕ} → Numbered e m → heap_spent ≤ m → m ≡ number_of e
its-number by_number least = refl

-- ---- words of the header
holds-sets : {used : ℕ} {h : List Cell} (row words : List ℕ) (i : ℕ) → i + length row ≤ header_words → Holds words used h → Holds (sets words i row) used h
holds-sets [] words i le v = v
holds-sets (x ∷ row) words i le v = holds-sets row (set words i x) (suc i) (omega arith) (holds-header i x (omega arith) v)

module _ (words row : List ℕ) (room : 1 + length row ≤ length words) where
  parts : sets words 1 row ≡ (take 1 words ++ row) ++ drop (1 + length row) words
  parts = sets-eq row words 1 room

  one-long : length (take 1 words) ≡ 1
  one-long = length-take-le 1 words (omega arith)

  front_long : length (take 1 words ++ row) ≡ 1 + length row
  front_long = length-append (take 1 words) row ∙ omega (arith, one-long)

  row-there : (k : ℕ) → k < length row → get_or (sets words 1 row) (1 + k) 0 ≡ get_or row k 0
  row-there k less =
      let place : 1 + k ≡ length (take 1 words) + k = omega (arith, one-long) in
      ap (λ (z : List ℕ). get_or z (1 + k) 0) parts ∙ get_or-append (take 1 words ++ row) (drop (1 + length row) words) 0 (1 + k) (omega (arith, front_long)) ∙
      ap (λ j. get_or (take 1 words ++ row) j 0) place ∙ get_or-append-add (take 1 words) row k 0

  row-behind : (n : ℕ) → 1 + length row ≤ n → drop n (sets words 1 row) ≡ drop n words
  row-behind n le = drop_more (1 + length row) n (sets words 1 row) words le (ap (drop (1 + length row)) parts ∙ drop_at (take 1 words ++ row) (drop (1 + length row) words) (1 + length row) front_long)

-- ---- zeros
zero-later : (k : ℕ) (l : List ℕ) → all_zero l ≡ true → all_zero (drop k l) ≡ true
unfolding all_zero
zero-later zero l e = e
zero-later (suc k) [] e = e
zero-later (suc k) (x ∷ l) e = zero-later k l (both_right (eqb x 0) (all_zero l) e)

-- ---- a refusal, and the slide
module _ (text index ends readings line : List ℕ) (cells calls : ℕ) (words scratch slots : List ℕ) (b : Begun index words cells) {row row₁ words₁ slots₁ : List ℕ} {x : Updated} (taken : ChannelsTaken words row) (f : FeedsAndUpdates text index ends readings line cells calls row words slots x row₁ words₁ slots₁) where
  module _ {P : File} {s : State} {vs : List Tree} (g : Given text index ends readings line cells words P s vs) where
    held : HoldsState cells words s
    held = loaded-held g.indexed.within (omega (arith, b.board)) g.loaded

    -- above the cells used all is zero
    clear : all_zero (drop (state_length (used_in words)) words) ≡ true
    clear =
        let long : length (drop (state_length (used_in words)) words) ≡ cell_words * (cells - used_in words) = length-drop (state_length (used_in words)) words ∙ omega (arith, b.board, b.used) in
        ap all_zero (sym (take-length (drop (state_length (used_in words)) words)) ∙ ap (λ n. take n (drop (state_length (used_in words)) words)) long) ∙
        ap (λ n. all_zero (take (cell_words * (cells - n)) (drop (state_length n) words))) held.used ∙ held.beyond

  nothing-behind : (words₂ : List ℕ) → length words₂ ≡ length words → drop (state_length cells) words₂ ≡ []
  nothing-behind words₂ long = ap (λ n. drop n words₂) (sym b.board ∙ sym long) ∙ drop-length words₂

  module _ {e : RefusalIn} (d : x ≡ Err e) {P : File} {s : State} {vs : List Tree} (g : Given text index ends readings line cells words P s vs) where
    refused : NotFull P e (fed_and_updated P cells (length slots) calls s vs)
    refused = not_full (f.says g taken) d

    stops : iterate_state P (board_lent cells slots calls) s vs ≡ no refused.number (channel_frame P e.channel)
    unfolding bind
    stops = whole_is P cells (length slots) calls s vs ∙ ap (λ (o : Result State). bind o (λ r. ok (slide r))) refused.is

    fit : trees_fit P vs (input_types P) ≡ true
    fit = (line-forth-exact P line vs g.allowed).1

    named : refused.number ≡ number_of e.refusal
    named =
        let met = (refused-iff-rules g.plain (board_lent cells slots calls) (state-loaded g.indexed.within g.loaded).typed vs fit refused.number (channel_frame P e.channel)).0 stops in
        its-number refused.numbered (iteration-numbered vs (omega (arith, inputs-count P vs fit)) met).least

  pub iterates-refused : {used : ℕ} {e : RefusalIn} {words₂ : List ℕ} → used ≡ used_in words → x ≡ Err e → words₂ ≡ cleared words₁ used cells → IteratesState text index ends readings line cells calls words scratch slots x words₂ scratch slots₁
  iterates-refused {used} {e} {words₂} u d w =
      subst (λ r. IteratesState text index ends readings line cells calls words scratch slots r words₂ scratch slots₁) (sym d) (record {
        says = λ {P} {s} {vs} g zero. rw (stops d g ∙ ap (λ m. no m (channel_frame P e.channel)) (named d g)) (is_refused (w ∙ cleared-restores words words₁ used cells (omega (arith, u, b.used)) (omega (arith, b.board))
            (ap (λ m. all_zero (take (cell_words * (cells - m)) (drop (state_length m) words))) (u ∙ (held g).used) ∙ (held g).beyond)
            (ap (λ m. take (state_length m) words₁) u ∙ f.kept.low ∙ ap (λ m. take (state_length m) words) (sym u))
            (nothing-behind words₁ f.kept.long ∙ sym (nothing-behind words refl))));
        clean = λ e. refl;
        long = f.long;
      })

  module _ {top : ℕ} (d : x ≡ Ok top) where
    pub full-moved : Moved words (used_in words) words₁ top
    full-moved = moved_by f.kept (ap as_value d)

    pub top_within : top ≤ cells
    top_within = omega (arith, full-moved.fits, b.board)

    module _ {counts : Counts} {words₂ : List ℕ} (told : counts ≡ counts_in index) (put : ChannelsPut row₁ (counts.inputs + counts.nodes) words₁ words₂) where
      abbrev n : ℕ
      n = counts.inputs + counts.nodes

      all : n ≡ (counts_in index).inputs + (counts_in index).nodes
      all = ap (λ (z : Counts). z.inputs + z.nodes) told

      abbrev standing : List ℕ
      standing = row_of (λ k. get_or row₁ k 0) n

      standing-long : length standing ≡ n
      standing-long = row-length (λ k. get_or row₁ k 0) n

      room : 1 + length standing ≤ length words₁
      room = omega (arith, standing-long, all, b.few.few, b.board, full-moved.long)

      all-long : length words₂ ≡ length words
      all-long = put-long put ∙ full-moved.long

      pub collects-there : {m : ℕ} → cells ≤ m → (n ≤ channels_most) × ((state_length top ≤ length words₂) × (top ≤ m))
      collects-there enough = (omega (arith, all, b.few.few), (omega (arith, all-long, full-moved.fits), omega (arith, top_within, enough)))

      behind : (m : ℕ) → 1 + n ≤ m → drop m words₂ ≡ drop m words₁
      behind m le = ap (drop m) put.is ∙ row-behind words₁ standing room m (omega (arith, standing-long))

      module _ {P : File} {s : State} {vs : List Tree} (g : Given text index ends readings line cells words P s vs) where
        last : IsFull P words₁ row₁ top (fed_and_updated P cells (length slots) calls s vs)
        last = is-full (f.says g taken) d

        counted : n ≡ channel_total P
        counted = all ∙ omega (arith, g.indexed.counted.input_count, g.indexed.counted.node_count)

        roots-are : row_of (channel_at words₂) n ≡ last.full.roots
        roots-are = ext_get_or 0 (row_of (channel_at words₂) n) last.full.roots (row-length (channel_at words₂) n ∙ counted ∙ sym last.row.long) (λ k less.
            let small : k < n = omega (arith, less, row-length (channel_at words₂) n) in
            row_at (channel_at words₂) n k small ∙ ap (λ (z : List ℕ). get_or z (1 + k) 0) put.is ∙ row-there words₁ standing room k (omega (arith, small, standing-long)) ∙ row_at (λ j. get_or row₁ j 0) n k small ∙
            last.row.each k (omega (arith, small, counted)))

        linked : Linked last.full
        linked = let z = stepped P cells (length slots) calls s vs last.full last.is in full-linked g.indexed.within g.plain (board_lent cells slots calls) (state-loaded g.indexed.within g.loaded).typed vs (line-forth-exact P line vs g.allowed).1 z.fed last.full z.put z.updated

        header : take channels_most (drop 1 words₁) ≡ take channels_most (drop 1 words)
        header = sym (drop_of_take 1 channels_most words₁) ∙ ap (drop 1) (take-fewer header_words (state_length (used_in words)) words₁ words (omega arith) full-moved.low) ∙ drop_of_take 1 channels_most words

        unused : all_zero (drop n (take channels_most (drop 1 words₂))) ≡ true
        unused =
            let few : n ≤ channels_most = omega (arith, all, b.few.few) in
            let as-roots : n ≡ length s.roots = counted ∙ sym (env-length (state-loaded g.indexed.within g.loaded).typed.holds.channels ∙ channel-count P) in
            sym (channels-tested words₂ n few) ∙ ap (λ z. all_zero (take (header_words - (1 + n)) z)) (behind (1 + n) (le_refl (1 + n))) ∙ channels-tested words₁ n few ∙ ap (λ z. all_zero (drop n z)) (header ∙ (held g).channels) ∙
            ap (λ m. all_zero (drop m (padded channels_most s.roots))) as-roots ∙ padded-rest channels_most s.roots (omega (arith, few, as-roots))

        beyond : all_zero (take (cell_words * (cells - top)) (drop (state_length top) words₂)) ≡ true
        beyond =
            let more = full-moved.more in
            let k : ℕ = cell_words * (top - used_in words) in
            let place : state_length (used_in words) + k ≡ state_length top = omega (arith, more) in
            let same : drop (state_length top) words₂ ≡ drop (state_length top) words = behind (state_length top) (omega (arith, all, b.few.few)) ∙ full-moved.high in
            let long : length (drop (state_length top) words) ≤ cell_words * (cells - top) = omega (arith, length-drop (state_length top) words, b.board, top_within) in
            ap (λ z. all_zero (take (cell_words * (cells - top)) z)) same ∙ ap all_zero (take_all (cell_words * (cells - top)) (drop (state_length top) words) long) ∙
            ap all_zero (sym (drop-drop k (state_length (used_in words)) words ∙ ap (λ m. drop m words) place)) ∙ zero-later k (drop (state_length (used_in words)) words) (clear g)

        unslid : Unslid index words₂ n top cells last.full.heap
        unslid = record {
          text = text;
          file = P;
          indexed = g.indexed;
          holds = subst (λ z. Holds z top last.full.heap) (sym put.is) (holds-sets standing words₁ 1 (omega (arith, standing-long, all, b.few.few)) last.held);
          writable = last.writable;
          linked = subst (λ (rs : List ℕ). Linked (record { heap = last.full.heap; roots = rs })) (sym roots-are) linked;
          room = top_within;
          lent = omega (arith, all-long, b.board);
          unused = unused;
          beyond = beyond;
        }

      pub iterates-done : {words₃ scratch₃ : List ℕ} → Collects index n top words₂ scratch words₃ scratch₃ → IteratesState text index ends readings line cells calls words scratch slots (Ok top) words₃ scratch₃ slots₁
      unfolding bind written
      iterates-done {words₃} {scratch₃} c = record {
        says = λ {P} {s} {vs} g zero. rw (whole_is P cells (length slots) calls s vs, (last g).is) (is_done (c.says cells (last g).full.heap (unslid g) zero ∙
            ap (λ (rs : List ℕ). written cells (slide (record { heap = (last g).full.heap; roots = rs })) words₂) (roots-are g) ∙
            ap (λ (z : List ℕ). state_words cells (slide (last g).full) ++ z) (nothing-behind words₂ all-long ∙ sym (nothing-behind words refl))));
        clean = c.none;
        long = f.long;
      }
