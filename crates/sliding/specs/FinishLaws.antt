-- After the sweep: the cells above are cleared, the channels renumbered, the number of cells written. The words are those of the state
-- slid.
use Rattle.std.specs.Prelude.{ℕ, zero, suc, ◌+◌, ◌-◌, ◌*◌, ◌≤◌, ◌<◌, List, [], ◌∷◌, ◌++◌, map, true, ◌≡◌, refl, length, take, drop, set, replicate}
use Rattle.std.proofs.Common.{sym, ◌∙◌, subst, zero-add, add-one, arith, length-append, length-drop, take-append-drop, length-take-le, take_at, drop_at, drop-drop, take-take, get_or-take, get_or-set_other}
use Rattle.std.proofs.Math.Path.{ap}
use Rattle.std.proofs.Math.ListN.{get_or}
use Rattle.std.proofs.lemmas.List.{length-replicate}
use Rattle.std.proofs.lemmas.List.Edits.{sets, sets-eq}
use Rattle.std.proofs.Math.Seq.{take-append-add}
use Rattle.language.specs.Limits.{channels_most, header_words, cell_words}
use Rattle.language.specs.Heap.{Cell, cell_at}
use Rattle.language.specs.Slide.{State, reached, slide}
use Rattle.language.specs.Layout.{padded, state_length, all_zero}
use Rattle.language.specs.Machine.{written}
use Rattle.theory.specs.Lists.{take-fewer, drop_more, sets-append}
use Rattle.theory.specs.Padding.{zeros-zero, zero-joined, filled-up}
use Rattle.theory.specs.Alls.{all_both}
use Rattle.theory.specs.Members.{map_same}
use Rattle.theory.specs.Ranks.{members_below}
use Rattle.theory.specs.Reaches.{reached-closed}
use Rattle.theory.specs.Slides.{moved, slide-keeps-reached}
use Rattle.state_words.specs.Words.{used_in, channel_at, row_of, cleared}
use Rattle.state_words.specs.RowLaws.{row-length, zeros-taken}
use Rattle.state_words.specs.WriteLaws.{drop_of_take}
use Rattle.state_words.specs.Holds.{Holds}
use Rattle.state_words.specs.HoldLaws.{holds_kept}
use Rattle.state_words.specs.StateLaws.{held-written}
use Rattle.marking.specs.Marks.{Marking, MarksReached}
use Rattle.sliding.specs.Sliding.{Slid, Sweeps, Unslid, KeepsReached, Collects}
use Rattle.sliding.specs.SweepLaws.{row-mapped}

-- ---- the channels renumbered one by one
sets-beyond : (vs l : List ℕ) (i k : ℕ) → i + length vs ≤ k → get_or (sets l i vs) k 0 ≡ get_or l k 0
sets-beyond [] l i k le = refl
sets-beyond (v ∷ vs) l i k le = sets-beyond vs (set l i v) (suc i) k (omega arith) ∙ get_or-set_other l i k v 0 (λ e. omega arith)

abbrev numbers_of : List ℕ → List ℕ → ℕ → List ℕ
numbers_of words marks n = row_of (λ c. get_or marks (channel_at words c) 0) n

pub record Renumbered (words₀ marks : List ℕ) (c : ℕ) (words : List ℕ) : Type 0 where
  pub is : words ≡ sets words₀ 1 (numbers_of words₀ marks c)

pub renumbered-start : (words marks : List ℕ) → Renumbered words marks 0 words
unfolding row_of
renumbered-start words marks = record { is = refl }

pub renumbered-on : {words₀ marks words words' : List ℕ} {c l number : ℕ} → Renumbered words₀ marks c words → l ≡ channel_at words c → number ≡ get_or marks l 0 → words' ≡ set words (1 + c) number → Renumbered words₀ marks (c + 1) words'
unfolding row_of
renumbered-on {words₀} {marks} {words} {words'} {c} {l} {number} v p q e =
    let row = numbers_of words₀ marks c in
    let long : length row ≡ c = row-length (λ i. get_or marks (channel_at words₀ i) 0) c in
    let old : l ≡ channel_at words₀ c = p ∙ ap (λ (x : List ℕ). channel_at x c) v.is ∙ sets-beyond row words₀ 1 (1 + c) (omega arith) in
    let number_is : number ≡ get_or marks (channel_at words₀ c) 0 = q ∙ ap (λ i. get_or marks i 0) old in
    record { is = e ∙ rw (v.is, number_is, add-one) (ap (λ i. set (sets words₀ 1 row) (1 + i) (get_or marks (channel_at words₀ c) 0)) (sym long) ∙ sym (sets-append row (get_or marks (channel_at words₀ c) 0 ∷ []) words₀ 1)) }

-- ---- the header written
sets_behind : (row : List ℕ) (w i : ℕ) (ws : List ℕ) → sets (w ∷ ws) (suc i) row ≡ w ∷ sets ws i row
sets_behind [] w i ws = refl
sets_behind (v ∷ row) w i ws = sets_behind row w (suc i) (set ws i v)

header-set : (l row : List ℕ) (k n : ℕ) → length row ≡ n → 1 + n ≤ length l → set (sets l 1 row) 0 k ≡ (k ∷ row) ++ drop (1 + n) l
header-set [] row k n long room = absurd (omega arith)
header-set (w ∷ ws) row k n long room =
    let one : 1 + n ≡ suc n = omega arith in
    rw one (ap (λ (x : List ℕ). set x 0 k) (sets_behind row w 0 ws) ∙ ap (λ (x : List ℕ). k ∷ x) (sets-eq row ws 0 (omega arith) ∙ ap (λ i. row ++ drop i ws) (zero-add (length row) ∙ long)))

unused-words : (n : ℕ) (l : List ℕ) → drop n (take channels_most (drop 1 l)) ≡ drop (1 + n) (take header_words l)
unused-words n l = ap (drop n) (sym (drop_of_take 1 channels_most l)) ∙ drop-drop n 1 (take header_words l)

row_same : (f g : ℕ → ℕ) (n : ℕ) → ((j : ℕ) → j < n → f j ≡ g j) → row_of f n ≡ row_of g n
unfolding row_of
row_same f g zero same = refl
row_same f g (suc n) same = rw (row_same f g n (λ j less. same j (omega arith)), same n (omega arith))

same-below : (n i : ℕ) (l k : List ℕ) → i < n → take n l ≡ take n k → get_or l i 0 ≡ get_or k i 0
same-below n i l k less e = sym (get_or-take n l i 0 less) ∙ ap (λ (x : List ℕ). get_or x i 0) e ∙ get_or-take n k i 0 less

-- ---- all together
module _ {index words marks marks₁ words₁ marks₂ words₂ words₃ words₄ : List ℕ} {channels used kept : ℕ} (few : channels ≤ channels_most) (room : state_length used ≤ length words)
    (mk : MarksReached index words channels used marks marks₁) (sw : Sweeps index words marks₁ used used kept words₁ marks₂) (cl : words₂ ≡ cleared words₁ kept used)
    (rn : words₃ ≡ sets words₂ 1 (numbers_of words₂ marks₂ channels)) (pu : words₄ ≡ set words₃ 0 kept) where
  -- the cells cleared
  wide₁ : length words₁ ≡ length words
  wide₁ = sw.wide

  low_part : length (take (state_length kept) words₁) ≡ state_length kept
  low_part = length-take-le (state_length kept) words₁ (omega (arith, sw.low, wide₁))

  zeros-long : length (replicate {A = ℕ} (cell_words * (used - kept)) 0) ≡ cell_words * (used - kept)
  zeros-long = length-replicate (cell_words * (used - kept)) 0

  below-kept : take (state_length kept) words₂ ≡ take (state_length kept) words₁
  below-kept = ap (take (state_length kept)) cl ∙ take_at (take (state_length kept) words₁) (replicate (cell_words * (used - kept)) 0 ++ drop (state_length used) words₁) (state_length kept) low_part

  from-kept : drop (state_length kept) words₂ ≡ replicate (cell_words * (used - kept)) 0 ++ drop (state_length used) words₁
  from-kept = ap (drop (state_length kept)) cl ∙ drop_at (take (state_length kept) words₁) (replicate (cell_words * (used - kept)) 0 ++ drop (state_length used) words₁) (state_length kept) low_part

  wide₂ : length words₂ ≡ length words
  wide₂ = ap length cl ∙ length-append (take (state_length kept) words₁) (replicate (cell_words * (used - kept)) 0 ++ drop (state_length used) words₁)
      ∙ omega (arith, low_part, length-append (replicate {A = ℕ} (cell_words * (used - kept)) 0) (drop (state_length used) words₁), zeros-long, length-drop (state_length used) words₁, sw.low, wide₁, room)

  header₂ : take header_words words₂ ≡ take header_words words
  header₂ = take-fewer header_words (state_length kept) words₂ words₁ (omega arith) below-kept ∙ sw.header

  -- the header written
  abbrev row : List ℕ
  row = numbers_of words₂ marks₂ channels

  row-long : length row ≡ channels
  row-long = row-length (λ c. get_or marks₂ (channel_at words₂ c) 0) channels

  parts : words₄ ≡ (kept ∷ row) ++ drop (1 + channels) words₂
  parts = pu ∙ ap (λ (x : List ℕ). set x 0 kept) rn ∙ header-set words₂ row kept channels row-long (omega (arith, wide₂, room, few))

  wide₄ : length words₄ ≡ length words
  wide₄ = ap length parts ∙ omega (arith, length-append (kept ∷ row) (drop (1 + channels) words₂), row-long, length-drop (1 + channels) words₂, wide₂, room, few)

  behind : drop (1 + channels) words₄ ≡ drop (1 + channels) words₂
  behind = ap (drop (1 + channels)) parts ∙ drop_at (kept ∷ row) (drop (1 + channels) words₂) (1 + channels) (omega (arith, row-long))

  cells₄ : drop header_words words₄ ≡ drop header_words words₂
  cells₄ = drop_more (1 + channels) header_words words₄ words₂ (omega (arith, few)) behind

  first-channels : take channels (drop 1 words₄) ≡ row
  first-channels = ap (λ (x : List ℕ). take channels (drop 1 x)) parts ∙ take_at row (drop (1 + channels) words₂) channels row-long

  unused₄ : drop (1 + channels) (take header_words words₄) ≡ drop (1 + channels) (take header_words words)
  unused₄ =
      let n = channels_most - channels in
      let all : header_words ≡ 1 + channels + n = omega (arith, few) in
      ap (λ k. drop (1 + channels) (take k words₄)) all ∙ drop_of_take (1 + channels) n words₄ ∙ ap (take n) behind ∙ sym (drop_of_take (1 + channels) n words₂) ∙ ap (λ k. drop (1 + channels) (take k words₂)) (sym all)
      ∙ ap (drop (1 + channels)) header₂

  from-used : drop (state_length used) words₄ ≡ drop (state_length used) words
  from-used =
      let place : state_length kept + cell_words * (used - kept) ≡ state_length used = omega (arith, sw.low) in
      drop_more header_words (state_length used) words₄ words₂ (omega arith) cells₄
      ∙ ap (λ n. drop n words₂) (sym place) ∙ sym (drop-drop (cell_words * (used - kept)) (state_length kept) words₂) ∙ ap (drop (cell_words * (used - kept))) from-kept
      ∙ drop_at (replicate (cell_words * (used - kept)) 0) (drop (state_length used) words₁) (cell_words * (used - kept)) zeros-long ∙ sw.high

  module _ (cells : ℕ) (h : List Cell) (u : Unslid index words channels used cells h) (none : marks ≡ replicate used 0) where
    abbrev s : State
    s = record { heap = h; roots = row_of (channel_at words) channels }

    marking : Marking index words used marks h
    marking = record { text = u.text; file = u.file; indexed = u.indexed; holds = u.holds; writable = u.writable; each = ap length none ∙ length-replicate used 0 }

    slid : Slid s used kept words₁ marks₂
    slid = sw.says s (record { text = u.text; file = u.file; indexed = u.indexed; holds = u.holds; writable = u.writable; each = mk.long ∙ marking.each }) u.linked.lower (mk.says h marking none)

    heap₁ : Holds words₁ kept (slide s).heap
    heap₁ = rw (slide-keeps-reached s) (subst (λ n. Holds words₁ kept (map (λ l. moved s (cell_at h l)) (members_below (reached s) n))) u.holds.count slid.holds)

    heap₄ : Holds words₄ kept (slide s).heap
    heap₄ =
        let h₂ = holds_kept heap₁ (wide₂ ∙ sym wide₁) below-kept in
        record {
          count = h₂.count;
          room = omega (arith, h₂.room, wide₂, wide₄);
          is = drop_of_take header_words (cell_words * kept) words₄ ∙ ap (take (cell_words * kept)) cells₄ ∙ sym (drop_of_take header_words (cell_words * kept) words₂) ∙ h₂.is;
        }

    roots-are : row ≡ (slide s).roots
    unfolding slide
    roots-are =
        row_same (λ c. get_or marks₂ (channel_at words₂ c) 0) (λ c. get_or marks₂ (channel_at words c) 0) channels (λ c less. ap (λ l. get_or marks₂ l 0) (same-below header_words (1 + c) words₂ words (omega (arith, few)) header₂))
        ∙ row-mapped (λ l. get_or marks₂ l 0) (channel_at words) channels
        ∙ map_same s.roots (all_both (λ l less r. slid.numbers l (omega (arith, less, u.holds.count)) r) u.linked.roots (reached-closed s u.linked.lower).roots)

    channels-are : take channels_most (drop 1 words₄) ≡ padded channels_most (slide s).roots
    channels-are =
        let all = take channels_most (drop 1 words₄) in
        let long : length all ≡ channels_most = length-take-le channels_most (drop 1 words₄) (omega (arith, length-drop 1 words₄, wide₄, room)) in
        let clear : all_zero (drop channels all) ≡ true = ap all_zero (unused-words channels words₄ ∙ unused₄ ∙ sym (unused-words channels words)) ∙ u.unused in
        sym (filled-up channels_most channels all long clear) ∙ ap (padded channels_most) (take-take channels channels_most (drop 1 words₄) few ∙ first-channels ∙ roots-are)

    beyond-kept : all_zero (take (cell_words * (cells - kept)) (drop (state_length kept) words₄)) ≡ true
    beyond-kept =
        let zeros : List ℕ = replicate (cell_words * (used - kept)) 0 in
        let count : cell_words * (cells - kept) ≡ length zeros + cell_words * (cells - used) = omega (arith, zeros-long, sw.low, u.room) in
        rw (drop_more header_words (state_length kept) words₄ words₂ (omega arith) cells₄, from-kept, sw.high, count, take-append-add zeros (drop (state_length used) words) (cell_words * (cells - used)))
        (zero-joined zeros (take (cell_words * (cells - used)) (drop (state_length used) words)) (zeros-zero (cell_words * (used - kept))) u.beyond)

    state-slid : words₄ ≡ written cells (slide s) words
    state-slid =
        let k = heap₄.count in
        held-written words₄ words (record {
          heap = subst (λ n. Holds words₄ n (slide s).heap) k heap₄;
          used = ap used_in parts ∙ k;
          channels = channels-are;
          room = omega (arith, k, sw.low, u.room);
          lent = omega (arith, u.lent, wide₄);
          beyond = subst (λ n. all_zero (take (cell_words * (cells - n)) (drop (state_length n) words₄)) ≡ true) k beyond-kept;
        }) (drop_more (state_length used) (state_length cells) words₄ words (omega (arith, u.room)) from-used)

  pub reached-kept : {marks₃ : List ℕ} → marks₃ ≡ replicate (length marks₂) 0 → KeepsReached index channels used words marks words₄ marks₃
  reached-kept e = record { none = e ∙ ap (λ n. replicate n 0) (sw.long ∙ mk.long); says = state-slid }

-- ---- with the scratch of which the marks are a part
pub collected : {index words scratch words' part : List ℕ} {channels used : ℕ} → used ≤ length scratch → KeepsReached index channels used words (take used scratch) words' part → Collects index channels used words scratch words' (part ++ drop used scratch)
collected {index} {words} {scratch} {words'} {part} {channels} {used} le k =
    let start : scratch ≡ replicate (length scratch) 0 → take used scratch ≡ replicate used 0 = λ z. ap (take used) z ∙ zeros-taken used (length scratch) le in
    let size : length (take used scratch) ≡ used = length-take-le used scratch le in
    record {
      none = λ z. ap (λ (x : List ℕ). x ++ drop used scratch) (k.none ∙ ap (λ n. replicate n 0) size ∙ sym (start z)) ∙ take-append-drop used scratch;
      says = λ cells h u z. k.says cells h u (start z);
    }
