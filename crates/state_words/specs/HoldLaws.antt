-- Laws of words that hold a heap, for whoever evaluates over them.
--   tag-held, value-held, field-held   the words of a cell of the heap
--   bool-written, int-written, con-written   what the functions that write a cell leave: the words of that cell of the heap
--   holds_pushed                       a cell written above the used ones is the next of the heap
--   written_below, written-above, written-long   what that leaves as it was
--   holds_kept, holds-header, holds-fewer   the heap is held as long as its words stay, whatever the header; its first cells alone
--   channel-held                       the cell of a channel
--   cleared-restores                   the words from before, once the new cells are cleared again
use Rattle.std.specs.Prelude.{ℕ, zero, suc, ◌+◌, ◌-◌, ◌*◌, ◌≤◌, ◌<◌, List, [], ◌∷◌, ◌++◌, Bool, true, false, ◌≡◌, refl, length, take, drop, set, replicate}
use Rattle.std.proofs.Common.{append-nil, append_assoc, sym, ◌∙◌, add-zero, arith, length-append, length-drop, length-set, take-append-drop, drop-set-lt, length-take-le, take_at, drop_at, take-take, drop-drop, get_or-drop, get_or-take}
use Rattle.std.proofs.Math.Path.{ap}
use Rattle.std.proofs.Math.ListN.{get_or}
use Rattle.std.proofs.lemmas.List.Edits.{sets, sets-eq}
use Rattle.std.proofs.Math.Seq.{length-sets, take-nil, take-append-add}
use Rattle.std.proofs.lemmas.List.{drop-append-le}
use Rattle.language.specs.Limits.{fields_most, channels_most, header_words, cell_words}
use Rattle.language.specs.Format.{bit, spell_all}
use Rattle.language.specs.Heap.{kbool, kint, Cell, leaf, con, cell_at, fields_in}
use Rattle.language.specs.Layout.{bool_tag, int_tag, tag_step, padded, cell_tag, cell_value, words_of, state_length, all_zero}
use Rattle.theory.specs.Padding.{zero-is-zeros}
use Rattle.theory.specs.HeapWords.{heap-words-length}
use Rattle.index.specs.Padded.{padded-at}
use Rattle.index.specs.Entries.{spell-at, spell-more}
use Rattle.state_words.specs.Words.{channel_at, tag_at, value_at, field_at, cleared}
use Rattle.state_words.specs.Holds.{Holds, Written}
use Rattle.state_words.specs.WriteLaws.{drop_of_take}

-- ---- a cell's words, whatever the number of fields
pub cell-wide : (c : Cell) → length (words_of c) ≡ cell_words
unfolding spell_all
cell-wide c = ap length (sym (append-nil (words_of c))) ∙ heap-words-length (c ∷ [])

cell_field : (c : Cell) (j : ℕ) → j < fields_most → get_or (words_of c) (2 + j) 0 ≡ get_or (fields_in c) j 0
unfolding words_of
cell_field c j less = let on : 2 + j ≡ suc (suc j) = omega arith in rw on (padded-at fields_most (fields_in c) j less)

-- ---- the words of a cell of the heap
module _ {words : List ℕ} {used : ℕ} {h : List Cell} (v : Holds words used h) (l : ℕ) (less : l < used) where
  pub word_held : (k : ℕ) → k < cell_words → get_or words (state_length l + k) 0 ≡ get_or (words_of (cell_at h l)) k 0
  word_held k wide =
      let place : state_length l + k ≡ header_words + (cell_words * l + k) = omega arith in
      rw place (sym (get_or-take (state_length used) words (header_words + (cell_words * l + k)) 0 (omega arith)) ∙ sym (get_or-drop header_words (take (state_length used) words) (cell_words * l + k) 0)
      ∙ ap (λ (x : List ℕ). get_or x (cell_words * l + k) 0) v.is ∙ spell-at cell_words words_of cell-wide h l k (leaf (kbool false)) (omega (arith, v.count)) wide)

  pub tag-held : tag_at words l ≡ cell_tag (cell_at h l)
  unfolding words_of
  tag-held = ap (λ i. get_or words i 0) (sym (add-zero (state_length l))) ∙ word_held 0 (omega arith)

  pub value-held : value_at words l ≡ cell_value (cell_at h l)
  unfolding words_of
  value-held = word_held 1 (omega arith)

  pub field-held : (j : ℕ) → j < fields_most → field_at words l j ≡ get_or (fields_in (cell_at h l)) j 0
  field-held j few =
      let place : state_length l + 2 + j ≡ state_length l + (2 + j) = omega arith in
      ap (λ i. get_or words i 0) place ∙ word_held (2 + j) (omega arith) ∙ cell_field (cell_at h l) j few

-- ---- the words of a cell written
module _ {words words' row : List ℕ} {cell : ℕ} (p : Written words cell row words') where
  pub written-long : length words' ≡ length words
  written-long = ap length p.is ∙ length-sets words (state_length cell) row

  written-parts : words' ≡ (take (state_length cell) words ++ row) ++ drop (state_length (cell + 1)) words
  written-parts =
      let place : state_length cell + length row ≡ state_length (cell + 1) = omega (arith, p.wide) in
      p.is ∙ sets-eq row words (state_length cell) (omega (arith, p.room, p.wide)) ∙ ap (λ n. (take (state_length cell) words ++ row) ++ drop n words) place

  front : length (take (state_length cell) words) ≡ state_length cell
  front = length-take-le (state_length cell) words (omega (arith, p.room))

  front-and-row : length (take (state_length cell) words ++ row) ≡ state_length (cell + 1)
  front-and-row = omega (arith, length-append (take (state_length cell) words) row, front, p.wide)

  -- the header and the cells below it, and the words above it, are as they were
  pub written_below : take (state_length cell) words' ≡ take (state_length cell) words
  written_below = ap (take (state_length cell)) (written-parts ∙ append_assoc (take (state_length cell) words) row (drop (state_length (cell + 1)) words))
      ∙ take_at (take (state_length cell) words) (row ++ drop (state_length (cell + 1)) words) (state_length cell) front

  pub written-above : drop (state_length (cell + 1)) words' ≡ drop (state_length (cell + 1)) words
  written-above = ap (drop (state_length (cell + 1))) written-parts ∙ drop_at (take (state_length cell) words ++ row) (drop (state_length (cell + 1)) words) (state_length (cell + 1)) front-and-row

  written-cells : take (state_length (cell + 1)) words' ≡ take (state_length cell) words ++ row
  written-cells = ap (take (state_length (cell + 1))) written-parts ∙ take_at (take (state_length cell) words ++ row) (drop (state_length (cell + 1)) words) (state_length (cell + 1)) front-and-row

-- ---- above the used ones it is the next of the heap
pub holds_pushed : {words words' : List ℕ} {used : ℕ} {h : List Cell} (c : Cell) → Holds words used h → Written words used (words_of c) words' → Holds words' (used + 1) (h ++ (c ∷ []))
holds_pushed {words} {words'} {used} {h} c v p = record {
  count = omega (arith, length-append h (c ∷ []), v.count);
  room = omega (arith, written-long p, p.room);
  is = ap (drop header_words) (written-cells p) ∙ drop-append-le header_words (take (state_length used) words) (words_of c) (omega (arith, front p))
      ∙ ap (λ (x : List ℕ). x ++ words_of c) v.is ∙ sym (spell-more words_of h c);
}

-- what put_leaf and put_constructor write, where the cell is a Bool, an Int, a constructor with its fields
pub bool-written : {words words' : List ℕ} {cell value : ℕ} (b : Bool) → value ≡ bit b → state_length (cell + 1) ≤ length words → words' ≡ sets words (state_length cell) (bool_tag ∷ value ∷ padded fields_most []) → Written words cell (words_of (leaf (kbool b))) words'
unfolding words_of cell_tag cell_value fields_in
bool-written {words} {words'} {cell} {value} b q room e = record { wide = cell-wide (leaf (kbool b)); room = room; is = e ∙ ap (λ v. sets words (state_length cell) (bool_tag ∷ v ∷ padded fields_most [])) q }

pub int-written : {words words' : List ℕ} {cell : ℕ} (n : ℕ) → state_length (cell + 1) ≤ length words → words' ≡ sets words (state_length cell) (int_tag ∷ n ∷ padded fields_most []) → Written words cell (words_of (leaf (kint n))) words'
unfolding words_of cell_tag cell_value fields_in
int-written n room e = record { wide = cell-wide (leaf (kint n)); room = room; is = e }

pub con-written : {words words' : List ℕ} {cell tag : ℕ} (t c k : ℕ) (ls : List ℕ) → tag ≡ tag_step * (t + 1) + c → state_length (cell + 1) ≤ length words → words' ≡ sets words (state_length cell) (tag ∷ k ∷ padded fields_most ls) → Written words cell (words_of (con t c k ls)) words'
unfolding words_of cell_tag cell_value fields_in
con-written {words} {words'} {cell} {tag} t c k ls q room e = record { wide = cell-wide (con t c k ls); room = room; is = e ∙ ap (λ v. sets words (state_length cell) (v ∷ k ∷ padded fields_most ls)) q }

-- ---- as long as the words stay
pub holds_kept : {words words' : List ℕ} {used : ℕ} {h : List Cell} → Holds words used h → length words' ≡ length words → take (state_length used) words' ≡ take (state_length used) words → Holds words' used h
holds_kept {used} v long same = record { count = v.count; room = omega (arith, v.room); is = ap (drop header_words) same ∙ v.is }

-- a word of the header changes no cell
pub holds-header : {words : List ℕ} {used : ℕ} {h : List Cell} (i v : ℕ) → i < header_words → Holds words used h → Holds (set words i v) used h
holds-header {words} {used} {h} i v less k = record {
  count = k.count;
  room = omega (arith, length-set words i v, k.room);
  is = drop_of_take header_words (cell_words * used) (set words i v) ∙ ap (take (cell_words * used)) (drop-set-lt header_words words i v less) ∙ sym (drop_of_take header_words (cell_words * used) words) ∙ k.is;
}

-- ---- the cell of a channel, where the header has the cells of the channels
pub channel-held : (words roots : List ℕ) → take channels_most (drop 1 words) ≡ padded channels_most roots → (c : ℕ) → c < channels_most → channel_at words c ≡ get_or roots c 0
channel-held words roots e c less =
    sym (get_or-drop 1 words c 0) ∙ sym (get_or-take channels_most (drop 1 words) c 0 less) ∙ ap (λ (x : List ℕ). get_or x c 0) e ∙ padded-at channels_most roots c less

-- ---- its first cells alone
spell-take : (h : List Cell) (i : ℕ) → spell_all words_of (take i h) ≡ take (cell_words * i) (spell_all words_of h)
unfolding spell_all
spell-take h zero = refl
spell-take [] (suc i) = sym (take-nil (cell_words * suc i))
spell-take (c ∷ h) (suc i) =
    let more : cell_words * suc i ≡ length (words_of c) + cell_words * i = omega (arith, cell-wide c) in
    rw more (ap (λ (x : List ℕ). words_of c ++ x) (spell-take h i) ∙ sym (take-append-add (words_of c) (spell_all words_of h) (cell_words * i)))

pub holds-fewer : {words : List ℕ} {used : ℕ} {h : List Cell} → Holds words used h → (i : ℕ) → i ≤ used → Holds words i (take i h)
holds-fewer {words} {used} {h} v i le = record {
  count = sym (length-take-le i h (omega (arith, v.count)));
  room = omega (arith, v.room);
  is = drop_of_take header_words (cell_words * i) words ∙ sym (take-take (cell_words * i) (cell_words * used) (drop header_words words) (omega arith))
      ∙ ap (take (cell_words * i)) (sym (drop_of_take header_words (cell_words * used) words) ∙ v.is) ∙ sym (spell-take h i);
}

-- ---- cells cleared again
-- where only cells from one number up to another were written, and had been zero, clearing them gives the words from before
pub cleared-restores : (words words₁ : List ℕ) (from to : ℕ) → from ≤ to → state_length to ≤ length words → all_zero (take (cell_words * (to - from)) (drop (state_length from) words)) ≡ true →
    take (state_length from) words₁ ≡ take (state_length from) words → drop (state_length to) words₁ ≡ drop (state_length to) words → cleared words₁ from to ≡ words
cleared-restores words words₁ from to le room clear below above =
    let n : ℕ = cell_words * (to - from) in
    let part : List ℕ = take n (drop (state_length from) words) in
    let long : length part ≡ n = length-take-le n (drop (state_length from) words) (omega (arith, length-drop (state_length from) words)) in
    let zeros : replicate n 0 ≡ part = sym (zero-is-zeros part clear ∙ ap (λ m. replicate m 0) long) in
    let place : state_length from + n ≡ state_length to = omega arith in
    rw (below, above, zeros, ← place, ← (drop-drop n (state_length from) words)) (ap (λ (x : List ℕ). take (state_length from) words ++ x) (take-append-drop n (drop (state_length from) words)) ∙ take-append-drop (state_length from) words)
