-- A cell passed: what is kept so far is the definition's.
use Rattle.std.specs.Prelude.{ℕ, zero, suc, ◌+◌, ◌≤◌, ◌<◌, List, [], ◌∷◌, map, false, ◌≡◌, refl, length, get_or, take, set}
use Rattle.std.proofs.lemmas.List.{map-append}
use Rattle.std.proofs.Common.{sym, ap, ◌∙◌, subst, add-one, arith, length-set, drop_of_length-le, length-take-le, get_or-set_same, get_or-set_other}
use Rattle.language.specs.Limits.{fields_most, header_words, cell_words}
use Rattle.language.specs.Format.{spell_all}
use Rattle.language.specs.Heap.{kbool, Cell, leaf, con, cell_at, fields_in}
use Rattle.language.specs.Slide.{State, mem, reached, renumber, renumber_cell}
use Rattle.language.specs.Layout.{padded, cell_tag, cell_value, words_of, state_length}
use Rattle.theory.specs.Lists.{take-fewer, false-is-not-true, drop_more}
use Rattle.theory.specs.Padding.{padded-length}
use Rattle.theory.specs.Places.{below-or-last, look_at}
use Rattle.theory.specs.Alls.{all_map}
use Rattle.theory.specs.Members.{map_same}
use Rattle.theory.specs.Ranks.{members_below, member-next, no-member-next, rank-member}
use Rattle.theory.specs.Reaches.{Reached, NamesLower}
use Rattle.theory.specs.Slides.{new_numbers, new_number, moved, new-number, reached-fields}
use Rattle.index.specs.Sections.{types_of}
use Rattle.state_words.specs.Words.{tag_at, value_at, field_at, row_of, field_count}
use Rattle.state_words.specs.Holds.{Written}
use Rattle.state_words.specs.HoldLaws.{tag-held, value-held, written-long, written_below, written-above, holds_pushed}
use Rattle.state_words.specs.ReadLaws.{fields-held}
use Rattle.marking.specs.Marks.{Marks, Marking}
use Rattle.marking.specs.MarkLaws.{not-marked, marked}
use Rattle.sliding.specs.Sliding.{moved_words, Moved, stays_out, moves_down, Slid, Sweeps}
use Rattle.sliding.specs.SlideLaws.{same_from}

-- ---- the words of a cell that is renumbered
renumbered-words : (ns : List ℕ) (c : Cell) → words_of (renumber_cell ns c) ≡ cell_tag c ∷ cell_value c ∷ padded fields_most (map (renumber ns) (fields_in c))
unfolding renumber_cell words_of cell_tag cell_value fields_in
renumbered-words ns (leaf x) = refl
renumbered-words ns (con t c k ls) = refl

pub row-mapped : (g f : ℕ → ℕ) (n : ℕ) → row_of (λ j. g (f j)) n ≡ map g (row_of f n)
unfolding row_of
row-mapped g f zero = refl
row-mapped g f (suc n) = rw (row-mapped g f n) (sym (map-append g (row_of f n) (f n ∷ [])))

-- ---- passing the cells of a state, of which those before i are passed
module _ {index words₀ marks₀ words marks : List ℕ} {used i next : ℕ} (v : Sweeps index words₀ marks₀ used i next words marks) (less : i < used)
    (s : State) (g : Marking index words₀ used marks₀ s.heap) (lower : NamesLower s.heap) (m : Marks marks₀ (reached s)) where
  so_far : Slid s i next words marks
  so_far = v.says s g lower m

  inside : i < length s.heap
  inside = omega (arith, g.holds.count)

  mark-is : get_or marks i 0 ≡ get_or marks₀ i 0
  mark-is = v.above i (omega arith)

  -- not reached
  passed_by : get_or marks i 0 ≡ 0 → Slid s (i + 1) next words marks
  passed_by z =
      let out : mem i (reached s) ≡ false = not-marked (mem i (reached s)) (sym (m.at i (omega (arith, g.each))) ∙ sym mark-is ∙ z) in
      rw add-one (record {
        kept = so_far.kept ∙ ap length (sym (no-member-next (reached s) i out));
        holds = rw (no-member-next (reached s) i out) so_far.holds;
        numbers = λ l low r. below-or-last l i low (λ below. so_far.numbers l below r) (λ last. false-is-not-true (sym out ∙ ap (λ x. mem x (reached s)) (sym last) ∙ r));
      })

  -- reached: its words are those of the cell renumbered
  moved-are : Reached s i → moved_words words marks i (field_count (types_of index) (tag_at words i)) ≡ words_of (moved s (cell_at s.heap i))
  moved-are r =
      let here = cell_at s.heap i in
      let same : (k : ℕ) → get_or words (state_length i + k) 0 ≡ get_or words₀ (state_length i + k) 0 = λ k. same_from (state_length i) (state_length i + k) words words₀ (omega arith) v.high in
      let tag : tag_at words i ≡ tag_at words₀ i = same_from (state_length i) (state_length i) words words₀ (omega arith) v.high in
      let value : value_at words i ≡ value_at words₀ i = same 1 in
      let field : (j : ℕ) → field_at words i j ≡ field_at words₀ i j = λ j. same_from (state_length i) (state_length i + 2 + j) words words₀ (omega arith) v.high in
      let n = field_count (types_of index) (tag_at words₀ i) in
      let fields : row_of (field_at words₀ i) n ≡ fields_in here = fields-held g.indexed g.holds g.writable i less in
      let old : row_of (λ j. get_or marks (field_at words i j) 0) n ≡ row_of (λ j. get_or marks (field_at words₀ i j) 0) n = ap (λ (f : ℕ → ℕ). row_of (λ j. get_or marks (f j) 0) n) (λ k j. field j k) in
      let numbers : map (λ l. get_or marks l 0) (fields_in here) ≡ map (new_number s) (fields_in here) =
      map_same (fields_in here) (all_map (λ l q. so_far.numbers l q.0 q.1) (reached-fields s lower i (look_at s.heap i (leaf (kbool false)) inside) r)) in
      let row : row_of (λ j. get_or marks (field_at words i j) 0) n ≡ map (new_number s) (fields_in here) = old ∙ row-mapped (λ l. get_or marks l 0) (field_at words₀ i) n ∙ ap (map (λ l. get_or marks l 0)) fields ∙ numbers in
      rw (tag, value, row, tag-held g.holds i less, value-held g.holds i less) (sym (renumbered-words (new_numbers s) here))

  moved_down : {words' : List ℕ} → ((get_or marks i 0 ≡ 0) → ⊥) → Written words next (moved_words words marks i (field_count (types_of index) (tag_at words i))) words' → Slid s (i + 1) (next + 1) words' (set marks i next)
  moved_down {words'} z w =
      let r : Reached s i = marked (mem i (reached s)) (λ y. z (mark-is ∙ m.at i (omega (arith, g.each)) ∙ y)) in
      let next-is = member-next (reached s) i r in
      let down = holds_pushed (moved s (cell_at s.heap i)) so_far.holds (subst (λ row. Written words next row words') (moved-are r) w) in
      rw (add-one i) (record {
        kept = omega (arith, so_far.kept, rank-member (reached s) i r);
        holds = rw (next-is, map-append (λ l. moved s (cell_at s.heap l)) (members_below (reached s) i) (i ∷ [])) down;
        numbers = λ l low q. below-or-last l i low
            (λ below. get_or-set_other marks i l next 0 (λ e. omega arith) ∙ so_far.numbers l below q)
            (λ last. rw last (get_or-set_same marks i next 0 (omega (arith, v.long, g.each)) ∙ so_far.kept ∙ sym (new-number s i inside)));
      })

-- ---- the loop
pub sweep-start : (index words marks : List ℕ) (used : ℕ) → state_length used ≤ length words → Sweeps index words marks used 0 0 words marks
unfolding members_below spell_all
sweep-start index words marks used room = record {
  low = omega arith;
  wide = refl;
  long = refl;
  header = refl;
  high = refl;
  above = λ l le. refl;
  says = λ s g lower m. record {
    kept = refl;
    holds = record { count = refl; room = omega arith; is = drop_of_length-le (take header_words words) {i = header_words} (omega (arith, length-take-le header_words words (omega arith))) };
    numbers = λ l less. absurd (omega arith);
  };
}

pub sweep-on : {index words₀ marks₀ words marks words' marks' : List ℕ} {used i next r : ℕ} → state_length used ≤ length words₀ → i < used → Sweeps index words₀ marks₀ used i next words marks → Moved index words marks i next r words' marks' →
    Sweeps index words₀ marks₀ used (i + 1) r words' marks'
sweep-on {index} {words₀} {marks₀} {words} {marks} {words'} {marks'} {used} {i} {next} room less v (stays_out z q e f) = rw (q, e, f) (record {
  low = omega (arith, v.low);
  wide = v.wide;
  long = v.long;
  header = v.header;
  high = drop_more (state_length i) (state_length (i + 1)) words words₀ (omega arith) v.high;
  above = λ l le. v.above l (omega arith);
  says = λ s g lower m. passed_by v less s g lower m z;
})
sweep-on {index} {words₀} {marks₀} {words} {marks} {words'} {marks'} {used} {i} {next} room less v (moves_down z q e f) =
    let row : List ℕ = moved_words words marks i (field_count (types_of index) (tag_at words i)) in
    let wide : length row ≡ cell_words = omega (arith, padded-length fields_most (row_of (λ j. get_or marks (field_at words i j) 0) (field_count (types_of index) (tag_at words i)))) in
    let w : Written words next row words' = record { wide = wide; room = omega (arith, v.low, v.wide); is = e } in
    rw (q, f) (record {
      low = omega (arith, v.low);
      wide = written-long w ∙ v.wide;
      long = length-set marks i next ∙ v.long;
      header = take-fewer header_words (state_length next) words' words (omega arith) (written_below w) ∙ v.header;
      high = drop_more (state_length (next + 1)) (state_length (i + 1)) words' words (omega (arith, v.low)) (written-above w) ∙ drop_more (state_length i) (state_length (i + 1)) words words₀ (omega arith) v.high;
      above = λ l le. get_or-set_other marks i l next 0 (λ y. omega arith) ∙ v.above l (omega arith);
      says = λ s g lower m. moved_down v less s g lower m z w;
    })
