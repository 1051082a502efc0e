-- The fields of a constructor laid one after the other: what is left of them gives the whole.
use Rattle.std.specs.Prelude.{Ok, Some, None}
use Prim.Native.Nat.{ℕ, suc, ◌+◌, ◌-◌, ◌*◌, ◌/◌, ◌%◌, ◌≤◌, ◌<◌}
use mathlib.Core.List.{List, [], ◌∷◌, ◌++◌}
use Rattle.std.specs.Prelude.{Bool, true, false, ◌≡◌, refl, set, eqb}
use Rattle.std.proofs.Math.Path.{sym, ap}
use Rattle.std.proofs.Common.{◌∙◌, drop-cons, ne_eqb}
use native.Mathlib.Omega.{arith}
use Rattle.std.proofs.Math.ListN.{length, get_or, take, drop, length-set, length-append}
use Rattle.std.proofs.Math.Seq.{take-suc-set, append_snoc}
use Rattle.language.specs.Limits.{byte_range, fields_most}
use Rattle.language.specs.Codes.{field_own}
use Rattle.language.specs.Result.{choose}
use Rattle.language.specs.Syntax.{Field, fbool, fint, own, other, File, constructors_of, fields_of}
use Rattle.language.specs.Heap.{Cell, leaf, con, Tree, vleaf, vcon, Trees, vcons}
use Rattle.language.specs.Values.{tree_size, own_tree_sum}
use Rattle.language.specs.Layout.{tag_step, state_length}
use Rattle.language.specs.Parser.{got, Parser}
use Rattle.language.specs.Line.{value_trees, value_at}
use Rattle.language.specs.Machine.{new_cell, build, build_fields}
use Rattle.theory.specs.Places.{look_at}
use Rattle.theory.specs.Heaps.{grown-length}
use Rattle.theory.specs.Builds.{fields-build}
use Rattle.text.specs.declared.Cursor.{Cursor}
use Rattle.text.specs.declared.Found.{Found}
use Rattle.text.specs.Bytes.{Number, bytes_from, Moved, field_word}
use Rattle.text.specs.StepLaws.{number-moved, ends-within, moved_none, moved_on}
use Rattle.index.specs.Sections.{types_of}
use Rattle.index.specs.Indexed.{Indexed, field_at}
use Rattle.index.specs.ParserLaws.{got-value, got-left}
use Rattle.state_words.specs.Words.{field_count}
use Rattle.state_words.specs.ReadLaws.{constructor-counted}
use Rattle.state_words.specs.Holds.{Holds}
use Rattle.type_rows.specs.ToldLaws.{field_told, told-fields}
use Rattle.input_cells.specs.declared.Laid.{Laid}
use Rattle.input_line.specs.Judges.{own_part}
use Rattle.input_line.specs.SizedLaws.{field_adds}
use Rattle.input_cells.specs.Lays.{Laying, Kept, LaidAs, laid_as, full_as, Grows, grows, TagAt, Lays}
use Rattle.input_cells.specs.CellLaws.{kept-none, kept_then, high-then}
use Rattle.input_line.specs.ReadParts.{then-got}

-- ---- trees that were read: the first, and the others behind it
pub record FirstTree (p : Parser Tree) (m : ℕ) (bs : List ℕ) (ws : Trees) (rest : List ℕ) : Type 0 where
  pub first : Tree
  pub others : Trees
  pub left : List ℕ
  pub whole : ws ≡ vcons first others
  pub read : p bs ≡ got first left
  pub then : value_trees p m left ≡ got others rest

first-tree : (p : Parser Tree) (m : ℕ) (bs : List ℕ) {ws : Trees} {rest : List ℕ} → value_trees p (suc m) bs ≡ got ws rest → FirstTree p m bs ws rest
unfolding value_trees
first-tree p m bs e =
    let a = then-got (p bs) _ e in
    let b = then-got (value_trees p m a.left) _ a.then in
    record { first = a.value; others = b.value; left = a.left; whole = sym (got-value b.then); read = a.first; then = b.first ∙ ap (got b.value) (got-left b.then) }

-- ---- what a field adds to its constructor's size
part-adds : (f : Field) (s : ℕ) → own_part (field_word f) s ≡ field_adds f s
unfolding field_word choose
part-adds fbool s = refl
part-adds fint s = refl
part-adds own s = refl
part-adds (other u j) s = rw (ne_eqb (tag_step * (u + 1) + j) field_own (λ e. omega arith))

part-most : (kind s : ℕ) → own_part kind s ≤ s
unfolding choose
part-most kind s = cases (eqb kind field_own)
  where
    cases : (b : Bool) → choose b s 0 ≤ s
    cases true = omega arith
    cases false = omega arith

own_first : (P : File) (w : Tree) (ws : Trees) (f : Field) (fs : List Field) → own_tree_sum P (vcons w ws) (f ∷ fs) ≡ field_adds f (tree_size P w) + own_tree_sum P ws fs
unfolding own_tree_sum
own_first P w ws fbool fs = omega arith
own_first P w ws fint fs = omega arith
own_first P w ws own fs = refl
own_first P w ws (other u j) fs = omega arith

-- ---- a value's own cell is the last
pub last-cell : (P : File) (v : Tree) (h : List Cell) → (build P v h).location ≡ length (build P v h).heap - 1
unfolding build new_cell
last-cell P (vleaf x) h = omega (arith, length-append h (leaf x ∷ []))
last-cell P (vcon t c ws) h = let q = build_fields P ws h in omega (arith, length-append q.heap (con t c (tree_size P (vcon t c ws)) q.locations ∷ []))

-- ---- from the first of n fields on: those before field j are laid over the heap h
pub record PartLaid (P : File) (line : List ℕ) (t c n : ℕ) (ws : Trees) (rest : List ℕ) (h : List Cell) (m j : ℕ) (next : Cursor) (top owned : ℕ) (words waiting : List ℕ) : Type 0 where
  pub count : n ≡ length (fields_of P t c)
  pub few : n ≤ fields_most
  pub left : Trees
  pub heap : List Cell
  pub holds : Holds words top heap
  pub read : value_trees (value_at m P) (n - j) (bytes_from line next.at) ≡ got left rest
  pub heaps : (build_fields P ws h).heap ≡ (build_fields P left heap).heap
  pub rows : (build_fields P ws h).locations ≡ take j waiting ++ (build_fields P left heap).locations
  pub sizes : own_tree_sum P ws (fields_of P t c) ≡ owned + own_tree_sum P left (drop j (fields_of P t c))

pub record FieldsLaid (line index : List ℕ) (cells used : ℕ) (words₀ : List ℕ) (tag n : ℕ) (first : Cursor) (j : ℕ) (next : Cursor) (top owned : ℕ) (words waiting : List ℕ) : Type 0 where
  pub on : Moved line first.at (Ok next)
  pub kept : Kept cells used words₀ words
  pub untouched : drop (state_length top) words ≡ drop (state_length top) words₀
  pub low : used ≤ top
  pub high : top ≤ cells
  pub small : owned + used ≤ top
  pub wide : length waiting ≡ fields_most
  pub says : (text : List ℕ) (P : File) → Indexed text index P → (h : List Cell) → Holds words₀ used h → (t c : ℕ) → t < length P.types → c < length (constructors_of P t) → tag ≡ tag_step * (t + 1) + c →
      (m : ℕ) {ws : Trees} {rest : List ℕ} → value_trees (value_at m P) (length (fields_of P t c)) (bytes_from line first.at) ≡ got ws rest → PartLaid P line t c n ws rest h m j next top owned words waiting

small-constructor : {text index : List ℕ} {P : File} → Indexed text index P → (t c : ℕ) → t < length P.types → c < length (constructors_of P t) → c < tag_step
small-constructor x t c low known = omega (arith, (x.each_type t low).tells.few)

pub fields-begun : {line index : List ℕ} {at cells used n : ℕ} {words waiting : List ℕ} {r : Number} {f : Found} → TagAt line at r → r ≡ Ok f → used ≤ cells → (n ≡ field_count (types_of index) f.value) × (n < byte_range) → length waiting ≡ fields_most →
    FieldsLaid line index cells used words f.value n f.next 0 f.next used 0 words waiting
fields-begun {line} {index} {at} {cells} {used} {n} {words} {waiting} {r} {f} v e room counted wide = record {
  on = moved_none (ends-within (number-moved v.read e));
  kept = kept-none cells used words;
  untouched = refl;
  low = omega arith;
  high = room;
  small = omega arith;
  wide = wide;
  says = λ text P x h hs t c low known is m {ws} q.
      let count : n ≡ length (fields_of P t c) = counted.0 ∙ ap (field_count (types_of index)) is ∙ constructor-counted x t c (look_at (constructors_of P t) c [] known) (small-constructor x t c low known) in
      let all : length (fields_of P t c) ≡ n - 0 = omega arith in
      record {
        count = count;
        few = omega (arith, (x.each_type t low).tells.few_fields c known);
        left = ws;
        heap = h;
        holds = hs;
        read = ap (λ i. value_trees (value_at m P) i (bytes_from line f.next.at)) (sym all) ∙ q;
        heaps = refl;
        rows = refl;
        sizes = omega arith;
      };
}

-- ---- one field
pub grows-done : {cells used : ℕ} {b : Laid} → Grows cells used (Some b) → (used < b.used) × ((b.used ≤ cells) × (b.size + used ≤ b.used))
grows-done (grows more most size) = (more, (most, size))

pub record DoneAs (P : File) (line : List ℕ) (h : List Cell) (v : Tree) (rest words' : List ℕ) (b : Laid) : Type 0 where
  pub holds : Holds words' b.used (build P v h).heap
  pub sized : b.size ≡ tree_size P v
  pub ends : bytes_from line b.next.at ≡ rest

pub done-as : {P : File} {line : List ℕ} {cells : ℕ} {h : List Cell} {v : Tree} {rest words' : List ℕ} {y : Laying} {b : Laid} → y ≡ Some b → LaidAs P line cells h v rest words' y → DoneAs P line h v rest words' b
done-as {b} e (laid_as {b = a} holds size ends) = let same : a ≡ b = cc in rw (← same) (record { holds = holds; sized = size; ends = ends })
done-as e (full_as more) = absurd (let z : ◌≡◌ {A = ℕ} 0 1 = cc in omega arith)

pub full-more : {P : File} {line : List ℕ} {cells : ℕ} {h : List Cell} {v : Tree} {rest words' : List ℕ} {y : Laying} → y ≡ None → LaidAs P line cells h v rest words' y → cells < length (build P v h).heap
full-more e (laid_as holds size ends) = absurd (let z : ◌≡◌ {A = ℕ} 0 1 = cc in omega arith)
full-more e (full_as more) = more

module _ {line index : List ℕ} {cells used : ℕ} {words₀ : List ℕ} {tag n : ℕ} {first : Cursor} {j : ℕ} {next : Cursor} {top owned : ℕ} {words waiting words' : List ℕ} {y : Laying}
    (v : FieldsLaid line index cells used words₀ tag n first j next top owned words waiting) (less : j < n) (u : Lays line index next.at cells top words y words' (λ n P. value_at n P)) where
  -- the next of the fields left, and those behind it
  pub next-tree : (P : File) {t c m : ℕ} {ws : Trees} {rest : List ℕ} {h : List Cell} (q : PartLaid P line t c n ws rest h m j next top owned words waiting) → FirstTree (value_at m P) (n - suc j) (bytes_from line next.at) q.left rest
  next-tree P {m} q = let one : n - j ≡ suc (n - suc j) = omega arith in first-tree (value_at m P) (n - suc j) (bytes_from line next.at) (rw one at q.read)

  pub top-grows : {b : Laid} → y ≡ Some b → (top < b.used) × ((b.used ≤ cells) × (b.size + top ≤ b.used))
  top-grows e = grows-done (rw e at u.grown)

  -- no more sizes than cells
  pub own-most : {kind part word : ℕ} {b : Laid} → y ≡ Some b → kind ≡ word → part ≡ own_part kind b.size → owned + part ≤ cells
  own-most {kind} {b = b} e told is-part = omega (arith, v.small, is-part, part-most kind b.size, (top-grows e).1.0, (top-grows e).1.1)

  pub fields-fuller : {t kind part : ℕ} {waiting' : List ℕ} {b : Laid} → y ≡ Some b → waiting' ≡ set waiting j (b.used - 1) → t ≡ tag / tag_step - 1 → {c : ℕ} → c ≡ tag % tag_step → kind ≡ field_at (types_of index) t c j → part ≡ own_part kind b.size →
      FieldsLaid line index cells used words₀ tag n first (j + 1) b.next b.used (owned + part) words' waiting'
  unfolding build_fields
  fields-fuller {t} {kind} {part} {waiting'} {b} e put type {c} constructor told is-part = record {
    on = moved_on v.on (rw e at u.on);
    kept = kept_then v.low v.kept u.kept;
    untouched = high-then top b.used words₀ words words' (omega (arith, (top-grows e).0)) v.untouched (u.high e);
    low = omega (arith, v.low, (top-grows e).0);
    high = (top-grows e).1.0;
    small = omega (arith, v.small, is-part, part-most kind b.size, (top-grows e).1.1);
    wide = ap length put ∙ length-set waiting j (b.used - 1) ∙ v.wide;
    says = λ text P x h hs s d low known is m {ws} {rest} read.
        let q = v.says text P x h hs s d low known is m read in
        let w = next-tree P q in
        let there : j < length (fields_of P s d) = omega (arith, q.count) in
        let f = get_or (fields_of P s d) j fbool in
        let laid = done-as e (u.says text P x q.heap q.holds m w.read) in
        let made = build P w.first q.heap in
        let little = small-constructor x s d low known in
        let type_is : t ≡ s = omega (arith, type, is, little) in
        let constructor-is : c ≡ d = omega (arith, constructor, is, little) in
        let row = told-fields x s d low (look_at (constructors_of P s) d [] known) in
        let kind-is : kind ≡ field_word f = told ∙ rw (type_is, constructor-is) (field_told row there) in
        let adds : part ≡ field_adds f (tree_size P w.first) = is-part ∙ rw kind-is (part-adds f b.size) ∙ ap (field_adds f) laid.sized in
        let place : b.used - 1 ≡ made.location = sym (last-cell P w.first q.heap ∙ ap (λ i. i - 1) (sym laid.holds.count)) in
        let taken : take (suc j) waiting' ≡ take j waiting ++ (made.location ∷ []) = ap (take (suc j)) put ∙ take-suc-set waiting j (b.used - 1) (omega (arith, q.few, v.wide)) ∙ ap (λ (i : ℕ). take j waiting ++ (i ∷ [])) place in
        let on : j + 1 ≡ suc j = omega arith in
        let sums : owned + own_tree_sum P (vcons w.first w.others) (f ∷ drop (suc j) (fields_of P s d)) ≡ owned + part + own_tree_sum P w.others (drop (suc j) (fields_of P s d)) = omega (arith, own_first P w.first w.others f (drop (suc j) (fields_of P s d)), adds) in
        let row_of : List ℕ = (build_fields P w.others made.heap).locations in
        record {
          count = q.count;
          few = q.few;
          left = w.others;
          heap = made.heap;
          holds = laid.holds;
          read = ap (λ i. value_trees (value_at m P) (n - i) (bytes_from line b.next.at)) on ∙ ap (value_trees (value_at m P) (n - suc j)) laid.ends ∙ w.then;
          heaps = q.heaps ∙ ap (λ (l : Trees). (build_fields P l q.heap).heap) w.whole;
          rows = q.rows ∙ ap (λ (l : Trees). take j waiting ++ (build_fields P l q.heap).locations) w.whole ∙ sym (append_snoc (take j waiting) made.location row_of)
              ∙ ap (λ (l : List ℕ). l ++ row_of) (sym taken ∙ ap (λ i. take i waiting') (sym on));
          sizes = q.sizes ∙ ap (λ (l : Trees). owned + own_tree_sum P l (drop j (fields_of P s d))) w.whole ∙ ap (λ (l : List Field). owned + own_tree_sum P (vcons w.first w.others) l) (drop-cons (fields_of P s d) j fbool there)
              ∙ sums ∙ ap (λ i. owned + part + own_tree_sum P w.others (drop i (fields_of P s d))) (sym on);
        };
  }

  -- a field that does not fit: the constructor has more cells
  pub fields-over : (P : File) {t c m : ℕ} {ws : Trees} {rest : List ℕ} {h : List Cell} (q : PartLaid P line t c n ws rest h m j next top owned words waiting) → cells < length (build P (next-tree P q).first q.heap).heap → cells < length (build P (vcon t c ws) h).heap
  unfolding build new_cell build_fields
  fields-over P {t} {c} {ws = ws} {h = h} q more =
      let w = next-tree P q in
      let made = build P w.first q.heap in
      let behind = fields-build P w.others made.heap in
      let same : (build_fields P ws h).heap ≡ (build_fields P w.others made.heap).heap = q.heaps ∙ ap (λ (l : Trees). (build_fields P l q.heap).heap) w.whole in
      omega (arith, more, grown-length behind.grown, ap length same, length-append (build_fields P ws h).heap (con t c (tree_size P (vcon t c ws)) (build_fields P ws h).locations ∷ []))
