-- One cell: what is left of its size decides as the definition does, and each way of judging it is the definition's.
use Rattle.std.specs.Prelude.{ℕ, zero, suc, ◌+◌, ◌-◌, ◌*◌, ◌/◌, ◌%◌, ◌≤◌, ◌<◌, List, [], ◌∷◌, ◌++◌, Bool, ◌≡◌, length, get_or, take, drop, ltb, leb, eqb}
use Rattle.std.proofs.Math.Bool.{true, false}
use Rattle.std.proofs.Math.Option.{Option, none, some}
use Rattle.std.proofs.Math.Path.{refl, sym}
use Rattle.std.proofs.Common.{ap, ◌∙◌, add-one, arith, drop_of_length-le, drop-cons}
use Rattle.std.proofs.Math.ListN.{get_elem? as look, get_or-eq_default}
use borrow.Author.Tests.{eqb-true, eqb-false, eq-eqb, ne_eqb, lt-ltb, le-ltb, le-leb, lt-leb, leb-false}
use Rattle.language.specs.Limits.{byte_range, fields_most, int_range}
use Rattle.language.specs.Result.{both, when, chain, choose}
use Rattle.language.specs.Syntax.{Field, fbool, fint, own, other, Constructor, tbool, tint, tnamed, File, constructors_of}
use Rattle.language.specs.Heap.{kbool, kint, Cell, leaf, con, cell_at, size_in, own_sum}
use Rattle.language.specs.Values.{constant_fits, named_as, is_constructor}
use Rattle.language.specs.Layout.{bool_tag, int_tag, tag_step, all_zero, constructor_of_words, cell_of_words, cell_fits, location_fits, fields_right, cell_right}
use Rattle.theory.specs.Lists.{look-less, look-get_d, look-inner-less, both-never}
use Rattle.theory.specs.Places.{below_or_not, look_at}
use Rattle.text_lines.specs.Lines.{is_some}
use Rattle.index.specs.Sections.{types_of}
use Rattle.index.specs.Tables.{type_words}
use Rattle.index.specs.Indexed.{Indexed}
use Rattle.state_words.specs.Words.{tag_at, value_at, field_at, row_of, field_count}
use Rattle.state_words.specs.RowLaws.{row-length, row_at, row-start}
use Rattle.state_words.specs.ReadLaws.{constructor-counted}
use Rattle.cell_check.specs.Judged.{next_heap, heap_with, leaf_fits, own_type, field_left, fields_left, Below, TagOf, FieldsJudged, KnownJudged, CellJudged}

-- ---- what is left is 1 exactly where the fields are right and the size is the true one
choose-zero : (b : Bool) → choose {A = ℕ} b 0 0 ≡ 0
unfolding choose
choose-zero true = refl
choose-zero false = refl

field-none-left : (h : List Cell) (t : ℕ) (f : Field) (l : ℕ) → field_left h t f l 0 ≡ 0
unfolding field_left
field-none-left h t fbool l = choose-zero (location_fits h l tbool)
field-none-left h t fint l = choose-zero (location_fits h l tint)
field-none-left h t own l = let none : 0 - size_in (cell_at h l) ≡ 0 = omega arith in rw none (choose-zero (both (ltb l (length h)) (own_type t (cell_at h l))))
field-none-left h t (other u j) l = choose-zero (location_fits h l (tnamed u j))

pub none_left : (h : List Cell) (t : ℕ) (fs : List Field) (ls : List ℕ) → fields_left h t fs ls 0 ≡ 0
unfolding fields_left
none_left h t [] [] = refl
none_left h t [] (l ∷ ls) = refl
none_left h t (f ∷ fs) [] = refl
none_left h t (f ∷ fs) (l ∷ ls) = ap (fields_left h t fs ls) (field-none-left h t f l) ∙ none_left h t fs ls

-- the size of a field is taken from both sides
taken : (left size sum : ℕ) → eqb (left - size) (1 + sum) ≡ eqb left (1 + (size + sum))
taken left size sum = cases (eqb (left - size) (1 + sum)) refl
  where
    cases : (b : Bool) → eqb (left - size) (1 + sum) ≡ b → b ≡ eqb left (1 + (size + sum))
    cases true e = sym (eq-eqb left (1 + (size + sum)) (omega (arith, eqb-true (left - size) (1 + sum) e)))
    cases false e = sym (ne_eqb left (1 + (size + sum)) (λ q. eqb-false (left - size) (1 + sum) e (omega arith)))

-- a field of another type: it fits, or nothing is left
test-left : (h : List Cell) (t : ℕ) (fs : List Field) (ls : List ℕ) (b : Bool) (left : ℕ) (r s : Bool) → eqb (fields_left h t fs ls left) 1 ≡ both r s → eqb (fields_left h t fs ls (choose b left 0)) 1 ≡ both (both b r) s
unfolding choose both
test-left h t fs ls true left r s e = e
test-left h t fs ls false left r s e = ap (λ n. eqb n 1) (none_left h t fs ls)

-- a field of the type itself, of which k is the most
own-left : (h : List Cell) (t k : ℕ) (fs : List Field) (ls : List ℕ) (d : Cell) (a : Bool) (left sum : ℕ) (r : Bool) → left ≤ k → ((m : ℕ) → m ≤ k → eqb (fields_left h t fs ls m) 1 ≡ both r (eqb m (1 + sum))) →
    eqb (fields_left h t fs ls (choose (both a (own_type t d)) (left - size_in d) 0)) 1 ≡ both (both (both a (cell_fits d (tnamed t k))) r) (eqb left (1 + (size_in d + sum)))
unfolding choose both own_type size_in cell_fits constant_fits named_as
own-left h t k fs ls d false left sum r le go = ap (λ n. eqb n 1) (none_left h t fs ls)
own-left h t k fs ls (leaf (kbool b)) true left sum r le go = ap (λ n. eqb n 1) (none_left h t fs ls)
own-left h t k fs ls (leaf (kint n)) true left sum r le go = ap (λ n. eqb n 1) (none_left h t fs ls)
own-left h t k fs ls (con u c j ms) true left sum r le go = cases (eqb u t)
  where
    small : (b : Bool) → leb j k ≡ b → both r (eqb (left - j) (1 + sum)) ≡ both (both b r) (eqb left (1 + (j + sum)))
    small true e = ap (both r) (taken left j sum)
    small false e = let gone : left - j ≡ 0 = omega (arith, leb-false j k e) in rw gone (both-never r (ne_eqb 0 (1 + sum) (λ q. omega arith)))

    cases : (b : Bool) → eqb (fields_left h t fs ls (choose b (left - j) 0)) 1 ≡ both (both (both b (leb j k)) r) (eqb left (1 + (j + sum)))
    cases true = go (left - j) (omega arith) ∙ small (leb j k) refl
    cases false = ap (λ n. eqb n 1) (none_left h t fs ls)

pub left-decides : (h : List Cell) (t k : ℕ) (fs : List Field) (ls : List ℕ) (left : ℕ) → left ≤ k → eqb (fields_left h t fs ls left) 1 ≡ both (fields_right h t k fs ls) (eqb left (1 + own_sum h fs ls))
unfolding fields_left field_left fields_right own_sum both location_fits
left-decides h t k [] [] left le = refl
left-decides h t k [] (l ∷ ls) left le = refl
left-decides h t k (f ∷ fs) [] left le = refl
left-decides h t k (fbool ∷ fs) (l ∷ ls) left le = test-left h t fs ls (location_fits h l tbool) left (fields_right h t k fs ls) (eqb left (1 + own_sum h fs ls)) (left-decides h t k fs ls left le)
left-decides h t k (fint ∷ fs) (l ∷ ls) left le = test-left h t fs ls (location_fits h l tint) left (fields_right h t k fs ls) (eqb left (1 + own_sum h fs ls)) (left-decides h t k fs ls left le)
left-decides h t k (own ∷ fs) (l ∷ ls) left le = own-left h t k fs ls (cell_at h l) (ltb l (length h)) left (own_sum h fs ls) (fields_right h t k fs ls) le (λ m low. left-decides h t k fs ls m low)
left-decides h t k (other u j ∷ fs) (l ∷ ls) left le = test-left h t fs ls (location_fits h l (tnamed u j)) left (fields_right h t k fs ls) (eqb left (1 + own_sum h fs ls)) (left-decides h t k fs ls left le)

-- ---- the words of a cell, judged
some-when : (b : Bool) (g : List Cell) → is_some (when b g) ≡ b
unfolding is_some when
some-when true g = refl
some-when false g = refl

module _ (P : File) (h : List Cell) (v : ℕ) (ls : List ℕ) where
  -- a Bool or an Int: always right
  leaf-next : (b : Bool) (d : Cell) → cell_right P h d ≡ true → is_some (chain (when b d) (λ c. when (cell_right P h c) (h ++ (c ∷ [])))) ≡ b
  unfolding chain when is_some
  leaf-next true d e = rw e
  leaf-next false d e = refl

  bool-judged : is_some (next_heap P h bool_tag v ls) ≡ both (leb v 1) (all_zero ls)
  unfolding next_heap cell_of_words choose cell_right
  bool-judged = leaf-next (both (leb v 1) (all_zero ls)) (leaf (kbool (eqb v 1))) refl

  int-judged : v < int_range → is_some (next_heap P h int_tag v ls) ≡ all_zero ls
  unfolding next_heap cell_of_words choose cell_right both
  int-judged less = leaf-next (both (ltb v int_range) (all_zero ls)) (leaf (kint v)) refl ∙ rw (lt-ltb v int_range less)

  other-judged : (tag : ℕ) → tag < tag_step → ((tag ≡ bool_tag) → ⊥) → ((tag ≡ int_tag) → ⊥) → is_some (next_heap P h tag v ls) ≡ false
  unfolding next_heap cell_of_words choose chain is_some
  other-judged tag low not_bool not_int = rw (ne_eqb tag bool_tag not_bool, ne_eqb tag int_tag not_int, lt-leb tag_step tag low)

  -- a constructor's
  module _ (tag : ℕ) (high : tag_step ≤ tag) where
    constructor-read : cell_of_words P tag v ls ≡ constructor_of_words (tag / tag_step - 1) (tag % tag_step) v ls (look (constructors_of P (tag / tag_step - 1)) (tag % tag_step))
    unfolding cell_of_words choose
    constructor-read = rw (ne_eqb tag bool_tag (λ e. omega arith), ne_eqb tag int_tag (λ e. omega arith), le-leb tag_step tag high)

    unknown-judged : look (constructors_of P (tag / tag_step - 1)) (tag % tag_step) ≡ none → is_some (next_heap P h tag v ls) ≡ false
    unfolding next_heap constructor_of_words chain is_some
    unknown-judged e = rw (constructor-read, e)

    constructor-right : (fs : Constructor) (ms : List ℕ) → look (constructors_of P (tag / tag_step - 1)) (tag % tag_step) ≡ some fs → cell_right P h (con (tag / tag_step - 1) (tag % tag_step) v ms) ≡ eqb (fields_left h (tag / tag_step - 1) fs ms v) 1
    unfolding cell_right is_constructor
    constructor-right fs ms e = rw e (sym (left-decides h (tag / tag_step - 1) v fs ms v (omega arith)))

    known-judged : (fs : Constructor) → look (constructors_of P (tag / tag_step - 1)) (tag % tag_step) ≡ some fs →
        is_some (next_heap P h tag v ls) ≡ both (all_zero (drop (length fs) ls)) (eqb (fields_left h (tag / tag_step - 1) fs (take (length fs) ls) v) 1)
    unfolding next_heap constructor_of_words chain when is_some both
    known-judged fs e = rw (constructor-read, e) (cases (all_zero (drop (length fs) ls)))
      where
        d : Cell
        d = con (tag / tag_step - 1) (tag % tag_step) v (take (length fs) ls)

        right : cell_right P h d ≡ eqb (fields_left h (tag / tag_step - 1) fs (take (length fs) ls) v) 1
        right = constructor-right fs (take (length fs) ls) e

        cases : (b : Bool) → is_some (chain (when b d) (λ c. when (cell_right P h c) (h ++ (c ∷ [])))) ≡ both b (eqb (fields_left h (tag / tag_step - 1) fs (take (length fs) ls) v) 1)
        cases true = some-when (cell_right P h d) (h ++ (d ∷ [])) ∙ right
        cases false = refl

-- ---- as the functions come by them: words for fields that are zero
zero-from : (f : ℕ → ℕ) (j : ℕ) → j < fields_most → drop j (row_of f fields_most) ≡ f j ∷ drop (j + 1) (row_of f fields_most)
zero-from f j less = drop-cons (row_of f fields_most) j 0 (omega (arith, row-length f fields_most)) ∙ rw (add-one, row_at f fields_most j less)

pub record UnusedFrom (words : List ℕ) (cell n j : ℕ) : Type 0 where
  pub is : all_zero (drop n (row_of (field_at words cell) fields_most)) ≡ all_zero (drop j (row_of (field_at words cell) fields_most))

pub unused-not : {words : List ℕ} {cell n j w : ℕ} → UnusedFrom words cell n j → j < fields_most → w ≡ field_at words cell j → ((w ≡ 0) → ⊥) → false ≡ all_zero (drop n (row_of (field_at words cell) fields_most))
unfolding all_zero both
unused-not {words} {cell} {n} {j} v less e ne = sym (v.is ∙ ap all_zero (zero-from (field_at words cell) j less) ∙ rw (ne_eqb (field_at words cell j) 0 (λ q. ne (e ∙ q))))

pub unused-on : {words : List ℕ} {cell n j w : ℕ} → UnusedFrom words cell n j → j < fields_most → w ≡ field_at words cell j → w ≡ 0 → UnusedFrom words cell n (j + 1)
unfolding all_zero both
unused-on {words} {cell} {n} {j} v less e z = record { is = v.is ∙ ap all_zero (zero-from (field_at words cell) j less) ∙ rw (eq-eqb (field_at words cell j) 0 (sym e ∙ z)) }

pub unused-end : {words : List ℕ} {cell n j : ℕ} → UnusedFrom words cell n j → fields_most ≤ j → true ≡ all_zero (drop n (row_of (field_at words cell) fields_most))
unfolding all_zero
unused-end {words} {cell} {n} {j} v le = sym (v.is ∙ ap all_zero (drop_of_length-le (row_of (field_at words cell) fields_most) {i = j} (omega (arith, row-length (field_at words cell) fields_most))))

-- ---- a Bool or an Int
module _ (words : List ℕ) (l tag : ℕ) {b : Bool} (z : b ≡ all_zero (drop 0 (row_of (field_at words l) fields_most))) where
  pub leaf-unclear : b ≡ false → false ≡ leaf_fits words l tag
  unfolding leaf_fits both
  leaf-unclear e = rw (← z, e)

  pub leaf-bool : {v : ℕ} → b ≡ true → tag ≡ bool_tag → v ≡ value_at words l → leb v 1 ≡ leaf_fits words l tag
  unfolding leaf_fits both choose
  leaf-bool e q p = rw (← z, e, eq-eqb tag bool_tag q, p)

  pub leaf-int : b ≡ true → ((tag ≡ bool_tag) → ⊥) → eqb tag int_tag ≡ leaf_fits words l tag
  unfolding leaf_fits both choose
  leaf-int e ne = rw (← z, e, ne_eqb tag bool_tag ne)

-- whose value is a word of 32 bits, or of fewer
leaf-judged : (P : File) (h : List Cell) (words : List ℕ) (l tag : ℕ) → value_at words l < int_range → tag < tag_step → is_some (next_heap P h tag (value_at words l) (row_of (field_at words l) fields_most)) ≡ leaf_fits words l tag
unfolding leaf_fits choose both
leaf-judged P h words l tag width low = as_bool (eqb tag bool_tag) refl
  where
    swapped : (a b : Bool) → both a b ≡ both b a
    swapped true true = refl
    swapped true false = refl
    swapped false true = refl
    swapped false false = refl

    as_int : (b : Bool) → eqb tag int_tag ≡ b → ((tag ≡ bool_tag) → ⊥) → is_some (next_heap P h tag (value_at words l) (row_of (field_at words l) fields_most)) ≡ both (all_zero (row_of (field_at words l) fields_most)) b
    as_int true e ne = rw (eqb-true tag int_tag e) (int-judged P h (value_at words l) (row_of (field_at words l) fields_most) width ∙ swapped true (all_zero (row_of (field_at words l) fields_most)))
    as_int false e ne = other-judged P h (value_at words l) (row_of (field_at words l) fields_most) tag low ne (eqb-false tag int_tag e) ∙ sym (both-never (all_zero (row_of (field_at words l) fields_most)) refl)

    as_bool : (b : Bool) → eqb tag bool_tag ≡ b → is_some (next_heap P h tag (value_at words l) (row_of (field_at words l) fields_most)) ≡ both (all_zero (row_of (field_at words l) fields_most)) (choose b (leb (value_at words l) 1) (eqb tag int_tag))
    as_bool true e = rw (eqb-true tag bool_tag e) (bool-judged P h (value_at words l) (row_of (field_at words l) fields_most) ∙ swapped (leb (value_at words l) 1) (all_zero (row_of (field_at words l) fields_most)))
    as_bool false e = as_int (eqb tag int_tag) refl (eqb-false tag bool_tag e)

-- ---- a constructor of the file
look_none : {A : Type 0} (l : List A) (i : ℕ) → length l ≤ i → look l i ≡ none
look_none [] i le = refl
look_none (x ∷ l) zero le = absurd (omega arith)
look_none (x ∷ l) (suc i) le = look_none l i (omega arith)

some_below : {A : Type 0} (l : List A) (i : ℕ) (d : A) → ltb i (length l) ≡ is_some (look l i)
unfolding is_some
some_below l i d = below_or_not i (length l) (λ less. lt-ltb i (length l) less ∙ ap is_some (sym (look_at l i d less))) (λ le. le-ltb i (length l) le ∙ ap is_some (sym (look_none l i le)))

pub type-unknown : {index : List ℕ} {types tag t : ℕ} → t ≡ tag / tag_step - 1 → types ≤ t → KnownJudged index types tag (ltb t types)
unfolding is_some
type-unknown {index} {types} {tag} {t} p le = record {
  says = λ text P x count.
      let none-there : constructors_of P (tag / tag_step - 1) ≡ [] = get_or-eq_default P.types [] {n = tag / tag_step - 1} (omega arith) in
      le-ltb t types le ∙ ap (λ l. is_some (look l (tag % tag_step))) (sym none-there);
}

pub type-known : {index : List ℕ} {types tag t c n : ℕ} → t ≡ tag / tag_step - 1 → t < types → c ≡ tag % tag_step → (n ≡ get_or (types_of index) (type_words * t) 0 % byte_range) × (n < byte_range) → KnownJudged index types tag (ltb c n)
type-known {index} {types} {tag} {t} {c} {n} p less q e = record {
  says = λ text P x count.
      let tells = (x.each_type t (omega arith)).tells in
      let all : n ≡ length (constructors_of P t) = omega (arith, e.0, tells.constructors, tells.few) in
      rw (all, ← p, ← q) (some_below (constructors_of P t) c []);
}

-- ---- the cell
pub some_of : {A : Type 0} (o : Option A) → is_some o ≡ true → (X : Type 0) → ((a : A) → o ≡ some a → X) → X
unfolding is_some
some_of (some a) e X f = f a refl
some_of none e X f = absurd (let z : ◌≡◌ {A = ℕ} 0 1 = cc in omega arith)

pub none_of : {A : Type 0} (o : Option A) → is_some o ≡ false → o ≡ none
unfolding is_some
none_of (some a) e = absurd (let z : ◌≡◌ {A = ℕ} 0 1 = cc in omega arith)
none_of none e = refl

module _ (index words : List ℕ) (types cell : ℕ) {tag : ℕ} (p : tag ≡ tag_at words cell) where
  pub judged-leaf : {r : Bool} → value_at words cell < int_range → tag < tag_step → r ≡ leaf_fits words cell tag → CellJudged index types words cell r
  judged-leaf {r} width low e = record {
    says = λ P h w count.
        e ∙ sym (ap (λ n. is_some (next_heap P h n (value_at words cell) (row_of (field_at words cell) fields_most))) (sym p) ∙ leaf-judged P h words cell tag width low);
  }

  pub judged-unknown : {b : Bool} → tag_step ≤ tag → KnownJudged index types tag b → b ≡ false → CellJudged index types words cell false
  judged-unknown {b} high k e = record {
    says = λ P h w count. sym (ap (λ n. is_some (next_heap P h n (value_at words cell) (row_of (field_at words cell) fields_most))) (sym p)
        ∙ unknown-judged P h (value_at words cell) (row_of (field_at words cell) fields_most) tag high (none_of _ (sym (k.says w.text P w.indexed count) ∙ e)));
  }

  -- the fields of the constructor that the tag names
  module _ (high : tag_step ≤ tag) {b : Bool} (k : KnownJudged index types tag b) (known : b ≡ true) {n : ℕ} (q : n ≡ field_count (types_of index) tag) where
    tag_of : (P : File) {fs : Constructor} → look (constructors_of P (tag / tag_step - 1)) (tag % tag_step) ≡ some fs → TagOf P tag (tag / tag_step - 1) (tag % tag_step) fs
    tag_of P e = record { known = e; is = omega (arith, high); small = omega arith }

    counted : (P : File) {text : List ℕ} → Indexed text index P → {fs : Constructor} → look (constructors_of P (tag / tag_step - 1)) (tag % tag_step) ≡ some fs → n ≡ length fs
    counted P x {fs} e = q ∙ ap (field_count (types_of index)) (tag_of P e).is ∙ constructor-counted x (tag / tag_step - 1) (tag % tag_step) e (omega arith)

    few : (P : File) {text : List ℕ} → Indexed text index P → {fs : Constructor} → look (constructors_of P (tag / tag_step - 1)) (tag % tag_step) ≡ some fs → length fs ≤ fields_most
    few P x {fs} e =
        let t = tag / tag_step - 1 in
        let c = tag % tag_step in
        let same : get_or (constructors_of P t) c [] ≡ fs = look-get_d (constructors_of P t) c [] e in
        omega (arith, (x.each_type t (look-inner-less P.types t c e)).tells.few_fields c (look-less (constructors_of P t) c e), ap length same)

    whole : (P : File) (h : List Cell) → Below index words cell P h → {fs : Constructor} → look (constructors_of P (tag / tag_step - 1)) (tag % tag_step) ≡ some fs →
        is_some (heap_with P words h cell) ≡ both (all_zero (drop n (row_of (field_at words cell) fields_most))) (eqb (fields_left h (tag / tag_step - 1) fs (row_of (field_at words cell) n) (value_at words cell)) 1)
    whole P h w {fs} e =
        let same = counted P w.indexed e in
        ap (λ i. is_some (next_heap P h i (value_at words cell) (row_of (field_at words cell) fields_most))) (sym p)
        ∙ known-judged P h (value_at words cell) (row_of (field_at words cell) fields_most) tag high fs e
        ∙ rw (row-start (field_at words cell) (length fs) fields_most (few P w.indexed e), ← same)

    module _ {clear : Bool} (z : clear ≡ all_zero (drop n (row_of (field_at words cell) fields_most))) where
      pub judged-unclear : clear ≡ false → CellJudged index types words cell false
      unfolding both
      judged-unclear e = record {
        says = λ P h w count. some_of (look (constructors_of P (tag / tag_step - 1)) (tag % tag_step)) (sym (k.says w.text P w.indexed count) ∙ known) _ (λ fs there.
            sym (whole P h w there ∙ rw (← z, e)));
      }

      pub judged-fields : {r : Bool} → clear ≡ true → FieldsJudged index words cell tag n r → CellJudged index types words cell r
      unfolding both
      judged-fields {r} e f = record {
        says = λ P h w count. some_of (look (constructors_of P (tag / tag_step - 1)) (tag % tag_step)) (sym (k.says w.text P w.indexed count) ∙ known) _ (λ fs there.
            f.says P h w (tag / tag_step - 1) (tag % tag_step) (tag_of P there) (counted P w.indexed there) ∙ sym (whole P h w there ∙ rw (← z, e)));
      }
