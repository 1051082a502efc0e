-- Fields against their types: what a word and a cell's tag and value say, and what is left of a constructor's size.
use Rattle.std.specs.Prelude.{ℕ, suc, ◌+◌, ◌-◌, ◌*◌, ◌/◌, ◌%◌, ◌≤◌, ◌<◌, Bool, true, false, ◌≡◌, refl, length, drop, leb, eqb, Option as Maybe, Some, None, SomeIff, unwrap_or}
use Rattle.std.specs.Bool.{then_some}
use mathlib.Core.List.{List, []}
use Rattle.std.proofs.Math.Path.{sym, ap}
use Rattle.std.proofs.Common.{◌∙◌, add-one, arith, drop-cons}
use Rattle.std.proofs.Math.ListN.{get_or, get_or-map}
use Rattle.std.proofs.Math.Seq.{drop-length}
use borrow.Author.Tests.{eqb-true, eqb-false, eq-eqb, ne_eqb, lt-ltb, le-ltb}
use Rattle.language.specs.Limits.{int_range}
use Rattle.language.specs.Codes.{field_bool, field_int, field_own}
use Rattle.language.specs.Result.{both, choose}
use Rattle.language.specs.Syntax.{Field, fbool, fint, own, other, Constructor, Ty, tbool, tint, tnamed, File, constructors_of}
use Rattle.language.specs.Within.{All, WithinField, w_fbool, w_fint, w_own, w_other, WithinDeclared, w_tbool, w_tint, w_tnamed, Within}
use Rattle.language.specs.Heap.{kbool, Cell, leaf, con, cell_at, size_in}
use Rattle.language.specs.Values.{constant_fits, named_as}
use Rattle.language.specs.Layout.{bool_tag, int_tag, tag_step, cell_tag, cell_value, cell_fits, location_fits}
use Rattle.theory.specs.Lists.{look-less, look-get_d, look-inner-less}
use Rattle.theory.specs.Alls.{all_get_d}
use Rattle.theory.specs.CellWords.{Writable, bool_writable, int_writable, con_writable}
use Rattle.text.specs.Bytes.{declared_word, field_word}
use Rattle.encoding.specs.WithinParts.{type-within}
use Rattle.index.specs.Sections.{types_of}
use Rattle.index.specs.Indexed.{Indexed, field_at as field_word_at}
use Rattle.state_words.specs.Words.{tag_at, value_at, field_at, row_of}
use Rattle.state_words.specs.RowLaws.{row-length, row_at}
use Rattle.state_words.specs.Holds.{Holds}
use Rattle.state_words.specs.HoldLaws.{tag-held, value-held}
use Rattle.cell_check.specs.CellLaws.{none_left}
use Rattle.cell_check.specs.Judged.{type_fits, own_type, field_left, fields_left, Below, TagOf, LocationJudged, OwnLeft, FieldLeft, FieldsJudged}

-- ---- the tests of a word, one after the other
module _ (word tag v : ℕ) where
  pub type-bool : word ≡ field_bool → eqb tag bool_tag ≡ type_fits word tag v
  unfolding type_fits choose
  type-bool e = rw (eq-eqb word field_bool e)

  pub type-int : ((word ≡ field_bool) → ⊥) → word ≡ field_int → eqb tag int_tag ≡ type_fits word tag v
  unfolding type_fits choose
  type-int ne e = rw (ne_eqb word field_bool ne, eq-eqb word field_int e)

  pub type-named : {b : Bool} {k : ℕ} → ((word ≡ field_bool) → ⊥) → ((word ≡ field_int) → ⊥) → b ≡ eqb (tag / tag_step) (word / tag_step) → b ≡ true → k ≡ word % tag_step → leb v k ≡ type_fits word tag v
  unfolding type_fits choose
  type-named ne ne' e q k = rw (ne_eqb word field_bool ne, ne_eqb word field_int ne', ← e, q, k)

  pub type-none : {b : Bool} → ((word ≡ field_bool) → ⊥) → ((word ≡ field_int) → ⊥) → b ≡ eqb (tag / tag_step) (word / tag_step) → b ≡ false → false ≡ type_fits word tag v
  unfolding type_fits choose
  type-none ne ne' e q = rw (ne_eqb word field_bool ne, ne_eqb word field_int ne', ← e, q)

-- ---- they are the definition's of a cell and a type
pub fits-as-cell : {P : File} {c : Cell} → Writable P c → {types : ℕ} {τ : Ty} → WithinDeclared types τ → type_fits (declared_word τ) (cell_tag c) (cell_value c) ≡ cell_fits c τ
unfolding type_fits declared_word cell_tag cell_value cell_fits constant_fits named_as choose both
fits-as-cell bool_writable w_tbool = refl
fits-as-cell bool_writable w_tint = refl
fits-as-cell bool_writable (w_tnamed {t} {k} less bound) = rw (ne_eqb (tag_step * (t + 1) + k) 0 (λ e. omega arith), ne_eqb (tag_step * (t + 1) + k) 1 (λ e. omega arith), ne_eqb 0 ((tag_step * (t + 1) + k) / tag_step) (λ e. omega arith))
fits-as-cell (int_writable less) w_tbool = refl
fits-as-cell (int_writable {n} less) w_tint = sym (lt-ltb n int_range less)
fits-as-cell (int_writable less) (w_tnamed {t} {k} low bound) = rw (ne_eqb (tag_step * (t + 1) + k) 0 (λ e. omega arith), ne_eqb (tag_step * (t + 1) + k) 1 (λ e. omega arith), ne_eqb 0 ((tag_step * (t + 1) + k) / tag_step) (λ e. omega arith))
fits-as-cell (con_writable {t} {c} known same few small) w_tbool = ne_eqb (tag_step * (t + 1) + c) 1 (λ e. omega arith)
fits-as-cell (con_writable {t} {c} known same few small) w_tint = ne_eqb (tag_step * (t + 1) + c) 2 (λ e. omega arith)
fits-as-cell (con_writable {t} {c} {k = j} known same few small) (w_tnamed {t = u} {k} low bound) =
    let type : (tag_step * (t + 1) + c) / tag_step ≡ t + 1 = omega arith in
    let named : (tag_step * (u + 1) + k) / tag_step ≡ u + 1 = omega (arith, bound.1) in
    let size : (tag_step * (u + 1) + k) % tag_step ≡ k = omega (arith, bound.1) in
    rw (ne_eqb (tag_step * (u + 1) + k) 0 (λ e. omega arith), ne_eqb (tag_step * (u + 1) + k) 1 (λ e. omega arith), type, named, size) (cases (eqb t u) refl)
  where
    cases : (b : Bool) → eqb t u ≡ b → choose (eqb (t + 1) (u + 1)) (leb j k) false ≡ both b (leb j k)
    cases true e = rw (eq-eqb (t + 1) (u + 1) (omega (arith, eqb-true t u e)))
    cases false e = rw (ne_eqb (t + 1) (u + 1) (λ q. eqb-false t u e (omega arith)))

-- ---- a location
pub location-beyond : {words : List ℕ} {used l word : ℕ} → used ≤ l → LocationJudged words used l word false
unfolding location_fits both
location-beyond {l} le = record { says = λ P h v all τ w e. rw (le-ltb l (length h) (omega (arith, v.count))) }

pub location-judged : {words : List ℕ} {used l word tag v : ℕ} {r : Bool} → l < used → tag ≡ tag_at words l → v ≡ value_at words l → r ≡ type_fits word tag v → LocationJudged words used l word r
unfolding location_fits both
location-judged {words} {used} {l} {word} {tag} {v} {r} less p q e = record {
  says = λ P h hs all τ w is.
      let tag_is : tag ≡ cell_tag (cell_at h l) = p ∙ tag-held hs l less in
      let value-is : v ≡ cell_value (cell_at h l) = q ∙ value-held hs l less in
      rw (lt-ltb l (length h) (omega (arith, hs.count))) (e ∙ rw (tag_is, value-is, is) (fits-as-cell (all_get_d all l (leaf (kbool false)) (omega (arith, hs.count))) w));
}

-- ---- a field of the type itself
own-test : {P : File} {d : Cell} → Writable P d → (t c : ℕ) → c < tag_step → eqb (cell_tag d / tag_step) ((tag_step * (t + 1) + c) / tag_step) ≡ own_type t d
unfolding cell_tag own_type
own-test bool_writable t c small = ne_eqb (bool_tag / tag_step) ((tag_step * (t + 1) + c) / tag_step) (λ e. omega arith)
own-test (int_writable less) t c small = ne_eqb (int_tag / tag_step) ((tag_step * (t + 1) + c) / tag_step) (λ e. omega arith)
own-test (con_writable {t = u} {c = d} known same few low) t c small =
    let type : (tag_step * (u + 1) + d) / tag_step ≡ u + 1 = omega arith in
    let named : (tag_step * (t + 1) + c) / tag_step ≡ t + 1 = omega arith in
    rw (type, named) (cases (eqb u t) refl)
  where
    cases : (b : Bool) → eqb u t ≡ b → eqb (u + 1) (t + 1) ≡ b
    cases true e = eq-eqb (u + 1) (t + 1) (omega (arith, eqb-true u t e))
    cases false e = ne_eqb (u + 1) (t + 1) (λ q. eqb-false u t e (omega arith))

own-size : (t : ℕ) (d : Cell) → own_type t d ≡ true → cell_value d ≡ size_in d
unfolding own_type cell_value size_in
own-size t (leaf x) e = absurd (let z : ◌≡◌ {A = ℕ} 0 1 = cc in omega arith)
own-size t (con u c k ls) e = refl

what_is_left : (left size : ℕ) (r : Maybe ℕ) → SomeIff r (size ≤ left) (left - size) → unwrap_or r 0 ≡ left - size
what_is_left left size None s = omega (arith, s)
what_is_left left size (Some n) s = s.1

pub own-beyond : {words : List ℕ} {cell tag l left : ℕ} → cell ≤ l → OwnLeft words cell tag l left None
unfolding field_left choose both
own-beyond {l} le = record { says = λ P h v all t c g. rw (le-ltb l (length h) (omega (arith, v.count))) }

module _ {words : List ℕ} {cell tag l told : ℕ} {b : Bool} (less : l < cell) (p : told ≡ tag_at words l) (q : b ≡ eqb (told / tag_step) (tag / tag_step)) where
  own_is : {P : File} {h : List Cell} → Holds words cell h → All (Writable P) h → (t c : ℕ) {fs : Constructor} → TagOf P tag t c fs → b ≡ own_type t (cell_at h l)
  own_is {h} v all t c g = q ∙ rw (p, tag-held v l less, g.is) (own-test (all_get_d all l (leaf (kbool false)) (omega (arith, v.count))) t c g.small)

  pub own-other : {left : ℕ} → b ≡ false → OwnLeft words cell tag l left None
  unfolding field_left choose both
  own-other e = record { says = λ P h v all t c g. rw (lt-ltb l (length h) (omega (arith, v.count)), ← (own_is v all t c g), e) }

  pub own-taken : {left size : ℕ} {r : Maybe ℕ} → b ≡ true → size ≡ value_at words l → SomeIff r (size ≤ left) (left - size) → OwnLeft words cell tag l left r
  unfolding field_left choose both
  own-taken {left} {size} {r} e z s = record {
    says = λ P h v all t c g.
        let is = own_is v all t c g in
        let size_is : size ≡ size_in (cell_at h l) = z ∙ value-held v l less ∙ own-size t (cell_at h l) (sym is ∙ e) in
        what_is_left left size r s ∙ rw (lt-ltb l (length h) (omega (arith, v.count)), ← is, e, size_is);
  }

-- ---- a field by its word
own-word : (f : Field) → field_word f ≡ field_own → f ≡ own
unfolding field_word
own-word fbool e = absurd (omega arith)
own-word fint e = absurd (omega arith)
own-word own e = refl
own-word (other t k) e = absurd (omega arith)

data OtherField (h : List Cell) (t l left types : ℕ) (f : Field) : Type 0 where
  as_type : (τ : Ty) → WithinDeclared types τ → field_word f ≡ declared_word τ → field_left h t f l left ≡ choose (location_fits h l τ) left 0 → OtherField h t l left types f

other-field : {types : ℕ} (h : List Cell) (t l left : ℕ) {f : Field} → WithinField types f → ((field_word f ≡ field_own) → ⊥) → OtherField h t l left types f
unfolding field_word declared_word field_left
other-field h t l left w_fbool ne = as_type tbool w_tbool refl refl
other-field h t l left w_fint ne = as_type tint w_tint refl refl
other-field h t l left w_own ne = absurd (ne refl)
other-field h t l left (w_other {t = u} {k} less bound) ne = as_type (tnamed u k) (w_tnamed less bound) refl refl

-- the word of field j and its cell, as they are read
pub record FieldRead (index words : List ℕ) (cell tag j word l : ℕ) : Type 0 where
  pub told : word ≡ field_word_at (types_of index) (tag / tag_step - 1) (tag % tag_step) j
  pub at : l ≡ field_at words cell j

pub field-read : (index words : List ℕ) (cell tag j : ℕ) {type constructor word l : ℕ} → type ≡ tag / tag_step - 1 → constructor ≡ tag % tag_step → word ≡ field_word_at (types_of index) type constructor j → l ≡ field_at words cell j → FieldRead index words cell tag j word l
field-read index words cell tag j p q e m = record { told = e ∙ rw (p, q); at = m }

field-within : {P : File} {tag j : ℕ} → Within P → (t c : ℕ) {fs : Constructor} → TagOf P tag t c fs → j < length fs → WithinField t (get_or fs j fbool)
field-within {P} {tag} {j} w t c {fs} g less =
    let d = type-within w t (look-inner-less P.types t c g.known) in
    let same : get_or (constructors_of P t) c [] ≡ fs = look-get_d (constructors_of P t) c [] g.known in
    all_get_d (rw same at (all_get_d d.constructors c [] (look-less (constructors_of P t) c g.known)).fields) j fbool less

module _ {index words : List ℕ} {cell tag j word l : ℕ} (f : FieldRead index words cell tag j word l) where
  word-told : {P : File} {text : List ℕ} → Indexed text index P → (t c : ℕ) {fs : Constructor} → TagOf P tag t c fs → j < length fs → word ≡ field_word (get_or fs j fbool)
  unfolding field_word
  word-told {P} x t c {fs} g less =
      let t-is : tag / tag_step - 1 ≡ t = omega (arith, g.is, g.small) in
      let c-is : tag % tag_step ≡ c = omega (arith, g.is, g.small) in
      let same : get_or (constructors_of P t) c [] ≡ fs = look-get_d (constructors_of P t) c [] g.known in
      f.told ∙ rw (t-is, c-is) ((x.each_type t (look-inner-less P.types t c g.known)).fields c (look-less (constructors_of P t) c g.known) j (rw same less) ∙ rw same (get_or-map field_word fs j fbool))

  pub field-own : {left : ℕ} {r : Maybe ℕ} → word ≡ field_own → OwnLeft words cell tag l left r → FieldLeft index words cell tag j left r
  field-own {left} {r} is o = record {
    says = λ P h b t c {fs} g less.
        let f-is : get_or fs j fbool ≡ own = own-word (get_or fs j fbool) (sym (word-told b.indexed t c g less) ∙ is) in
        o.says P h b.holds b.writable t c g ∙ rw (f-is, f.at);
  }

  module _ {b : Bool} (ne : (word ≡ field_own) → ⊥) (v : LocationJudged words cell l word b) where
    other-left : (left : ℕ) (P : File) (h : List Cell) → Below index words cell P h → (t c : ℕ) {fs : Constructor} → TagOf P tag t c fs → j < length fs → field_left h t (get_or fs j fbool) (field_at words cell j) left ≡ choose b left 0
    other-left left P h w t c {fs} g less = cases (other-field h t (field_at words cell j) left (field-within {j = j} w.indexed.within t c g less) (λ z. ne (word-told w.indexed t c g less ∙ z)))
      where
        cases : OtherField h t (field_at words cell j) left t (get_or fs j fbool) → field_left h t (get_or fs j fbool) (field_at words cell j) left ≡ choose b left 0
        cases (as_type τ within is so) = so ∙ ap (λ x. choose x left 0) (ap (λ i. location_fits h i τ) (sym f.at) ∙ sym (v.says P h w.holds w.writable τ within (word-told w.indexed t c g less ∙ is)))

    pub field-typed : (left : ℕ) → {r : Maybe ℕ} → r ≡ then_some b left → FieldLeft index words cell tag j left r
    unfolding choose
    field-typed left {r} e = record { says = λ P h w t c g less. ap (λ o. unwrap_or o 0) e ∙ as_number b ∙ sym (other-left left P h w t c g less) }
      where
        as_number : (b : Bool) → unwrap_or (then_some b left) 0 ≡ choose b left 0
        as_number true = refl
        as_number false = refl

-- ---- all fields
pub record LeftTo (index words : List ℕ) (cell tag n j left : ℕ) : Type 0 where
  pub says : (P : File) (h : List Cell) → Below index words cell P h → (t c : ℕ) {fs : Constructor} → TagOf P tag t c fs → n ≡ length fs →
      fields_left h t fs (row_of (field_at words cell) n) (value_at words cell) ≡ fields_left h t (drop j fs) (drop j (row_of (field_at words cell) n)) left

pub left-on : {index words : List ℕ} {cell tag n j left : ℕ} {r : Maybe ℕ} → LeftTo index words cell tag n j left → j < n → FieldLeft index words cell tag j left r → LeftTo index words cell tag n (j + 1) (unwrap_or r 0)
unfolding fields_left
left-on {index} {words} {cell} {tag} {n} {j} {left} {r} v less f = record {
  says = λ P h b t c {fs} g same.
      let ls = row_of (field_at words cell) n in
      let inside : j < length ls = omega (arith, row-length (field_at words cell) n) in
      v.says P h b t c g same ∙ rw (add-one, drop-cons fs j fbool (omega (arith, same)), drop-cons ls j 0 inside, row_at (field_at words cell) n j less)
      (ap (fields_left h t (drop (suc j) fs) (drop (suc j) ls)) (sym (f.says P h b t c g (omega (arith, same)))));
}

-- one that does not fit: nothing is left
pub left-out : {index words : List ℕ} {cell tag n j left : ℕ} → LeftTo index words cell tag n j left → j < n → FieldLeft index words cell tag j left None → FieldsJudged index words cell tag n false
left-out {index} {words} {cell} {tag} {n} {j} v less f = record {
  says = λ P h b t c {fs} g same.
      let out = (left-on v less f).says P h b t c g same in
      ap (λ m. eqb m 1) (sym (out ∙ none_left h t (drop (j + 1) fs) (drop (j + 1) (row_of (field_at words cell) n))));
}

pub left_end : {index words : List ℕ} {cell tag n j left : ℕ} → j ≤ n → n ≤ j → LeftTo index words cell tag n j left → FieldsJudged index words cell tag n (eqb left 1)
unfolding fields_left
left_end {index} {words} {cell} {tag} {n} {j} {left} low high v = record {
  says = λ P h b t c {fs} g same.
      let ls = row_of (field_at words cell) n in
      let all : j ≡ length fs = omega (arith, same) in
      let whole : j ≡ length ls = omega (arith, row-length (field_at words cell) n) in
      ap (λ x. eqb x 1) (sym (v.says P h b t c g same ∙ ap (λ x. fields_left h t x (drop j ls) left) (ap (λ i. drop i fs) all ∙ drop-length fs) ∙ ap (λ x. fields_left h t [] x left) (ap (λ i. drop i ls) whole ∙ drop-length ls)));
}
