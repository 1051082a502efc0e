-- A constructor's cell: what the index tells of its fields, the loop over them, and what its size decides.
use Rattle.std.specs.Prelude.{ℕ, suc, ◌+◌, ◌*◌, ◌%◌, ◌≤◌, ◌<◌, Bool, true, false, ◌≡◌, length, get_or, take, ltb, Option, Some, None, Err, IfSome}
use mathlib.Core.List.{List, [], ◌∷◌}
use Rattle.std.proofs.Math.Path.{refl, sym}
use Rattle.std.proofs.Common.{ap, subst, ◌∙◌, add-one, drop-cons}
use native.Mathlib.Omega.{arith}
use Rattle.std.proofs.Math.ListN.{drop, drop_of_length-le, get_or-map}
use borrow.Author.Tests.{lt-ltb, ltb-true}
use Rattle.language.specs.declared.refusals.Refusal.TheVariants.{HeapSpent, ValueTooLarge}
use Rattle.language.specs.Limits.{byte_range, fields_most, parameters_most, size_most}
use Rattle.language.specs.Result.{both, choose}
use Rattle.language.specs.Syntax.{fbool, File, constructors_of, fields_of}
use Rattle.language.specs.Within.{WithinField}
use Rattle.language.specs.Heap.{Cell, con, fields_in, own_sum, fields_within_of}
use Rattle.language.specs.Layout.{tag_step, padded, cell_tag, cell_value, words_of, state_length}
use Rattle.language.specs.Evaluator.{needs}
use Rattle.theory.specs.Alls.{all_get_d}
use Rattle.theory.specs.Lists.{look-inner-less, both_left}
use Rattle.theory.specs.Places.{look_at}
use Rattle.theory.specs.CellWords.{con_writable}
use Rattle.text.specs.Bytes.{field_word}
use Rattle.encoding.specs.WithinParts.{type-within}
use Rattle.index.specs.Sections.{types_of}
use Rattle.index.specs.Indexed.{field_at}
use Rattle.state_words.specs.RowLaws.{row-are, row-length, row_at}
use Rattle.state_words.specs.Holds.{Holds}
use Rattle.new_cells.specs.Steps.{Evaluated, Gives}
use Rattle.new_cells.specs.Asked.{Allocates, Applied, Constructs, summed, size_told, Adds, Sums}
use Rattle.new_cells.specs.AllocLaws.{gives-asked, gives-refused, none_left}
use Rattle.construction.specs.FieldLaws.{field-on}

-- ---- what the index tells of the constructor
module _ {index values : List ℕ} {t c n : ℕ} {P : File} {ls : List ℕ} (a : Applied index values t c n P ls) where
  named : t < length P.types
  named = look-inner-less P.types t c (look_at (constructors_of P t) c [] a.known)

  few : length (fields_of P t c) ≤ fields_most
  few = (a.indexed.each_type t named).tells.few_fields c a.known

  small-type : t < byte_range
  small-type = omega (arith, named, a.indexed.within.few_types)

  small-constructor : c < byte_range
  small-constructor = omega (arith, a.known, (a.indexed.each_type t named).tells.few)

  field_told : (j : ℕ) → j < n → field_at (types_of index) t c j ≡ field_word (get_or (fields_of P t c) j fbool)
  unfolding field_word
  field_told j less = (a.indexed.each_type t named).fields c a.known j (omega (arith, a.count)) ∙ get_or-map field_word (fields_of P t c) j fbool

  field-within : (j : ℕ) → j < n → WithinField t (get_or (fields_of P t c) j fbool)
  field-within j less =
      all_get_d (all_get_d (type-within a.indexed.within t named).constructors c [] a.known).fields j fbool (omega (arith, a.count))

  as_many : length ls ≡ n
  as_many = ap length a.given ∙ row-length (λ j. get_or values j 0) n

  value-at : (j : ℕ) → j < n → get_or ls j 0 ≡ get_or values j 0
  value-at j less = ap (λ (x : List ℕ). get_or x j 0) a.given ∙ row_at (λ j. get_or values j 0) n j less

  first-values : length values ≡ parameters_most → ls ≡ take n values
  first-values wide = a.given ∙ row-are (λ j. get_or values j 0) n values (omega (arith, a.count, few, wide)) (λ j less. refl)

IfSome-at : {A : Type 0} (P : A → Type 0) {o : Option A} {x : A} → o ≡ Some x → IfSome o P → P x
IfSome-at P e h = subst (λ o. IfSome o P) e h

-- ---- the loop: the sum so far and the fields from here on give the whole
pub record SummedTo (index words : List ℕ) (used : ℕ) (values : List ℕ) (t c n i sum : ℕ) : Type 0 where
  pub low : sum < size_most
  pub says : {P : File} {ls : List ℕ} {h : List Cell} → Applied index values t c n P ls → Holds words used h → summed h (fields_of P t c) ls 0 ≡ summed h (drop i (fields_of P t c)) (drop i ls) sum

module _ {index words : List ℕ} {used : ℕ} {values : List ℕ} {t c n : ℕ} where
  pub summed-start : SummedTo index words used values t c n 0 0
  summed-start = record { low = omega arith; says = λ a v. refl }

  module _ {i sum : ℕ} (s : SummedTo index words used values t c n i sum) where
    pub summed-end : n ≤ i → Sums index words used values t c n (Some sum)
    unfolding summed own_sum fields_within_of both choose
    summed-end le = record {
      says = λ {P} {ls} {h} a v.
          let none : drop i (fields_of P t c) ≡ [] = drop_of_length-le (fields_of P t c) {i = i} (omega (arith, a.count)) in
          let all : sum + 0 ≡ sum = omega arith in
          sym (s.says a v ∙ rw (none, all, lt-ltb sum size_most s.low));
      low = s.low;
    }

    module _ {word l : ℕ} {x : Option ℕ} (less : i < n) (told : word ≡ field_at (types_of index) t c i) (is : l ≡ get_or values i 0) (f : Adds words used sum word l x) where
      field-turn : {P : File} {ls : List ℕ} {h : List Cell} → Applied index values t c n P ls → Holds words used h →
          summed h (fields_of P t c) ls 0 ≡ choose (ltb (size_told x) size_most) (summed h (drop (suc i) (fields_of P t c)) (drop (suc i) ls) (size_told x)) size_most
      field-turn {P} {ls} {h} a v =
          let fs = fields_of P t c in
          let value : l ≡ get_or ls i 0 = is ∙ sym (value-at a i less) in
          let next = f.says (field-within a i less) (sym (field_told a i less) ∙ sym told) v in
          s.says a v ∙ rw (drop-cons fs i fbool (omega (arith, a.count)), drop-cons ls i 0 (omega (arith, as_many a)), ← value)
          (field-on h (drop (suc i) fs) (drop (suc i) ls) sum s.low (get_or fs i fbool) l ∙ rw (← next))

      pub summed-on : {r : ℕ} → x ≡ Some r → SummedTo index words used values t c n (i + 1) r
      unfolding choose
      summed-on {r} d =
          let low : r < size_most = IfSome-at (λ s. s < size_most) d f.low in
          record { low = low; says = λ a v. field-turn a v ∙ rw (ap size_told d, lt-ltb r size_most low, add-one) }

      pub summed-over : x ≡ None → Sums index words used values t c n None
      unfolding choose
      summed-over d = record { says = λ a v. sym (field-turn a v ∙ rw (ap size_told d)); low = tt }

-- ---- what the sum decides
over-refused : (s : ℕ) (w : Bool) {r : ℕ} (b : Bool) → both (ltb s size_most) w ≡ b → r ≡ choose b s size_most → size_most ≤ r → b ≡ false
unfolding choose
over-refused s w true e q le = absurd (omega (arith, ltb-true s size_most (both_left (ltb s size_most) w e)))
over-refused s w false e q le = refl

under-taken : (s : ℕ) {r : ℕ} (b : Bool) → r ≡ choose b s size_most → r < size_most → (b ≡ true) × (r ≡ s)
unfolding choose
under-taken s true q less = (refl, q)
under-taken s false q less = absurd (omega arith)

module _ {index words : List ℕ} {used : ℕ} {values : List ℕ} {t c n : ℕ} {x : Option ℕ} (s : Sums index words used values t c n x) where
  sum_is : {P : File} {ls : List ℕ} {h : List Cell} → Applied index values t c n P ls → Holds words used h →
      size_told x ≡ choose (both (ltb (own_sum h (fields_of P t c) ls) size_most) (fields_within_of h (fields_of P t c) ls)) (own_sum h (fields_of P t c) ls) size_most
  unfolding summed
  sum_is {P} {ls} {h} a v = let all : 0 + own_sum h (fields_of P t c) ls ≡ own_sum h (fields_of P t c) ls = omega arith in s.says a v ∙ rw all

  pub too_large : x ≡ None → Gives words used (Constructs index values t c n) (Err ValueTooLarge) words
  unfolding needs
  too_large d = gives-refused (λ P cells h o v k. k.is ∙ rw (over-refused (own_sum h (fields_of P t c) k.ls) (fields_within_of h (fields_of P t c) k.ls) _ refl (sum_is k.applied v.held) (rw (ap size_told d) (omega arith))))

  taken : {P : File} {ls : List ℕ} {h : List Cell} {r : ℕ} → Applied index values t c n P ls → Holds words used h → x ≡ Some r →
      (both (ltb (own_sum h (fields_of P t c) ls) size_most) (fields_within_of h (fields_of P t c) ls) ≡ true) × (r ≡ own_sum h (fields_of P t c) ls)
  taken {P} {ls} {h} {r} a v d = under-taken (own_sum h (fields_of P t c) ls) (both (ltb (own_sum h (fields_of P t c) ls) size_most) (fields_within_of h (fields_of P t c) ls)) (sym (ap size_told d) ∙ sum_is a v) (IfSome-at (λ s. s < size_most) d s.low)

  pub none-constructed : {end r : ℕ} → x ≡ Some r → end ≡ state_length (used + 1) → length words < end → Gives words used (Constructs index values t c n) (Err HeapSpent) words
  unfolding needs
  none-constructed d told short = gives-refused (λ P cells h o v k. k.is ∙ rw (taken k.applied v.held d).0 (none_left told short v (con t c (1 + own_sum h (fields_of P t c) k.ls) k.ls)))

  pub constructed : {words' : List ℕ} {out : Evaluated} {r : ℕ} (tag : ℕ) → x ≡ Some r → length values ≡ parameters_most → tag ≡ tag_step * (t % byte_range + 1) + c % byte_range →
      Gives words used (Allocates (tag ∷ (r + 1) ∷ padded fields_most (take n values))) out words' → Gives words used (Constructs index values t c n) out words'
  unfolding needs words_of cell_tag cell_value fields_in
  constructed {r = r} tag d wide told g = gives-asked (λ P cells h o v k.
      let a = k.applied in
      let fs = fields_of P t c in
      let sum = own_sum h fs k.ls in
      let fits = taken a v.held d in
      let tag_is : tag_step * (t + 1) + c ≡ tag = omega (arith, told, small-type a, small-constructor a) in
      let size_is : 1 + sum ≡ r + 1 = omega (arith, fits.1) in
      record {
        cell = con t c (1 + sum) k.ls;
        spelled = rw (tag_is, size_is) (ap (λ (x : List ℕ). tag ∷ (r + 1) ∷ padded fields_most x) (first-values a wide));
        writable = con_writable (look_at (constructors_of P t) c [] a.known) (as_many a ∙ a.count) (few a) (small-constructor a);
        is = k.is ∙ rw fits.0;
      }) g
