-- A constructor behind its code, up to its fields, return by return.
use Rattle.language.specs.declared.refusals.Refusal.{Refusal}
use Rattle.language.specs.RefusalNumbers.{number_of}
use Rattle.std.specs.Prelude.{Ok, Err, Option as Maybe, Some, None}
use Rattle.std.specs.Result.{result_ok}
use Rattle.std.specs.Prelude.{ℕ, ◌+◌, ◌-◌, ◌*◌, ◌/◌, ◌%◌, ◌≤◌, ◌<◌, List, Bool, length, get_or, ltb, eqb}
use Rattle.std.proofs.Math.Bool.{true, false}
use Rattle.std.proofs.Math.Path.{◌≡◌, refl, sym, ap}
use Rattle.std.proofs.Common.{◌∙◌, lt_of_le_of_lt}
use native.Mathlib.Omega.{arith}
use borrow.Author.Tests.{lt-ltb, lt-leb, ne_eqb}
use Rattle.language.specs.Limits.{byte_range}
use Rattle.language.specs.Refusals.{bad_input_line, bad_index}
use Rattle.language.specs.Result.{both, choose}
use Rattle.language.specs.Syntax.{Ty, tbool, tint, tnamed, File, constructors_of, fields_of}
use Rattle.language.specs.Heap.{Tree, vcon, Trees}
use Rattle.language.specs.Values.{tree_size, own_tree_sum, fits, named_as}
use Rattle.language.specs.Layout.{tag_step}
use Rattle.language.specs.Parser.{got, bad, Parser, and_then, must, return, byte, index as index_read}
use Rattle.language.specs.ReadExpr.{con_form}
use Rattle.language.specs.Line.{value_trees, value_behind}
use Rattle.theory.specs.Lists.{both-never}
use Rattle.text.specs.declared.Found.{Found}
use Rattle.text.specs.Bytes.{Number, bytes_from, stopped, ReadsNumber, Below, declared_word}
use Rattle.text.specs.StepLaws.{number-got, number-bad, number-moved, moved_on, moved-left}
use Rattle.index.specs.Tables.{type_words}
use Rattle.index.specs.Sections.{types_of}
use Rattle.index.specs.Indexed.{Indexed}
use Rattle.input_line.specs.Judges.{sized, Asked, asks_named, ConstructorAt}
use Rattle.input_line.specs.ReadParts.{byte-shorter, index-got}
use Rattle.input_line.specs.SizedLaws.{never-sized, bad-sized}

-- ---- a constructor's value is of no other type
module _ (P : File) (τ : Ty) (inner : Parser Tree) where
  -- once its type is read
  abbrev behind_type : ℕ → Parser Tree
  behind_type t bs = and_then (index_read (length (constructors_of P t)) bs) (λ c ds. and_then (value_trees inner (length (fields_of P t c)) ds) (λ vs es. got (vcon t c vs) es))

  unfit-sized : (v : Tree) → fits P v τ ≡ false → (bs : List ℕ) → sized P τ (got v bs) ≡ bad bad_input_line
  unfolding sized choose
  unfit-sized v e bs = rw e

  pub never-of-type : (t : ℕ) → ((c : ℕ) (ws : Trees) → fits P (vcon t c ws) τ ≡ false) → (bs : List ℕ) → sized P τ (behind_type t bs) ≡ bad bad_input_line
  never-of-type t unfit bs =
      never-sized P τ (index_read (length (constructors_of P t)) bs) _ (λ c ds. never-sized P τ (value_trees inner (length (fields_of P t c)) ds) _ (λ vs es. unfit-sized (vcon t c vs) (unfit c vs) es))

  pub never-fits : ((t c : ℕ) (ws : Trees) → fits P (vcon t c ws) τ ≡ false) → (bs : List ℕ) → sized P τ (value_behind P inner con_form bs) ≡ bad bad_input_line
  unfolding value_behind
  never-fits unfit bs = never-sized P τ (index_read (length P.types) bs) behind_type (λ t ds. never-of-type t (unfit t) ds)

plain-unfit : (P : File) (τ : Ty) → declared_word τ < tag_step → (t c : ℕ) (ws : Trees) → fits P (vcon t c ws) τ ≡ false
unfolding fits named_as declared_word
plain-unfit P tbool less t c ws = refl
plain-unfit P tint less t c ws = refl
plain-unfit P (tnamed u k) less t c ws = absurd (omega arith)

other-unfit : (P : File) (t u k c : ℕ) (ws : Trees) → ((t ≡ u) → ⊥) → fits P (vcon t c ws) (tnamed u k) ≡ false
unfolding fits named_as both
other-unfit P t u k c ws ne = rw (ne_eqb t u ne)

no-size-unfit : (P : File) (τ : Ty) → {types : ℕ} → Asked types τ → declared_word τ % tag_step ≡ 0 → (t c : ℕ) (ws : Trees) → fits P (vcon t c ws) τ ≡ false
unfolding fits named_as declared_word tree_size both
no-size-unfit P tbool a e t c ws = refl
no-size-unfit P tint a e t c ws = refl
no-size-unfit P (tnamed u k) (asks_named low small) e t c ws =
    let large : k < 1 + own_tree_sum P ws (fields_of P t c) = omega arith in
    both-never (eqb t u) (rw (lt-leb (1 + own_tree_sum P ws (fields_of P t c)) k large))

-- ---- the returns
con-wrong : {line index : List ℕ} {at word : ℕ} →
    ((text : List ℕ) (P : File) → Indexed text index P → (τ : Ty) → Asked (length P.types) τ → word ≡ declared_word τ → (inner : Parser Tree) → sized P τ (value_behind P inner con_form (bytes_from line at)) ≡ bad bad_input_line) →
    ConstructorAt line index at word None
con-wrong wrong = record {
  wrong = λ e. wrong;
  found = λ e. absurd (let z : ◌≡◌ {A = ℕ} 0 1 = cc in omega arith);
  named = λ e. absurd (let z : ◌≡◌ {A = ℕ} 0 1 = cc in omega arith);
  on = stopped;
  fewer = λ e. absurd (let z : ◌≡◌ {A = ℕ} 0 1 = cc in omega arith);
}

pub con-plain : (line index : List ℕ) (at word : ℕ) → word < tag_step → ConstructorAt line index at word None
con-plain line index at word low = con-wrong (λ text P x τ a is inner. never-fits P τ inner (plain-unfit P τ (rw is at low)) (bytes_from line at))

pub con-no-size : (line index : List ℕ) (at word : ℕ) {size : ℕ} → size ≡ word % tag_step → size ≡ 0 → ConstructorAt line index at word None
con-no-size line index at word e z = con-wrong (λ text P x τ a is inner. never-fits P τ inner (no-size-unfit P τ a (ap (λ n. n % tag_step) (sym is) ∙ sym e ∙ z)) (bytes_from line at))

module _ (line index : List ℕ) (at word : ℕ) {x : Number} (v : ReadsNumber line at x (byte (bytes_from line at)) × Below byte_range x) where
  pub con-no-type : {n : Refusal} → x ≡ Err n → ConstructorAt line index at word None
  unfolding value_behind index_read and_then
  con-no-type {n} e = con-wrong (λ text P i τ a is inner. bad-sized P τ {n = number_of n} (rw (number-bad v.0 e)))

  module _ {f : Found} (e : x ≡ Ok f) where
    -- the type is read, if the file has it
    behind-byte : (P : File) (inner : Parser Tree) → value_behind P inner con_form (bytes_from line at)
        ≡ and_then (must (ltb f.value (length P.types)) bad_index (return f.value) (bytes_from line f.next.at)) (behind_type P tbool inner)
    unfolding value_behind index_read and_then
    behind-byte P inner = rw (number-got v.0 e)

    module _ (high : tag_step ≤ word) {t : ℕ} (type : t ≡ word / tag_step - 1) where
      type_is : (u k : ℕ) → k < byte_range → word ≡ declared_word (tnamed u k) → t ≡ u
      unfolding declared_word
      type_is u k small is = omega arith

      -- a word that is high is of a named type
      by-named : (text : List ℕ) (P : File) → ((u k : ℕ) → u < length P.types → k < byte_range → word ≡ declared_word (tnamed u k) → (inner : Parser Tree) → sized P (tnamed u k) (value_behind P inner con_form (bytes_from line at)) ≡ bad bad_input_line) →
          (τ : Ty) → Asked (length P.types) τ → word ≡ declared_word τ → (inner : Parser Tree) → sized P τ (value_behind P inner con_form (bytes_from line at)) ≡ bad bad_input_line
      unfolding declared_word
      by-named text P named tbool a is inner = absurd (omega arith)
      by-named text P named tint a is inner = absurd (omega arith)
      by-named text P named (tnamed u k) (asks_named low small) is inner = named u k low small is inner

      pub con-other-type : ((f.value ≡ t) → ⊥) → ConstructorAt line index at word None
      unfolding must and_then
      con-other-type ne = con-wrong (λ text P i. by-named text P (λ u k low small is inner. ap (sized P (tnamed u k)) (behind-byte P inner) ∙ cases P u k inner (λ q. ne (q ∙ sym (type_is u k small is))) (ltb f.value (length P.types))))
        where
          cases : (P : File) (u k : ℕ) (inner : Parser Tree) → ((f.value ≡ u) → ⊥) → (b : Bool) → sized P (tnamed u k) (and_then (must b bad_index (return f.value) (bytes_from line f.next.at)) (behind_type P tbool inner)) ≡ bad bad_input_line
          cases P u k inner other true = never-of-type P (tnamed u k) inner f.value (λ c ws. other-unfit P f.value u k c ws other) (bytes_from line f.next.at)
          cases P u k inner other false = bad-sized P (tnamed u k) refl

      module _ (same : f.value ≡ t) {count : ℕ} (told : (count ≡ get_or (types_of index) (type_words * t) 0 % byte_range) × (count < byte_range)) {y : Number}
          (w : ReadsNumber line f.next.at y (index_read count (bytes_from line f.next.at)) × Below byte_range y) where
        count-is : {text : List ℕ} {P : File} → Indexed text index P → (u : ℕ) → u < length P.types → t ≡ u → count ≡ length (constructors_of P u)
        count-is i u low is = let tells = (i.each_type u low).tells in told.0 ∙ rw is (omega (arith, tells.constructors, tells.few))

        -- the type is the one asked for, and known
        behind-type : {text : List ℕ} {P : File} → Indexed text index P → (u : ℕ) → u < length P.types → t ≡ u → (inner : Parser Tree) → value_behind P inner con_form (bytes_from line at)
            ≡ and_then (index_read count (bytes_from line f.next.at)) (λ c ds. and_then (value_trees inner (length (fields_of P u c)) ds) (λ vs es. got (vcon u c vs) es))
        unfolding must and_then
        behind-type {P} i u low is inner = behind-byte P inner ∙ rw (same ∙ is, lt-ltb u (length P.types) low, ← (count-is i u low is))

        pub con-none : {n : Refusal} → y ≡ Err n → ConstructorAt line index at word None
        unfolding and_then
        con-none {n} none = con-wrong (λ text P i. by-named text P (λ u k low small is inner. bad-sized P (tnamed u k) {n = number_of n} (behind-type i u low (type_is u k small is) inner ∙ rw (number-bad w.0 none))))

        pub con-found : {g : Found} → {size : ℕ} → size ≡ word % tag_step → ((size ≡ 0) → ⊥) → y ≡ Ok g → ConstructorAt line index at word (Some g)
        unfolding and_then
        con-found {g} {size} sized-as some there = record {
          wrong = λ r. absurd (let z : ◌≡◌ {A = ℕ} 0 1 = cc in omega arith);
          found = λ {f = h} r text P i u k low small is.
              let here : g ≡ h = cc in
              let type = type_is u k small is in
              rw (← here) (record {
                known = omega (arith, count-is i u low type, (index-got count (bytes_from line f.next.at) (number-got w.0 there)).less);
                read = λ inner. behind-type i u low type inner ∙ rw (number-got w.0 there);
              });
          named = λ r. (high, omega (arith, some));
          on = moved_on (number-moved v.0 e) (number-moved w.0 there);
          fewer = λ {f = h} r. let here : g ≡ h = cc in rw (← here) (lt_of_le_of_lt (moved-left (number-moved w.0 there)) (omega (arith, byte-shorter (bytes_from line at) (number-got v.0 e))));
        }

        -- the constructor read is the answer
        pub con-answer : {size : ℕ} → size ≡ word % tag_step → ((size ≡ 0) → ⊥) → (o : Maybe Found) → o ≡ result_ok y → ConstructorAt line index at word o
        con-answer sized-as some o q = answers y refl q
          where
            answers : (z : Number) → y ≡ z → o ≡ result_ok z → ConstructorAt line index at word o
            answers (Ok g) is q = rw q (con-found sized-as some is)
            answers (Err n) is q = rw q (con-none is)
