-- Words of a table counted: the loop's way, and what the count is where the words are those of fields or of parameters.
use Prim.Native.Nat.{ℕ, suc, ◌+◌, ◌*◌, ◌-◌, ◌%◌, ◌≤◌, ◌<◌}
use mathlib.Core.List.{List, [], ◌∷◌, map}
use Rattle.std.specs.Prelude.{Bool, ◌≡◌, refl, length}
use Rattle.std.proofs.Math.Path.{sym, ap}
use Rattle.std.proofs.Common.{◌∙◌, add-zero, ne_eqb, le-leb}
use native.Mathlib.Omega.{arith}
use Rattle.std.proofs.Math.ListN.{get_or}
use Rattle.language.specs.Limits.{byte_range}
use Rattle.language.specs.Format.{bit}
use Rattle.language.specs.Syntax.{Field, fbool, fint, own, other, owns, Plain, pbool, pint, pnamed}
use Rattle.language.specs.Scope.{named_count}
use Rattle.language.specs.Layout.{tag_step}
use Rattle.text.specs.Bytes.{field_word, plain_word}
use Rattle.index.specs.Tables.{function_words}
use Rattle.index.specs.Enters.{how_many, is_own, is_named, TellsParameters, Named}

-- ---- the loop: what is counted so far and what is left make the whole
pub record Counted (test : ℕ → Bool) (table : List ℕ) (from n i sum : ℕ) : Type 0 where
  pub few : i ≤ n
  pub low : sum ≤ i
  pub whole : sum + how_many test table (from + i) (n - i) ≡ how_many test table from n

pub counted_start : (test : ℕ → Bool) (table : List ℕ) (from n : ℕ) → Counted test table from n 0 0
counted_start test table from n =
    let place : from + 0 ≡ from = omega arith in
    let all : n - 0 ≡ n = omega arith in
    record { few = omega arith; low = omega arith; whole = rw (place, all) (omega arith) }

module _ {test : ℕ → Bool} {table : List ℕ} {from n i sum : ℕ} (v : Counted test table from n i sum) where
  pub counted-on : {word one : ℕ} → i < n → word ≡ get_or table (from + i) 0 → (one ≡ bit (test word)) × (one ≤ 1) → Counted test table from n (i + 1) (sum + one)
  unfolding how_many
  counted-on {word} {one} h e d =
      let left : n - i ≡ suc (n - (i + 1)) = omega arith in
      let place : suc (from + i) ≡ from + (i + 1) = omega arith in
      let step : how_many test table (from + i) (n - i) ≡ one + how_many test table (from + (i + 1)) (n - (i + 1)) = rw (left, ← place, d.0, e) in
      record { few = omega arith; low = omega (arith, v.low, d.1); whole = omega (arith, step, v.whole) }

  pub counted-end : n ≤ i → sum ≡ how_many test table from n
  unfolding how_many
  counted-end h =
      let none : n - i ≡ 0 = omega arith in
      omega (arith, v.whole, ap (how_many test table (from + i)) none)

-- ---- where the words are those of a list
module _ {A : Type 0} (word : A → ℕ) (test : ℕ → Bool) (size : List A → ℕ) (none : size [] ≡ 0) (more : (a : A) (l : List A) → size (a ∷ l) ≡ bit (test (word a)) + size l) where
  count-of-words : (table : List ℕ) (from : ℕ) (l : List A) → ((i : ℕ) → i < length l → get_or table (from + i) 0 ≡ get_or (map word l) i 0) → how_many test table from (length l) ≡ size l
  unfolding how_many
  count-of-words table from [] each = sym none
  count-of-words table from (a ∷ l) each =
      let here : get_or table from 0 ≡ word a = ap (λ i. get_or table i 0) (sym (add-zero from)) ∙ each 0 (omega arith) in
      let rest = count-of-words table (suc from) l (λ i h. let on : suc from + i ≡ from + suc i = omega arith in rw on (each (suc i) (omega arith))) in
      rw here (omega (arith, rest, more a l))

-- fields of the type itself
owns-more : (f : Field) (fs : List Field) → owns (f ∷ fs) ≡ bit (is_own (field_word f)) + owns fs
unfolding owns field_word
owns-more fbool fs = omega arith
owns-more fint fs = omega arith
owns-more own fs = omega arith
owns-more (other t k) fs = rw (ne_eqb (tag_step * (t + 1) + k) 2 (λ e. omega arith)) (omega arith)

pub own-words-counted : (table : List ℕ) (from : ℕ) (fs : List Field) → ((i : ℕ) → i < length fs → get_or table (from + i) 0 ≡ get_or (map field_word fs) i 0) → how_many is_own table from (length fs) ≡ owns fs
unfolding owns
own-words-counted table from fs each = count-of-words field_word is_own owns refl owns-more table from fs each

-- parameters of named types
named_more : (p : Plain) (ps : List Plain) → named_count (p ∷ ps) ≡ bit (is_named (plain_word p)) + named_count ps
unfolding named_count plain_word
named_more pbool ps = omega arith
named_more pint ps = omega arith
named_more (pnamed t) ps = rw (le-leb tag_step (tag_step * (t + 1)) (omega arith)) (omega arith)

pub named-words-counted : (table : List ℕ) (from : ℕ) (ps : List Plain) → ((i : ℕ) → i < length ps → get_or table (from + i) 0 ≡ get_or (map plain_word ps) i 0) → how_many is_named table from (length ps) ≡ named_count ps
unfolding named_count
named-words-counted table from ps each = count-of-words plain_word is_named named_count refl named_more table from ps each

-- how many parameters of a function are named
pub named-in-all : {functions : List ℕ} {f n i sum : ℕ} → (n ≡ get_or functions (function_words * f) 0 % byte_range) × (n < byte_range) → n ≤ i → Counted is_named functions (function_words * f + 1) n i sum → Named functions f sum
named-in-all {functions} {f} {n} {i} {sum} a h v = record { says = says; small = omega (arith, v.few, v.low, a.1) }
  where
    says : (ps : List Plain) → TellsParameters functions f ps → sum ≡ named_count ps
    says ps q =
        let count : n ≡ length ps = omega (arith, a.0, q.count, q.few) in
        counted-end v h ∙ ap (how_many is_named functions (function_words * f + 1)) count ∙ named-words-counted functions (function_words * f + 1) ps q.each
