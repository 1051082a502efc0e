-- A type read into its entry: a constructor's words, and all of the type's.
use Rattle.std.specs.Prelude.{Ok}
use Rattle.std.specs.Prelude.{ℕ, ◌+◌, ◌*◌, ◌≤◌, ◌<◌, ◌≡◌, length, get_or, set}
use mathlib.Core.List.{List, [], ◌∷◌, ◌++◌, append-nil, append_assoc, map}
use Rattle.std.proofs.Math.Path.{sym, ap}
use Rattle.std.proofs.Common.{◌∙◌, arith, length-append, get_or-append-add}
use Rattle.std.proofs.lemmas.List.{length-map}
use Rattle.std.proofs.Math.Seq.{append_snoc}
use Rattle.language.specs.Limits.{byte_range, constructors_most, fields_most}
use Rattle.language.specs.Format.{spell_all}
use Rattle.language.specs.Layout.{padded}
use Rattle.language.specs.Syntax.{Constructor, owns}
use Rattle.language.specs.Parser.{got, many, count}
use Rattle.language.specs.ReadExpr.{field}
use Rattle.text.specs.declared.Found.{Found}
use Rattle.text.specs.Bytes.{Number, Step, bytes_from, field_word, ReadsNumber, Below}
use Rattle.index.specs.Tables.{constructor_words, constructor_entry, type_entry}
use Rattle.theory.specs.Padding.{padded-length}
use Rattle.index.specs.Padded.{padded-at, padded-set, padded-within}
use Rattle.index.specs.Entries.{spell-words}
use Rattle.index.specs.Enters.{Enters, field_words, is_own, how_many, constructor_behind, type_behind}
use Rattle.index.specs.ParserLaws.{many-length}
use Rattle.index.specs.EnterLaws.{counted_is, counted-few, counted-passes, counted-entered}
use Rattle.index.specs.CountLaws.{own-words-counted}

pub constructor-wide : (fs : Constructor) → length (constructor_entry fs) ≡ constructor_words
unfolding constructor_entry
constructor-wide fs = omega (arith, padded-length fields_most (map field_word fs))

-- ---- the words of a constructor: written from the third on, the first two at the end
module _ (n : ℕ) (before ws : List ℕ) where
  -- two words left free
  free-words : padded n before ≡ padded n (before ++ (0 ∷ 0 ∷ []))
  unfolding padded
  free-words = ap (padded n) (sym (append-nil before)) ∙ sym (padded-within n before 2 [] (omega arith))

  first_word : (v : ℕ) → length before < n → set (padded n ((before ++ (0 ∷ 0 ∷ [])) ++ ws)) (length before) v ≡ padded n (before ++ (v ∷ 0 ∷ ws))
  first_word v room = ap (λ l. set (padded n l) (length before) v) (append_assoc before (0 ∷ 0 ∷ []) ws) ∙ padded-set n before (0 ∷ ws) 0 v room

  second_word : (v w : ℕ) → length before + 1 < n → set (padded n (before ++ (v ∷ 0 ∷ ws))) (length before + 1) w ≡ padded n (before ++ (v ∷ w ∷ ws))
  second_word v w room =
      let size : length before + 1 ≡ length (before ++ (v ∷ [])) = omega (arith, length-append before (v ∷ [])) in
      ap (λ l. set (padded n l) (length before + 1) w) (sym (append_snoc before v (0 ∷ ws)))
      ∙ ap (λ i. set (padded n ((before ++ (v ∷ [])) ++ (0 ∷ ws))) i w) size
      ∙ padded-set n (before ++ (v ∷ [])) ws 0 w (omega (arith, size)) ∙ ap (padded n) (append_snoc before v (w ∷ ws))

  fields-there : (i : ℕ) → length before + 2 + i < n → get_or (padded n ((before ++ (0 ∷ 0 ∷ [])) ++ ws)) (length before + 2 + i) 0 ≡ get_or ws i 0
  fields-there i room =
      let size : length before + 2 + i ≡ length (before ++ (0 ∷ 0 ∷ [])) + i = omega (arith, length-append before (0 ∷ 0 ∷ [])) in
      padded-at n ((before ++ (0 ∷ 0 ∷ [])) ++ ws) (length before + 2 + i) room ∙ ap (λ m. get_or ((before ++ (0 ∷ 0 ∷ [])) ++ ws) m 0) size ∙ get_or-append-add (before ++ (0 ∷ 0 ∷ [])) ws i 0

pub constructor-entered : {line table table₁ table₂ table₃ : List ℕ} {at to own : ℕ} (t : ℕ) {x : Number} {f : Found} {y : Step} → ReadsNumber line at x (count 0 fields_most (bytes_from line at)) × Below byte_range x → x ≡ Ok f →
    Enters (spell_all field_words) line f.next.at (to + 2) table y table₁ (many (field t) f.value (bytes_from line f.next.at)) → own ≡ how_many is_own table₁ (to + 2) f.value →
    table₂ ≡ set table₁ to f.value → table₃ ≡ set table₂ (to + 1) own → Enters constructor_entry line at to table y table₃ (constructor_behind t (bytes_from line at))
unfolding constructor_entry
constructor-entered {line} {table} {table₁} {table₂} {table₃} {at} {to} {own} t {f = f} v e u o w₁ w₂ = record { passes = counted-passes 0 fields_most (field t) v e u.passes; enters = enters }
  where
    enters : (n : ℕ) (before : List ℕ) {fs : Constructor} {rest : List ℕ} → constructor_behind t (bytes_from line at) ≡ got fs rest → table ≡ padded n before → length before ≡ to → to + length (constructor_entry fs) ≤ n → table₃ ≡ padded n (before ++ constructor_entry fs)
    enters n before {fs} h tb len room =
        let all = sym (counted_is 0 fields_most (field t) v e) ∙ h in
        let size = many-length (field t) f.value _ all in
        let few = counted-few 0 fields_most (field t) v e in
        let wide = constructor-wide fs in
        let ws = map field_word fs in
        let long : length ws ≡ length fs = length-map fs field_word in
        let read : table₁ ≡ padded n ((before ++ (0 ∷ 0 ∷ [])) ++ ws) = u.enters n (before ++ (0 ∷ 0 ∷ [])) all (tb ∙ free-words n before ws) (omega (arith, length-append before (0 ∷ 0 ∷ []))) (omega (arith, ap length (spell-words field_word fs))) ∙ ap (λ l. padded n ((before ++ (0 ∷ 0 ∷ [])) ++ l)) (spell-words field_word fs) in
        let owned : own ≡ owns fs = o ∙ ap (how_many is_own table₁ (to + 2)) (sym size) ∙ own-words-counted table₁ (to + 2) fs (λ i less. ap (λ l. get_or l (to + 2 + i) 0) read ∙ ap (λ m. get_or (padded n ((before ++ (0 ∷ 0 ∷ [])) ++ ws)) (m + 2 + i) 0) (sym len) ∙ fields-there n before ws i (omega arith)) in
        let one : table₂ ≡ padded n (before ++ (f.value ∷ 0 ∷ ws)) = w₁ ∙ ap (λ l. set l to f.value) read ∙ ap (λ m. set (padded n ((before ++ (0 ∷ 0 ∷ [])) ++ ws)) m f.value) (sym len) ∙ first_word n before ws f.value (omega arith) in
        let two : table₃ ≡ padded n (before ++ (f.value ∷ own ∷ ws)) = w₂ ∙ ap (λ l. set l (to + 1) own) one ∙ ap (λ m. set (padded n (before ++ (f.value ∷ 0 ∷ ws))) (m + 1) own) (sym len) ∙ second_word n before ws f.value own (omega arith) in
        two ∙ ap (λ l. padded n (before ++ (l ∷ own ∷ ws))) (sym size) ∙ ap (λ l. padded n (before ++ (length fs ∷ l ∷ ws))) owned
        ∙ ap (padded n) (sym (append_assoc before (length fs ∷ owns fs ∷ []) ws)) ∙ sym (padded-within n (before ++ (length fs ∷ owns fs ∷ [])) fields_most ws (omega arith)) ∙ ap (padded n) (append_assoc before (length fs ∷ owns fs ∷ []) (padded fields_most ws))

-- ---- a type: its constructors counted, and their entries
pub type-entered : {line table table₁ table₂ : List ℕ} {at to : ℕ} (t : ℕ) {x : Number} {f : Found} {r : Step} → ReadsNumber line at x (count 1 constructors_most (bytes_from line at)) × Below byte_range x → x ≡ Ok f → table₁ ≡ set table to f.value →
    Enters (spell_all constructor_entry) line f.next.at (to + 1) table₁ r table₂ (many (constructor_behind t) f.value (bytes_from line f.next.at)) → Enters type_entry line at to table r table₂ (type_behind t (bytes_from line at))
unfolding type_entry
type-entered t v e wrote u = counted-entered 1 constructors_most (constructor_behind t) constructor_entry constructor_words (constructors_most * constructor_words) constructor-wide (omega arith) v e wrote u
