-- The words of a list of instances: one record after the other, each as wide; the words of a record by what they mean.
use Prim.Native.Nat.{ℕ, zero, suc, ◌+◌, ◌*◌, ◌≤◌, ◌<◌}
use Rattle.std.specs.Prelude.{List, [], ◌∷◌, ◌++◌, ◌≡◌, refl, take, drop}
use Rattle.std.proofs.Common.{sym, ◌∙◌, length-append, take-append-drop, take_at, get_or-take}
use Rattle.std.proofs.Math.Path.{ap}
use native.Mathlib.Omega.{arith}
use Rattle.std.proofs.Math.ListN.{length, get_or, get_or-append}
use Rattle.std.proofs.Math.Seq.{get_or-append-add}
use Rattle.language.specs.Limits.{parameters_most}
use Rattle.language.specs.Format.{spell_all}
use Rattle.language.specs.Layout.{padded}
use Rattle.language.specs.Checker.{Instance}
use Rattle.theory.specs.Padding.{padded-length}
use Rattle.index.specs.Entries.{spell-length, spell-at}
use Rattle.instances.specs.Listed.{instance_words_count, numbers_from, key_words, stopped_words, instance_words, flat, Listed, SizesAre}
use Rattle.instances.specs.Matches.{no_instance, at}

-- ---- widths
pub key-wide : (f : ℕ) (ks : List ℕ) → length (key_words f ks) ≡ numbers_from
key-wide f ks = omega (arith, padded-length parameters_most ks)

pub instance-wide : (r : Instance) → length (instance_words r) ≡ instance_words_count
unfolding instance_words
instance-wide r = length-append (key_words r.function r.sizes) _ ∙ omega (arith, padded-length parameters_most r.sizes)

pub flat-length : (L : List Instance) → length (flat L) ≡ instance_words_count * length L
flat-length = spell-length instance_words_count instance_words instance-wide

-- ---- words that start with the records
pub listed_start : {words : List ℕ} (L : List Instance) (rest : List ℕ) → words ≡ flat L ++ rest → Listed words L
listed_start {words} L rest e =
    let long : length words ≡ length (flat L) + length rest = ap length e ∙ length-append (flat L) rest in
    record { room = omega (arith, flat-length L); is = ap (take (instance_words_count * length L)) e ∙ take_at (flat L) rest _ (flat-length L) }

pub listed-parts : {words : List ℕ} (L : List Instance) → Listed words L → words ≡ flat L ++ drop (instance_words_count * length L) words
listed-parts {words} L v = sym (take-append-drop (instance_words_count * length L) words) ∙ ap (λ (l : List ℕ). l ++ drop (instance_words_count * length L) words) v.is

pub listed-none : (words : List ℕ) → Listed words []
unfolding spell_all
listed-none words = listed_start [] words refl

-- ---- sizes as they are given: a part of a longer list, unused 0
padded-taken : (n : ℕ) (ls : List ℕ) → padded n (take n ls) ≡ padded n ls
unfolding padded
padded-taken zero ls = refl
padded-taken (suc n) [] = refl
padded-taken (suc n) (l ∷ ls) = ap (λ ws. l ∷ ws) (padded-taken n ls)

padded-again : (n : ℕ) (ls : List ℕ) → padded n (padded n ls) ≡ padded n ls
unfolding padded
padded-again zero ls = refl
padded-again (suc n) [] = ap (λ ws. 0 ∷ ws) (padded-again n [])
padded-again (suc n) (l ∷ ls) = ap (λ ws. l ∷ ws) (padded-again n ls)

pub sizes-taken : (sizes ks : List ℕ) → length ks ≤ parameters_most → take parameters_most sizes ≡ padded parameters_most ks → SizesAre sizes ks
sizes-taken sizes ks few e = record { few = few; is = sym (padded-taken parameters_most sizes) ∙ ap (padded parameters_most) e ∙ padded-again parameters_most ks }

-- ---- the words of record i
module _ {words : List ℕ} (L : List Instance) (v : Listed words L) (i : ℕ) (h : i < length L) where
  word_at : (j : ℕ) → j < instance_words_count → get_or words (instance_words_count * i + j) 0 ≡ get_or (instance_words (at L i)) j 0
  word_at j k = sym (get_or-take (instance_words_count * length L) words (instance_words_count * i + j) 0 (omega arith)) ∙ ap (λ (l : List ℕ). get_or l (instance_words_count * i + j) 0) v.is ∙ spell-at instance_words_count instance_words instance-wide L i j no_instance h k

  pub function-word : get_or words (instance_words_count * i) 0 ≡ (at L i).function
  unfolding instance_words
  function-word = let same : instance_words_count * i ≡ instance_words_count * i + 0 = omega arith in ap (λ m. get_or words m 0) same ∙ word_at 0 (omega arith)

  pub size_word : (j : ℕ) → j < parameters_most → get_or words (instance_words_count * i + 1 + j) 0 ≡ get_or (padded parameters_most (at L i).sizes) j 0
  unfolding instance_words
  size_word j k =
      let same : instance_words_count * i + 1 + j ≡ instance_words_count * i + suc j = omega arith in
      ap (λ m. get_or words m 0) same ∙ word_at (suc j) (omega arith) ∙ get_or-append (padded parameters_most (at L i).sizes) _ 0 j (omega (arith, padded-length parameters_most (at L i).sizes))

  pub number_word : (j : ℕ) → j < 3 → get_or words (instance_words_count * i + numbers_from + j) 0 ≡ get_or (stopped_words (at L i).numbers) j 0
  unfolding instance_words
  number_word j k =
      let key = key_words (at L i).function (at L i).sizes in
      let same : instance_words_count * i + numbers_from + j ≡ instance_words_count * i + (numbers_from + j) = omega arith in
      let place : numbers_from + j ≡ length key + j = omega (arith, key-wide (at L i).function (at L i).sizes) in
      ap (λ m. get_or words m 0) same ∙ word_at (numbers_from + j) (omega arith) ∙ ap (λ m. get_or (key ++ stopped_words (at L i).numbers) m 0) place ∙ get_or-append-add key (stopped_words (at L i).numbers) j 0
