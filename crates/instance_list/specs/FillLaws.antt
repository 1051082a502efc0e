-- The list that the words fill: the records of the instances that they keep, and empty records behind them.
use Prim.Native.Nat.{ℕ, zero, suc, ◌+◌, ◌-◌, ◌*◌, ◌≤◌, ◌<◌}
use mathlib.Core.List.{List, [], ◌∷◌, ◌++◌, map, map-append}
use Rattle.std.specs.Prelude.{◌≡◌, refl, length, take, drop, replicate}
use Rattle.std.proofs.Common.{sym, ◌∙◌, take-suc, take_all, length-take-le, get_or-drop, ext_get_or}
use Rattle.std.proofs.Math.Path.{ap, ap₂}
use Rattle.std.proofs.Math.Nat.{sub-zero}
use native.Mathlib.Omega.{arith}
use Rattle.std.proofs.Math.ListN.{get_or, set}
use Rattle.std.proofs.lemmas.List.{length-map}
use Rattle.std.proofs.Math.Seq.{set-append_seam, append_snoc}
use borrow.Author.Tests.{lt-leb}
use Rattle.language.specs.Limits.{parameters_most, instances_most}
use Rattle.language.specs.Result.{choose}
use Rattle.language.specs.Layout.{padded}
use Rattle.language.specs.Checker.{Instance as Entered}
use Rattle.language.specs.Machine.{Record, empty_record, record_of}
use Rattle.theory.specs.Padding.{padded-length}
use Rattle.index.specs.Padded.{padded-at}
use Rattle.instances.specs.Listed.{instance_words_count, numbers_from, Listed}
use Rattle.instances.specs.ListLaws.{function-word, size_word, number_word}
use Rattle.instances.specs.Matches.{no_instance, at}
use Rattle.instance_list.specs.declared.Instance.{Instance}
use Rattle.instance_list.specs.Records.{shown, records_of, none, sizes_from, record_from, record_at, used_in, laid, filled}

-- ---- an empty record
empty-shown : shown none ≡ empty_record
unfolding padded
empty-shown = refl

empties-shown : (n : ℕ) → records_of (replicate n none) ≡ replicate n empty_record
empties-shown zero = refl
empties-shown (suc n) = ap₂ (λ (r : Record) (rs : List Record). r ∷ rs) empty-shown (empties-shown n)

-- records are shown by what they hold
held : Record → Instance
held r = record { function = r.function; sizes = r.sizes; environment = r.numbers.env; heap = r.numbers.heap; stack = r.numbers.stack }

held-shown : (list : List Instance) → map held (records_of list) ≡ list
unfolding held
held-shown [] = refl
held-shown (r ∷ list) = ap (λ l. r ∷ l) (held-shown list)

held-empties : (n : ℕ) → map held (replicate n empty_record) ≡ replicate n none
unfolding held padded
held-empties zero = refl
held-empties (suc n) = ap (λ l. none ∷ l) (held-empties n)

pub shown-empties : (list : List Instance) (n : ℕ) → records_of list ≡ replicate n empty_record → list ≡ replicate n none
shown-empties list n e = sym (held-shown list) ∙ ap (map held) e ∙ held-empties n

-- ---- a record of the words
module _ {words : List ℕ} (L : List Entered) (v : Listed words L) (few : length L ≤ instances_most) (i : ℕ) (h : i < length L) where
  sizes-shown : sizes_from words (instance_words_count * i + 1) ≡ padded parameters_most (at L i).sizes
  sizes-shown =
      let here = sizes_from words (instance_words_count * i + 1) in
      let long : length here ≡ parameters_most = padded-length parameters_most (drop (instance_words_count * i + 1) words) in
      ext_get_or 0 here (padded parameters_most (at L i).sizes) (long ∙ sym (padded-length parameters_most (at L i).sizes))
      (λ j less. let low : j < parameters_most = omega (arith, long) in
      padded-at parameters_most (drop (instance_words_count * i + 1) words) j low ∙ get_or-drop (instance_words_count * i + 1) words j 0 ∙ size_word L v i h j low)

  record-shown : shown (record_at words i) ≡ record_of (at L i)
  unfolding record_at choose record_of
  record-shown =
      let there = lt-leb instances_most i (omega arith) in
      let numbers-at : instance_words_count * i + numbers_from + 0 ≡ instance_words_count * i + numbers_from = omega arith in
      let env = ap (λ k. get_or words k 0) (sym numbers-at) ∙ number_word L v i h 0 (omega arith) in
      let heap = number_word L v i h 1 (omega arith) in
      let stack = number_word L v i h 2 (omega arith) in
      ap (λ b. shown (choose b none (record_from words (instance_words_count * i)))) there
      ∙ (λ k. record { function = function-word L v i h k; sizes = sizes-shown k; numbers = record { env = env k; heap = heap k; stack = stack k } })

-- ---- the records one after the other
map-set : {A B : Type 0} (f : A → B) (l : List A) (i : ℕ) (a : A) → map f (set l i a) ≡ set (map f l) i (f a)
map-set f [] i a = refl
map-set f (x ∷ l) zero a = refl
map-set f (x ∷ l) (suc i) a = ap (λ m. f x ∷ m) (map-set f l i a)

module _ {words : List ℕ} (L : List Entered) (v : Listed words L) (few : length L ≤ instances_most) (n : ℕ) (room : length L ≤ n) where
  abbrev upto : ℕ → List Record
  upto i = map record_of (take i L) ++ replicate (n - i) empty_record

  one_more : (i : ℕ) → i < length L → set (upto i) i (record_of (at L i)) ≡ upto (suc i)
  one_more i h =
      let front = map record_of (take i L) in
      let behind = replicate (n - suc i) empty_record in
      let long : length front ≡ i = length-map (take i L) record_of ∙ length-take-le i L (omega arith) in
      let more : n - i ≡ suc (n - suc i) = omega arith in
      ap (λ m. set (front ++ replicate m empty_record) i (record_of (at L i))) more
      ∙ ap (λ k. set (front ++ (empty_record ∷ behind)) k (record_of (at L i))) (sym long)
      ∙ set-append_seam front empty_record behind (record_of (at L i))
      ∙ sym (append_snoc front (record_of (at L i)) behind)
      ∙ ap (λ l. l ++ behind) (sym (ap (map record_of) (take-suc L i no_instance h) ∙ map-append record_of (take i L) (at L i ∷ [])))

  laid-shown : (i : ℕ) → i ≤ length L → records_of (laid words i (replicate n none)) ≡ upto i
  unfolding laid
  laid-shown zero h = rw sub-zero (empties-shown n)
  laid-shown (suc i) h =
      map-set shown (laid words i (replicate n none)) i (record_at words i)
      ∙ ap₂ (λ (l : List Record) (r : Record). set l i r) (laid-shown i (omega arith)) (record-shown L v few i (omega arith))
      ∙ one_more i (omega arith)

  pub filled-shown : used_in words ≡ length L → records_of (filled words n) ≡ map record_of L ++ replicate (n - length L) empty_record
  filled-shown e =
      ap (λ i. records_of (laid words i (replicate n none))) e ∙ laid-shown (length L) (omega arith)
      ∙ ap (λ l. map record_of l ++ replicate (n - length L) empty_record) (take_all (length L) L (omega arith))
