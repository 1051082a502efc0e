-- Writing records: words stored one after the other, and the list of instances that they then are.
use Rattle.std.specs.Prelude.{ℕ, suc, ◌+◌, ◌*◌, ◌≤◌, ◌<◌, ◌≡◌, refl, get_or, set}
use mathlib.Core.List.{List, [], ◌∷◌, ◌++◌, append_assoc}
use Rattle.std.proofs.Math.Option.{some}
use Rattle.std.proofs.Math.Path.{sym, ap}
use Rattle.std.proofs.Common.{ap₂, ◌∙◌, add-one, arith, length-append, length-set, length-take-le, take_all, take-suc, take_at, drop_at, get_or-set_same, get_or-set_other}
use Rattle.std.proofs.Math.ListN.{length, take, drop, get_elem? as look}
use Rattle.std.proofs.Math.Seq.{split_at, set-append_seam, append_snoc, length-sets, sets-eq}
use Rattle.std.proofs.lemmas.List.{set_split}
use Rattle.std.proofs.lemmas.List.Edits.{sets}
use Rattle.language.specs.Limits.{parameters_most, instances_most}
use Rattle.language.specs.Format.{spell_all}
use Rattle.language.specs.Layout.{padded}
use Rattle.language.specs.Estimate.{Estimate as Exact, nothing}
use Rattle.language.specs.Checker.{Instance}
use Rattle.theory.specs.Lists.{look-get_d, look-less, sets-append}
use Rattle.theory.specs.Padding.{padded-length}
use Rattle.index.specs.Entries.{spell-append, spell-more}
use Rattle.index.specs.Padded.{padded-at}
use Rattle.estimate.specs.declared.Estimate.{Estimate as Held}
use Rattle.estimate.specs.Stands.{Stands, Makes}
use Rattle.instances.specs.Listed.{instance_words_count, numbers_from, hint_words, result_word, key_words, stopped_words, instance_words, flat, Listed, SizesAre, Writes, number_words, Adds, Notes, Finishes}
use Rattle.instances.specs.Matches.{no_instance}
use Rattle.instances.specs.ListLaws.{key-wide, flat-length, listed_start, listed-parts}

-- ---- words stored from a place on
-- the sizes before j are stored
pub record Stored (list₀ : List ℕ) (from : ℕ) (sizes : List ℕ) (j : ℕ) (list : List ℕ) : Type 0 where
  pub low : j ≤ parameters_most
  pub is : list ≡ sets list₀ from (take j (padded parameters_most sizes))

pub stored-long : {list₀ sizes list : List ℕ} {from j : ℕ} → Stored list₀ from sizes j list → length list ≡ length list₀
stored-long {list₀} {sizes} {from} {j} v = ap length v.is ∙ length-sets list₀ from (take j (padded parameters_most sizes))

pub stored-start : (list sizes : List ℕ) (from : ℕ) → Stored list from sizes 0 list
stored-start list sizes from = record { low = omega arith; is = refl }

pub stored_on : {list₀ sizes list list' : List ℕ} {from j size : ℕ} → Stored list₀ from sizes j list → j < parameters_most → size ≡ get_or sizes j 0 → list' ≡ set list (from + j) size → Stored list₀ from sizes (j + 1) list'
stored_on {list₀} {sizes} {list} {from} {j} v h q e =
    let p = padded parameters_most sizes in
    let long : length p ≡ parameters_most = padded-length parameters_most sizes in
    let before : length (take j p) ≡ j = length-take-le j p (omega (arith, long)) in
    record {
      low = omega arith;
      is = e ∙ ap₂ (λ (l : List ℕ) (w : ℕ). set l (from + j) w) v.is (q ∙ sym (padded-at parameters_most sizes j h))
          ∙ ap (λ m. set (sets list₀ from (take j p)) (from + m) (get_or p j 0)) (sym before) ∙ sym (sets-append (take j p) (get_or p j 0 ∷ []) list₀ from)
          ∙ ap (sets list₀ from) (sym (take-suc p j 0 (omega (arith, long)))) ∙ rw add-one;
    }

pub stored-end : {list₀ sizes list : List ℕ} {from j : ℕ} → Stored list₀ from sizes j list → parameters_most ≤ j → list ≡ sets list₀ from (padded parameters_most sizes)
stored-end {list₀} {sizes} {from} {j} v h = v.is ∙ ap (sets list₀ from) (take_all j (padded parameters_most sizes) (omega (arith, padded-length parameters_most sizes)))

-- ---- what storing words changes
pub writes-none : {words ws : List ℕ} {from : ℕ} → length words < from + length ws → Writes words from ws words
writes-none h = record { fits = λ k. absurd (omega arith); short = λ k. refl; below = refl; behind = refl; long = refl }

stored-parts : {words' : List ℕ} (words : List ℕ) (from : ℕ) (ws : List ℕ) → words' ≡ sets words from ws → from + length ws ≤ length words → words' ≡ take from words ++ (ws ++ drop (from + length ws) words)
stored-parts words from ws e h = e ∙ sets-eq ws words from h ∙ append_assoc (take from words) ws (drop (from + length ws) words)

pub writes-made : {words words' : List ℕ} (from : ℕ) (ws : List ℕ) → words' ≡ sets words from ws → from + length ws ≤ length words → Writes words from ws words'
writes-made {words} {words'} from ws e h =
    let front : length (take from words) ≡ from = length-take-le from words (omega arith) in
    record {
      fits = λ k. e;
      short = λ k. absurd (omega arith);
      below = ap (take from) (stored-parts words from ws e h) ∙ take_at (take from words) (ws ++ drop (from + length ws) words) from front;
      behind = ap (drop (from + length ws)) (e ∙ sets-eq ws words from h) ∙ drop_at (take from words ++ ws) (drop (from + length ws) words) (from + length ws) (length-append (take from words) ws ∙ ap (λ m. m + length ws) front);
      long = ap length e ∙ length-sets words from ws;
    }

-- ---- a record more
module _ (words : List ℕ) (used f : ℕ) (sizes : List ℕ) where
  new-wide : length (key_words f sizes ++ (0 ∷ 0 ∷ 0 ∷ [])) ≡ instance_words_count
  new-wide = length-append (key_words f sizes) (0 ∷ 0 ∷ 0 ∷ []) ∙ omega (arith, key-wide f sizes)

  pub added-not : length words < instance_words_count * used + instance_words_count → Adds words used f sizes words
  added-not h = record { writes = writes-none (omega (arith, new-wide)); says = λ L ks v u s room. absurd (omega arith) }

  added-listed : {words' : List ℕ} → words' ≡ sets words (instance_words_count * used) (key_words f sizes ++ (0 ∷ 0 ∷ 0 ∷ [])) → instance_words_count * used + instance_words_count ≤ length words → (L : List Instance) (ks : List ℕ) →
      Listed words L → used ≡ length L → SizesAre sizes ks → Listed words' (L ++ (record { function = f; sizes = ks; numbers = nothing } ∷ []))
  unfolding instance_words
  added-listed {words'} e h L ks v u s =
      let r : Instance = record { function = f; sizes = ks; numbers = nothing } in
      let ws = key_words f sizes ++ (0 ∷ 0 ∷ 0 ∷ []) in
      let behind = drop (instance_words_count * used + length ws) words in
      let front : take (instance_words_count * used) words ≡ flat L = ap (λ m. take (instance_words_count * m) words) u ∙ v.is in
      let new : ws ≡ instance_words r = ap (λ (l : List ℕ). (f ∷ l) ++ (0 ∷ 0 ∷ 0 ∷ [])) s.is in
      listed_start (L ++ (r ∷ [])) behind (e ∙ sets-eq ws words (instance_words_count * used) (omega (arith, new-wide)) ∙ ap (λ (l : List ℕ). l ++ behind) (ap₂ (λ (l m : List ℕ). l ++ m) front new ∙ sym (spell-more instance_words L r)))

  pub added : {first second third : List ℕ} {none : Held} → instance_words_count * used + instance_words_count ≤ length words → first ≡ set words (instance_words_count * used) f →
      second ≡ sets first (instance_words_count * used + 1) (padded parameters_most sizes) → Makes nothing none → third ≡ sets second (instance_words_count * used + numbers_from) (number_words none) → Adds words used f sizes third
  added {first} {second} {third} {none} h p q m o =
      let from = instance_words_count * used in
      let one : from + 1 ≡ suc from = omega arith in
      let key : second ≡ sets words from (key_words f sizes) = q ∙ ap₂ (λ (l : List ℕ) n. sets l n (padded parameters_most sizes)) p one in
      let zeros : number_words none ≡ 0 ∷ 0 ∷ 0 ∷ [] = rw (m.says.env, m.says.heap, m.says.stack) in
      let is : third ≡ sets words from (key_words f sizes ++ (0 ∷ 0 ∷ 0 ∷ [])) =
      o ∙ ap₂ (λ (l m : List ℕ). sets l (from + numbers_from) m) key zeros ∙ ap (λ n. sets (sets words from (key_words f sizes)) (from + n) (0 ∷ 0 ∷ 0 ∷ [])) (sym (key-wide f sizes)) ∙ sym (sets-append (key_words f sizes) (0 ∷ 0 ∷ 0 ∷ []) words from) in
      record { writes = writes-made from (key_words f sizes ++ (0 ∷ 0 ∷ 0 ∷ [])) is (omega (arith, new-wide)); says = λ L ks v u s room. added-listed is h L ks v u s }

-- ---- the numbers of a record
-- words stored over as many others
sets_over : (p ns ms t : List ℕ) → length ns ≡ length ms → sets (p ++ (ns ++ t)) (length p) ms ≡ p ++ (ms ++ t)
sets_over p [] [] t e = refl
sets_over p [] (m ∷ ms) t e = absurd (omega arith)
sets_over p (n ∷ ns) [] t e = absurd (omega arith)
sets_over p (n ∷ ns) (m ∷ ms) t e =
    let long : suc (length p) ≡ length (p ++ (m ∷ [])) = omega (arith, length-append p (m ∷ [])) in
    ap₂ (λ (l : List ℕ) k. sets l k ms) (set-append_seam p n (ns ++ t) m ∙ sym (append_snoc p m (ns ++ t))) long ∙ sets_over (p ++ (m ∷ [])) ns ms t (omega arith) ∙ append_snoc p m (ms ++ t)

-- the words of a list around the numbers of one of its records
flat-around : (A : List Instance) (q : Instance) (B : List Instance) (rest : List ℕ) →
    flat (A ++ (q ∷ B)) ++ rest ≡ (flat A ++ key_words q.function q.sizes) ++ (stopped_words q.numbers ++ (flat B ++ rest))
unfolding spell_all instance_words
flat-around A q B rest =
    let k = key_words q.function q.sizes in
    let n = stopped_words q.numbers in
    ap (λ (l : List ℕ). l ++ rest) (spell-append instance_words A (q ∷ B)) ∙ append_assoc (flat A) ((k ++ n) ++ flat B) rest
    ∙ ap (λ (l : List ℕ). flat A ++ l) (append_assoc (k ++ n) (flat B) rest ∙ append_assoc k n (flat B ++ rest)) ∙ sym (append_assoc (flat A) k (n ++ (flat B ++ rest)))

module _ (words : List ℕ) (i : ℕ) (x : Held) where
  finished-listed : {words' : List ℕ} → words' ≡ sets words (instance_words_count * i + numbers_from) (number_words x) → (L : List Instance) (r : Instance) (n : Exact) → Listed words L → look L i ≡ some r → Stands x n →
      Listed words' (set L i (record { function = r.function; sizes = r.sizes; numbers = n }))
  finished-listed {words'} e L r n v l s =
      let h = look-less L i l in
      let A = take i L in
      let B = drop (suc i) L in
      let rest = drop (instance_words_count * length L) words in
      let p = flat A ++ key_words r.function r.sizes in
      let long : length p ≡ instance_words_count * i + numbers_from = length-append (flat A) (key_words r.function r.sizes) ∙ omega (arith, flat-length A, length-take-le i L (omega arith), key-wide r.function r.sizes) in
      let parts : L ≡ A ++ (r ∷ B) = split_at L i no_instance h ∙ ap (λ (q : Instance). A ++ (q ∷ B)) (look-get_d L i no_instance l) in
      let was : words ≡ p ++ (stopped_words r.numbers ++ (flat B ++ rest)) = listed-parts L v ∙ ap (λ (M : List Instance). flat M ++ rest) parts ∙ flat-around A r B rest in
      let held : number_words x ≡ stopped_words n = rw (s.env, s.heap, s.stack) in
      let stored : words' ≡ p ++ (stopped_words n ++ (flat B ++ rest)) = e ∙ ap₂ (λ (w : List ℕ) k. sets w k (number_words x)) was (sym long) ∙ ap (sets (p ++ (stopped_words r.numbers ++ (flat B ++ rest))) (length p)) held ∙ sets_over p (stopped_words r.numbers) (stopped_words n) (flat B ++ rest) refl in
      let r' : Instance = record { function = r.function; sizes = r.sizes; numbers = n } in
      listed_start (set L i r') rest (stored ∙ sym (flat-around A r' B rest) ∙ ap (λ (M : List Instance). flat M ++ rest) (sym (set_split L i r' h)))

  pub finished : {words' : List ℕ} → instance_words_count * i + instance_words_count ≤ length words → words' ≡ sets words (instance_words_count * i + numbers_from) (number_words x) → Finishes words i x words'
  finished h e = record { writes = writes-made (instance_words_count * i + numbers_from) (number_words x) e (omega arith); says = λ L r n v l s. finished-listed e L r n v l s }

-- ---- what is kept beside the list
pub noted : {first second : List ℕ} (memo : List ℕ) {place : ℕ} (hint : ℕ) {used word : ℕ} → length memo ≡ hint_words + instances_most → place < hint_words → first ≡ set memo place hint → second ≡ set first (hint_words + used) word → Notes memo used word second
unfolding result_word
noted {first} {second} memo {place} hint {used} {word} long low p q = record {
  kept = λ i less. ap (λ l. get_or l (hint_words + i) 0) q ∙ get_or-set_other first (hint_words + used) (hint_words + i) word 0 (λ e. omega (arith, e, less))
      ∙ ap (λ l. get_or l (hint_words + i) 0) p ∙ get_or-set_other memo place (hint_words + i) hint 0 (λ e. omega (arith, e, low));
  here = λ room. ap (λ l. get_or l (hint_words + used) 0) q ∙ get_or-set_same first (hint_words + used) word 0 (omega (arith, room, long, ap length p, length-set memo place hint));
}
