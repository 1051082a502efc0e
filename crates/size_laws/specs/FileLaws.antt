-- The whole file, its initial values and then its updates: what each return gives.
use Rattle.language.specs.declared.refusals.RefusalAt.{RefusalAt}
use Rattle.std.specs.Prelude.{Ok, Err}
use Rattle.size_steps.specs.Outcomes.{Counting}
use Rattle.std.specs.Prelude.{ℕ, ◌*◌, ◌-◌, ◌≤◌, List, [], map, ◌≡◌, refl, length, replicate}
use Rattle.std.proofs.Common.{sym, ap, ◌∙◌, subst, arith}
use Rattle.std.proofs.lemmas.List.{length-replicate}
use Rattle.language.specs.Limits.{instances_most}
use Rattle.language.specs.Result.{Result, ok, no, bind}
use Rattle.language.specs.Syntax.{Node, File, declared_types, initial_values}
use Rattle.language.specs.Within.{all_nil}
use Rattle.language.specs.Estimate.{nothing}
use Rattle.language.specs.Checker.{Instance, Counted as CountedDef, SizedFile, sized_updates, sized_file}
use Rattle.theory.specs.Different.{distinct_nil}
use Rattle.theory.specs.Lists.{none-is-not-some}
use Rattle.index.specs.declared.Counts.{Counts}
use Rattle.index.specs.Sections.{counts_in}
use Rattle.index.specs.Indexed.{Counted as CountsAre}
use Rattle.instances.specs.Listed.{instance_words_count}
use Rattle.instances.specs.ListLaws.{listed-none}
use Rattle.size_steps.specs.declared.Counted.{Counted}
use Rattle.size_steps.specs.Agreement.{Table, table, Holds}
use Rattle.size_laws.specs.Promises.{Lent, IndexedFile}
use Rattle.size_laws.specs.FilePromises.{AgreesFile, file_agrees, file_refused, file_beyond, SizesFile}
use Rattle.size_laws.specs.FileParts.{Few, initial_word, update_word, summed, AgreesSum, sum_agrees, sum_refused, sum_beyond, SizesChannels, SizesInitials}
use Rattle.size_laws.specs.SummedLaws.{initials-are, totalled, updates-are}
use Rattle.size_laws.specs.LastingLaws.{counts-few, initials-last, updates-last}

-- ---- a cleared list holds no instance
holds-none : {P : File} (m : ℕ) (memo : List ℕ) → instance_words_count * instances_most ≤ m → Holds P (table (replicate m 0) memo) 0 []
holds-none m memo long =
    let words : List ℕ = replicate m 0 in
    let same : m ≡ length words - instance_words_count * 0 = omega (arith, length-replicate {A = ℕ} m 0) in
    record {
      listed = listed-none words;
      count = refl;
      rows = all_nil;
      once = distinct_nil;
      met = λ i r F there is. none-is-not-some there;
      lent = omega (arith, long, length-replicate {A = ℕ} m 0);
      rest = ap (λ k. replicate k 0) same;
    }

-- ---- initial values
pub initials-many : {t : Lent} {list : List ℕ} {list' : Table} {n : Counts} {why : RefusalAt} → (Few n → ⊥) → SizesInitials t list n (Err why) list'
initials-many more = record { says = λ P i k long. absurd (more (counts-few i k)); few = λ e. absurd (let z : ◌≡◌ {A = ℕ} 0 1 = cc in omega arith) }

pub initials-done : {t : Lent} (list : List ℕ) {list₁ memo : List ℕ} {list₂ : Table} {n : Counts} {x : Counting} → Few n → list₁ ≡ replicate (length list) 0 → SizesChannels t (table list₁ memo) n 0 initial_word 0 x list₂ → SizesInitials t list n x list₂
initials-done list {memo = memo} f cleared v = record {
  says = λ P i k long. v.says P i k [] (λ c τ is. none-is-not-some is) _ _ (initials-last i k) [] (rw cleared (holds-none (length list) memo long));
  few = λ e. f;
}

-- ---- then updates
first-refused : {P : File} {list memo : List ℕ} {x : Counting} {why : RefusalAt} {a : Result CountedDef} (κ : List Instance → Result SizedFile) → AgreesSum P (table list memo) x a → x ≡ Err why → AgreesFile P list x (bind (bind a (λ (q : CountedDef). ok q.list)) κ)
unfolding bind
first-refused κ (sum_agrees e st h) d = absurd (let same = sym e ∙ d in let z : ◌≡◌ {A = ℕ} 0 1 = cc in omega arith)
first-refused κ (sum_refused e) d = file_refused e
first-refused κ (sum_beyond b) d = file_beyond b

first-are : {P : File} {list : Table} {list' : List ℕ} {x r : Counting} {k : Counted} {a : Result CountedDef} (κ : List Instance → Result SizedFile) → AgreesSum P list x a → x ≡ Ok k → ((L : List Instance) → Holds P list k.used L → AgreesFile P list' r (κ L)) →
    AgreesFile P list' r (bind (bind a (λ (q : CountedDef). ok q.list)) κ)
unfolding bind
first-are {P} {list} {k} κ (sum_agrees {k = j} {x = q} e st h) d f = let same : j ≡ k = (let both : Ok j ≡ Ok k = sym e ∙ d in cc) in f q.list (subst (λ (z : Counted). Holds P list z.used q.list) same h)
first-are κ (sum_refused e) d f = absurd (let same = sym e ∙ d in let z : ◌≡◌ {A = ℕ} 0 1 = cc in omega arith)
first-are κ (sum_beyond b) d f = file_beyond b

then-updates : {P : File} {list memo : List ℕ} {r : Counting} (a : Result SizedFile) → AgreesSum P (table list memo) r (bind a (λ (s : SizedFile). ok (totalled nothing s))) → AgreesFile P list r a
unfolding bind
then-updates (ok s) (sum_agrees e st h) = file_agrees {x = s} e (record { env = omega (arith, st.env); heap = omega (arith, st.heap); stack = omega (arith, st.stack) }) h
then-updates (no n frame) (sum_refused e) = file_refused e
then-updates (no n frame) (sum_beyond b) = file_beyond b

-- ---- the whole file: n its counts, as the index has them
module _ {t : Lent} {list list₁ memo : List ℕ} {n : Counts} {x : Counting} (counts : n ≡ counts_in t.index) (v : SizesInitials t list n x (table list₁ memo)) where
  counts-are : {P : File} → IndexedFile t P → CountsAre n P
  counts-are {P} i = subst (λ m. CountsAre m P) (sym counts) i.counted

  pub file-first : {why : RefusalAt} → x ≡ Err why → SizesFile t list x list₁
  unfolding sized_file
  file-first d = record { says = λ P i long. rw (initials-are P nothing 0 (initial_values P) (declared_types P) []) (first-refused _ (v.says P i (counts-are i) long) d) }

  pub file-done : {a : Counted} {y : Counting} {list₂ memo₂ : List ℕ} → x ≡ Ok a → SizesChannels t (table list₁ memo) n n.inputs update_word a.used y (table list₂ memo₂) → SizesFile t list y list₂
  unfolding sized_file
  file-done {y} {list₂} {memo₂} d u = record {
    says = λ P i long. let k = counts-are i in rw (initials-are P nothing 0 (initial_values P) (declared_types P) []) (first-are _ (v.says P i k long) d (λ L h.
        then-updates (sized_updates P (length P.inputs) P.nodes L) (subst (AgreesSum P (table list₂ memo₂) y) (ap (λ c. summed P (declared_types P) nothing c (map (λ (m : Node). m.update) P.nodes) (map (λ (m : Node). m.declared) P.nodes) L) (sym k.input_count) ∙ updates-are P nothing (length P.inputs) P.nodes L)
        (u.says P i k (declared_types P) (λ c τ is. is) _ _ (updates-last i k) L h))));
  }

-- the words of the list by another name
pub file-by : {t : Lent} {list words words' : List ℕ} {r : Counting} → SizesFile t list r words → words' ≡ words → SizesFile t list r words'
file-by {t} {list} {r = r} v same = subst (λ w. SizesFile t list r w) (sym same) v
