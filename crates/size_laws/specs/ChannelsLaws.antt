-- The expressions of channels one after the other: what each turn and each return gives.
use Rattle.language.specs.declared.refusals.RefusalAt.{RefusalAt}
use Rattle.std.specs.Prelude.{Ok, Err}
use Rattle.size_steps.specs.Outcomes.{Counting, Sizing}
use Rattle.std.specs.Prelude.{ℕ, suc, ◌+◌, ◌≤◌, ◌<◌, List, refl}
use Rattle.std.proofs.Math.Path.{◌≡◌, sym}
use Rattle.std.proofs.Common.{ap, ◌∙◌, subst, arith, add-one}
use Rattle.language.specs.Result.{Result, no, bind}
use Rattle.language.specs.Syntax.{Ty, Expr, File}
use Rattle.language.specs.Estimate.{Estimate as Exact, nothing, after}
use Rattle.language.specs.Checker.{Instance, Counted as CountedDef}
use Rattle.text.specs.declared.Cursor.{Cursor}
use Rattle.index.specs.declared.Counts.{Counts}
use Rattle.estimate.specs.Stands.{Stands}
use Rattle.index.specs.Indexed.{Counted as CountsAre}
use Rattle.size_steps.specs.declared.Checked.{Checked}
use Rattle.size_steps.specs.declared.Counted.{Counted}
use Rattle.size_steps.specs.Agreement.{Table, Holds, Before, Agrees, agrees, refused, beyond, of_type}
use Rattle.size_laws.specs.Promises.{Lent, IndexedFile}
use Rattle.size_laws.specs.FileParts.{Named, SizesChannel, summed, Lasting, no_more, one_more, AgreesSum, sum_agrees, sum_refused, sum_beyond, channel_count, SizesChannels}
use Rattle.size_steps.specs.Numbers.{NoneCounted, Joins}

-- ---- before channel c: what was summed so far, and the expressions that are left decide the whole
data Reached (t : Lent) (P : File) (C : List Ty) (word last c : ℕ) (list : Table) (all : Counted) (whole : Result CountedDef) : Type 0 where
  reached : {x : Exact} {es : List Expr} {τs : List Ty} {L : List Instance} → Lasting t P word last c es τs → Stands all.numbers x → Holds P list all.used L → whole ≡ summed P C x c es τs L → Reached t P C word last c list all whole
  lost : {n frame : ℕ} → Before n → whole ≡ no n frame → Reached t P C word last c list all whole

pub record Along (t : Lent) (list₀ : Table) (n : Counts) (from word used c : ℕ) (list : Table) (all : Counted) : Type 0 where
  says : (P : File) → IndexedFile t P → CountsAre n P → (C : List Ty) → Named P C → (es : List Expr) (τs : List Ty) → Lasting t P word (channel_count n) from es τs → (L : List Instance) → Holds P list₀ used L →
      Reached t P C word (channel_count n) c list all (summed P C nothing from es τs L)

pub along-start : {t : Lent} {list : Table} {n : Counts} {from word used : ℕ} {start : Cursor} {all : Counted} → NoneCounted start used all → Along t list n from word used from list all
along-start {list} none = rw none.is (record { says = λ P i k C named es τs ls L h. reached ls none.none.says h refl })

-- ---- one turn
module _ {t : Lent} {P : File} {C : List Ty} {word last c end : ℕ} {list : Table} {all : Counted} {whole : Result CountedDef} {x : Sizing} {y : Exact} {τ : Ty} {es : List Expr} {τs : List Ty} where
  turn_is : {a : Result CountedDef} {k : Checked} {all' : Counted} → Agrees P (of_type τ) end list x a → x ≡ Ok k → Joins all k all' → Lasting t P word last (suc c) es τs → Stands all.numbers y →
      whole ≡ bind a (λ (q : CountedDef). summed P C (after y q.numbers) (suc c) es τs q.list) → Reached t P C word last (suc c) list all' whole
  unfolding bind
  turn_is {k} (agrees {k = j} {x = q} e g) d joins ls st is =
      let same : j ≡ k = (let both : Ok j ≡ Ok k = sym e ∙ d in cc) in
      reached ls (joins.numbers.says y q.numbers st (subst (λ (z : Checked). Stands z.numbers q.numbers) same g.numbers)) (subst (λ m. Holds P list m q.list) (ap (λ (z : Checked). z.used) same ∙ sym joins.used) g.holds) is
  turn_is (refused e) d joins ls st is = absurd (let same = sym e ∙ d in let z : ◌≡◌ {A = ℕ} 0 1 = cc in omega arith)
  turn_is (beyond b) d joins ls st is = lost b is

turn-no : {P : File} {end : ℕ} {list : Table} {whole : Result CountedDef} {x : Sizing} {τ : Ty} {a : Result CountedDef} {why : RefusalAt} (κ : CountedDef → Result CountedDef) → Agrees P (of_type τ) end list x a → x ≡ Err why → whole ≡ bind a κ → AgreesSum P list (Err why) whole
unfolding bind
turn-no κ (agrees e g) d is = absurd (let same = sym e ∙ d in let z : ◌≡◌ {A = ℕ} 0 1 = cc in omega arith)
turn-no {why} κ (refused {why = told} e) d is =
    let both : ◌≡◌ {A = Sizing} (Err why) (Err told) = sym d ∙ e in
    let same : why ≡ told = cc in
    rw is (sum_refused (ap Err same))
turn-no κ (beyond b) d is = rw is (sum_beyond b)

module _ {t : Lent} {list₀ list list₁ : Table} {n : Counts} {from word used c : ℕ} {all : Counted} {x : Sizing} (v : Along t list₀ n from word used c list all) (less : c < channel_count n) (u : SizesChannel t list n c word all.used x list₁) where
  on-reached : {a : Checked} {all' : Counted} → x ≡ Ok a → Joins all a all' → (P : File) → IndexedFile t P → CountsAre n P → (C : List Ty) → Named P C → {whole : Result CountedDef} → Reached t P C word (channel_count n) c list all whole → Reached t P C word (channel_count n) (suc c) list₁ all' whole
  unfolding summed
  on-reached d joins P i k C named (reached (no_more past) st h is) = absurd (omega (arith, past, less))
  on-reached d joins P i k C named (reached {L = L} (one_more {e = e} {τ = τ} also s ls) st h is) = turn_is (u.says P i k C named e τ s L h) d joins ls st is
  on-reached d joins P i k C named (lost b is) = lost b is

  pub along-on : {a : Checked} {all' : Counted} → x ≡ Ok a → Joins all a all' → Along t list₀ n from word used (c + 1) list₁ all'
  along-on d joins = rw (add-one c) (record { says = λ P i k C named es τs ls L h. on-reached d joins P i k C named (v.says P i k C named es τs ls L h) })

  no-reached : {why : RefusalAt} → x ≡ Err why → (P : File) → IndexedFile t P → CountsAre n P → (C : List Ty) → Named P C → {whole : Result CountedDef} → Reached t P C word (channel_count n) c list all whole → AgreesSum P list₁ (Err why) whole
  unfolding summed
  no-reached d P i k C named (reached (no_more past) st h is) = absurd (omega (arith, past, less))
  no-reached d P i k C named (reached {L = L} (one_more {e = e} {τ = τ} also s ls) st h is) = turn-no _ (u.says P i k C named e τ s L h) d is
  no-reached d P i k C named (lost b is) = rw is (sum_beyond b)

  pub along-no : {why : RefusalAt} {r : Counting} → x ≡ Err why → r ≡ Err why → SizesChannels t list₀ n from word used r list₁
  along-no d answer = rw answer (record { says = λ P i k C named es τs ls L h. no-reached d P i k C named (v.says P i k C named es τs ls L h) })

end-reached : {t : Lent} {P : File} {C : List Ty} {word last c : ℕ} {list : Table} {all : Counted} {whole : Result CountedDef} → last ≤ c → Reached t P C word last c list all whole → AgreesSum P list (Ok all) whole
unfolding summed
end-reached past (reached (no_more also) st h is) = rw is (sum_agrees refl st h)
end-reached past (reached (one_more less s ls) st h is) = absurd (omega (arith, past, less))
end-reached past (lost b is) = rw is (sum_beyond b)

pub along-end : {t : Lent} {list₀ list : Table} {n : Counts} {from word used c : ℕ} {all : Counted} → Along t list₀ n from word used c list all → channel_count n ≤ c → SizesChannels t list₀ n from word used (Ok all) list
along-end v past = record { says = λ P i k C named es τs ls L h. end-reached past (v.says P i k C named es τs ls L h) }
