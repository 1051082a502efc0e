-- What an answer is makes instances grow; and what the definition's answer is known to satisfy goes on beside agreement.
use Rattle.language.specs.declared.refusals.RefusalAt.{RefusalAt}
use Rattle.std.specs.Prelude.{Ok, Err}
use Rattle.size_steps.specs.Outcomes.{Counting, Sizing}
use Rattle.std.specs.Prelude.{ℕ, ◌≤◌, List}
use Rattle.std.proofs.Math.Path.{◌≡◌, sym}
use Rattle.std.proofs.Common.{◌∙◌, subst, arith}
use Rattle.language.specs.Result.{Result, bind}
use Rattle.language.specs.Syntax.{File}
use Rattle.language.specs.Checker.{Sized, Sizeds}
use Rattle.theory.specs.Outcomes.{Sat, sat-value}
use Rattle.size_steps.specs.declared.Checked.{Checked}
use Rattle.size_steps.specs.declared.Counted.{Counted}
use Rattle.size_steps.specs.Agreement.{Table, CheckedAs, CountedAs, Agrees, agrees, refused, beyond, AgreesAll, agree, refused_all, beyond_all, Grows, grown, not_grown, GrowsAll, grown_all}

-- ---- growing, by what the answer is
pub grown-as : {used : ℕ} {r : Sizing} {k : Checked} → r ≡ Ok k → used ≤ k.used → Grows used r
grown-as {used} {k} e le = subst (Grows used) (sym e) (grown {k = k} le)

pub not-grown-as : {used : ℕ} {why : RefusalAt} {r : Sizing} → r ≡ Err why → Grows used r
not-grown-as {used} e = subst (Grows used) (sym e) not_grown

pub grown-all-as : {used : ℕ} {r : Counting} {k : Counted} → r ≡ Ok k → used ≤ k.used → GrowsAll used r
grown-all-as {used} {k} e le = subst (GrowsAll used) (sym e) (grown_all {k = k} le)

-- ---- with what the definition's answer satisfies
module _ {A B : Type 0} {Q : A → Type 0} {P : File} {view : A → Sized} {at : ℕ} {table₀ : Table} {x : Sizing} {viewed : B → Sized} {next : ℕ} {table : Table} {r : Sizing} (κ : A → Result B) where
  pub bind-knows : {a : Result A} {k : Checked} → Agrees P view at table₀ x a → Sat Q a → x ≡ Ok k →
      ((y : A) → Q y → CheckedAs P at table₀ k (view y) → Agrees P viewed next table r (κ y)) → Agrees P viewed next table r (bind a κ)
  unfolding bind
  bind-knows {k} (agrees {k = j} {x = y} e c) s d f = f y (sat-value s) (subst (λ l. CheckedAs P at table₀ l (view y)) (let same : Ok j ≡ Ok k = sym e ∙ d in cc) c)
  bind-knows (refused e) s d f = absurd (let same = sym e ∙ d in let z : ◌≡◌ {A = ℕ} 0 1 = cc in omega arith)
  bind-knows (beyond b) s d f = beyond b

module _ {B : Type 0} {Q : Sizeds → Type 0} {P : File} {at : ℕ} {table₀ : Table} {row : List ℕ} {x : Counting} {viewed : B → Sized} {next : ℕ} {table : Table} {r : Sizing} (κ : Sizeds → Result B) where
  pub all-know : {a : Result Sizeds} {k : Counted} → AgreesAll P at table₀ row x a → Sat Q a → x ≡ Ok k →
      ((y : Sizeds) → Q y → CountedAs P at table₀ row k y → Agrees P viewed next table r (κ y)) → Agrees P viewed next table r (bind a κ)
  unfolding bind
  all-know {k} (agree {k = j} {x = y} e c) s d f = f y (sat-value s) (subst (λ l. CountedAs P at table₀ row l y) (let same : Ok j ≡ Ok k = sym e ∙ d in cc) c)
  all-know (refused_all e) s d f = absurd (let same = sym e ∙ d in let z : ◌≡◌ {A = ℕ} 0 1 = cc in omega arith)
  all-know (beyond_all b) s d f = beyond b
