-- When an answer of the code agrees with the definition's: the type, the numbers as they are reported, where the next part starts,
-- and the instances in the list's words. Refusals 6 and 9 were judged before sizes are: of them nothing is said.
use Rattle.language.specs.declared.refusals.Refusal.{Refusal}
use Rattle.language.specs.declared.refusals.RefusalAt.{RefusalAt}
use Rattle.language.specs.RefusalNumbers.{number_of}
use Rattle.std.specs.Prelude.{Ok, Err}
use Rattle.size_steps.specs.Outcomes.{Counting, Sizing, Refused}
use Rattle.std.specs.Prelude.{ℕ, ◌*◌, ◌-◌, ◌≤◌, List, map, Bool, length, take, drop, replicate}
use Rattle.std.proofs.Math.Bool.{true, false}
use Rattle.std.proofs.Math.Option.{Option, none, some}
use Rattle.std.proofs.Math.Path.{◌≡◌, refl, sym}
use Rattle.std.proofs.Common.{◌∙◌, subst, arith}
use Rattle.std.proofs.Math.ListN.{get_elem? as look}
use Rattle.language.specs.Limits.{instances_most}
use Rattle.language.specs.Result.{Result, ok, no, bind, need, from}
use Rattle.language.specs.Syntax.{Ty, tbool, tint, tnamed, Function, File}
use Rattle.language.specs.Scope.{named_count}
use Rattle.language.specs.Sizes.{type_at, conditions_hold}
use Rattle.language.specs.Within.{All}
use Rattle.language.specs.Checker.{Instance, Sized, Sizeds, Counted as CountedDef, named}
use Rattle.text.specs.Bytes.{declared_word}
use Rattle.theory.specs.Different.{Distinct}
use Rattle.theory.specs.Instances.{keys_of}
use Rattle.estimate.specs.Stands.{Stands}
use Rattle.instances.specs.Listed.{instance_words_count, result_word, Listed}
use Rattle.sizes.specs.Promises.{meaning}
use Rattle.size_steps.specs.declared.Checked.{Checked}
use Rattle.size_steps.specs.declared.Counted.{Counted}
use Rattle.size_steps.specs.Sites.{Bounded}

-- ---- the list of instances in words; the rest of the words is 0
-- an instance has a size for each named parameter of its function
abbrev pub Row : File → Instance → Type 0
Row P r = (F : Function) → look P.functions r.function ≡ some F → length r.sizes ≡ named_count F.parameters

-- what is known of an instance that was entered: its conditions hold, and its result type, of which the word is kept
pub record Met (F : Function) (ks : List ℕ) (kept : ℕ) : Type 0 where
  pub type : Ty
  pub conditions : conditions_hold ks F.conditions ≡ true
  pub result : type_at ks F.result ≡ some type
  pub small : Bounded type
  pub word : kept ≡ declared_word type

-- as the code holds the list: its words, and what is kept beside it
pub record Table : Type 0 where
  pub words : List ℕ
  pub memo : List ℕ

abbrev pub table : List ℕ → List ℕ → Table
table words memo = record { words = words; memo = memo }

pub record Holds (P : File) (table : Table) (used : ℕ) (L : List Instance) : Type 0 where
  pub listed : Listed table.words L
  pub count : used ≡ length L
  pub rows : All (Row P) L
  pub once : Distinct (keys_of L)
  pub met : (i : ℕ) (r : Instance) (F : Function) → look L i ≡ some r → look P.functions r.function ≡ some F → Met F r.sizes (result_word table.memo i)
  pub lent : instance_words_count * instances_most ≤ length table.words
  pub rest : drop (instance_words_count * used) table.words ≡ replicate (length table.words - instance_words_count * used) 0

-- ---- agreement
-- judged before sizes are
pub data Before : ℕ → Type 0 where
  before_6 : Before 6
  before_9 : Before 9

pub record CheckedAs (P : File) (next : ℕ) (table : Table) (k : Checked) (x : Sized) : Type 0 where
  pub type : meaning k.ty ≡ x.type
  pub small : Bounded x.type
  pub numbers : Stands k.numbers x.numbers
  pub ends : k.next.at ≡ next
  pub holds : Holds P table k.used x.list

-- view: what the definition's answer is as a sized expression
pub data Agrees {A : Type 0} (P : File) (view : A → Sized) (next : ℕ) (table : Table) (r : Sizing) : Result A → Type 0 where
  agrees : {k : Checked} {x : A} → r ≡ Ok k → CheckedAs P next table k (view x) → Agrees P view next table r (ok x)
  refused : {why : RefusalAt} → r ≡ Err why → Agrees P view next table r (no (number_of why.refusal) why.frame)
  beyond : {n frame : ℕ} → Before n → Agrees P view next table r (no n frame)

abbrev pub itself : Sized → Sized
itself x = x

-- branches and bodies, which have the type that is wanted of them
abbrev pub of_type : Ty → CountedDef → Sized
of_type τ x = record { type = τ; numbers = x.numbers; list = x.list }

-- arguments and fields: their types' words stand at the front of a row
pub record CountedAs (P : File) (next : ℕ) (table : Table) (row : List ℕ) (k : Counted) (x : Sizeds) : Type 0 where
  pub types : take (length x.types) row ≡ map declared_word x.types
  pub small : All Bounded x.types
  pub numbers : Stands k.numbers x.numbers
  pub ends : k.next.at ≡ next
  pub holds : Holds P table k.used x.list

pub data AgreesAll (P : File) (next : ℕ) (table : Table) (row : List ℕ) (r : Counting) : Result Sizeds → Type 0 where
  agree : {k : Counted} {x : Sizeds} → r ≡ Ok k → CountedAs P next table row k x → AgreesAll P next table row r (ok x)
  refused_all : {why : RefusalAt} → r ≡ Err why → AgreesAll P next table row r (no (number_of why.refusal) why.frame)
  beyond_all : {n frame : ℕ} → Before n → AgreesAll P next table row r (no n frame)

-- ---- the instances grow, on any bytes
pub data Grows (used : ℕ) : Sizing → Type 0 where
  grown : {k : Checked} → used ≤ k.used → Grows used (Ok k)
  not_grown : {why : RefusalAt} → Grows used (Err why)

pub data GrowsAll (used : ℕ) : Counting → Type 0 where
  grown_all : {k : Counted} → used ≤ k.used → GrowsAll used (Ok k)
  not_grown_all : {why : RefusalAt} → GrowsAll used (Err why)

pub grows-to : {used : ℕ} {r : Sizing} {k : Checked} → Grows used r → r ≡ Ok k → used ≤ k.used
grows-to {used} {k} (grown {k = j} le) e = let same : j.used ≡ k.used = cc in omega (arith, le, same)
grows-to not_grown e = absurd (let z : ◌≡◌ {A = ℕ} 0 1 = cc in omega arith)

pub grows_same : {used used' : ℕ} {r : Sizing} → used ≤ used' → Grows used' r → Grows used r
grows_same le (grown {k} more) = grown {k = k} (omega (arith, le, more))
grows_same le not_grown = not_grown

pub grows-all-to : {used : ℕ} {r : Counting} {k : Counted} → GrowsAll used r → r ≡ Ok k → used ≤ k.used
grows-all-to {used} {k} (grown_all {k = j} le) e = let same : j.used ≡ k.used = cc in omega (arith, le, same)
grows-all-to not_grown_all e = absurd (let z : ◌≡◌ {A = ℕ} 0 1 = cc in omega arith)

-- ---- a combinator of the definition at a time; the whole is answered by r
module _ {A B : Type 0} {P : File} {view : A → Sized} {at : ℕ} {table₀ : Table} {x : Sizing} {viewed : B → Sized} {next : ℕ} {table : Table} {r : Sizing} (κ : A → Result B) where
  pub bind_is : {a : Result A} {k : Checked} → Agrees P view at table₀ x a → x ≡ Ok k → ((y : A) → CheckedAs P at table₀ k (view y) → Agrees P viewed next table r (κ y)) → Agrees P viewed next table r (bind a κ)
  unfolding bind
  bind_is {k} (agrees {k = j} {x = y} e c) d f = f y (subst (λ i. CheckedAs P at table₀ i (view y)) (let same : Ok j ≡ Ok k = sym e ∙ d in cc) c)
  bind_is (refused e) d f = absurd (let same = sym e ∙ d in let z : ◌≡◌ {A = ℕ} 0 1 = cc in omega arith)
  bind_is (beyond b) d f = beyond b

  pub bind-no : {a : Result A} {why : RefusalAt} → Agrees P view at table₀ x a → x ≡ Err why → r ≡ Err why → Agrees P viewed next table r (bind a κ)
  unfolding bind
  bind-no (agrees e c) d f = absurd (let same = sym e ∙ d in let z : ◌≡◌ {A = ℕ} 0 1 = cc in omega arith)
  bind-no (refused e) d f = refused (f ∙ sym d ∙ e)
  bind-no (beyond b) d f = beyond b

-- of several parts
module _ {B : Type 0} {P : File} {at : ℕ} {table₀ : Table} {row : List ℕ} {x : Counting} {viewed : B → Sized} {next : ℕ} {table : Table} {r : Sizing} (κ : Sizeds → Result B) where
  pub all_are : {a : Result Sizeds} {k : Counted} → AgreesAll P at table₀ row x a → x ≡ Ok k → ((y : Sizeds) → CountedAs P at table₀ row k y → Agrees P viewed next table r (κ y)) → Agrees P viewed next table r (bind a κ)
  unfolding bind
  all_are {k} (agree {k = j} {x = y} e c) d f = f y (subst (λ l. CountedAs P at table₀ row l y) (let same : Ok j ≡ Ok k = sym e ∙ d in cc) c)
  all_are (refused_all e) d f = absurd (let same = sym e ∙ d in let z : ◌≡◌ {A = ℕ} 0 1 = cc in omega arith)
  all_are (beyond_all b) d f = beyond b

  pub all-no : {a : Result Sizeds} {why : RefusalAt} → AgreesAll P at table₀ row x a → x ≡ Err why → r ≡ Err why → Agrees P viewed next table r (bind a κ)
  unfolding bind
  all-no (agree e c) d f = absurd (let same = sym e ∙ d in let z : ◌≡◌ {A = ℕ} 0 1 = cc in omega arith)
  all-no {why} (refused_all {why = told} e) d f = let both : ◌≡◌ {A = Counting} (Err told) (Err why) = sym e ∙ d in let same : told ≡ why = cc in rw same (refused f)
  all-no (beyond_all b) d f = beyond b

-- a test that was made before, and one of the pass's own
module _ {B : Type 0} {P : File} {viewed : B → Sized} {next : ℕ} {table : Table} {r : Sizing} where
  pub need-before : {n : ℕ} {x : Result B} (b : Bool) (frame : ℕ) → Before n → (b ≡ true → Agrees P viewed next table r x) → Agrees P viewed next table r (need b n frame x)
  unfolding need
  need-before true frame s f = f refl
  need-before false frame s f = beyond s

  pub from-before : {A : Type 0} {n : ℕ} (o : Option A) (frame : ℕ) (κ : A → Result B) → Before n → ((a : A) → o ≡ some a → Agrees P viewed next table r (κ a)) → Agrees P viewed next table r (from o n frame κ)
  unfolding from
  from-before (some a) frame κ s f = f a refl
  from-before none frame κ s f = beyond s

  pub named-before : (τ : Ty) (frame : ℕ) (κ : ℕ → ℕ → Result B) → ((t k : ℕ) → τ ≡ tnamed t k → Agrees P viewed next table r (κ t k)) → Agrees P viewed next table r (named τ frame κ)
  unfolding named
  named-before tbool frame κ f = beyond before_9
  named-before tint frame κ f = beyond before_9
  named-before (tnamed t k) frame κ f = f t k refl

  pub need-holds : {b : Bool} {x : Result B} (n frame : ℕ) → b ≡ true → Agrees P viewed next table r x → Agrees P viewed next table r (need b n frame x)
  unfolding need
  need-holds n frame e t = rw e t

  pub need-fails : {b : Bool} {n : Refusal} {frame : ℕ} (x : Result B) → b ≡ false → r ≡ Refused n frame → Agrees P viewed next table r (need b (number_of n) frame x)
  unfolding need
  need-fails x e t = rw e (refused t)

  pub from_some : {A : Type 0} {o : Option A} {a : A} (n frame : ℕ) (κ : A → Result B) → o ≡ some a → Agrees P viewed next table r (κ a) → Agrees P viewed next table r (from o n frame κ)
  unfolding from
  from_some n frame κ e t = rw e t

  pub from-none : {A : Type 0} {o : Option A} {n : Refusal} {frame : ℕ} (κ : A → Result B) → o ≡ none → r ≡ Refused n frame → Agrees P viewed next table r (from o (number_of n) frame κ)
  unfolding from
  from-none κ e t = rw e (refused t)
