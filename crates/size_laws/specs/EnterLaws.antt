-- A call behind its arguments: the instance looked up, or entered for the first time. What each return of `enter` and `enter_new` gives.
use Rattle.language.specs.declared.refusals.Refusal.{Refusal}
use Rattle.language.specs.declared.refusals.RefusalAt.{RefusalAt}
use Rattle.language.specs.declared.refusals.Refusal.TheVariants.{ConditionFails, MeasureNotLess}
use Rattle.std.specs.Prelude.{Ok, Err, Some, None}
use Rattle.size_steps.specs.Outcomes.{Entering, Sizing, Refused}
use Prim.Native.Nat.{ℕ, zero, suc, ◌≤◌, ◌<◌}
use Rattle.std.specs.Prelude.{List, true, ◌≡◌}
use Rattle.std.proofs.Math.Option.{Option, none, some}
use Rattle.std.proofs.Math.Path.{refl, ap}
use Rattle.std.proofs.Common.{sym, ◌∙◌, subst, arith, subst₂}
use Rattle.std.proofs.Math.ListN.{get_elem? as look}
use Rattle.language.specs.Result.{Result, ok, bind, need, from}
use Rattle.language.specs.Syntax.{Ty, Function, File, function_frame}
use Rattle.language.specs.Within.{All}
use Rattle.language.specs.Sizes.{type_at, summed_measure}
use Rattle.language.specs.Estimate.{Estimate as Exact}
use Rattle.language.specs.Typing.{Place as Stand, frame_at, falls}
use Rattle.language.specs.Checker.{Instance, Sized, Counted as CountedDef, find, found_or, enter_at}
use Rattle.theory.specs.Alls.{all_map}
use Rattle.instances.specs.Listed.{Search, SameArity, Agrees as Searched, found, absent, Finds}
use Rattle.sizes.specs.Promises.{meaning}
use Rattle.size_steps.specs.declared.Site.{Site}
use Rattle.size_steps.specs.declared.Entry.{Entry}
use Rattle.size_steps.specs.Agreement.{Table, Holds, Agrees, agrees, refused, itself, of_type, need-holds, need-fails}
use Rattle.size_laws.specs.Promises.{Lent, Buffers, entering, Argued, Opens, Enters, EntersNew, Given, ChecksBody}
use Rattle.size_steps.specs.Lookups.{Recorded, Again, recorded-met}
use Rattle.size_laws.specs.Arguments.{sizes-for}
use Rattle.language.specs.Limits.{byte_range}
use Rattle.language.specs.Sizes.{conditions_hold}
use Rattle.size_steps.specs.Sites.{Bounded}
use Rattle.size_steps.specs.Leaves.{Prepared, ready, no_condition, no_fall, no_size, EntryOf, entry_of, no_entry, Prepares, Entered}
use Rattle.size_steps.specs.Agreement.{beyond, from_some, from-none}
use Rattle.size_laws.specs.SeveralAgree.{not-grown-as}

-- ---- the definition, where the instance was found
module _ (P : File) (frame g : ℕ) (F : Function) (ks : List ℕ) (τ : Ty) (L : List Instance) where
  entered-before : (left : ℕ) {n : Exact} → find L g ks ≡ some n → entering P left frame g F ks τ L ≡ ok (record { numbers = n; list = L })
  unfolding enter_at found_or
  entered-before zero e = rw e refl
  entered-before (suc left) e = rw e refl

-- ---- looked up
-- the instances so far have as many sizes as this one
same-arity : {P : File} {f n m : ℕ} {F : Function} {ks scope sizes : List ℕ} {list : Table} {used : ℕ} {L : List Instance} → Holds P list used L → look P.functions f ≡ some F → Argued F ks n m scope sizes → All (SameArity f ks) L
same-arity {P} {F = F} h is v = all_map (λ r row same. row F (ap (look P.functions) same ∙ is) ∙ sym v.named) h.rows

record IsFound (L : List Instance) (f : ℕ) (ks : List ℕ) (i : ℕ) : Type 0 where
  instance : Instance
  there : look L i ≡ some instance
  function : instance.function ≡ f
  sizes : instance.sizes ≡ ks
  is : find L f ks ≡ some instance.numbers

was-found : {L : List Instance} {f i : ℕ} {ks : List ℕ} {x : Search} → Searched L f ks x → x ≡ Some i → IsFound L f ks i
was-found {L} {f} {i} {ks} (found {i = j} {r = r} there g k is) e = subst (IsFound L f ks) (let same : j ≡ i = cc in same) (record { instance = r; there = there; function = g; sizes = k; is = is })
was-found (absent new) e = absurd (let z : ◌≡◌ {A = ℕ} 0 1 = cc in omega arith)

not_found : {L : List Instance} {f : ℕ} {ks : List ℕ} {x : Search} → Searched L f ks x → x ≡ None → find L f ks ≡ none
not_found (found there g k is) e = absurd (let z : ◌≡◌ {A = ℕ} 0 1 = cc in omega arith)
not_found (absent new) e = new

pub from-same : {A B : Type 0} (o : Option A) (n frame : ℕ) {κ κ' : A → Result B} → ((a : A) → κ a ≡ κ' a) → from o n frame κ ≡ from o n frame κ'
unfolding from
from-same (some a) n frame h = h a
from-same none n frame h = refl

-- ---- enter
module _ {f n m : ℕ} {t : Lent} {b : Buffers} {p : Site} {x : Search} (s : Finds b.list.words p.used f b.sizes x) where
  searched : {P : File} {o : Stand} {F : Function} {ks : List ℕ} {L : List Instance} {left : ℕ} → Opens f n m t b p P o F ks L left → Searched L f ks x
  searched g = let h = g.holds in s.says _ _ h.listed h.count h.once g.argued.padded (same-arity h g.function g.argued)

  pub enter-found : {i : ℕ} {r : Sizing} → x ≡ Some i → Again t.text t.index b.list b.sizes p f i r → Enters f n m t b p r b
  unfolding bind
  enter-found {i} {r} d again = record {
    says = λ P o F ks L left g.
        let y = was-found (searched g) d in
        let there : Recorded P b.list p.used f i F ks L y.instance = record { holds = g.holds; there = y.there; function = y.function; sizes = y.sizes } in
        need-holds 12 _ (recorded-met g.function there).conditions
        (subst (Agrees P itself p.place.at.at b.list r) (ap (need (falls o f (summed_measure F.measure ks)) 13 (frame_at P o)) (from-same (type_at ks F.result) 10 (function_frame P f) (λ τ.
        ap (λ a. bind a (λ (z : CountedDef). ok (of_type τ z))) (sym (entered-before P (frame_at P o) f F ks τ L left y.is)))))
        (again.says P o F ks L y.instance g.indexed g.frame g.around g.function (sizes-for g.argued) there));
    grows = again.grows;
  }

  pub enter-absent : {r : Sizing} {b₁ : Buffers} → x ≡ None → EntersNew f n m t b p r b₁ → Enters f n m t b p r b₁
  enter-absent d u = record {
    says = λ P o F ks L left g. u.says P o F ks L left g (not_found (searched g) d);
    grows = u.grows;
  }

-- ---- entered for the first time
-- an entry on any bytes
pub record EntryIs (f n m : ℕ) (e : Entry) : Type 0 where
  pub function : e.function ≡ f
  pub variables : e.variables ≡ n
  pub sizes : e.sizes ≡ m
  pub small : Bounded (meaning e.ty)

pub entry-is : {f n m : ℕ} {y : Entering} {e : Entry} → EntryOf f n m y → y ≡ Ok e → EntryIs f n m e
entry-is {f} {n} {m} {e} (entry_of {e = g} i j k s) d = subst (EntryIs f n m) (let same : g ≡ e = cc in same) (record { function = i; variables = j; sizes = k; small = s })
entry-is no_entry d = absurd (let z : ◌≡◌ {A = ℕ} 0 1 = cc in omega arith)

pub entry-numbers : {f n m : ℕ} {y : Entering} {e : Entry} → EntryOf f n m y → y ≡ Ok e → f < byte_range → n < byte_range → m ≤ n → Entered e
entry-numbers v d less few fewer = let i = entry-is v d in record { function = omega (arith, i.function, less); variables = omega (arith, i.variables, few); sizes = omega (arith, i.sizes, few, fewer) }

-- what is checked before the body, for a file
record IsReady (P : File) (o : Stand) (f n m : ℕ) (F : Function) (ks : List ℕ) (e : Entry) : Type 0 where
  conditions : conditions_hold ks F.conditions ≡ true
  falling : falls o f (summed_measure F.measure ks) ≡ true
  result : type_at ks F.result ≡ some (meaning e.ty)
  function : e.function ≡ f
  measures : e.measure ≡ summed_measure F.measure ks
  variables : e.variables ≡ n
  sizes : e.sizes ≡ m

ready_of : {P : File} {o : Stand} {p : Site} {f n m : ℕ} {F : Function} {ks : List ℕ} {y : Entering} {e : Entry} → Prepared P o p f n m F ks y → y ≡ Ok e → IsReady P o f n m F ks e
ready_of {P} {o} {f} {n} {m} {F} {ks} {e} (ready {e = j} d c g r i w k l) d' = subst (IsReady P o f n m F ks) (let both : Ok j ≡ Ok e = sym d ∙ d' in let same : j ≡ e = cc in same)
    (record { conditions = c; falling = g; result = r; function = i; measures = w; variables = k; sizes = l })
ready_of (no_condition d c) d' = absurd (let both = sym d ∙ d' in let z : ◌≡◌ {A = ℕ} 0 1 = cc in omega arith)
ready_of (no_fall d c g) d' = absurd (let both = sym d ∙ d' in let z : ◌≡◌ {A = ℕ} 0 1 = cc in omega arith)
ready_of (no_size d c g r) d' = absurd (let both = sym d ∙ d' in let z : ◌≡◌ {A = ℕ} 0 1 = cc in omega arith)

-- what a body gives, with its type
typed-as : {P : File} {next : ℕ} {list : Table} {x : Sizing} (τ : Ty) {a : Result CountedDef} → Agrees P (of_type τ) next list x a → Agrees P itself next list x (bind a (λ r. ok (of_type τ r)))
unfolding bind
typed-as τ (agrees e c) = agrees e c
typed-as τ (refused e) = refused e
typed-as τ (beyond j) = beyond j

module _ {f n m : ℕ} {t : Lent} {b : Buffers} {p : Site} {y : Entering} (w : Prepares t.text t.index b.sizes p f n m y) where
  prepared : {P : File} {o : Stand} {F : Function} {ks : List ℕ} {L : List Instance} {left : ℕ} → Opens f n m t b p P o F ks L left → Prepared P o p f n m F ks y
  prepared g = w.says _ _ _ _ g.indexed g.around g.function (sizes-for g.argued)

  pub new-refused : {why : RefusalAt} {r : Sizing} → y ≡ Err why → r ≡ Err why → EntersNew f n m t b p r b
  new-refused {why} {r} d answer = record {
    says = λ P o F ks L left g new. refusing _ g.frame (prepared g);
    grows = not-grown-as answer;
  }
    where
      handed : {n : Refusal} {frame : ℕ} → y ≡ Refused n frame → r ≡ Refused n frame
      handed {n} {frame} e =
          let both : ◌≡◌ {A = Entering} (Err why) (Refused n frame) = sym d ∙ e in
          let same : ◌≡◌ {A = RefusalAt} why (record { refusal = n; frame = frame }) = cc in
          answer ∙ ap Err same

      refusing : {P : File} {o : Stand} {F : Function} {ks : List ℕ} {next : ℕ} {list : Table} (κ : Ty → Result Sized) → frame_at P o ≡ suc p.place.line → Prepared P o p f n m F ks y →
          Agrees P itself next list r (need (conditions_hold ks F.conditions) 12 (frame_at P o) (need (falls o f (summed_measure F.measure ks)) 13 (frame_at P o) (from (type_at ks F.result) 10 (function_frame P f) κ)))
      refusing κ at (ready e c g r i j k l) = absurd (let z : ◌≡◌ {A = ℕ} 0 1 = cc in omega arith)
      refusing κ at (no_condition e c) = need-fails _ c (handed e ∙ ap (Refused ConditionFails) (sym at))
      refusing κ at (no_fall e c g) = need-holds _ _ c (need-fails _ g (handed e ∙ ap (Refused MeasureNotLess) (sym at)))
      refusing κ at (no_size e c g r) = need-holds _ _ c (need-holds _ _ g (from-none _ r (handed e)))

  pub new-entered : {e : Entry} {r : Sizing} {b₁ : Buffers} → y ≡ Ok e → ChecksBody e t b p r b₁ → EntersNew f n m t b p r b₁
  new-entered {e} {r} {b₁} d u = record {
    says = λ P o F ks L left g new.
        let i = ready_of (prepared g) d in
        let here : look P.functions e.function ≡ some F = ap (look P.functions) i.function ∙ g.function in
        let arguments : Argued F ks e.variables e.sizes b.scope b.sizes = subst₂ (λ v s. Argued F ks v s b.scope b.sizes) (sym i.variables) (sym i.sizes) g.argued in
        let given : Given P e F ks b.scope b.sizes = record { function = here; measures = i.measures; argued = arguments; conditions = i.conditions; result = i.result; small = (entry-is w.of d).small } in
        need-holds 12 _ i.conditions (need-holds 13 _ i.falling (from_some 10 _ _ i.result (typed-as (meaning e.ty)
        (subst₂ (λ frame h. Agrees P (of_type (meaning e.ty)) p.place.at.at b₁.list r (entering P left frame h F ks (meaning e.ty) L)) (sym g.frame) i.function
        (u.says P F ks L left g.indexed g.holds g.deep given (subst (λ h. find L h ks ≡ none) (sym i.function) new))))));
    grows = u.grows;
  }
