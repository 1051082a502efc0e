-- `18`: what each return of a call gives, and of what is done behind its arguments.
use Rattle.language.specs.declared.refusals.RefusalAt.{RefusalAt}
use Rattle.std.specs.Prelude.{Ok, Err}
use Rattle.size_steps.specs.Outcomes.{Counting, Sizing}
use Rattle.std.specs.Prelude.{ℕ, ◌≤◌, List, Bool, true, false, ◌≡◌, refl, length, replicate}
use Rattle.std.proofs.Math.Option.{Option, none, some}
use Rattle.std.proofs.Math.Path.{ap}
use Rattle.std.proofs.Common.{◌∙◌, subst, arith}
use Rattle.language.specs.Limits.{size_variables_most, variables_most}
use Rattle.language.specs.Result.{Result, ok, bind, need, from}
use Rattle.language.specs.Syntax.{Ty, Function, File, function_frame}
use Rattle.language.specs.Estimate.{after, with_slots, in_call}
use Rattle.language.specs.Sizes.{type_at, conditions_hold, summed_measure, sizes_of}
use Rattle.language.specs.Typing.{Place as Stand, frame_at, falls}
use Rattle.language.specs.Checker.{Sized, Sizeds, Counted as CountedDef, Enter, sized}
use Rattle.estimate.specs.declared.Estimate.{Estimate}
use Rattle.estimate.specs.Stands.{Stands, Changes, Combines}
use Rattle.type_rows.specs.Rows.{NamedSizes}
use Rattle.index.specs.Sections.{functions_of}
use Rattle.size_steps.specs.declared.Site.{Site}
use Rattle.size_steps.specs.declared.Checked.{Checked}
use Rattle.size_steps.specs.declared.Counted.{Counted}
use Rattle.size_steps.specs.Sites.{moved_on_of}
use Rattle.size_steps.specs.Agreement.{Table, Agrees, agrees, itself, of_type, before_9, grows-to, grows_same, grows-all-to, all_are, all-no, bind_is, bind-no, need-before, from_some}
use Rattle.size_laws.specs.SeveralAgree.{grown-as, not-grown-as}
use Rattle.size_laws.specs.Promises.{Lent, Buffers, buffers, entering, Sizes, SizesAll, opened, Enters, applied, Argues, Applies}
use Rattle.size_laws.specs.Parts.{CallPart}
use Rattle.size_laws.specs.Arguments.{ArityOf, called, argued}
use Rattle.size_laws.specs.EnterLaws.{from-same}
use Rattle.size_laws.specs.Sums.{through}

-- ---- a call: its arguments, and what is behind them
module _ {t : Lent} {b b₁ : Buffers} {p : Site} {f n : ℕ} {row row₁ : List ℕ} {x : Counting} (arity : ArityOf (functions_of t.index) f n) (room : variables_most ≤ length row) (v : SizesAll t b p n row x b₁ row₁) where
  pub call-arguments : {why : RefusalAt} {r : Sizing} → x ≡ Err why → r ≡ Err why → Sizes (CallPart f) t b p r b₁
  unfolding sized
  call-arguments d answer = record {
    says = λ P S q Γ Δ L left h end e part. let i = called arity h part in
        rw i.form (all-no _ (v.says P S q Γ Δ L left h (omega (arith, room, i.few)) end i.list i.part) d answer);
    grows = not-grown-as answer;
    kept = v.kept;
  }

  pub call-applied : {a : Counted} {r : Sizing} {list : Table} → x ≡ Ok a → Applies f n a t b₁.list row₁ p r list → Sizes (CallPart f) t b p r (buffers list b₁.scope b₁.sizes)
  unfolding sized
  call-applied d u = record {
    says = λ P S o Γ Δ L left h end e part. let i = called arity h part in
        rw i.form (all_are _ (v.says P S o Γ Δ L left h (omega (arith, room, i.few)) end i.list i.part) d (λ z c.
        from_some 6 _ _ i.is (need-before _ _ before_9 (λ s. u.says P o i.function z left end (record {
          indexed = h.indexed;
          frame = h.site.frame;
          around = h.site.around;
          function = i.is;
          count = i.count;
          few = i.few;
          counted = c;
          agree = s;
          deep = omega (arith, h.deep, h.holds.count, c.holds.count, grows-all-to v.grows d);
        })))));
    grows = grows_same (grows-all-to v.grows d) u.grows;
    kept = v.kept;
  }

-- ---- behind the arguments: their numbers come last
need-then : {A B : Type 0} (b : Bool) (n frame : ℕ) (a : Result A) (f : A → Result B) → need b n frame (bind a f) ≡ bind (need b n frame a) f
unfolding need bind
need-then true n frame a f = refl
need-then false n frame a f = refl

from_then : {A B D : Type 0} (o : Option A) (n frame : ℕ) (κ : A → Result B) (f : B → Result D) → from o n frame (λ a. bind (κ a) f) ≡ bind (from o n frame κ) f
unfolding from bind
from_then (some a) n frame κ f = refl
from_then none n frame κ f = refl

-- the whole call, once its body is known
abbrev with_arguments : Function → Sizeds → Sized → Result Sized
with_arguments F z x = ok (record { type = x.type; numbers = with_slots (length F.parameters) (after z.numbers (in_call x.numbers)); list = x.list })

applied-opened : (P : File) (enter : Enter) (o : Stand) (g : ℕ) (F : Function) (z : Sizeds) → applied P enter o g F z ≡ bind (opened P enter o g F (sizes_of z.types) z.list) (with_arguments F z)
unfolding bind
applied-opened P enter o g F z =
    let ks = sizes_of z.types in
    let body : Ty → Result Sized = λ τ. bind (enter (frame_at P o) g F ks τ z.list) (λ r. ok (of_type τ r)) in
    let rest : Result Sized = from (type_at ks F.result) 10 (function_frame P g) body in
    ap (λ a. need (conditions_hold ks F.conditions) 12 (frame_at P o) (need (falls o g (summed_measure F.measure ks)) 13 (frame_at P o) a))
    (from-same (type_at ks F.result) 10 (function_frame P g) (λ τ. through (enter (frame_at P o) g F ks τ z.list) (λ (r : CountedDef). with_arguments F z (of_type τ r)) (λ (r : CountedDef). ok (of_type τ r)) (with_arguments F z) (λ r. refl))
    ∙ from_then (type_at ks F.result) 10 (function_frame P g) body (with_arguments F z))
    ∙ ap (need (conditions_hold ks F.conditions) 12 (frame_at P o)) (need-then (falls o g (summed_measure F.measure ks)) 13 (frame_at P o) rest (with_arguments F z))
    ∙ need-then (conditions_hold ks F.conditions) 12 (frame_at P o) (need (falls o g (summed_measure F.measure ks)) 13 (frame_at P o) rest) (with_arguments F z)

-- ---- what is done behind the arguments
module _ (p : Site) (a : Counted) {t : Lent} {list : Table} {row named named' : List ℕ} {q : Site} {f n m : ℕ} (zeros : named ≡ replicate size_variables_most 0) (u : NamedSizes row n named m named')
    (moved : q ≡ moved_on_of p a.next a.used) {x : Sizing} {b : Buffers} (v : Enters f n m t (buffers list row named') q x b) where
  entry : Enters f n m t (buffers list row named') (moved_on_of p a.next a.used) x b
  entry = subst (λ r. Enters f n m t (buffers list row named') r x b) moved v

  opened-as : {P : File} {o : Stand} {F : Function} {z : Sizeds} {left next : ℕ} → Argues t p f n a list row P o F z left next → Agrees P itself a.next.at b.list x (opened P (entering P left) o f F (sizes_of z.types) z.list)
  opened-as {P} {o} {F} {z} {left} g = entry.says P o F (sizes_of z.types) z.list left (record {
    indexed = g.indexed;
    frame = g.frame;
    around = g.around;
    function = g.function;
    argued = argued g.count g.few zeros g.counted g.agree u;
    holds = g.counted.holds;
    deep = g.deep;
  })

  pub apply-refused : {why : RefusalAt} → x ≡ Err why → Applies f n a t list row p x b.list
  apply-refused d = record {
    says = λ P o F z left next g. rw (applied-opened P (entering P left) o f F z) (bind-no _ (opened-as g) d d);
    grows = entry.grows;
  }

  pub apply-done : {k : Checked} {inside both numbers : Estimate} {r : Sizing} → x ≡ Ok k → Changes in_call k.numbers inside → Combines after a.numbers inside both → Changes (with_slots n) both numbers →
      r ≡ Ok (record { ty = k.ty; numbers = numbers; next = k.next; used = k.used }) → Applies f n a t list row p r b.list
  apply-done {numbers = numbers} d one two three answer = record {
    says = λ P o F z left next g. rw (applied-opened P (entering P left) o f F z) (bind_is _ (opened-as g) d (λ y c.
        agrees answer (record {
          type = c.type;
          small = c.small;
          numbers = subst (λ j. Stands numbers (with_slots j (after z.numbers (in_call y.numbers)))) g.count (three.says _ (two.says _ _ g.counted.numbers (one.says _ c.numbers)));
          ends = c.ends ∙ g.counted.ends;
          holds = c.holds;
        })));
    grows = grown-as answer (grows-to entry.grows d);
  }
