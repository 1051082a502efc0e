-- A call of an instance that was entered before: what its record and what is kept beside it give.
use Rattle.language.specs.declared.refusals.Refusal.TheVariants.{MeasureNotLess}
use Rattle.size_steps.specs.Outcomes.{Sizing, Refused}
use Rattle.std.specs.Prelude.{ℕ, suc, ◌+◌, List, Bool, true, false, ◌≡◌, refl}
use Rattle.std.proofs.Math.Option.{some}
use Rattle.std.proofs.Common.{sym, ap, ◌∙◌, subst, add-one, arith}
use Rattle.std.proofs.Math.ListN.{get_elem? as look}
use Rattle.language.specs.Result.{ok, need, from}
use Rattle.language.specs.Syntax.{Function, File, function_frame}
use Rattle.language.specs.Sizes.{type_at, summed_measure}
use Rattle.language.specs.Typing.{Place as Stand, frame_at, falls}
use Rattle.language.specs.Checker.{Instance}
use Rattle.theory.specs.Lists.{look-get_d, look-less}
use Rattle.estimate.specs.declared.Estimate.{Estimate}
use Rattle.estimate.specs.Stands.{Stands}
use Rattle.index.specs.Indexed.{Indexed}
use Rattle.instances.specs.Listed.{result_word}
use Rattle.instances.specs.Matches.{no_instance, Numbers}
use Rattle.sizes.specs.declared.SizedType.{SizedType}
use Rattle.sizes.specs.Promises.{FromWord}
use Rattle.size_steps.specs.declared.Site.{Site}
use Rattle.size_steps.specs.Sites.{Around, bounded-small}
use Rattle.size_steps.specs.Agreement.{Met, Table, Holds, Agrees, agrees, itself, Grows, grown, not_grown, need-holds, need-fails, from_some}
use Rattle.size_steps.specs.Leaves.{leaf_of, SizesFor, MayCall}

-- x: record i of the list, the instance of f at sizes ks; F the function
pub record Recorded (P : File) (table : Table) (used f i : ℕ) (F : Function) (ks : List ℕ) (L : List Instance) (x : Instance) : Type 0 where
  pub holds : Holds P table used L
  pub there : look L i ≡ some x
  pub function : x.function ≡ f
  pub sizes : x.sizes ≡ ks

-- what the definition does behind the conditions, which hold
pub record Again (text index : List ℕ) (table : Table) (sizes : List ℕ) (p : Site) (f i : ℕ) (r : Sizing) : Type 0 where
  pub says : (P : File) (q : Stand) (F : Function) (ks : List ℕ) (L : List Instance) (x : Instance) → Indexed text index P → frame_at P q ≡ suc p.place.line → Around P p.place.line p.measure q →
      look P.functions f ≡ some F → SizesFor F ks sizes → Recorded P table p.used f i F ks L x →
      Agrees P itself p.place.at.at table r (need (falls q f (summed_measure F.measure ks)) 13 (frame_at P q) (from (type_at ks F.result) 10 (function_frame P f) (λ τ. ok (record { type = τ; numbers = x.numbers; list = L }))))
  pub grows : Grows p.used r

-- what is known of it since it was entered
pub recorded-met : {P : File} {table : Table} {used f i : ℕ} {F : Function} {ks : List ℕ} {L : List Instance} {x : Instance} → look P.functions f ≡ some F → Recorded P table used f i F ks L x → Met F ks (result_word table.memo i)
recorded-met {P} {table} {i = i} {F = F} {x = x} is r = subst (λ ks. Met F ks (result_word table.memo i)) r.sizes (r.holds.met i x F r.there (ap (look P.functions) r.function ∙ is))

module _ {text index : List ℕ} {table : Table} {sizes : List ℕ} {p : Site} {f i : ℕ} {b : Bool} (m : MayCall text index sizes p f b) where
  pub again-refused : b ≡ false → Again text index table sizes p f i (Refused MeasureNotLess (p.place.line + 1))
  again-refused no_fall = record {
    says = λ P q F ks L x j frame around is s r. need-fails _ (sym (m.says P q F ks j around is s) ∙ no_fall) (ap (Refused MeasureNotLess) (add-one p.place.line ∙ sym frame));
    grows = not_grown;
  }

  pub again-found : {word : ℕ} {ty : SizedType} {numbers : Estimate} {z : Sizing} → b ≡ true → word ≡ result_word table.memo i → FromWord word ty → Numbers table.words i numbers → z ≡ leaf_of ty numbers p → Again text index table sizes p f i z
  again-found {ty = ty} {numbers = numbers} fall kept type n answer = record {
    says = λ P q F ks L x j frame around is s r.
        let k = recorded-met is r in
        let there : Stands numbers x.numbers = subst (λ (y : Instance). Stands numbers y.numbers) (look-get_d L i no_instance r.there) (n.says L r.holds.listed (look-less L i r.there)) in
        need-holds 13 _ (sym (m.says P q F ks j around is s) ∙ fall) (from_some 10 _ _ k.result (agrees answer (record {
          type = type.says k.type (bounded-small k.small) (sym k.word ∙ sym kept);
          small = k.small;
          numbers = there;
          ends = refl;
          holds = r.holds;
        })));
    grows = rw answer (grown {k = record { ty = ty; numbers = numbers; next = p.place.at; used = p.used }} (omega arith));
  }
