-- `17`: what each return of an operation gives.
use Rattle.language.specs.declared.refusals.RefusalAt.{RefusalAt}
use Rattle.std.specs.Prelude.{Ok, Err}
use Rattle.size_steps.specs.Outcomes.{Sizing}
use Rattle.std.specs.Prelude.{ℕ, ◌≡◌}
use Rattle.std.proofs.Math.Path.{refl, sym}
use Rattle.std.proofs.Common.{◌∙◌}
use Rattle.language.specs.Syntax.{Op, oadd, osub, omul, oeq, olt, ole, oand, oor}
use Rattle.language.specs.PlainTypes.{op_type}
use Rattle.language.specs.Estimate.{after, one_cell}
use Rattle.language.specs.Typing.{base_type}
use Rattle.language.specs.Checker.{sized}
use Rattle.estimate.specs.declared.Estimate.{Estimate}
use Rattle.estimate.specs.Stands.{Makes, Combines}
use Rattle.sizes.specs.declared.SizedType.{SizedType}
use Rattle.size_steps.specs.declared.Site.{Site}
use Rattle.size_steps.specs.declared.Checked.{Checked}
use Rattle.size_steps.specs.Sites.{Bounded, bounded_bool, bounded_int, moved_on_of}
use Rattle.size_steps.specs.Agreement.{agrees, before_9, bind_is, bind-no, need-before}
use Rattle.size_laws.specs.Promises.{Lent, Buffers, Sizes, ExprPart}
use Rattle.size_laws.specs.Parts.{OpPart}
use Rattle.size_steps.specs.Leaves.{OperatorType}
use Rattle.size_laws.specs.HereLaws.{ends_at, suc-same}
use Rattle.size_laws.specs.TurnLaws.{sizes-at, part-agrees, Behind, behind-first, behind-next, next-kept, next_grows, here-behind, grown-is}

-- no operation gives a named type
bounded-operation : (o : Op) → Bounded (base_type (op_type o))
unfolding base_type op_type
bounded-operation oadd = bounded_int
bounded-operation osub = bounded_int
bounded-operation omul = bounded_int
bounded-operation oeq = bounded_bool
bounded-operation olt = bounded_bool
bounded-operation ole = bounded_bool
bounded-operation oand = bounded_bool
bounded-operation oor = bounded_bool

module _ {t : Lent} {b b₁ : Buffers} {p : Site} {x : Sizing} (v : Sizes ExprPart t b p x b₁) where
  pub op-first : {o : ℕ} {why : RefusalAt} → x ≡ Err why → Sizes (OpPart o) t b p x b₁
  unfolding sized
  op-first d = record {
    says = λ P S q Γ Δ L left h end e part. let i = part.head in
        rw i.is (bind-no _ (part-agrees v h i.spelled i.within refl (suc-same i.deep)) d d);
    grows = v.grows;
    kept = v.kept;
  }

  module _ {a : Checked} {m : Site} {y : Sizing} {b₂ : Buffers} (d : x ≡ Ok a) (moved : m ≡ moved_on_of p a.next a.used) (u : Sizes ExprPart t b₁ m y b₂) where
    second : Sizes ExprPart t b₁ (moved_on_of p a.next a.used) y b₂
    second = sizes-at moved u

    one : Behind p b b₁ a
    one = behind-first v d

    pub op-second : {o : ℕ} {why : RefusalAt} → y ≡ Err why → Sizes (OpPart o) t b p y b₂
    unfolding sized
    op-second d₂ = record {
      says = λ P S q Γ Δ L left h end e part. let i = part.head in
          rw i.is (bind_is _ (part-agrees v h i.spelled i.within refl (suc-same i.deep)) d (λ z c.
          need-before _ _ before_9 (λ plain.
          bind-no _ (part-agrees second (here-behind h one c) i.spelled₂ i.within₂ c.ends (suc-same i.deep)) d₂ d₂)));
      grows = next_grows one second;
      kept = next-kept one second;
    }

    pub op-done : {o : ℕ} {k : Checked} {ty : SizedType} {parts cell numbers : Estimate} {f : Sizing} → y ≡ Ok k → OperatorType o ty → Combines after a.numbers k.numbers parts → Makes one_cell cell → Combines after parts cell numbers →
        f ≡ Ok (record { ty = ty; numbers = numbers; next = k.next; used = k.used }) → Sizes (OpPart o) t b p f b₂
    unfolding sized
    op-done d₂ gives both new all is = record {
      says = λ P S q Γ Δ L left h end e part. let i = part.head in
          rw i.is (bind_is _ (part-agrees v h i.spelled i.within refl (suc-same i.deep)) d (λ z c.
          need-before _ _ before_9 (λ plain.
          bind_is _ (part-agrees second (here-behind h one c) i.spelled₂ i.within₂ c.ends (suc-same i.deep)) d₂ (λ z₂ c₂.
          need-before _ _ before_9 (λ plain₂.
          agrees is (record { type = gives.says i.op i.code; small = bounded-operation i.op; numbers = all.says _ _ (both.says _ _ c.numbers c₂.numbers) new.says; ends = c₂.ends ∙ sym (ends_at part i.is i.long); holds = c₂.holds }))))));
      grows = grown-is is (behind-next one second d₂).more;
      kept = next-kept one second;
    }
