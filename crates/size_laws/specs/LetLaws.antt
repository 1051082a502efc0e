-- `15`: what each return of a let gives.
use Rattle.language.specs.declared.refusals.RefusalAt.{RefusalAt}
use Rattle.std.specs.Prelude.{Ok, Err}
use Rattle.size_steps.specs.Outcomes.{Sizing}
use Rattle.std.specs.Prelude.{ℕ, ◌≤◌, ◌≡◌, length}
use Rattle.std.proofs.Math.Path.{refl, sym, ap}
use Rattle.std.proofs.Common.{◌∙◌}
use Rattle.language.specs.Limits.{variables_most}
use Rattle.language.specs.Estimate.{after, with_slots}
use Rattle.language.specs.Checker.{sized}
use Rattle.text.specs.Bytes.{declared_word}
use Rattle.estimate.specs.declared.Estimate.{Estimate}
use Rattle.estimate.specs.Stands.{Changes, Combines}
use Rattle.sizes.specs.Promises.{meaning}
use Rattle.size_steps.specs.declared.Site.{Site}
use Rattle.size_steps.specs.declared.Checked.{Checked}
use Rattle.size_steps.specs.Sites.{moved_on_of, widened_by}
use Rattle.size_steps.specs.Agreement.{agrees, grows-to, bind_is, bind-no}
use Rattle.size_laws.specs.Promises.{Lent, Buffers, Sizes, ExprPart}
use Rattle.size_laws.specs.Parts.{LetPart}
use Rattle.size_laws.specs.TurnLaws.{sizes-at, part-agrees, Behind, behind-first, here-behind, bound_in, bound_at, bound-at, under-kept, under_grows, grown-is}
use Rattle.size_laws.specs.HereLaws.{fits-of, ends_at, here-bound, suc-same}

module _ {t : Lent} {b b₁ : Buffers} {p : Site} {x : Sizing} (v : Sizes ExprPart t b p x b₁) where
  pub let-first : {why : RefusalAt} → x ≡ Err why → Sizes LetPart t b p x b₁
  unfolding sized
  let-first d = record {
    says = λ P S q Γ Δ L left h end e part. let i = part.head in
        rw i.is (bind-no _ (part-agrees v h i.spelled i.within refl (suc-same i.deep)) d d);
    grows = v.grows;
    kept = v.kept;
  }

  -- the variable bound, and the second part under it
  module _ {a : Checked} {word : ℕ} {m o : Site} {y : Sizing} {b₂ : Buffers} (room : variables_most ≤ length b₁.scope) (d : x ≡ Ok a) (is : word ≡ declared_word (meaning a.ty))
      (moved : m ≡ moved_on_of p a.next a.used) (wide : o ≡ widened_by m 1 0) (u : Sizes ExprPart t (bound_in b₁ p word) o y b₂) where
    under : Sizes ExprPart t (bound_in b₁ p word) (bound_at p a) y b₂
    under = sizes-at (bound-at p a moved wide) u

    one : Behind p b b₁ a
    one = behind-first v d

    pub let-second : {why : RefusalAt} → y ≡ Err why → Sizes LetPart t b p y b₂
    unfolding sized
    let-second d₂ = record {
      says = λ P S q Γ Δ L left h end e part. let i = part.head in
          rw i.is (bind_is _ (part-agrees v h i.spelled i.within refl (suc-same i.deep)) d (λ z c.
          bind-no _ (part-agrees under (here-bound (here-behind h one c) room (fits-of i.within₂) c.small (is ∙ ap declared_word c.type)) i.spelled₂ i.within₂ c.ends (suc-same i.deep)) d₂ d₂));
      grows = under_grows word one under;
      kept = under-kept word one under;
    }

    pub let-done : {k : Checked} {slots numbers : Estimate} {f : Sizing} → y ≡ Ok k → Changes (with_slots 1) k.numbers slots → Combines after a.numbers slots numbers →
        f ≡ Ok (record { ty = k.ty; numbers = numbers; next = k.next; used = k.used }) → Sizes LetPart t b p f b₂
    unfolding sized
    let-done d₂ held all f = record {
      says = λ P S q Γ Δ L left h end e part. let i = part.head in
          rw i.is (bind_is _ (part-agrees v h i.spelled i.within refl (suc-same i.deep)) d (λ z c.
          bind_is _ (part-agrees under (here-bound (here-behind h one c) room (fits-of i.within₂) c.small (is ∙ ap declared_word c.type)) i.spelled₂ i.within₂ c.ends (suc-same i.deep)) d₂ (λ w g.
          agrees f (record { type = g.type; small = g.small; numbers = all.says _ _ c.numbers (held.says _ g.numbers); ends = g.ends ∙ sym (ends_at part i.is i.long); holds = g.holds }))));
      grows = grown-is f (grows-to (under_grows word one under) d₂);
      kept = under-kept word one under;
    }
