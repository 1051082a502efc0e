-- `16`: what each return of an if gives.
use Rattle.language.specs.declared.refusals.RefusalAt.{RefusalAt}
use Rattle.language.specs.declared.refusals.Refusal.TheVariants.{SizesDisagree}
use Rattle.std.specs.Prelude.{Ok, Err}
use Rattle.size_steps.specs.Outcomes.{Sizing, Refused}
use Rattle.std.specs.Prelude.{◌+◌, Bool, true, false, ◌≡◌}
use Rattle.std.proofs.Math.Path.{refl, sym}
use Rattle.std.proofs.Common.{ap₂, ◌∙◌}
use Rattle.language.specs.Sizes.{same_type}
use Rattle.language.specs.Estimate.{after, either}
use Rattle.language.specs.Checker.{sized}
use Rattle.theory.specs.SameTests.{same-type}
use Rattle.estimate.specs.declared.Estimate.{Estimate}
use Rattle.estimate.specs.Stands.{Combines}
use Rattle.sizes.specs.Promises.{meaning}
use Rattle.size_steps.specs.declared.Site.{Site}
use Rattle.size_steps.specs.declared.Checked.{Checked}
use Rattle.size_steps.specs.Sites.{moved_on_of}
use Rattle.size_steps.specs.Agreement.{agrees, not_grown, before_9, bind_is, bind-no, need-before, need-holds, need-fails}
use Rattle.size_laws.specs.Promises.{Lent, Buffers, Sizes, ExprPart}
use Rattle.size_laws.specs.Parts.{IfPart}
use Rattle.size_laws.specs.HereLaws.{ends_at, suc-same}
use Rattle.size_laws.specs.TurnLaws.{sizes-at, part-agrees, Behind, behind-first, behind-next, next-kept, next_grows, here-behind, in_frame, grown-is}

module _ {t : Lent} {b b₁ : Buffers} {p : Site} {x : Sizing} (v : Sizes ExprPart t b p x b₁) where
  pub if-first : {why : RefusalAt} → x ≡ Err why → Sizes IfPart t b p x b₁
  unfolding sized
  if-first d = record {
    says = λ P S q Γ Δ L left h end e part. let i = part.head in
        rw i.is (bind-no _ (part-agrees v h i.spelled i.within refl (suc-same i.deep)) d d);
    grows = v.grows;
    kept = v.kept;
  }

  module _ {a : Checked} {m : Site} {y : Sizing} {b₂ : Buffers} (d : x ≡ Ok a) (moved : m ≡ moved_on_of p a.next a.used) (u : Sizes ExprPart t b₁ m y b₂) where
    second : Sizes ExprPart t b₁ (moved_on_of p a.next a.used) y b₂
    second = sizes-at moved u

    one : Behind p b b₁ a
    one = behind-first v d

    pub if-second : {why : RefusalAt} → y ≡ Err why → Sizes IfPart t b p y b₂
    unfolding sized
    if-second d₂ = record {
      says = λ P S q Γ Δ L left h end e part. let i = part.head in
          rw i.is (bind_is _ (part-agrees v h i.spelled i.within refl (suc-same i.deep)) d (λ z c.
          need-before _ _ before_9 (λ bool.
          bind-no _ (part-agrees second (here-behind h one c) i.spelled₂ i.within₂ c.ends (suc-same i.deep)) d₂ d₂)));
      grows = next_grows one second;
      kept = next-kept one second;
    }

    module _ {k : Checked} {o : Site} {z : Sizing} {b₃ : Buffers} (d₂ : y ≡ Ok k) (moved₂ : o ≡ moved_on_of p k.next k.used) (w : Sizes ExprPart t b₂ o z b₃) where
      third : Sizes ExprPart t b₂ (moved_on_of p k.next k.used) z b₃
      third = sizes-at moved₂ w

      two : Behind p b b₂ k
      two = behind-next one second d₂

      pub if-third : {why : RefusalAt} → z ≡ Err why → Sizes IfPart t b p z b₃
      unfolding sized
      if-third d₃ = record {
        says = λ P S q Γ Δ L left h end e part. let i = part.head in
            rw i.is (bind_is _ (part-agrees v h i.spelled i.within refl (suc-same i.deep)) d (λ z c.
            need-before _ _ before_9 (λ bool.
            bind_is _ (part-agrees second (here-behind h one c) i.spelled₂ i.within₂ c.ends (suc-same i.deep)) d₂ (λ z₂ c₂.
            bind-no _ (part-agrees third (here-behind h two c₂) i.spelled₃ i.within₃ c₂.ends (suc-same i.deep)) d₃ d₃))));
        grows = next_grows two third;
        kept = next-kept two third;
      }

      module _ {l : Checked} {r : Bool} (d₃ : z ≡ Ok l) (same : r ≡ same_type (meaning l.ty) (meaning k.ty)) where
        pub if-differ : r ≡ false → Sizes IfPart t b p (Refused SizesDisagree (p.place.line + 1)) b₃
        unfolding sized
        if-differ differ = record {
          says = λ P S q Γ Δ L left h end e part. let i = part.head in
              rw i.is (bind_is _ (part-agrees v h i.spelled i.within refl (suc-same i.deep)) d (λ z c.
              need-before _ _ before_9 (λ bool.
              bind_is _ (part-agrees second (here-behind h one c) i.spelled₂ i.within₂ c.ends (suc-same i.deep)) d₂ (λ z₂ c₂.
              bind_is _ (part-agrees third (here-behind h two c₂) i.spelled₃ i.within₃ c₂.ends (suc-same i.deep)) d₃ (λ z₃ c₃.
              need-fails _ (ap₂ same_type (sym c₃.type) (sym c₂.type) ∙ sym same ∙ differ) (in_frame SizesDisagree h))))));
          grows = not_grown;
          kept = next-kept two third;
        }

        pub if-done : {arms numbers : Estimate} {f : Sizing} → r ≡ true → Combines either k.numbers l.numbers arms → Combines after a.numbers arms numbers →
            f ≡ Ok (record { ty = l.ty; numbers = numbers; next = l.next; used = l.used }) → Sizes IfPart t b p f b₃
        unfolding sized
        if-done agree held all is = record {
          says = λ P S q Γ Δ L left h end e part. let i = part.head in
              rw i.is (bind_is _ (part-agrees v h i.spelled i.within refl (suc-same i.deep)) d (λ z c.
              need-before _ _ before_9 (λ bool.
              bind_is _ (part-agrees second (here-behind h one c) i.spelled₂ i.within₂ c.ends (suc-same i.deep)) d₂ (λ z₂ c₂.
              bind_is _ (part-agrees third (here-behind h two c₂) i.spelled₃ i.within₃ c₂.ends (suc-same i.deep)) d₃ (λ z₃ c₃.
              need-holds 11 _ (ap₂ same_type (sym c₃.type) (sym c₂.type) ∙ sym same ∙ agree)
              (agrees is (record { type = same-type _ _ (sym same ∙ agree) ∙ c₂.type; small = c₂.small; numbers = all.says _ _ c.numbers (held.says _ _ c₂.numbers c₃.numbers); ends = c₃.ends ∙ sym (ends_at part i.is i.long); holds = c₃.holds })))))));
          grows = grown-is is (behind-next two third d₃).more;
          kept = next-kept two third;
        }
