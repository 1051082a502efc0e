-- `1C`: what each return of a fit gives.
use Rattle.language.specs.declared.refusals.RefusalAt.{RefusalAt}
use Rattle.language.specs.declared.refusals.Refusal.TheVariants.{SizesDisagree}
use Rattle.std.specs.Prelude.{Ok, Err}
use Rattle.size_steps.specs.Outcomes.{Sizing, Refused}
use Rattle.std.specs.Prelude.{ℕ, ◌+◌, ◌≤◌, List, [], ◌∷◌, ◌++◌, Bool, true, false, ◌≡◌, length}
use Rattle.std.proofs.Math.Path.{refl, sym}
use Rattle.std.proofs.Common.{ap, ap₂, ◌∙◌}
use Rattle.language.specs.Limits.{variables_most}
use Rattle.language.specs.Syntax.{Ty, tnamed, File}
use Rattle.language.specs.Scope.{Scope, wider}
use Rattle.language.specs.Within.{Bound}
use Rattle.language.specs.Typing.{Place as Stand}
use Rattle.language.specs.Sizes.{same_type}
use Rattle.language.specs.Estimate.{after, either, with_slots}
use Rattle.language.specs.Checker.{Instance, Sized, sized}
use Rattle.text.specs.Bytes.{declared_word}
use Rattle.theory.specs.SameTests.{same-type}
use Rattle.estimate.specs.declared.Estimate.{Estimate}
use Rattle.estimate.specs.Stands.{Changes, Combines}
use Rattle.sizes.specs.declared.SizedType.TheVariants.{Named}
use Rattle.sizes.specs.Promises.{meaning}
use Rattle.size_steps.specs.declared.Site.{Site}
use Rattle.size_steps.specs.declared.Checked.{Checked}
use Rattle.size_steps.specs.Sites.{moved_on_of, widened_by}
use Rattle.size_steps.specs.Agreement.{CheckedAs, agrees, not_grown, bind_is, bind-no, named-before, need-holds, need-fails}
use Rattle.size_laws.specs.Promises.{Lent, Buffers, Here, Sizes, ExprPart}
use Rattle.size_laws.specs.Parts.{FitPart}
use Rattle.size_laws.specs.HereLaws.{Fits, fits-of, ends_at, here-bound, suc-same}
use Rattle.size_laws.specs.TurnLaws.{sizes-at, part-agrees, Behind, behind-first, behind-next, next-kept, next_grows, here-behind, bound_in, bound_at, bound-at, under-kept, under_grows, behind-under, in_frame, grown-is}
use Rattle.size_laws.specs.NamedTypes.{is-named, NotNamed, bounded_at, named-type}

module _ (k : ℕ) {t : Lent} {b b₁ : Buffers} {p : Site} {x : Sizing} (v : Sizes ExprPart t b p x b₁) where
  pub fit-subject : {why : RefusalAt} → x ≡ Err why → Sizes (FitPart k) t b p x b₁
  unfolding sized
  fit-subject d = record {
    says = λ P S q Γ Δ L left h end e part. let i = part.head in
        rw i.is (bind-no _ (part-agrees v h i.spelled i.within refl (suc-same i.deep)) d d);
    grows = v.grows;
    kept = v.kept;
  }

  -- the subject is of no named type: this was judged before
  pub fit-plain : {a : Checked} {why : RefusalAt} → x ≡ Ok a → NotNamed a.ty → Sizes (FitPart k) t b p (Err why) b₁
  unfolding sized
  fit-plain {a} d plain = record {
    says = λ P S q Γ Δ L left h end e part. let i = part.head in
        rw i.is (bind_is _ (part-agrees v h i.spelled i.within refl (suc-same i.deep)) d (λ z c.
        named-before _ _ _ (λ u j named. absurd (plain u j (is-named a.ty (c.type ∙ named))))));
    grows = not_grown;
    kept = v.kept;
  }

-- the variable bound, and the first arm under it
module _ (k : ℕ) {t : Lent} {b b₁ : Buffers} {p : Site} {x : Sizing} (v : Sizes ExprPart t b p x b₁) {a : Checked} {u j word : ℕ} {m o : Site} {y : Sizing} {b₂ : Buffers} (room : variables_most ≤ length b₁.scope) (d : x ≡ Ok a) (ty : a.ty ≡ Named u j)
    (is : word ≡ declared_word (tnamed u k)) (moved : m ≡ moved_on_of p a.next a.used) (wide : o ≡ widened_by m 1 0) (w : Sizes ExprPart t (bound_in b₁ p word) o y b₂) where
  second : Sizes ExprPart t (bound_in b₁ p word) (bound_at p a) y b₂
  second = sizes-at (bound-at p a moved wide) w

  one : Behind p b b₁ a
  one = behind-first v d

  here-fit : {P : File} {S : Scope} {q : Stand} {Γ : List Ty} {Δ : List ℕ} {L : List Instance} {left next : ℕ} {z : Sized} {u' j' : ℕ} → Here t b p P S q Γ Δ L left → CheckedAs P next b₁.list a z → z.type ≡ tnamed u' j' → Bound k → Fits (wider 1 0 S) →
      Here t (bound_in b₁ p word) (bound_at p a) P (wider 1 0 S) q (Γ ++ (tnamed u' k ∷ [])) Δ z.list left
  here-fit h c named bound fits = here-bound (here-behind h one c) room fits (bounded_at c.small named bound.1) (is ∙ ap (λ n. declared_word (tnamed n k)) (sym (named-type ty c.type named).0))

  pub fit-first : {why : RefusalAt} → y ≡ Err why → Sizes (FitPart k) t b p y b₂
  unfolding sized
  fit-first d₂ = record {
    says = λ P S q Γ Δ L left h end e part. let i = part.head in
        rw i.is (bind_is _ (part-agrees v h i.spelled i.within refl (suc-same i.deep)) d (λ z c.
        named-before _ _ _ (λ u' j' named.
        bind-no _ (part-agrees second (here-fit h c named i.bound (fits-of i.within₂)) i.spelled₂ i.within₂ c.ends (suc-same i.deep)) d₂ d₂)));
    grows = under_grows word one second;
    kept = under-kept word one second;
  }

  -- the other arm, where the subject does not fit
  module _ {l : Checked} {o₂ : Site} {z : Sizing} {b₃ : Buffers} (d₂ : y ≡ Ok l) (moved₂ : o₂ ≡ moved_on_of p l.next l.used) (w₂ : Sizes ExprPart t b₂ o₂ z b₃) where
    third : Sizes ExprPart t b₂ (moved_on_of p l.next l.used) z b₃
    third = sizes-at moved₂ w₂

    two : Behind p b b₂ l
    two = behind-under word one second d₂

    pub fit-other : {why : RefusalAt} → z ≡ Err why → Sizes (FitPart k) t b p z b₃
    unfolding sized
    fit-other d₃ = record {
      says = λ P S q Γ Δ L left h end e part. let i = part.head in
          rw i.is (bind_is _ (part-agrees v h i.spelled i.within refl (suc-same i.deep)) d (λ z c.
          named-before _ _ _ (λ u' j' named.
          bind_is _ (part-agrees second (here-fit h c named i.bound (fits-of i.within₂)) i.spelled₂ i.within₂ c.ends (suc-same i.deep)) d₂ (λ z₂ c₂.
          bind-no _ (part-agrees third (here-behind h two c₂) i.spelled₃ i.within₃ c₂.ends (suc-same i.deep)) d₃ d₃))));
      grows = next_grows two third;
      kept = next-kept two third;
    }

    module _ {f : Checked} {r : Bool} (d₃ : z ≡ Ok f) (same : r ≡ same_type (meaning f.ty) (meaning l.ty)) where
      pub fit-differ : r ≡ false → Sizes (FitPart k) t b p (Refused SizesDisagree (p.place.line + 1)) b₃
      unfolding sized
      fit-differ differ = record {
        says = λ P S q Γ Δ L left h end e part. let i = part.head in
            rw i.is (bind_is _ (part-agrees v h i.spelled i.within refl (suc-same i.deep)) d (λ z c.
            named-before _ _ _ (λ u' j' named.
            bind_is _ (part-agrees second (here-fit h c named i.bound (fits-of i.within₂)) i.spelled₂ i.within₂ c.ends (suc-same i.deep)) d₂ (λ z₂ c₂.
            bind_is _ (part-agrees third (here-behind h two c₂) i.spelled₃ i.within₃ c₂.ends (suc-same i.deep)) d₃ (λ z₃ c₃.
            need-fails _ (ap₂ same_type (sym c₃.type) (sym c₂.type) ∙ sym same ∙ differ) (in_frame SizesDisagree h))))));
        grows = not_grown;
        kept = next-kept two third;
      }

      pub fit-done : {slots arms numbers : Estimate} {g : Sizing} → r ≡ true → Changes (with_slots 1) l.numbers slots → Combines either slots f.numbers arms → Combines after a.numbers arms numbers →
          g ≡ Ok (record { ty = f.ty; numbers = numbers; next = f.next; used = f.used }) → Sizes (FitPart k) t b p g b₃
      unfolding sized
      fit-done agree held arms all gives = record {
        says = λ P S q Γ Δ L left h end e part. let i = part.head in
            rw i.is (bind_is _ (part-agrees v h i.spelled i.within refl (suc-same i.deep)) d (λ z c.
            named-before _ _ _ (λ u' j' named.
            bind_is _ (part-agrees second (here-fit h c named i.bound (fits-of i.within₂)) i.spelled₂ i.within₂ c.ends (suc-same i.deep)) d₂ (λ z₂ c₂.
            bind_is _ (part-agrees third (here-behind h two c₂) i.spelled₃ i.within₃ c₂.ends (suc-same i.deep)) d₃ (λ z₃ c₃.
            need-holds 11 _ (ap₂ same_type (sym c₃.type) (sym c₂.type) ∙ sym same ∙ agree)
            (agrees gives (record { type = same-type _ _ (sym same ∙ agree) ∙ c₂.type; small = c₂.small; numbers = all.says _ _ c.numbers (arms.says _ _ (held.says _ c₂.numbers) c₃.numbers); ends = c₃.ends ∙ sym (ends_at part i.is i.long); holds = c₃.holds })))))));
        grows = grown-is gives (behind-next two third d₃).more;
        kept = next-kept two third;
      }
