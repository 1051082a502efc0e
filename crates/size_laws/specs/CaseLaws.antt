-- `1A`: what each return of a case gives.
use Rattle.language.specs.declared.refusals.RefusalAt.{RefusalAt}
use Rattle.language.specs.declared.refusals.Refusal.TheVariants.{SizeOutside}
use Rattle.std.specs.Prelude.{Ok, Err, Some, None, Option as Maybe}
use Rattle.size_steps.specs.Outcomes.{Sizing, Refused}
use Rattle.std.specs.Prelude.{ℕ, ◌+◌, ◌<◌, List, [], ◌≡◌, length, get_or}
use Rattle.std.proofs.Math.Path.{refl, sym, ap}
use Rattle.std.proofs.Common.{◌∙◌, subst₂, arith}
use Rattle.language.specs.Result.{Result}
use Rattle.language.specs.Syntax.{Ty, tnamed, ResultType, Exprs, File, constructors_of}
use Rattle.language.specs.Format.{exprs_bytes, result_bytes}
use Rattle.language.specs.Scope.{Scope}
use Rattle.language.specs.Within.{WithinResult, WithinBranches}
use Rattle.language.specs.Sizes.{type_at}
use Rattle.language.specs.Estimate.{after}
use Rattle.language.specs.Typing.{Place as Stand}
use Rattle.language.specs.Checker.{Instance, Sized, named, sized, sized_branches}
use Rattle.text.specs.declared.Cursor.{Cursor}
use Rattle.text.specs.Places.{past}
use Rattle.encoding.specs.Spells.{Spells}
use Rattle.encoding.specs.FrameLines.{line_at}
use Rattle.index.specs.Indexed.{frame_part}
use Rattle.index.specs.FramePartLaws.{part-is-line}
use Rattle.estimate.specs.declared.Estimate.{Estimate}
use Rattle.estimate.specs.Stands.{Combines}
use Rattle.sizes.specs.declared.SizedType.{SizedType}
use Rattle.sizes.specs.declared.SizedType.TheVariants.{Named}
use Rattle.sizes.specs.declared.TypeAt.{TypeAt}
use Rattle.sizes.specs.Promises.{meaning, AgreesType, TypeGiven}
use Rattle.sizes.specs.TypeLaws.{type-given, type-not-given, type-within}
use Rattle.sizes.specs.Prefixes.{type-in-scope}
use Rattle.index.specs.Sections.{frames_of}
use Rattle.size_steps.specs.declared.Site.{Site}
use Rattle.size_steps.specs.declared.Checked.{Checked}
use Rattle.size_steps.specs.declared.Subject.{Subject}
use Rattle.size_steps.specs.Sites.{one-byte-bounded, moved_on_of, Kept, kept_then, kept-moved}
use Rattle.size_steps.specs.Agreement.{Table, CheckedAs, Agrees, Grows, agrees, before_9, of_type, not_grown, grows-to, grows_same, bind_is, bind-no, need-before, named-before, from_some, from-none}
use Rattle.size_laws.specs.Promises.{Lent, Buffers, Here, ExprPart, entering, Sizes, SizesBranches}
use Rattle.size_laws.specs.Parts.{CasePart}
use Rattle.size_steps.specs.Leaves.{subject_of}
use Rattle.size_laws.specs.HereLaws.{part_at, ends_at, here-moved, suc-same}
use Rattle.size_laws.specs.TurnLaws.{behind-first, here-behind, sizes-scope, in_frame, grown-is}
use Rattle.size_laws.specs.NamedTypes.{is-named, NotNamed, bounded-size}

-- a named type
named-is : {B : Type 0} {P : File} {viewed : B → Sized} {next : ℕ} {table : Table} {r : Sizing} {τ : Ty} {t k : ℕ} (frame : ℕ) (κ : ℕ → ℕ → Result B) → τ ≡ tnamed t k → Agrees P viewed next table r (κ t k) → Agrees P viewed next table r (named τ frame κ)
unfolding named
named-is frame κ e a = rw e a

module _ {t : Lent} {b b₁ : Buffers} {p : Site} {x : Sizing} (v : Sizes ExprPart t b p x b₁) where
  pub case-first : {u : ℕ} {why : RefusalAt} → x ≡ Err why → Sizes (CasePart u) t b p x b₁
  unfolding sized
  case-first d = record {
    says = λ P S q Γ Δ L left h end e part. let i = part.head in
        rw i.is (bind-no _ (v.says P S q Γ Δ L left h _ i.first (part_at p i.spelled i.within refl (suc-same i.deep))) d d);
    grows = v.grows;
    kept = v.kept;
  }

  module _ {a : Checked} (d : x ≡ Ok a) where
    pub case-plain : {u : ℕ} {why : RefusalAt} → NotNamed a.ty → Sizes (CasePart u) t b p (Err why) b₁
    unfolding sized
    case-plain other = record {
      says = λ P S q Γ Δ L left h end e part. let i = part.head in
          rw i.is (bind_is _ (v.says P S q Γ Δ L left h _ i.first (part_at p i.spelled i.within refl (suc-same i.deep))) d (λ z c.
          named-before _ _ _ (λ w k is. absurd (other w k (is-named a.ty (c.type ∙ is))))));
      grows = not_grown;
      kept = v.kept;
    }

    -- the type that is wanted of the branches
    module _ {w m : ℕ} {line : List ℕ} {y : Maybe TypeAt} (is : a.ty ≡ Named w m) (cut : line ≡ frame_part t.text (frames_of t.index) p.place.line) (g : TypeGiven line a.next b₁.sizes y) where
      -- what was read, where the definition reads it
      result-read : {P : File} {S : Scope} {q : Stand} {Γ : List Ty} {Δ : List ℕ} {L : List Instance} {left types at : ℕ} {z : Sized} {r : ResultType} → Here t b p P S q Γ Δ L left → CheckedAs P at b₁.list a z →
          Spells result_bytes (line_at t.text p.place.line) at r → WithinResult types S.sizes r → AgreesType (type_at Δ r) (past (line_at t.text p.place.line) at (length (result_bytes r))) y
      result-read {r} h c s w =
          let there = part-is-line h.indexed p.place.line h.site.line cut in
          let sizes = sizes-scope (here-behind h (behind-first v d) c) in
          rw (sym c.ends, sym (sym (type-in-scope b₁.sizes w) ∙ ap (λ (l : List ℕ). type_at l r) sizes), sym there) (g.says _ _ r w (rw (there, c.ends) s))

      pub case-outside : {u : ℕ} → y ≡ None → Sizes (CasePart u) t b p (Refused SizeOutside (p.place.line + 1)) b₁
      unfolding sized
      case-outside o = record {
        says = λ P S q Γ Δ L left h end e part. let i = part.head in
            rw i.is (bind_is _ (v.says P S q Γ Δ L left h _ i.first (part_at p i.spelled i.within refl (suc-same i.deep))) d (λ z c.
            named-is _ _ (sym c.type ∙ ap meaning is) (need-before _ _ before_9 (λ _.
            from-none _ (type-not-given o (result-read h c i.spelled₂ i.within₂)) (in_frame SizeOutside h)))));
        grows = not_grown;
        kept = v.kept;
      }

      module _ {u : ℕ} {wanted : SizedType} {next : Cursor} {o : Site} {z : Sizing} {b₂ : Buffers} (given : y ≡ Some (record { ty = wanted; next = next })) (moved : o ≡ moved_on_of p next a.used)
          {s : Subject} (subject : s ≡ subject_of u m wanted) (br : SizesBranches s 0 t b₁ o z b₂) where
        under : SizesBranches (subject_of u m wanted) 0 t b₁ (moved_on_of p next a.used) z b₂
        under = subst₂ (λ i j. SizesBranches i 0 t b₁ j z b₂) subject moved br

        case-kept : Kept p b.scope b.sizes b₂.scope b₂.sizes
        case-kept = kept_then v.kept (kept-moved under.kept)

        case-grows : Grows p.used z
        case-grows = grows_same (grows-to v.grows d) under.grows

        -- the branches, where the definition checks them
        branches_at : {P : File} {S : Scope} {q : Stand} {Γ : List Ty} {Δ : List ℕ} {L : List Instance} {left levels at : ℕ} {bs : Exprs} {s : Sized} → Here t b p P S q Γ Δ L left → (r : ResultType) →
            CheckedAs P at b₁.list a s → (read : AgreesType (type_at Δ r) (past (line_at t.text p.place.line) at (length (result_bytes r))) y) → Spells exprs_bytes (line_at t.text p.place.line) (past (line_at t.text p.place.line) at (length (result_bytes r))) bs →
            u < length S.types → WithinBranches levels S (get_or S.types u []) bs → p.place.levels ≡ levels →
            Agrees P (of_type (meaning wanted)) (past (line_at t.text p.place.line) (past (line_at t.text p.place.line) at (length (result_bytes r))) (length (exprs_bytes bs))) b₂.list z (sized_branches P (entering P left) bs (constructors_of P u) q Γ Δ u m (meaning wanted) s.list)
        branches_at {P} {S} {q} {Γ} {Δ} {left} {levels} {at} {bs} {s} h r c read spelled less within levels-are =
            let there = (type-given given read).1 in
            under.says P S q Γ Δ s.list left (here-moved h next v.kept c.holds (grows-to v.grows d))
            (record { of = omega (arith, less, ap length h.site.known.types); size = bounded-size c.small (sym c.type ∙ ap meaning is); ty = one-byte-bounded (type-within given g.bound) })
            (past (line_at t.text p.place.line) (past (line_at t.text p.place.line) at (length (result_bytes r))) (length (exprs_bytes bs))) bs
            (record { spelled = rw there spelled; within = rw (levels-are, sym h.site.known.types) within; ends = ap (λ (n : ℕ). past (line_at t.text p.place.line) n (length (exprs_bytes bs))) (sym there) })

        pub case-branches : {why : RefusalAt} → z ≡ Err why → Sizes (CasePart u) t b p z b₂
        unfolding sized
        case-branches d' = record {
          says = λ P S q Γ Δ L left h end e part. let i = part.head in
              rw i.is (bind_is _ (v.says P S q Γ Δ L left h _ i.first (part_at p i.spelled i.within refl (suc-same i.deep))) d (λ s c.
              named-is _ _ (sym c.type ∙ ap meaning is) (need-before _ _ before_9 (λ _.
              let read = result-read h c i.spelled₂ i.within₂ in
              from_some 10 _ _ (type-given given read).0 (bind-no _ (branches_at h _ c read i.spelled₃ i.less i.within₃ (suc-same i.deep)) d' d')))));
          grows = case-grows;
          kept = case-kept;
        }

        pub case-done : {k : Checked} {numbers : Estimate} {f : Sizing} → z ≡ Ok k → Combines after a.numbers k.numbers numbers → f ≡ Ok (record { ty = k.ty; numbers = numbers; next = k.next; used = k.used }) →
            Sizes (CasePart u) t b p f b₂
        unfolding sized
        case-done d' all ends = record {
          says = λ P S q Γ Δ L left h end e part. let i = part.head in
              rw i.is (bind_is _ (v.says P S q Γ Δ L left h _ i.first (part_at p i.spelled i.within refl (suc-same i.deep))) d (λ s c.
              named-is _ _ (sym c.type ∙ ap meaning is) (need-before _ _ before_9 (λ _.
              let read = result-read h c i.spelled₂ i.within₂ in
              from_some 10 _ _ (type-given given read).0 (bind_is _ (branches_at h _ c read i.spelled₃ i.less i.within₃ (suc-same i.deep)) d' (λ w f.
              agrees ends (record { type = f.type; small = f.small; numbers = all.says _ _ c.numbers f.numbers; ends = f.ends ∙ sym (ends_at part i.is i.long); holds = f.holds })))))));
          grows = grown-is ends (grows-to case-grows d');
          kept = case-kept;
        }
