-- `1B`: what each return of an adjustment gives.
use Rattle.language.specs.declared.refusals.RefusalAt.{RefusalAt}
use Rattle.language.specs.declared.refusals.Refusal.TheVariants.{SizeOutside, SizesDisagree}
use Rattle.std.specs.Prelude.{Ok, Err, Some, None, Option as Maybe}
use Rattle.size_steps.specs.Outcomes.{Sizing, Refused}
use Rattle.std.specs.Prelude.{ℕ, ◌+◌, ◌≤◌, ◌<◌, List, ◌≡◌, length}
use Rattle.std.proofs.Math.Path.{sym, ap}
use Rattle.std.proofs.Common.{◌∙◌, subst, arith, le-leb}
use Rattle.std.proofs.Math.Option.{Option, none, some}
use Rattle.std.proofs.lemmas.Bool.{lt-leb}
use Rattle.language.specs.Syntax.{Ty, tnamed, Size, File}
use Rattle.language.specs.Scope.{Scope}
use Rattle.language.specs.Format.{size_bytes}
use Rattle.language.specs.Limits.{nesting_most}
use Rattle.language.specs.Within.{Bound, WithinSize}
use Rattle.language.specs.Typing.{Place as Stand}
use Rattle.language.specs.Sizes.{type_size}
use Rattle.language.specs.Checker.{Instance, sized}
use Rattle.text.specs.declared.Cursor.{Cursor}
use Rattle.text.specs.Places.{past}
use Rattle.encoding.specs.Spells.{Spells}
use Rattle.encoding.specs.FrameLines.{line_at}
use Rattle.index.specs.Indexed.{frame_part}
use Rattle.index.specs.FramePartLaws.{part-is-line}
use Rattle.sizes.specs.declared.SizeAt.{SizeAt}
use Rattle.sizes.specs.declared.SizedType.TheVariants.{Named}
use Rattle.sizes.specs.Promises.{AgreesSize, size_is, size-outside, SizeBound, size_bound, no_size, SizeGiven}
use Rattle.sizes.specs.Prefixes.{size-in-scope}
use Rattle.index.specs.Sections.{frames_of}
use Rattle.size_steps.specs.declared.Site.{Site}
use Rattle.size_steps.specs.declared.Checked.{Checked}
use Rattle.size_steps.specs.Sites.{moved_on_of, kept-all, kept-moved}
use Rattle.size_steps.specs.Agreement.{agrees, not_grown, grows-to, bind_is, bind-no, named-before, need-holds, need-fails, from_some, from-none}
use Rattle.size_laws.specs.Promises.{Lent, Buffers, Here, Sizes, ExprPart}
use Rattle.size_laws.specs.Parts.{AdjPart}
use Rattle.size_laws.specs.HereLaws.{ends_at, here-moved, suc-same}
use Rattle.size_laws.specs.TurnLaws.{sizes-at, part-agrees, sizes-scope, in_frame, grown-is}
use Rattle.size_laws.specs.NamedTypes.{is-named, NotNamed, bounded_at, named-type}

-- ---- a size by the way its answer went
is-size : {x : Option ℕ} {end : ℕ} {d : SizeAt} {r : Maybe SizeAt} → AgreesSize x end r → r ≡ Some d → (x ≡ some d.size) × (d.next.at ≡ end)
is-size {d} (size_is {s} e ends) w = let same : s ≡ d = cc in (e ∙ ap (λ (z : SizeAt). some z.size) same, ap (λ (z : SizeAt). z.next.at) (sym same) ∙ ends)
is-size (size-outside e) d = absurd (let z : ◌≡◌ {A = ℕ} 0 1 = cc in omega arith)

no-size-is : {x : Option ℕ} {end : ℕ} {r : Maybe SizeAt} → AgreesSize x end r → r ≡ None → x ≡ none
no-size-is (size_is e ends) d = absurd (let z : ◌≡◌ {A = ℕ} 0 1 = cc in omega arith)
no-size-is (size-outside e) d = e

pub size-most : {d : SizeAt} {r : Maybe SizeAt} → SizeBound r → r ≡ Some d → Bound d.size
size-most {d} (size_bound {s} bound) w = let same : s ≡ d = cc in subst (λ (z : SizeAt). Bound z.size) same bound
size-most no_size d = absurd (let z : ◌≡◌ {A = ℕ} 0 1 = cc in omega arith)

module _ {t : Lent} {b : Buffers} {p : Site} {line : List ℕ} {s : Maybe SizeAt} (g : SizeGiven line p.place.at b.sizes s) (cut : line ≡ frame_part t.text (frames_of t.index) p.place.line) where
  -- the size that is spelled at the place, of the sizes in scope
  pub size-here : {P : File} {S : Scope} {q : Stand} {Γ : List Ty} {Δ : List ℕ} {L : List Instance} {left : ℕ} → Here t b p P S q Γ Δ L left → {k : Size} → WithinSize S.sizes nesting_most k → Spells size_bytes (line_at t.text p.place.line) p.place.at.at k →
      AgreesSize (type_size Δ k) (past (line_at t.text p.place.line) p.place.at.at (length (size_bytes k))) s
  size-here {P} {S} h {k} w spelled =
      let there : line ≡ line_at t.text p.place.line = part-is-line h.indexed p.place.line h.site.line cut in
      subst (λ x. AgreesSize x (past (line_at t.text p.place.line) p.place.at.at (length (size_bytes k))) s) (sym (size-in-scope b.sizes w) ∙ ap (λ l. type_size l k) (sizes-scope h)) (rw (sym there) (g.says S.sizes k w (rw there spelled)))

  pub adj-outside : s ≡ None → Sizes AdjPart t b p (Refused SizeOutside (p.place.line + 1)) b
  unfolding sized
  adj-outside d = record {
    says = λ P S q Γ Δ L left h end e part. let i = part.head in
        rw i.is (from-none _ (no-size-is (size-here h i.within i.spelled) d) (in_frame SizeOutside h));
    grows = not_grown;
    kept = kept-all;
  }

  -- the size is k, and the expression behind it
  module _ {k : ℕ} {next : Cursor} {m : Site} {x : Sizing} {b₁ : Buffers} (d : s ≡ Some (record { size = k; next = next })) (moved : m ≡ moved_on_of p next p.used) (u : Sizes ExprPart t b m x b₁) where
    behind : Sizes ExprPart t b (moved_on_of p next p.used) x b₁
    behind = sizes-at moved u

    here-sized : {P : File} {S : Scope} {q : Stand} {Γ : List Ty} {Δ : List ℕ} {L : List Instance} {left : ℕ} → Here t b p P S q Γ Δ L left → Here t b (moved_on_of p next p.used) P S q Γ Δ L left
    here-sized h = here-moved h next kept-all h.holds (omega arith)

    pub adj-refused : {why : RefusalAt} → x ≡ Err why → Sizes AdjPart t b p x b₁
    unfolding sized
    adj-refused d₂ = record {
      says = λ P S q Γ Δ L left h end e part. let i = part.head in let size = is-size (size-here h i.within i.spelled) d in
          rw i.is (from_some 10 _ _ size.0
          (bind-no _ (part-agrees behind (here-sized h) i.spelled₂ i.within₂ size.1 (suc-same i.deep)) d₂ d₂));
      grows = behind.grows;
      kept = kept-moved behind.kept;
    }

    -- the expression is of no named type: this was judged before
    pub adj-plain : {a : Checked} {why : RefusalAt} → x ≡ Ok a → NotNamed a.ty → Sizes AdjPart t b p (Err why) b₁
    unfolding sized
    adj-plain {a} d₂ plain = record {
      says = λ P S q Γ Δ L left h end e part. let i = part.head in let size = is-size (size-here h i.within i.spelled) d in
          rw i.is (from_some 10 _ _ size.0
          (bind_is _ (part-agrees behind (here-sized h) i.spelled₂ i.within₂ size.1 (suc-same i.deep)) d₂ (λ z c.
          named-before _ _ _ (λ y j named. absurd (plain y j (is-named a.ty (c.type ∙ named)))))));
      grows = not_grown;
      kept = kept-moved behind.kept;
    }

    module _ {a : Checked} {y j : ℕ} (d₂ : x ≡ Ok a) (ty : a.ty ≡ Named y j) where
      pub adj-lowered : k < j → Sizes AdjPart t b p (Refused SizesDisagree (p.place.line + 1)) b₁
      unfolding sized
      adj-lowered less = record {
        says = λ P S q Γ Δ L left h end e part. let i = part.head in let size = is-size (size-here h i.within i.spelled) d in
            rw i.is (from_some 10 _ _ size.0
            (bind_is _ (part-agrees behind (here-sized h) i.spelled₂ i.within₂ size.1 (suc-same i.deep)) d₂ (λ z c.
            named-before _ _ _ (λ y' j' named. let same = named-type ty c.type named in
            need-fails _ (lt-leb j' k (omega (arith, less, same.1))) (in_frame SizesDisagree h)))));
        grows = not_grown;
        kept = kept-moved behind.kept;
      }

      pub adj-done : {f : Sizing} → j ≤ k → f ≡ Ok (record { ty = Named y k; numbers = a.numbers; next = a.next; used = a.used }) → Sizes AdjPart t b p f b₁
      unfolding sized
      adj-done le is = record {
        says = λ P S q Γ Δ L left h end e part. let i = part.head in let size = is-size (size-here h i.within i.spelled) d in
            rw i.is (from_some 10 _ _ size.0
            (bind_is _ (part-agrees behind (here-sized h) i.spelled₂ i.within₂ size.1 (suc-same i.deep)) d₂ (λ z c.
            named-before _ _ _ (λ y' j' named. let same = named-type ty c.type named in
            need-holds 11 _ (le-leb j' k (omega (arith, le, same.1)))
            (agrees is (record { type = ap (λ n. tnamed n k) (sym same.0); small = bounded_at c.small named (size-most g.bound d).1; numbers = c.numbers; ends = c.ends ∙ sym (ends_at part i.is i.long); holds = c.holds }))))));
        grows = grown-is is (grows-to behind.grows d₂);
        kept = kept-moved behind.kept;
      }
