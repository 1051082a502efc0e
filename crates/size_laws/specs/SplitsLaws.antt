-- A branch for every split: what a turn of the loop and each return give.
use Rattle.language.specs.declared.refusals.RefusalAt.{RefusalAt}
use Rattle.language.specs.declared.refusals.Refusal.TheVariants.{SizesDisagree}
use Rattle.std.specs.Prelude.{Ok, Err}
use Rattle.size_steps.specs.Outcomes.{Sizing, Refused}
use Rattle.std.specs.Prelude.{ℕ, ◌+◌, ◌*◌, ◌%◌, ◌≤◌, ◌<◌, List, [], ◌∷◌, ◌++◌, Bool, true, false, ◌≡◌, length, get_or, take, drop}
use Rattle.std.proofs.Math.Option.{some}
use Rattle.std.proofs.Math.Path.{refl, ap}
use Rattle.std.proofs.Common.{sym, ◌∙◌, subst, arith}
use Rattle.std.proofs.Math.ListN.{get_elem? as look}
use Rattle.language.specs.Limits.{byte_range, variables_most, size_variables_most}
use Rattle.language.specs.Result.{Result, ok, no, bind, need}
use Rattle.language.specs.Syntax.{Constructor, owns, Ty, Expr, File, constructors_of}
use Rattle.language.specs.Scope.{Scope, wider}
use Rattle.language.specs.Within.{All}
use Rattle.language.specs.Sizes.{field_types, same_type}
use Rattle.language.specs.Estimate.{Estimate, either, with_slots}
use Rattle.language.specs.Typing.{Place as Stand}
use Rattle.language.specs.Checker.{Instance, Sized, Counted as CountedDef, at_splits, sized}
use Rattle.theory.specs.Alls.{all_first, all_rest}
use Rattle.theory.specs.Lists.{false-is-not-true}
use Rattle.theory.specs.SameTests.{same-type}
use Rattle.index.specs.Tables.{type_words, constructor_words}
use Rattle.encoding.specs.FrameLines.{line_at}
use Rattle.estimate.specs.declared.Estimate.{Estimate as Held}
use Rattle.estimate.specs.Stands.{Stands, Changes, Combines}
use Rattle.sizes.specs.declared.SizedType.{SizedType}
use Rattle.sizes.specs.Promises.{meaning}
use Rattle.splits.specs.Next.{Chain, last, more}
use Rattle.splits.specs.Moves.{Moves}
use Rattle.splits.specs.Walks.{moves-keep, walk-moves, walk_ends}
use Rattle.type_rows.specs.Rows.{FieldsBound}
use Rattle.type_rows.specs.ToldLaws.{told-fields, fields-counted}
use Rattle.index.specs.Sections.{types_of}
use Rattle.size_steps.specs.declared.Site.{Site}
use Rattle.size_steps.specs.declared.Checked.{Checked}
use Rattle.size_steps.specs.declared.Subject.{Subject}
use Rattle.size_steps.specs.Sites.{Bounded, moved_on_of, widened_by, Kept, kept_then, kept-moved, kept_under}
use Rattle.size_steps.specs.Agreement.{Table, Holds, Before, CheckedAs, Agrees, Grows, agrees, refused, beyond, itself, of_type, not_grown, grows-to, grows_same, bind_is, bind-no, need-fails}
use Rattle.size_laws.specs.Promises.{Lent, Buffers, buffers, Here, ExprPart, entering, BranchPart, UpToMost, Wanted, Sizes, SizesSplits}
use Rattle.size_laws.specs.HereLaws.{fits-of, here-moved}
use Rattle.size_laws.specs.TurnLaws.{in_frame, grown-is}
use Rattle.size_laws.specs.BranchLaws.{own_word, owns-told}
use Rattle.size_laws.specs.FieldScopes.{here-fields}
use Rattle.size_laws.specs.Eithers.{either-last, joined, joined-twice}
use Rattle.size_laws.specs.SplitRanks.{same-split}
use Rattle.size_laws.specs.Walks.{Progress, going, ended, past, Walks}

abbrev pub fields_word : Lent → ℕ → ℕ → ℕ
fields_word t u c = get_or (types_of t.index) (type_words * u + 1 + constructor_words * c) 0

-- ---- the split in the list is the first of those to come
record First (ks : List ℕ) (l : List (List ℕ)) : Type 0 where
  rest : List (List ℕ)
  is : l ≡ ks ∷ rest

first_of : {ks : List ℕ} {l : List (List ℕ)} → Chain ks l → First ks l
first_of (last e) = record { rest = []; is = refl }
first_of (more {l} e c) = record { rest = l; is = refl }

-- what an answer of the code stands for
data Answered {A : Type 0} (P : File) (view : A → Sized) (next : ℕ) (table : Table) (k : Checked) : Result A → Type 0 where
  answered : {x : A} → CheckedAs P next table k (view x) → Answered P view next table k (ok x)
  unanswered : {n frame : ℕ} → Before n → Answered P view next table k (no n frame)

answer_is : {A : Type 0} {P : File} {view : A → Sized} {next : ℕ} {table : Table} {r : Sizing} {a : Result A} {k : Checked} → Agrees P view next table r a → r ≡ Ok k → Answered P view next table k a
answer_is {P} {view} {next} {table} {k} (agrees {k = j} {x = y} e c) d = answered (subst (λ i. CheckedAs P next table i (view y)) (let same : Ok j ≡ Ok k = sym e ∙ d in cc) c)
answer_is (refused e) d = absurd (let same = sym e ∙ d in let z : ◌≡◌ {A = ℕ} 0 1 = cc in omega arith)
answer_is (beyond b) d = unanswered b

-- ---- the definition's answer for all splits, with the slots of the fields
abbrev slotted : ℕ → CountedDef → Result CountedDef
slotted n x = ok (record { numbers = with_slots n x.numbers; list = x.list })

-- a refusal is one of what is bound behind it
stays : {P : File} {τ : Ty} {next : ℕ} {table : Table} {x : Sizing} {a : Result CountedDef} {why : RefusalAt} (κ : CountedDef → Result CountedDef) → x ≡ Err why → Agrees P (of_type τ) next table x a → Agrees P (of_type τ) next table x (bind a κ)
stays κ d u = bind-no κ u d d

module _ {P : File} {f : List ℕ → List Instance → Result CountedDef} {r at end : ℕ} {b : Buffers} {all : Checked} {a : Result CountedDef} where
  -- a part refused for this split refuses the whole
  stops : {τ : Ty} {table : Table} {x : Sizing} {why : RefusalAt} (m : ℕ) → Progress P f r at end b all true a →
      ((M : List Instance) → Holds P b.list all.used M → All UpToMost (take r (drop at b.sizes)) → Agrees P (of_type τ) end table x (f (take r (drop at b.sizes)) M)) → x ≡ Err why →
      Agrees P (of_type τ) end table x (bind a (slotted m))
  unfolding at_splits bind
  stops m (going {M} t e chain most stands holds) agree d =
      let first = first_of chain in
      rw (e, first.is) (stays _ d (stays _ d (stays _ d (agree M holds (all_first (subst (All (All UpToMost)) first.is most))))))
  stops m (ended t e stands holds place) agree d = false-is-not-true (sym t)
  stops m (past before e) agree d = rw e (beyond before)

  -- all splits are done
  done : {τ : Ty} {ty : SizedType} {numbers : Held} (m : ℕ) → Progress P f r at end b all false a → Changes (with_slots m) all.numbers numbers → meaning ty ≡ τ → Bounded τ →
      Agrees P (of_type τ) end b.list (Ok (record { ty = ty; numbers = numbers; next = all.next; used = all.used })) (bind a (slotted m))
  unfolding bind
  done m (going t e chain most stands holds) held is small = false-is-not-true t
  done m (ended t e stands holds place) held is small = rw e (agrees refl (record { type = is; small = small; numbers = held.says _ stands; ends = place; holds = holds }))
  done m (past before e) held is small = rw e (beyond before)

-- ---- one turn
module _ (f : List ℕ → List Instance → Result CountedDef) (ks : List ℕ) (rest : List (List ℕ)) (M : List Instance) (x : Estimate) {a : Result CountedDef} (e : a ≡ bind (at_splits (ks ∷ rest) f M) (joined x)) where
  -- the splits behind this one, with its numbers among those so far
  turned : (q : CountedDef) → f ks M ≡ ok q → a ≡ bind (at_splits rest f q.list) (joined (either x q.numbers))
  unfolding at_splits bind
  turned q g = e ∙ ap (λ (z : Result CountedDef). bind (bind z (λ y. bind (at_splits rest f y.list) (joined y.numbers))) (joined x)) g ∙ joined-twice x q.numbers (at_splits rest f q.list)

  turned-away : {n frame : ℕ} → f ks M ≡ no n frame → a ≡ no n frame
  unfolding at_splits bind
  turned-away g = e ∙ ap (λ (z : Result CountedDef). bind (bind z (λ y. bind (at_splits rest f y.list) (joined y.numbers))) (joined x)) g

turned-last : (f : List ℕ → List Instance → Result CountedDef) (M : List Instance) (x : Estimate) → bind (at_splits [] f M) (joined x) ≡ ok (record { numbers = x; list = M })
unfolding at_splits bind
turned-last f M x = λ i. ok (record { numbers = either-last x i; list = M })

turn-away : (f : List ℕ → List Instance → Result CountedDef) (M : List Instance) (x : Estimate) {ks : List ℕ} {rest : List (List ℕ)} {a : Result CountedDef} {n frame : ℕ} → Chain ks rest → a ≡ bind (at_splits rest f M) (joined x) → f ks M ≡ no n frame → a ≡ no n frame
turn-away f M x chain e is = let first = first_of chain in turned-away f _ first.rest M x (e ∙ ap (λ (l : List (List ℕ)). bind (at_splits l f M) (joined x)) first.is) is

-- b: the buffers behind the part; the next split is then written over this one, if there is one
module _ {P : File} {τ : Ty} {end : ℕ} {b : Buffers} {now : Checked} {held numbers : Held} (both : Combines either held now.numbers numbers) (ty : SizedType)
    (f : List ℕ → List Instance → Result CountedDef) (r at : ℕ) (room : at + r ≤ length b.sizes) (rest : List (List ℕ)) (x : Estimate) (M : List Instance) {a : Result CountedDef}
    (e : a ≡ bind (at_splits rest f M) (joined x)) (chain : Chain (take r (drop at b.sizes)) rest) (most : All (All UpToMost) rest) (stands : Stands held x) where
  turn_on : {sizes : List ℕ} (g : Result CountedDef) → f (take r (drop at b.sizes)) M ≡ g → Answered P (of_type τ) end b.list now g → Moves b.sizes at r true sizes →
      Progress P f r at end (buffers b.list b.scope sizes) (record { ty = ty; numbers = numbers; next = now.next; used = now.used }) true a
  turn_on (ok q) is (answered c) m =
      let w = walk-moves room chain m in
      going refl (turned f _ w.rest M x (e ∙ ap (λ (l : List (List ℕ)). bind (at_splits l f M) (joined x)) w.is) q is) w.chain (all_rest (subst (All (All UpToMost)) w.is most)) (both.says _ _ stands c.numbers) c.holds
  turn_on (no n frame) is (unanswered before) m = past before (turn-away f M x chain e is)

  turn_last : {sizes : List ℕ} (g : Result CountedDef) → f (take r (drop at b.sizes)) M ≡ g → Answered P (of_type τ) end b.list now g → Moves b.sizes at r false sizes →
      Progress P f r at end (buffers b.list b.scope sizes) (record { ty = ty; numbers = numbers; next = now.next; used = now.used }) false a
  turn_last (ok q) is (answered c) m =
      let w = walk_ends room chain m in
      ended refl (turned f _ [] M x (e ∙ ap (λ (l : List (List ℕ)). bind (at_splits l f M) (joined x)) w.0) q is ∙ turned-last f q.list (either x q.numbers)) (both.says _ _ stands c.numbers) c.holds c.ends
  turn_last (no n frame) is (unanswered before) m = past before (turn-away f M x chain e is)

  turn : {sizes : List ℕ} (moved : Bool) → Answered P (of_type τ) end b.list now (f (take r (drop at b.sizes)) M) → Moves b.sizes at r moved sizes →
      Progress P f r at end (buffers b.list b.scope sizes) (record { ty = ty; numbers = numbers; next = now.next; used = now.used }) moved a
  turn true u m = turn_on (f (take r (drop at b.sizes)) M) refl u m
  turn false u m = turn_last (f (take r (drop at b.sizes)) M) refl u m

-- from what is known before the turn; b: the buffers before it
turns : {P : File} {τ : Ty} {end : ℕ} {b b₁ : Buffers} {all now : Checked} {numbers : Held} (ty : SizedType) (f : List ℕ → List Instance → Result CountedDef) (r at : ℕ) {a : Result CountedDef} {sizes : List ℕ} (moved : Bool) →
    Progress P f r at end b all true a → Combines either all.numbers now.numbers numbers → at + r ≤ length b₁.sizes → take r (drop at b₁.sizes) ≡ take r (drop at b.sizes) →
    ((M : List Instance) → Holds P b.list all.used M → All UpToMost (take r (drop at b.sizes)) → Answered P (of_type τ) end b₁.list now (f (take r (drop at b.sizes)) M)) → Moves b₁.sizes at r moved sizes →
    Progress P f r at end (buffers b₁.list b₁.scope sizes) (record { ty = ty; numbers = numbers; next = now.next; used = now.used }) moved a
turns {τ} {now} ty f r at moved (going {rest} {x} {M} t e chain most stands holds) both room same answer m =
    let first = first_of chain in
    turn {τ = τ} {now = now} both ty f r at room rest x M e (rw same chain) most stands moved (rw same (answer M holds (all_first (subst (All (All UpToMost)) first.is most)))) m
turns ty f r at moved (ended t e stands holds place) both room same answer m = false-is-not-true (sym t)
turns ty f r at moved (past before e) both room same answer m = past before e

-- the type of the branch's expression is the one that is wanted
agreed : {P : File} {end : ℕ} {table : Table} {k : Checked} {g : Result Sized} {τ : Ty} (frame : ℕ) → Answered P itself end table k g → same_type (meaning k.ty) τ ≡ true → Bounded τ →
    Answered P (of_type τ) end table k (bind g (λ x. need (same_type x.type τ) 11 frame (ok (record { numbers = x.numbers; list = x.list }))))
unfolding bind need
agreed {k} {τ} frame (answered c) same small =
    rw (sym c.type, same) (answered (record { type = same-type (meaning k.ty) τ same; small = small; numbers = c.numbers; ends = c.ends; holds = c.holds }))
agreed frame (unanswered before) same small = unanswered before

-- ---- the loop's body: the fields bound, and the branch's expression under them
module _ {s : Subject} {k n own : ℕ} {t : Lent} {b₀ b b₁ : Buffers} {p m o : Site} {all : Checked} {scope : List ℕ} {x : Sizing} (w : Walks s k t b₀ p true b all)
    (count : (n ≡ fields_word t s.of k % byte_range) × (n < byte_range)) (told : (own ≡ own_word t s.of k % byte_range) × (own < byte_range)) (room : variables_most ≤ length b.scope) (sizeRoom : size_variables_most ≤ length b.sizes)
    (bound : FieldsBound (types_of t.index) b.scope b.sizes s.of k p.place.variables p.sizes scope) (moved : m ≡ moved_on_of p p.place.at all.used) (wide : o ≡ widened_by m n own)
    (v : Sizes ExprPart t (buffers b.list scope b.sizes) o x b₁) where
  under : Sizes ExprPart t (buffers b.list scope b.sizes) (widened_by (moved_on_of p p.place.at all.used) n own) x b₁
  under = subst (λ z. Sizes ExprPart t (buffers b.list scope b.sizes) z x b₁) (wide ∙ ap (λ z. widened_by z n own) moved) v

  turn-kept : Kept p b₀.scope b₀.sizes b₁.scope b₁.sizes
  turn-kept = kept_then w.kept (kept_then (record { variables = bound.before; sizes_too = refl }) (kept-moved (kept_under n own under.kept)))

  turn-grows : Grows p.used x
  turn-grows = grows_same w.grown under.grows

  -- the expression, where the definition checks it
  inside-branch : {P : File} {S : Scope} {q : Stand} {Γ : List Ty} {Δ : List ℕ} {L M : List Instance} {left end : ℕ} {fs : Constructor} {e : Expr} → Here t b₀ p P S q Γ Δ L left → Wanted P s →
      look (constructors_of P s.of) k ≡ some fs → BranchPart (line_at t.text p.place.line) p S fs end e → Holds P b.list all.used M → All UpToMost (take (owns fs) (drop p.sizes b.sizes)) →
      Agrees P itself end b₁.list x (sized P (entering P left) e q (Γ ++ field_types s.of fs (take (owns fs) (drop p.sizes b.sizes))) (Δ ++ take (owns fs) (drop p.sizes b.sizes)) M)
  inside-branch {P} {S} {q} {Γ} {Δ} {M} {left} {end} {fs} {e} h wanted there part holds most =
      let here = here-fields k (here-moved h p.place.at w.kept holds w.grown) wanted.of there room sizeRoom (fits-of part.within) most bound in
      let fields : n ≡ length fs = fields-counted (told-fields h.indexed s.of k wanted.of there) count in
      let owned : own ≡ owns fs = owns-told k h.indexed wanted.of there told in
      let there = rw (fields, owned) at under in
      there.says P (wider (length fs) (owns fs) S) q _ _ M left here end e (record { spelled = part.spelled; within = part.within; ends = part.ends })

  pub splits-part : {why : RefusalAt} → x ≡ Err why → SizesSplits s k t b₀ p x b₁
  splits-part d = record {
    says = λ P S q Γ Δ L left h fs wanted there end e part kss chain most.
        stops (length fs) (w.says P S q Γ Δ L left h fs wanted there end e part kss chain most) (λ M holds sizes. bind-no _ (inside-branch h wanted there part holds sizes) d d) d;
    grows = turn-grows;
    kept = turn-kept;
  }

  module _ {a : Checked} {same : Bool} (d : x ≡ Ok a) (tested : same ≡ same_type (meaning a.ty) (meaning s.ty)) where
    pub splits-differ : same ≡ false → SizesSplits s k t b₀ p (Refused SizesDisagree (p.place.line + 1)) b₁
    splits-differ other = record {
      says = λ P S q Γ Δ L left h fs wanted there end e part kss chain most.
          stops (length fs) (w.says P S q Γ Δ L left h fs wanted there end e part kss chain most) (λ M holds sizes. bind_is _ (inside-branch h wanted there part holds sizes) d (λ y c.
          need-fails _ (ap (λ (τ : Ty). same_type τ (meaning s.ty)) (sym c.type) ∙ sym tested ∙ other) (in_frame SizesDisagree h))) refl;
      grows = not_grown;
      kept = turn-kept;
    }

    -- the numbers so far and those of this split, and the next split
    pub splits-turn : {numbers : Held} {now : Checked} {next : Bool} {sizes : List ℕ} → same ≡ true → size_variables_most ≤ length b₁.sizes → Combines either all.numbers a.numbers numbers →
        now ≡ record { ty = all.ty; numbers = numbers; next = a.next; used = a.used } → Moves b₁.sizes p.sizes own next sizes → Walks s k t b₀ p next (buffers b₁.list b₁.scope sizes) now
    unfolding wider
    splits-turn {next} agree sizeRoom₁ both is moves = rw is (record {
      says = λ P S q Γ Δ L left h fs wanted there end e part kss chain most.
          let owned : own ≡ owns fs = owns-told k h.indexed wanted.of there told in
          let fits = fits-of part.within in
          turns all.ty _ (owns fs) p.sizes next (w.says P S q Γ Δ L left h fs wanted there end e part kss chain most) both
          (omega (arith, sizeRoom₁, fits.sizes, h.site.sizes_in, h.site.size_count)) (rw owned at (same-split p n own moved wide v.kept))
          (λ M holds sizes. agreed _ (answer_is (inside-branch h wanted there part holds sizes) d) (sym tested ∙ agree) wanted.ty) (rw owned at moves);
      ty = w.ty;
      grown = grows-to turn-grows d;
      kept = kept_then turn-kept (record { variables = refl; sizes_too = (moves-keep moves).low });
    })

-- ---- the loop is left
pub splits-done : {s : Subject} {k n : ℕ} {t : Lent} {b₀ b : Buffers} {p : Site} {all : Checked} {numbers : Held} {r : Sizing} → Walks s k t b₀ p false b all → (n ≡ fields_word t s.of k % byte_range) × (n < byte_range) →
    Changes (with_slots n) all.numbers numbers → r ≡ Ok (record { ty = all.ty; numbers = numbers; next = all.next; used = all.used }) → SizesSplits s k t b₀ p r b
splits-done {s} {k} w count held is = record {
  says = λ P S q Γ Δ L left h fs wanted there end e part kss chain most.
      let fields = fields-counted (told-fields h.indexed s.of k wanted.of there) count in
      rw is (done (length fs) (w.says P S q Γ Δ L left h fs wanted there end e part kss chain most) (rw fields at held) (ap meaning w.ty) wanted.ty);
  grows = grown-is is w.grown;
  kept = w.kept;
}
