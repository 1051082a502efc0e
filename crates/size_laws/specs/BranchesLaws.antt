-- The branches of a case: what each return gives.
use Rattle.language.specs.declared.refusals.RefusalAt.{RefusalAt}
use Rattle.std.specs.Prelude.{Ok, Err}
use Rattle.size_steps.specs.Outcomes.{Sizing}
use Rattle.std.specs.Prelude.{ℕ, suc, ◌+◌, ◌*◌, ◌%◌, ◌≤◌, ◌<◌, List, [], ◌∷◌, ◌≡◌, refl, length, get_or, drop}
use Rattle.std.proofs.Math.Option.{some}
use Rattle.std.proofs.Common.{sym, ap, ◌∙◌, subst, arith, add-one, length-drop, drop_of_length-le, drop-cons}
use Rattle.std.proofs.Math.ListN.{get_elem? as look}
use Rattle.language.specs.Limits.{byte_range}
use Rattle.language.specs.Syntax.{Constructor, owns, Ty, Expr, Exprs, enil, econs, File, constructors_of}
use Rattle.language.specs.Format.{expr_bytes, exprs_bytes}
use Rattle.language.specs.Scope.{Scope, wider}
use Rattle.language.specs.Within.{WithinExpr, WithinBranches, wb_nil, wb_cons}
use Rattle.language.specs.Estimate.{nothing, either}
use Rattle.language.specs.Typing.{Place as Stand}
use Rattle.language.specs.Checker.{Instance, Counted as CountedDef, sized_branches}
use Rattle.theory.specs.Places.{look_at}
use Rattle.text.specs.Places.{past, past-none}
use Rattle.index.specs.Tables.{type_words}
use Rattle.encoding.specs.Spells.{Spells}
use Rattle.encoding.specs.FrameLines.{line_at}
use Rattle.encoding.specs.ExprLists.{branches-counted, more-spelled}
use Rattle.estimate.specs.declared.Estimate.{Estimate}
use Rattle.estimate.specs.Stands.{Makes, Combines}
use Rattle.sizes.specs.Promises.{meaning}
use Rattle.index.specs.Sections.{types_of}
use Rattle.size_steps.specs.declared.Site.{Site}
use Rattle.size_steps.specs.declared.Checked.{Checked}
use Rattle.size_steps.specs.declared.Subject.{Subject}
use Rattle.size_steps.specs.Sites.{moved_on_of, Kept, kept-all, kept_then, kept-moved}
use Rattle.size_steps.specs.Agreement.{CheckedAs, Agrees, Grows, agrees, of_type, grows-to, grows_same, bind_is, bind-no}
use Rattle.size_laws.specs.Promises.{Lent, Buffers, IndexedFile, Here, BranchPart, BranchesPart, entering, Wanted, SizesBranch, SizesBranches}
use Rattle.size_steps.specs.Leaves.{leaf_of}
use Rattle.size_laws.specs.HereLaws.{here-moved}
use Rattle.size_laws.specs.TurnLaws.{grown-is}
use Rattle.size_laws.specs.Eithers.{branches-then}

-- ---- how many constructors a type has
constructors-told : {t : Lent} {P : File} {u n : ℕ} → IndexedFile t P → u < length P.types → (n ≡ get_or (types_of t.index) (type_words * u) 0 % byte_range) × (n < byte_range) → n ≡ length (constructors_of P u)
constructors-told {u} i less told = let tells = (i.each_type u less).tells in omega (arith, told.0, told.1, tells.few, tells.constructors)

no-branches : {n : ℕ} {S : Scope} {cs : List Constructor} {bs : Exprs} → WithinBranches n S cs bs → cs ≡ [] → bs ≡ enil
no-branches wb_nil e = refl
no-branches (wb_cons w ws) e = absurd (let z : ◌≡◌ {A = ℕ} 0 1 = cc in omega arith)

-- ---- the first branch and those behind it, with their constructors
record Apart (line : List ℕ) (p : Site) (S : Scope) (end : ℕ) (cs : List Constructor) (bs : Exprs) (k : ℕ) : Type 0 where
  fields : Constructor
  first : Expr
  others : Exprs
  is : bs ≡ econs first others
  splits : drop k cs ≡ fields ∷ drop (suc k) cs
  there : look cs k ≡ some fields
  part : BranchPart line p S fields (past line p.place.at.at (length (expr_bytes first))) first
  rest : Spells exprs_bytes line (past line p.place.at.at (length (expr_bytes first))) others
  within : WithinBranches p.place.levels S (drop (suc k) cs) others
  ends : end ≡ past line (past line p.place.at.at (length (expr_bytes first))) (length (exprs_bytes others))

first-within : {n : ℕ} {S : Scope} {fs : Constructor} {cs : List Constructor} {e : Expr} {es : Exprs} → WithinBranches n S (fs ∷ cs) (econs e es) → WithinExpr n (wider (length fs) (owns fs) S) e
first-within (wb_cons w ws) = w

rest-within : {n : ℕ} {S : Scope} {fs : Constructor} {cs : List Constructor} {e : Expr} {es : Exprs} → WithinBranches n S (fs ∷ cs) (econs e es) → WithinBranches n S cs es
rest-within (wb_cons w ws) = ws

apart : {line : List ℕ} {p : Site} {S : Scope} {end : ℕ} (cs : List Constructor) {bs : Exprs} (k : ℕ) → k < length cs → BranchesPart line p S (drop k cs) end bs → Apart line p S end cs bs k
apart {line} {p} {S} {end} cs {bs} k less part =
    let split = drop-cons cs k [] less in
    let m = more-spelled part.spelled (omega (arith, branches-counted part.within, length-drop k cs, less)) in
    let w = subst (WithinBranches p.place.levels S (get_or cs k [] ∷ drop (suc k) cs)) m.is (subst (λ l. WithinBranches p.place.levels S l bs) split part.within) in
    record {
      fields = get_or cs k [];
      first = m.first;
      others = m.others;
      is = m.is;
      splits = split;
      there = look_at cs k [] less;
      part = record { spelled = m.spelled; within = first-within w; ends = refl };
      rest = m.next;
      within = rest-within w;
      ends = part.ends ∙ ap (λ (l : Exprs). past line p.place.at.at (length (exprs_bytes l))) m.is ∙ m.ends;
    }

-- ---- no constructor is left
pub branches-none : {s : Subject} {k n : ℕ} {t : Lent} {b : Buffers} {p : Site} {numbers : Estimate} {r : Sizing} → (n ≡ get_or (types_of t.index) (type_words * s.of) 0 % byte_range) × (n < byte_range) → n ≤ k → Makes nothing numbers →
    r ≡ leaf_of s.ty numbers p → SizesBranches s k t b p r b
unfolding sized_branches exprs_bytes
branches-none {s} {k} {t} {b} {p} {numbers} told few made is = record {
  says = λ P S q Γ Δ L left h w end bs part.
      let none = drop_of_length-le (constructors_of P s.of) {i = k} (omega (arith, few, constructors-told h.indexed w.of told)) in
      let empty = no-branches part.within none in
      rw (none, empty) (agrees is (record {
        type = refl;
        small = w.ty;
        numbers = made.says;
        holds = h.holds;
        ends = sym (part.ends ∙ ap (λ (l : Exprs). past (line_at t.text p.place.line) p.place.at.at (length (exprs_bytes l))) empty ∙ past-none (line_at t.text p.place.line) p.place.at.at);
      }));
  grows = grown-is is (omega arith);
  kept = kept-all;
}

module _ {s : Subject} {k n : ℕ} {t : Lent} {b b₁ : Buffers} {p : Site} {x : Sizing} (told : (n ≡ get_or (types_of t.index) (type_words * s.of) 0 % byte_range) × (n < byte_range)) (more : k < n) (v : SizesBranch s k t b p x b₁) where
  apart-at : {P : File} {S : Scope} {q : Stand} {Γ : List Ty} {Δ : List ℕ} {L : List Instance} {left end : ℕ} {bs : Exprs} → Here t b p P S q Γ Δ L left → Wanted P s →
      BranchesPart (line_at t.text p.place.line) p S (drop k (constructors_of P s.of)) end bs → Apart (line_at t.text p.place.line) p S end (constructors_of P s.of) bs k
  apart-at {P} h w part = apart (constructors_of P s.of) k (omega (arith, more, constructors-told h.indexed w.of told)) part

  pub branches-first : {why : RefusalAt} → x ≡ Err why → SizesBranches s k t b p x b₁
  branches-first d = record {
    says = λ P S q Γ Δ L left h w end bs part. let i = apart-at h w part in
        rw (i.is, i.splits, branches-then P (entering P left) i.first i.others i.fields (drop (suc k) (constructors_of P s.of)) q Γ Δ s.of s.size (meaning s.ty) L)
        (bind-no _ (v.says P S q Γ Δ L left h i.fields w i.there _ i.first i.part) d d);
    grows = v.grows;
    kept = v.kept;
  }

  -- the branches behind it
  module _ {a : Checked} {o : Site} {y : Sizing} {b₂ : Buffers} (d : x ≡ Ok a) (moved : o ≡ moved_on_of p a.next a.used) (u : SizesBranches s (k + 1) t b₁ o y b₂) where
    under : SizesBranches s (suc k) t b₁ (moved_on_of p a.next a.used) y b₂
    under = rw (sym (add-one k), sym moved) u

    branches-kept : Kept p b.scope b.sizes b₂.scope b₂.sizes
    branches-kept = kept_then v.kept (kept-moved under.kept)

    branches-grows : Grows p.used y
    branches-grows = grows_same (grows-to v.grows d) under.grows

    rest_at : {P : File} {S : Scope} {q : Stand} {Γ : List Ty} {Δ : List ℕ} {L : List Instance} {left end : ℕ} {bs : Exprs} {z : CountedDef} → Here t b p P S q Γ Δ L left → Wanted P s →
        (i : Apart (line_at t.text p.place.line) p S end (constructors_of P s.of) bs k) → CheckedAs P (past (line_at t.text p.place.line) p.place.at.at (length (expr_bytes i.first))) b₁.list a (of_type (meaning s.ty) z) →
        Agrees P (of_type (meaning s.ty)) end b₂.list y (sized_branches P (entering P left) i.others (drop (suc k) (constructors_of P s.of)) q Γ Δ s.of s.size (meaning s.ty) z.list)
    rest_at {P} {S} {q} {Γ} {Δ} {left} {end} {z} h w i c =
        under.says P S q Γ Δ z.list left (here-moved h a.next v.kept c.holds (grows-to v.grows d)) w end i.others
        (record { spelled = rw c.ends i.rest; within = i.within; ends = i.ends ∙ ap (λ (n : ℕ). past (line_at t.text p.place.line) n (length (exprs_bytes i.others))) (sym c.ends) })

    pub branches-rest : {why : RefusalAt} → y ≡ Err why → SizesBranches s k t b p y b₂
    branches-rest d' = record {
      says = λ P S q Γ Δ L left h w end bs part. let i = apart-at h w part in
          rw (i.is, i.splits, branches-then P (entering P left) i.first i.others i.fields (drop (suc k) (constructors_of P s.of)) q Γ Δ s.of s.size (meaning s.ty) L)
          (bind_is _ (v.says P S q Γ Δ L left h i.fields w i.there _ i.first i.part) d (λ z c.
          bind-no _ (rest_at h w i c) d' d'));
      grows = branches-grows;
      kept = branches-kept;
    }

    pub branches-done : {f : Checked} {numbers : Estimate} {r : Sizing} → y ≡ Ok f → Combines either a.numbers f.numbers numbers → r ≡ Ok (record { ty = f.ty; numbers = numbers; next = f.next; used = f.used }) →
        SizesBranches s k t b p r b₂
    branches-done d' all ends = record {
      says = λ P S q Γ Δ L left h w end bs part. let i = apart-at h w part in
          rw (i.is, i.splits, branches-then P (entering P left) i.first i.others i.fields (drop (suc k) (constructors_of P s.of)) q Γ Δ s.of s.size (meaning s.ty) L)
          (bind_is _ (v.says P S q Γ Δ L left h i.fields w i.there _ i.first i.part) d (λ z c.
          bind_is _ (rest_at h w i c) d' (λ y g.
          agrees ends (record { type = g.type; small = g.small; numbers = all.says _ _ c.numbers g.numbers; ends = g.ends; holds = g.holds }))));
      grows = grown-is ends (grows-to branches-grows d');
      kept = branches-kept;
    }
