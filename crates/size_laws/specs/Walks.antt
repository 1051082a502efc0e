-- The loop over the splits of a branch: what is known before each turn, and that it holds at the start.
use Rattle.std.specs.Prelude.{ℕ, ◌≤◌, List, Bool, true, false, ◌≡◌, refl, take, drop}
use Rattle.std.proofs.Math.Option.{some}
use Rattle.std.proofs.Common.{subst, arith}
use Rattle.std.proofs.Math.ListN.{get_elem? as look}
use Rattle.language.specs.Result.{Result, ok, no, bind}
use Rattle.language.specs.Syntax.{Constructor, owns, Ty, Expr, File, constructors_of}
use Rattle.language.specs.Scope.{Scope}
use Rattle.language.specs.Within.{All}
use Rattle.language.specs.Estimate.{Estimate, nothing}
use Rattle.language.specs.Typing.{Place as Stand}
use Rattle.language.specs.Checker.{Instance, Counted as CountedDef, at_splits}
use Rattle.encoding.specs.FrameLines.{line_at}
use Rattle.estimate.specs.declared.Estimate.{Estimate as Held}
use Rattle.estimate.specs.Stands.{Stands, Makes}
use Rattle.sizes.specs.Promises.{meaning}
use Rattle.splits.specs.Next.{Chain}
use Rattle.size_steps.specs.declared.Site.{Site}
use Rattle.size_steps.specs.declared.Checked.{Checked}
use Rattle.size_steps.specs.declared.Subject.{Subject}
use Rattle.size_steps.specs.Sites.{Kept, kept-all}
use Rattle.size_steps.specs.Agreement.{Holds, Before}
use Rattle.size_laws.specs.Promises.{Lent, Buffers, Here, entering, at_split_of, BranchPart, UpToMost, Wanted}
use Rattle.size_laws.specs.Eithers.{joined, joined-none}

-- a: the definition's answer for all splits; f: its answer for one of them. So far x stands for the numbers, and the splits that
-- are still to come start at the sizes in the list; or none is to come; or an earlier pass would have refused.
pub data Progress (P : File) (f : List ℕ → List Instance → Result CountedDef) (r at end : ℕ) (b : Buffers) (all : Checked) (more : Bool) (a : Result CountedDef) : Type 0 where
  going : {rest : List (List ℕ)} {x : Estimate} {M : List Instance} → more ≡ true → a ≡ bind (at_splits rest f M) (joined x) → Chain (take r (drop at b.sizes)) rest → All (All UpToMost) rest →
      Stands all.numbers x → Holds P b.list all.used M → Progress P f r at end b all more a
  ended : {x : Estimate} {M : List Instance} → more ≡ false → a ≡ ok (record { numbers = x; list = M }) → Stands all.numbers x → Holds P b.list all.used M → all.next.at ≡ end → Progress P f r at end b all more a
  past : {n frame : ℕ} → Before n → a ≡ no n frame → Progress P f r at end b all more a

-- b₀: the buffers before the loop; b, all, more: those, the answer so far and the test before a turn
pub record Walks (s : Subject) (k : ℕ) (t : Lent) (b₀ : Buffers) (p : Site) (more : Bool) (b : Buffers) (all : Checked) : Type 0 where
  pub says : (P : File) (S : Scope) (q : Stand) (Γ : List Ty) (Δ : List ℕ) (L : List Instance) (left : ℕ) → Here t b₀ p P S q Γ Δ L left →
      (fs : Constructor) → Wanted P s → look (constructors_of P s.of) k ≡ some fs → (end : ℕ) (e : Expr) → BranchPart (line_at t.text p.place.line) p S fs end e →
      (kss : List (List ℕ)) → Chain (take (owns fs) (drop p.sizes b₀.sizes)) kss → All (All UpToMost) kss →
      Progress P (at_split_of P (entering P left) e fs q Γ Δ s.of (meaning s.ty)) (owns fs) p.sizes end b all more (at_splits kss (at_split_of P (entering P left) e fs q Γ Δ s.of (meaning s.ty)) L)
  pub ty : all.ty ≡ s.ty
  pub grown : p.used ≤ all.used
  pub kept : Kept p b₀.scope b₀.sizes b.scope b.sizes

pub walks-start : {s : Subject} {k : ℕ} {t : Lent} {b : Buffers} {p : Site} {numbers : Held} {all : Checked} → Makes nothing numbers → all ≡ record { ty = s.ty; numbers = numbers; next = p.place.at; used = p.used } → Walks s k t b p true b all
walks-start made is = rw is (record {
  says = λ P S q Γ Δ L left h fs w there end e part kss chain most. going {x = nothing} refl (joined-none _) chain most made.says h.holds;
  ty = refl;
  grown = omega arith;
  kept = kept-all;
})

-- by the test of the loop
pub walks-are : {s : Subject} {k : ℕ} {t : Lent} {b₀ b : Buffers} {p : Site} {more next : Bool} {all : Checked} → more ≡ next → Walks s k t b₀ p more b all → Walks s k t b₀ p next b all
walks-are {s} {k} {t} {b₀} {b} {p} {all} e w = subst (λ m. Walks s k t b₀ p m b all) e w
