-- What the functions on expressions promise, one record for all forms: for every file that the index tells and every expression
-- spelled at the place, the answer is the definition's; and on any bytes the scope is kept and no instance is lost.
use Rattle.size_steps.specs.Outcomes.{Counting, Sizing}
use Rattle.std.specs.Prelude.{ℕ, suc, ◌+◌, ◌-◌, ◌≤◌, ◌<◌, List, ◌++◌, map, true, ◌≡◌, length, take, drop, leb}
use Rattle.std.proofs.Math.Option.{none, some}
use Rattle.std.proofs.Math.ListN.{get_elem? as look}
use Rattle.language.specs.Limits.{size_most, parameters_most, instances_most}
use Rattle.language.specs.Result.{Result, ok, bind, need, from, choose}
use Rattle.language.specs.Syntax.{Constructor, Ty, owns, Expr, Exprs, Function, File, constructors_of, function_frame}
use Rattle.language.specs.Format.{expr_bytes, exprs_bytes}
use Rattle.language.specs.Scope.{Scope, wider, named_count}
use Rattle.language.specs.Within.{All, WithinExpr, WithinExprs, WithinBranches}
use Rattle.language.specs.Sizes.{type_at, conditions_hold, summed_measure, sizes_of, parameter_types, field_types, same_type, same_types}
use Rattle.language.specs.Splits.{splits}
use Rattle.language.specs.Estimate.{nothing, after, with_slots, in_call}
use Rattle.language.specs.Typing.{Place as Stand, frame_at, falls}
use Rattle.language.specs.Checker.{Instance, Sized as SizedDef, Sizeds, Counted as CountedDef, Enter, at_splits, sized, sizeds, sized_branches, find, enter_at}
use Rattle.text.specs.Bytes.{declared_word}
use Rattle.text.specs.Places.{past}
use Rattle.encoding.specs.Spells.{Spells}
use Rattle.encoding.specs.FrameLines.{line_at}
use Rattle.index.specs.Indexed.{Indexed}
use Rattle.instances.specs.Listed.{SizesAre}
use Rattle.sizes.specs.Promises.{meaning}
use Rattle.splits.specs.Next.{Chain}
use Rattle.size_steps.specs.declared.Source.{Source}
use Rattle.size_steps.specs.declared.Instances.{Instances}
use Rattle.size_steps.specs.declared.Scope.{Scope as ScopeHeld}
use Rattle.size_steps.specs.declared.Site.{Site}
use Rattle.size_steps.specs.declared.Counted.{Counted}
use Rattle.size_steps.specs.declared.Entry.{Entry}
use Rattle.size_steps.specs.declared.Subject.{Subject}
use Rattle.size_steps.specs.Sites.{Bounded, Around, Sited, Kept}
use Rattle.size_steps.specs.Agreement.{Table, table, Holds, CountedAs, Agrees, itself, of_type, AgreesAll, Grows, GrowsAll}

-- ---- what is lent: the text and its index, and what is written
pub record Lent : Type 0 where
  pub text : List ℕ
  pub index : List ℕ

pub record Buffers : Type 0 where
  pub list : Table
  pub scope : List ℕ
  pub sizes : List ℕ

abbrev pub lent : List ℕ → List ℕ → Lent
lent text index = record { text = text; index = index }

abbrev pub buffers : Table → List ℕ → List ℕ → Buffers
buffers list scope sizes = record { list = list; scope = scope; sizes = sizes }

-- as the code holds them
abbrev pub lent_by : Source → Lent
lent_by s = lent s.text.now s.index.now

abbrev pub table_of : Instances → Table
table_of i = table i.list.now i.memo.now

-- the list is still the one that was lent
abbrev pub SameList : Instances → Instances → Type 0
SameList i i' = i'.list.ghost_name ≡ i.list.ghost_name

abbrev pub buffers_of : Instances → ScopeHeld → Buffers
buffers_of i s = buffers (table_of i) s.types s.sizes

abbrev pub IndexedFile : Lent → File → Type 0
IndexedFile t P = Indexed t.text t.index P

-- ---- what is known where an expression stands; left: how deep bodies may still be entered
pub record Here (t : Lent) (b : Buffers) (p : Site) (P : File) (S : Scope) (q : Stand) (Γ : List Ty) (Δ : List ℕ) (L : List Instance) (left : ℕ) : Type 0 where
  pub indexed : IndexedFile t P
  pub site : Sited P S q Γ Δ b.scope b.sizes p
  pub holds : Holds P b.list p.used L
  pub deep : instances_most ≤ left + length L

abbrev pub entering : File → ℕ → Enter
entering P left = enter_at P instances_most left

-- ---- the parts that are spelled at a place, and where they end
-- an expression
pub record ExprPart (line : List ℕ) (p : Site) (S : Scope) (end : ℕ) (e : Expr) : Type 0 where
  pub spelled : Spells expr_bytes line p.place.at.at e
  pub within : WithinExpr p.place.levels S e
  pub ends : end ≡ past line p.place.at.at (length (expr_bytes e))

-- the parts of a form whose head stands before the place
pub record FormPart (Head : List ℕ → ℕ → ℕ → ℕ → Scope → Expr → Type 0) (line : List ℕ) (p : Site) (S : Scope) (end : ℕ) (e : Expr) : Type 0 where
  pub from : ℕ
  pub head : Head line from p.place.at.at (suc p.place.levels) S e
  pub ends : end ≡ past line from (length (expr_bytes e))

-- so many expressions
pub record ExprsPart (line : List ℕ) (p : Site) (S : Scope) (n end : ℕ) (es : Exprs) : Type 0 where
  pub spelled : Spells exprs_bytes line p.place.at.at es
  pub within : WithinExprs p.place.levels S n es
  pub ends : end ≡ past line p.place.at.at (length (exprs_bytes es))

-- the branches of a case, for these constructors
pub record BranchesPart (line : List ℕ) (p : Site) (S : Scope) (cs : List Constructor) (end : ℕ) (bs : Exprs) : Type 0 where
  pub spelled : Spells exprs_bytes line p.place.at.at bs
  pub within : WithinBranches p.place.levels S cs bs
  pub ends : end ≡ past line p.place.at.at (length (exprs_bytes bs))

-- ---- promises
pub record Sizes (Part : List ℕ → Site → Scope → ℕ → Expr → Type 0) (t : Lent) (b : Buffers) (p : Site) (r : Sizing) (b' : Buffers) : Type 0 where
  pub says : (P : File) (S : Scope) (q : Stand) (Γ : List Ty) (Δ : List ℕ) (L : List Instance) (left : ℕ) → Here t b p P S q Γ Δ L left →
      (end : ℕ) (e : Expr) → Part (line_at t.text p.place.line) p S end e → Agrees P itself end b'.list r (sized P (entering P left) e q Γ Δ L)
  pub grows : Grows p.used r
  pub kept : Kept p b.scope b.sizes b'.scope b'.sizes

-- arguments and fields, n of them, into a row of words
pub record SizesAll (t : Lent) (b : Buffers) (p : Site) (n : ℕ) (row : List ℕ) (r : Counting) (b' : Buffers) (row' : List ℕ) : Type 0 where
  pub says : (P : File) (S : Scope) (q : Stand) (Γ : List Ty) (Δ : List ℕ) (L : List Instance) (left : ℕ) → Here t b p P S q Γ Δ L left → n ≤ length row →
      (end : ℕ) (es : Exprs) → ExprsPart (line_at t.text p.place.line) p S n end es → AgreesAll P end b'.list row' r (sizeds P (entering P left) es q Γ Δ L)
  pub grows : GrowsAll p.used r
  pub kept : Kept p b.scope b.sizes b'.scope b'.sizes

-- the subject of a case and what is wanted of its branches
pub record Wanted (P : File) (s : Subject) : Type 0 where
  pub of : s.of < length P.types
  pub size : s.size ≤ size_most
  pub ty : Bounded (meaning s.ty)

-- the branches of a case from constructor k on
pub record SizesBranches (s : Subject) (k : ℕ) (t : Lent) (b : Buffers) (p : Site) (r : Sizing) (b' : Buffers) : Type 0 where
  pub says : (P : File) (S : Scope) (q : Stand) (Γ : List Ty) (Δ : List ℕ) (L : List Instance) (left : ℕ) → Here t b p P S q Γ Δ L left → Wanted P s →
      (end : ℕ) (bs : Exprs) → BranchesPart (line_at t.text p.place.line) p S (drop k (constructors_of P s.of)) end bs →
      Agrees P (of_type (meaning s.ty)) end b'.list r (sized_branches P (entering P left) bs (drop k (constructors_of P s.of)) q Γ Δ s.of s.size (meaning s.ty) L)
  pub grows : Grows p.used r
  pub kept : Kept p b.scope b.sizes b'.scope b'.sizes

-- a branch at one split of the subject's size, and at several of them
module _ (P : File) (enter : Enter) where
  abbrev pub at_split_of : Expr → Constructor → Stand → List Ty → List ℕ → ℕ → Ty → List ℕ → List Instance → Result CountedDef
  at_split_of e fs q Γ Δ t τ ks L = bind (sized P enter e q (Γ ++ field_types t fs ks) (Δ ++ ks) L) (λ x. need (same_type x.type τ) 11 (frame_at P q) (ok (record { numbers = x.numbers; list = x.list })))

  abbrev pub branch_at : Expr → Constructor → Stand → List Ty → List ℕ → ℕ → Ty → List (List ℕ) → List Instance → Result CountedDef
  branch_at e fs q Γ Δ t τ kss L = bind (at_splits kss (at_split_of e fs q Γ Δ t τ) L) (λ x. ok (record { numbers = with_slots (length fs) x.numbers; list = x.list }))

  -- one branch of a case over a subject of size m
  abbrev pub one_branch : Expr → Constructor → Stand → List Ty → List ℕ → ℕ → ℕ → Ty → List Instance → Result CountedDef
  one_branch e fs q Γ Δ t m τ L = choose (leb m (owns fs)) (ok (record { numbers = nothing; list = L })) (branch_at e fs q Γ Δ t τ (splits (owns fs) (m - 1)) L)

-- an expression in the scope of the branch of a constructor
pub record BranchPart (line : List ℕ) (p : Site) (S : Scope) (fs : Constructor) (end : ℕ) (e : Expr) : Type 0 where
  pub spelled : Spells expr_bytes line p.place.at.at e
  pub within : WithinExpr p.place.levels (wider (length fs) (owns fs) S) e
  pub ends : end ≡ past line p.place.at.at (length (expr_bytes e))

pub record SizesBranch (s : Subject) (k : ℕ) (t : Lent) (b : Buffers) (p : Site) (r : Sizing) (b' : Buffers) : Type 0 where
  pub says : (P : File) (S : Scope) (q : Stand) (Γ : List Ty) (Δ : List ℕ) (L : List Instance) (left : ℕ) → Here t b p P S q Γ Δ L left →
      (fs : Constructor) → Wanted P s → look (constructors_of P s.of) k ≡ some fs → (end : ℕ) (e : Expr) → BranchPart (line_at t.text p.place.line) p S fs end e →
      Agrees P (of_type (meaning s.ty)) end b'.list r (one_branch P (entering P left) e fs q Γ Δ s.of s.size (meaning s.ty) L)
  pub grows : Grows p.used r
  pub kept : Kept p b.scope b.sizes b'.scope b'.sizes

abbrev pub UpToMost : ℕ → Type 0
UpToMost k = k ≤ size_most

-- the same where the first split stands among the sizes, and these are all
pub record SizesSplits (s : Subject) (k : ℕ) (t : Lent) (b : Buffers) (p : Site) (r : Sizing) (b' : Buffers) : Type 0 where
  pub says : (P : File) (S : Scope) (q : Stand) (Γ : List Ty) (Δ : List ℕ) (L : List Instance) (left : ℕ) → Here t b p P S q Γ Δ L left →
      (fs : Constructor) → Wanted P s → look (constructors_of P s.of) k ≡ some fs → (end : ℕ) (e : Expr) → BranchPart (line_at t.text p.place.line) p S fs end e →
      (kss : List (List ℕ)) → Chain (take (owns fs) (drop p.sizes b.sizes)) kss → All (All UpToMost) kss →
      Agrees P (of_type (meaning s.ty)) end b'.list r (branch_at P (entering P left) e fs q Γ Δ s.of (meaning s.ty) kss L)
  pub grows : Grows p.used r
  pub kept : Kept p b.scope b.sizes b'.scope b'.sizes

-- ---- a call whose arguments were checked
-- the n arguments agree with the parameters of F: their types, and the m sizes of the named ones, which are ks
pub record Argued (F : Function) (ks : List ℕ) (n m : ℕ) (row sizes : List ℕ) : Type 0 where
  pub count : n ≡ length F.parameters
  pub named : length ks ≡ named_count F.parameters
  pub types : take n row ≡ map declared_word (parameter_types F.parameters ks)
  pub small : All Bounded (parameter_types F.parameters ks)
  pub size_count : m ≡ length ks
  pub front : take m sizes ≡ ks
  pub padded : SizesAre sizes ks

-- what the definition does behind the arguments, but for their numbers
abbrev pub opened : File → Enter → Stand → ℕ → Function → List ℕ → List Instance → Result SizedDef
opened P enter o g F ks L = need (conditions_hold ks F.conditions) 12 (frame_at P o) (need (falls o g (summed_measure F.measure ks)) 13 (frame_at P o)
    (from (type_at ks F.result) 10 (function_frame P g) (λ τ. bind (enter (frame_at P o) g F ks τ L) (λ r. ok (of_type τ r)))))

-- f is called at sizes ks: what is known where its body is looked up, or entered
pub record Opens (f n m : ℕ) (t : Lent) (b : Buffers) (p : Site) (P : File) (o : Stand) (F : Function) (ks : List ℕ) (L : List Instance) (left : ℕ) : Type 0 where
  pub indexed : IndexedFile t P
  pub frame : frame_at P o ≡ suc p.place.line
  pub around : Around P p.place.line p.measure o
  pub function : look P.functions f ≡ some F
  pub argued : Argued F ks n m b.scope b.sizes
  pub holds : Holds P b.list p.used L
  pub deep : instances_most ≤ left + length L

pub record Enters (f n m : ℕ) (t : Lent) (b : Buffers) (p : Site) (r : Sizing) (b' : Buffers) : Type 0 where
  pub says : (P : File) (o : Stand) (F : Function) (ks : List ℕ) (L : List Instance) (left : ℕ) → Opens f n m t b p P o F ks L left → Agrees P itself p.place.at.at b'.list r (opened P (entering P left) o f F ks L)
  pub grows : Grows p.used r

-- where it was not entered before
pub record EntersNew (f n m : ℕ) (t : Lent) (b : Buffers) (p : Site) (r : Sizing) (b' : Buffers) : Type 0 where
  pub says : (P : File) (o : Stand) (F : Function) (ks : List ℕ) (L : List Instance) (left : ℕ) → Opens f n m t b p P o F ks L left → find L f ks ≡ none →
      Agrees P itself p.place.at.at b'.list r (opened P (entering P left) o f F ks L)
  pub grows : Grows p.used r

-- ---- the body of an entry, whose scope holds the parameters' types and the sizes of the named ones
pub record Given (P : File) (e : Entry) (F : Function) (ks : List ℕ) (scope sizes : List ℕ) : Type 0 where
  pub function : look P.functions e.function ≡ some F
  pub measures : e.measure ≡ summed_measure F.measure ks
  pub argued : Argued F ks e.variables e.sizes scope sizes
  pub conditions : conditions_hold ks F.conditions ≡ true
  pub result : type_at ks F.result ≡ some (meaning e.ty)
  pub small : Bounded (meaning e.ty)

pub record ChecksBody (e : Entry) (t : Lent) (b : Buffers) (p : Site) (r : Sizing) (b' : Buffers) : Type 0 where
  pub says : (P : File) (F : Function) (ks : List ℕ) (L : List Instance) (left : ℕ) → IndexedFile t P → Holds P b.list p.used L → instances_most ≤ left + length L →
      Given P e F ks b.scope b.sizes → find L e.function ks ≡ none →
      Agrees P (of_type (meaning e.ty)) p.place.at.at b'.list r (entering P left (suc p.place.line) e.function F ks (meaning e.ty) L)
  pub grows : Grows p.used r

-- ---- all that the definition does behind the arguments of a call
abbrev pub applied : File → Enter → Stand → ℕ → Function → Sizeds → Result SizedDef
applied P enter o g F z = need (conditions_hold (sizes_of z.types) F.conditions) 12 (frame_at P o) (need (falls o g (summed_measure F.measure (sizes_of z.types))) 13 (frame_at P o)
    (from (type_at (sizes_of z.types) F.result) 10 (function_frame P g) (λ τ. bind (enter (frame_at P o) g F (sizes_of z.types) τ z.list) (λ r.
    ok (record { type = τ; numbers = with_slots (length F.parameters) (after z.numbers (in_call r.numbers)); list = r.list })))))

-- z: the arguments for the definition, which agree with the parameters; a, row: what the code holds of them
pub record Argues (t : Lent) (p : Site) (f n : ℕ) (a : Counted) (list : Table) (row : List ℕ) (P : File) (o : Stand) (F : Function) (z : Sizeds) (left next : ℕ) : Type 0 where
  pub indexed : IndexedFile t P
  pub frame : frame_at P o ≡ suc p.place.line
  pub around : Around P p.place.line p.measure o
  pub function : look P.functions f ≡ some F
  pub count : n ≡ length F.parameters
  pub few : n ≤ parameters_most
  pub counted : CountedAs P next list row a z
  pub agree : same_types (parameter_types F.parameters (sizes_of z.types)) z.types ≡ true
  pub deep : instances_most ≤ left + length z.list

pub record Applies (f n : ℕ) (a : Counted) (t : Lent) (list : Table) (row : List ℕ) (p : Site) (r : Sizing) (list' : Table) : Type 0 where
  pub says : (P : File) (o : Stand) (F : Function) (z : Sizeds) (left next : ℕ) → Argues t p f n a list row P o F z left next → Agrees P itself next list' r (applied P (entering P left) o f F z)
  pub grows : Grows a.used r
