-- What the functions promise that work on no expression.
use Rattle.language.specs.declared.refusals.RefusalAt.{RefusalAt}
use Rattle.language.specs.declared.refusals.Refusal.TheVariants.{SizeOutside, ConditionFails, MeasureNotLess}
use Rattle.std.specs.Prelude.{Ok, Err}
use Rattle.size_steps.specs.Outcomes.{Entering, Sizing, Refused}
use Rattle.std.specs.Prelude.{ℕ, suc, ◌+◌, ◌<◌, List, Bool, true, false, ◌≡◌, length, get_or, take, eqb, ltb}
use Rattle.std.proofs.Math.Option.{none, some}
use Rattle.std.proofs.Math.ListN.{get_elem? as look}
use Rattle.language.specs.Limits.{byte_range, size_most, nesting_most}
use Rattle.language.specs.Result.{ok, need}
use Rattle.language.specs.Syntax.{Constructor, tnamed, Op, Function, File, constructors_of, function_frame}
use Rattle.language.specs.Format.{op_code}
use Rattle.language.specs.Scope.{named_count}
use Rattle.language.specs.PlainTypes.{op_type}
use Rattle.language.specs.Sizes.{type_at, conditions_hold, sum, summed_measure, field_types, own_sizes, same_types}
use Rattle.language.specs.Estimate.{after, one_cell}
use Rattle.language.specs.Typing.{Place as Stand, frame_at, falls, base_type}
use Rattle.language.specs.Checker.{Sizeds}
use Rattle.estimate.specs.declared.Estimate.{Estimate}
use Rattle.index.specs.Sections.{functions_of, channels_of}
use Rattle.index.specs.Indexed.{body_at, declared_at, Indexed}
use Rattle.heads.specs.Places.{line_behind_types}
use Rattle.heads.specs.declared.Form.{Form}
use Rattle.heads.specs.declared.Form.TheVariants.{Bool as BoolForm, Int, Variable, Now, Last, Let, If, Operator, Call, Construct, Case, Adjust, Fit, Missing}
use Rattle.sizes.specs.declared.SizedType.{SizedType}
use Rattle.sizes.specs.Promises.{meaning, FromWord}
use Rattle.size_steps.specs.declared.Site.{Site}
use Rattle.size_steps.specs.declared.Counted.{Counted}
use Rattle.size_steps.specs.declared.Entry.{Entry}
use Rattle.size_steps.specs.declared.Subject.{Subject}
use Rattle.size_steps.specs.Sites.{Bounded, Around}
use Rattle.size_steps.specs.Agreement.{Table, CountedAs, Agrees, itself, Grows}

abbrev pub leaf_of : SizedType → Estimate → Site → Sizing
leaf_of ty numbers p = Ok (record { ty = ty; numbers = numbers; next = p.place.at; used = p.used })

-- the type of a word of a row
abbrev pub Typed : List ℕ → ℕ → SizedType → Type 0
Typed row i r = FromWord (get_or row i 0) r

-- the declared type of channel c
abbrev pub ChannelTyped : List ℕ → ℕ → SizedType → Type 0
ChannelTyped index c r = FromWord (declared_at (channels_of index) c) r

pub record OperatorType (o : ℕ) (r : SizedType) : Type 0 where
  pub says : (op : Op) → op_code op ≡ o → meaning r ≡ base_type (op_type op)

-- whether a call of f is one of the function around it
abbrev pub calls_itself : List ℕ → Site → ℕ → Bool
calls_itself index p f = eqb p.place.line (line_behind_types index f)

pub record Falls (index : List ℕ) (p : Site) (f w : ℕ) (r : Bool) : Type 0 where
  pub says : (text : List ℕ) (P : File) (q : Stand) → Indexed text index P → f < length P.functions → Around P p.place.line p.measure q → r ≡ falls q f w

-- the subject of a case
abbrev pub subject_of : ℕ → ℕ → SizedType → Subject
subject_of t m ty = record { of = t; size = m; ty = ty }

-- where the body of an entry stands
abbrev pub body_of : List ℕ → Site → Entry → Site
body_of index p e = record {
  place = record { at = record { at = body_at (functions_of index) e.function }; levels = nesting_most; line = line_behind_types index e.function; variables = e.variables };
  sizes = e.sizes;
  measure = e.measure;
  used = p.used + 1;
}

-- ---- a call whose arguments were checked: conditions, measure and result size in turn; F the function, ks the sizes
pub data Prepared (P : File) (q : Stand) (p : Site) (f n m : ℕ) (F : Function) (ks : List ℕ) (r : Entering) : Type 0 where
  ready : {e : Entry} → r ≡ Ok e → conditions_hold ks F.conditions ≡ true → falls q f (summed_measure F.measure ks) ≡ true → type_at ks F.result ≡ some (meaning e.ty) →
      e.function ≡ f → e.measure ≡ summed_measure F.measure ks → e.variables ≡ n → e.sizes ≡ m → Prepared P q p f n m F ks r
  no_condition : r ≡ Refused ConditionFails (suc p.place.line) → conditions_hold ks F.conditions ≡ false → Prepared P q p f n m F ks r
  no_fall : r ≡ Refused MeasureNotLess (suc p.place.line) → conditions_hold ks F.conditions ≡ true → falls q f (summed_measure F.measure ks) ≡ false → Prepared P q p f n m F ks r
  no_size : r ≡ Refused SizeOutside (function_frame P f) → conditions_hold ks F.conditions ≡ true → falls q f (summed_measure F.measure ks) ≡ true → type_at ks F.result ≡ none → Prepared P q p f n m F ks r

-- on any bytes an entry is of the function that was called
pub data EntryOf (f n m : ℕ) : Entering → Type 0 where
  entry_of : {e : Entry} → e.function ≡ f → e.variables ≡ n → e.sizes ≡ m → Bounded (meaning e.ty) → EntryOf f n m (Ok e)
  no_entry : {why : RefusalAt} → EntryOf f n m (Err why)

-- the sizes of the named arguments come first among the sizes
pub record SizesFor (F : Function) (ks sizes : List ℕ) : Type 0 where
  pub named : length ks ≡ named_count F.parameters
  pub front : take (length ks) sizes ≡ ks

pub record Prepares (text index sizes : List ℕ) (p : Site) (f n m : ℕ) (r : Entering) : Type 0 where
  pub says : (P : File) (q : Stand) (F : Function) (ks : List ℕ) → Indexed text index P → Around P p.place.line p.measure q →
      look P.functions f ≡ some F → SizesFor F ks sizes → Prepared P q p f n m F ks r
  pub of : EntryOf f n m r

-- whether a call may be made: for a self-call, that the summed measure falls
pub record MayCall (text index sizes : List ℕ) (p : Site) (f : ℕ) (r : Bool) : Type 0 where
  pub says : (P : File) (q : Stand) (F : Function) (ks : List ℕ) → Indexed text index P → Around P p.place.line p.measure q →
      look P.functions f ≡ some F → SizesFor F ks sizes → r ≡ falls q f (summed_measure F.measure ks)

-- ---- a constructor whose fields were checked
pub record Makes (index row : List ℕ) (p : Site) (a : Counted) (t c : ℕ) (r : Sizing) : Type 0 where
  pub says : (text : List ℕ) (P : File) (q : Stand) (fs : Constructor) (next : ℕ) (table : Table) (x : Sizeds) → Indexed text index P → frame_at P q ≡ suc p.place.line →
      t < length P.types → look (constructors_of P t) c ≡ some fs → length x.types ≡ length fs → CountedAs P next table row a x →
      Agrees P itself next table r (need (ltb (sum (own_sizes fs x.types)) size_most) 10 (frame_at P q) (need (same_types (field_types t fs (own_sizes fs x.types)) x.types) 11 (frame_at P q)
      (ok (record { type = tnamed t (1 + sum (own_sizes fs x.types)); numbers = after x.numbers one_cell; list = x.list }))))
  pub grows : Grows a.used r

-- ---- operands of one byte
abbrev pub Operands : Form → Type 0
Operands (BoolForm b) = Unit {0}
Operands (Int n) = Unit {0}
Operands (Variable v) = Unit {0}
Operands (Now c) = Unit {0}
Operands (Last c) = Unit {0}
Operands Let = Unit {0}
Operands If = Unit {0}
Operands (Operator o) = Unit {0}
Operands (Call f) = f < byte_range
Operands (Construct t c) = (t < byte_range) × (c < byte_range)
Operands (Case t) = t < byte_range
Operands Adjust = Unit {0}
Operands (Fit k) = k < byte_range
Operands Missing = Unit {0}

-- an entry whose numbers are small
pub record Entered (e : Entry) : Type 0 where
  pub function : e.function < byte_range
  pub variables : e.variables < byte_range
  pub sizes : e.sizes < byte_range
