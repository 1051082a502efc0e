-- What the functions on a file's channels promise: one expression against its channel's declared type, and those of several channels
-- one after the other, their numbers summed as they come.
use Rattle.language.specs.RefusalNumbers.{number_of}
use Rattle.language.specs.declared.refusals.RefusalAt.{RefusalAt}
use Rattle.std.specs.Prelude.{Ok, Err}
use Rattle.size_steps.specs.Outcomes.{Counting, Sizing}
use Rattle.std.specs.Prelude.{ℕ, suc, ◌+◌, ◌*◌, ◌≤◌, ◌<◌, List, [], ◌∷◌, Bool, true, false, ◌≡◌, length, get_or}
use Rattle.std.proofs.Math.Option.{some}
use Rattle.std.proofs.Math.ListN.{get_elem? as look}
use Rattle.language.specs.Limits.{types_most, functions_most, inputs_most, nodes_most, nesting_most, instances_most}
use Rattle.language.specs.Result.{Result, ok, no, bind}
use Rattle.language.specs.Syntax.{Ty, Expr, File, declared_types, initial_values}
use Rattle.language.specs.Scope.{outer_scope}
use Rattle.language.specs.Format.{expr_bytes}
use Rattle.language.specs.Within.{WithinExpr}
use Rattle.language.specs.Estimate.{Estimate as Exact, nothing, after}
use Rattle.language.specs.Checker.{Instance, Counted as CountedDef, sized_channel}
use Rattle.text.specs.Places.{past}
use Rattle.index.specs.Tables.{channel_words}
use Rattle.encoding.specs.Spells.{Spells}
use Rattle.encoding.specs.FrameLines.{line_at}
use Rattle.index.specs.declared.Counts.{Counts}
use Rattle.estimate.specs.Stands.{Stands}
use Rattle.index.specs.Indexed.{channel_line, Counted as CountsAre}
use Rattle.instances.specs.Listed.{instance_words_count}
use Rattle.index.specs.Sections.{channels_of}
use Rattle.size_steps.specs.declared.Site.{Site}
use Rattle.size_steps.specs.declared.Counted.{Counted}
use Rattle.size_steps.specs.Agreement.{Table, Holds, Before, Agrees, of_type}
use Rattle.size_laws.specs.Promises.{Lent, IndexedFile}

-- ---- counts within the limits of a file
pub record Few (n : Counts) : Type 0 where
  pub types : n.types ≤ types_most
  pub functions : n.functions ≤ functions_most
  pub inputs : n.inputs ≤ inputs_most
  pub nodes : n.nodes ≤ nodes_most

pub data Limited (n : Counts) : Bool → Type 0 where
  few : Few n → Limited n true
  many : (Few n → ⊥) → Limited n false

-- ---- where an expression of channel c stands
abbrev pub outer_site : Counts → ℕ → ℕ → ℕ → Site
outer_site n c at used =
    record { place = record { at = record { at = at }; levels = nesting_most; line = n.types + n.functions + c; variables = 0 }; sizes = 0; measure = 0; used = used }

-- ---- one expression of channel c, at the place that a word of the channel's entry tells; its declared type is τ
pub record Standing (t : Lent) (P : File) (word c : ℕ) (e : Expr) (τ : Ty) : Type 0 where
  pub channels : ℕ
  pub spelled : Spells expr_bytes (line_at t.text (channel_line P c)) (get_or (channels_of t.index) (channel_words * c + word) 0) e
  pub within : WithinExpr nesting_most (outer_scope P.types P.functions channels) e
  pub declared : look (declared_types P) c ≡ some τ

-- the words that tell of an initial value and of an update
abbrev pub initial_word : ℕ
initial_word = 1

abbrev pub update_word : ℕ
update_word = 2

-- which of them is meant: the update or the initial value
abbrev pub entry_word : Bool → ℕ
entry_word true = update_word
entry_word false = initial_word

-- the channels that it may name are the file's
abbrev pub Named : File → List Ty → Type 0
Named P C = (c : ℕ) (τ : Ty) → look C c ≡ some τ → look (declared_types P) c ≡ some τ

pub record SizesChannel (t : Lent) (list : Table) (n : Counts) (c word used : ℕ) (r : Sizing) (list' : Table) : Type 0 where
  pub says : (P : File) → IndexedFile t P → CountsAre n P → (C : List Ty) → Named P C → (e : Expr) (τ : Ty) → Standing t P word c e τ → (L : List Instance) → Holds P list used L →
      Agrees P (of_type τ) (past (line_at t.text (channel_line P c)) (get_or (channels_of t.index) (channel_words * c + word) 0) (length (expr_bytes e))) list' r (sized_channel P c C e τ L)

-- ---- the expressions of channels c, c + 1, .. up to the last, the numbers so far being x
unfoldable pub summed : File → List Ty → Exact → ℕ → List Expr → List Ty → List Instance → Result CountedDef
summed P C x c [] τs L = ok (record { numbers = x; list = L })
summed P C x c (e ∷ es) [] L = ok (record { numbers = x; list = L })
summed P C x c (e ∷ es) (τ ∷ τs) L = bind (sized_channel P c C e τ L) (λ q. summed P C (after x q.numbers) (suc c) es τs q.list)

pub data Lasting (t : Lent) (P : File) (word last : ℕ) : ℕ → List Expr → List Ty → Type 0 where
  no_more : {c : ℕ} → last ≤ c → Lasting t P word last c [] []
  one_more : {c : ℕ} {e : Expr} {τ : Ty} {es : List Expr} {τs : List Ty} → c < last → Standing t P word c e τ → Lasting t P word last (suc c) es τs → Lasting t P word last c (e ∷ es) (τ ∷ τs)

pub data AgreesSum (P : File) (table : Table) (r : Counting) : Result CountedDef → Type 0 where
  sum_agrees : {k : Counted} {x : CountedDef} → r ≡ Ok k → Stands k.numbers x.numbers → Holds P table k.used x.list → AgreesSum P table r (ok x)
  sum_refused : {why : RefusalAt} → r ≡ Err why → AgreesSum P table r (no (number_of why.refusal) why.frame)
  sum_beyond : {n frame : ℕ} → Before n → AgreesSum P table r (no n frame)

abbrev pub channel_count : Counts → ℕ
channel_count n = n.inputs + n.nodes

pub record SizesChannels (t : Lent) (list : Table) (n : Counts) (from word used : ℕ) (r : Counting) (list' : Table) : Type 0 where
  pub says : (P : File) → IndexedFile t P → CountsAre n P → (C : List Ty) → Named P C → (es : List Expr) (τs : List Ty) → Lasting t P word (channel_count n) from es τs → (L : List Instance) → Holds P list used L →
      AgreesSum P list' r (summed P C nothing from es τs L)

-- all initial values, from a cleared list on
pub record SizesInitials (t : Lent) (list : List ℕ) (n : Counts) (r : Counting) (list' : Table) : Type 0 where
  pub says : (P : File) → IndexedFile t P → CountsAre n P → instance_words_count * instances_most ≤ length list → AgreesSum P list' r (summed P [] nothing 0 (initial_values P) (declared_types P) [])
  pub few : {k : Counted} → r ≡ Ok k → Few n
