-- What the functions that pass over an expression promise: from a place within the line, and for every scope that the index
-- tells, the answer is the parser's.
use Rattle.std.specs.Prelude.{Ok, Err}
use Rattle.std.specs.Prelude.{ℕ, ◌+◌, ◌*◌, ◌<◌, ◌≤◌, List, [], ◌≡◌, length, get_or, leb}
use Rattle.language.specs.Limits.{parameters_most, variables_most, size_variables_most}
use Rattle.language.specs.Result.{both, choose}
use Rattle.language.specs.Scope.{Scope}
use Rattle.language.specs.Parser.{Parser}
use Rattle.language.specs.ReadExpr.{Form, bool_form, forms}
use Rattle.text.specs.Bytes.{Number, Step, bytes_from, IsPlace, bytes_left, forget, step_of, Moved, Passes, ReadsNumber}
use Rattle.text.specs.declared.Cursor.{Cursor}
use Rattle.text.specs.declared.Found.{Found}
use Rattle.expression_reader.specs.Parts.{head_at_of}
use Rattle.expression_reader.specs.declared.Names.{Names}
use Rattle.index.specs.Tables.{function_words}
use Rattle.index.specs.Sections.{types_of, functions_of}
use Rattle.index.specs.Enters.{TellsType}

-- the scope that the numbers in s and the index tell
pub record Tells (index : List ℕ) (s : Names) (S : Scope) : Type 0 where
  pub variables : S.variables ≡ s.variables
  pub sizes : S.sizes ≡ s.sizes
  pub channels : S.channels ≡ s.channels
  pub type_count : length S.types ≡ s.types
  pub function_count : length S.arities ≡ s.functions
  pub each : (t : ℕ) → t < s.types → TellsType (types_of index) t (get_or S.types t [])
  pub arities : (f : ℕ) → f < s.functions → get_or (functions_of index) (function_words * f) 0 ≡ get_or S.arities f 0
  pub few : (f : ℕ) → f < s.functions → get_or S.arities f 0 ≤ parameters_most

pub record Follows {A : Type 0} (line index : List ℕ) (c : Cursor) (s : Names) (r : Step) (p : Scope → Parser A) : Type 0 where
  pub says : (S : Scope) → Tells index s S → IsPlace line c.at → Passes line c.at r (forget (p S (bytes_from line c.at)))
  -- whatever the index tells, the cursor does not go back, and stays within the line
  pub on : IsPlace line c.at → Moved line c.at r

-- the same for a number, which is how many parts follow
pub record Opens (line index : List ℕ) (c : Cursor) (s : Names) (r : Number) (p : Scope → Parser ℕ) : Type 0 where
  pub says : (S : Scope) → Tells index s S → IsPlace line c.at → ReadsNumber line c.at r (p S (bytes_from line c.at))
  pub on : IsPlace line c.at → Moved line c.at (step_of r)

-- the head of an expression: where there is one, the cursor has gone on and a level was left
pub record Heads (line index : List ℕ) (c : Cursor) (s : Names) (r : Number) (levels : ℕ) : Type 0 where
  pub says : (S : Scope) → Tells index s S → IsPlace line c.at → ReadsNumber line c.at r (head_at_of levels S (bytes_from line c.at))
  pub further : {f : Found} → r ≡ Ok f → Moved line c.at (Ok f.next) × (bytes_left line f.next.at < bytes_left line c.at)
  pub level : {f : Found} → r ≡ Ok f → 0 < levels

-- what was passed, with so many parts behind it
abbrev pub opened_at : Cursor → ℕ → Found
opened_at c n = record { value = n; next = c }

-- the same for a step
abbrev pub opened_by : Step → ℕ → Number
opened_by (Ok c) n = Ok (opened_at c n)
opened_by (Err m) n = Err m

-- a scope that is not too wide: what stands behind a code is read only there
pub record Roomy (s : Names) : Type 0 where
  pub variables : s.variables ≤ variables_most
  pub sizes : s.sizes ≤ size_variables_most

-- the levels left in a scope: none where it is too wide
abbrev pub levels_in : Names → ℕ → ℕ
levels_in s levels = choose (both (leb s.variables variables_most) (leb s.sizes size_variables_most)) levels 0

abbrev pub wider_names : ℕ → ℕ → Names → Names
wider_names v z s = record { variables = s.variables + v; sizes = s.sizes + z; channels = s.channels; types = s.types; functions = s.functions }

-- the form at a place of the table
abbrev pub form_at : ℕ → Form
form_at i = get_or forms i bool_form
