-- What the functions promise that judge an input line. A value is judged by its size: sized has it where the value is of its type.
use Rattle.language.specs.declared.refusals.Refusal.TheVariants.{BadInputLine}
use Rattle.std.specs.Prelude.{Option as Maybe, Some, None, ok_or}
use Rattle.std.specs.Prelude.{ℕ, ◌+◌, ◌-◌, ◌%◌, ◌<◌, ◌≤◌, List, Bool, ◌≡◌, length, eqb, leb}
use Rattle.language.specs.Limits.{byte_range}
use Rattle.language.specs.Codes.{field_own}
use Rattle.language.specs.Refusals.{bad_input_line}
use Rattle.language.specs.Result.{both, when, chain, choose}
use Rattle.language.specs.Syntax.{Field, Ty, tbool, tint, tnamed, File, constructors_of, fields_of}
use Rattle.language.specs.Heap.{Tree, vcon, Trees}
use Rattle.language.specs.Values.{tree_size, own_tree_sum, fits, fields_fit_of}
use Rattle.language.specs.Layout.{tag_step}
use Rattle.language.specs.Parser.{Read, got, bad, Parser, and_then}
use Rattle.language.specs.ReadExpr.{Form, con_form}
use Rattle.language.specs.Line.{value_trees, value_behind, input_trees, trees_fit, line_trees}
use Rattle.theory.specs.HeldChannels.{input_types}
use Rattle.text.specs.declared.Found.{Found}
use Rattle.text.specs.Bytes.{Number, bytes_of, bytes_from, bytes_left, given, Moved, step_of, Below, declared_word}
use Rattle.text_lines.specs.Lines.{is_some}
use Rattle.index.specs.Indexed.{Indexed}

-- the size of a value read, where it is of a type; 19 where it is of another or too large, or none was read
unfoldable pub sized : File → Ty → Read Tree → Read ℕ
sized P τ (got v rest) = choose (fits P v τ) (got (tree_size P v) rest) (bad bad_input_line)
sized P τ (bad n) = bad bad_input_line

-- the same of the fields left, in a constructor of type t and size at most k, of which so much was found before
unfoldable pub sized_fields : File → ℕ → ℕ → List Field → ℕ → Read Trees → Read ℕ
sized_fields P t k fs size (got ws rest) = choose (both (fields_fit_of P ws fs t k) (leb (size + own_tree_sum P ws fs) k)) (got (size + own_tree_sum P ws fs) rest) (bad bad_input_line)
sized_fields P t k fs size (bad n) = bad bad_input_line

-- a type that may be asked for in a file of so many types; of its own type a field may have no size left
pub data Asked (types : ℕ) : Ty → Type 0 where
  asks_bool : Asked types tbool
  asks_int : Asked types tint
  asks_named : {t k : ℕ} → t < types → k < byte_range → Asked types (tnamed t k)

-- by the word of a field: the word of the type that is asked for, and what its size adds to the constructor's
abbrev pub wanted_word : ℕ → ℕ → ℕ → ℕ
wanted_word kind word size = choose (eqb kind field_own) (word - size) kind

abbrev pub own_part : ℕ → ℕ → ℕ
own_part kind size = choose (eqb kind field_own) size 0

-- ---- what the functions that judge answer: a size or a constructor, and the cursor behind it; 19 where they have none
abbrev pub as_number : Maybe Found → Number
as_number r = ok_or r BadInputLine

-- ---- a Bool or an Int, behind its code
pub record LeafJudged (line : List ℕ) (at word : ℕ) (form : Form) (r : Maybe Found) : Type 0 where
  pub says : (P : File) (inner : Parser Tree) (τ : Ty) → word ≡ declared_word τ → given line (as_number r) ≡ sized P τ (value_behind P inner form (bytes_from line at))
  pub on : Moved line at (step_of (as_number r))
  pub none : Below 1 (as_number r)

-- ---- a constructor, behind its code, up to its fields
pub record Constructs (P : File) (line : List ℕ) (at t : ℕ) (f : Found) : Type 0 where
  pub known : f.value < length (constructors_of P t)
  pub read : (inner : Parser Tree) → value_behind P inner con_form (bytes_from line at)
      ≡ and_then (value_trees inner (length (fields_of P t f.value)) (bytes_from line f.next.at)) (λ ws bs. got (vcon t f.value ws) bs)

pub record ConstructorAt (line index : List ℕ) (at word : ℕ) (r : Maybe Found) : Type 0 where
  pub wrong : r ≡ None → (text : List ℕ) (P : File) → Indexed text index P → (τ : Ty) → Asked (length P.types) τ → word ≡ declared_word τ →
      (inner : Parser Tree) → sized P τ (value_behind P inner con_form (bytes_from line at)) ≡ bad bad_input_line
  pub found : {f : Found} → r ≡ Some f → (text : List ℕ) (P : File) → Indexed text index P → (t k : ℕ) → t < length P.types → k < byte_range → word ≡ declared_word (tnamed t k) → Constructs P line at t f
  pub named : {f : Found} → r ≡ Some f → (tag_step ≤ word) × (1 ≤ word % tag_step)
  pub on : Moved line at (step_of (as_number r))
  pub fewer : {f : Found} → r ≡ Some f → bytes_left line f.next.at < bytes_left line at

-- ---- a value, or what stands behind its code, of the type that a word stands for, of at most n levels
pub record Judges (line index : List ℕ) (at word : ℕ) (r : Maybe Found) (p : ℕ → File → Parser Tree) : Type 0 where
  pub says : (text : List ℕ) (P : File) → Indexed text index P → (τ : Ty) → Asked (length P.types) τ → word ≡ declared_word τ → (n : ℕ) → bytes_left line at ≤ n → given line (as_number r) ≡ sized P τ (p n P (bytes_from line at))
  pub on : Moved line at (step_of (as_number r))
  pub small : Below (1 + word % tag_step) (as_number r)

-- ---- the bytes of a line, and the line
pub record InputsJudged (line index : List ℕ) (r : Bool) : Type 0 where
  pub says : (text : List ℕ) (P : File) → Indexed text index P → r ≡ is_some (chain (input_trees P (bytes_of line)) (λ vs. when (trees_fit P vs (input_types P)) vs))

pub record LineJudged (line index : List ℕ) (r : Bool) : Type 0 where
  pub says : (text : List ℕ) (P : File) → Indexed text index P → r ≡ is_some (line_trees P line)
