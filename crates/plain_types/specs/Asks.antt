-- What the functions of the cycle promise. Each is asked for the plain type of something spelled at its place, in a scope whose types
-- are the first words of the lent array; the words below the scope's end stay as they were, on any bytes.
use Rattle.std.specs.Prelude.{ℕ, ◌+◌, ◌*◌, ◌≤◌, ◌<◌, ◌^◌, List, [], map, ◌≡◌, length, get_or, take, drop}
use Rattle.std.proofs.Math.Option.{Option}
use Rattle.std.proofs.Common.{sym, ap, ◌∙◌}
use Rattle.language.specs.Limits.{variables_most, size_variables_most, nesting_most}
use Rattle.language.specs.Result.{when}
use Rattle.language.specs.Syntax.{Constructor, Plain, pbool, Size, ResultType, Op, Expr, elet, eif, eop, ecall, econ, ecase, eadj, efit, Exprs, File, constructors_of}
use Rattle.language.specs.Format.{op_code, size_bytes, result_bytes, expr_bytes, exprs_bytes}
use Rattle.language.specs.Scope.{Scope, wider}
use Rattle.language.specs.Within.{All, WithinPlain, WithinSize, WithinResult, WithinExpr, WithinExprs, WithinBranches}
use Rattle.language.specs.Layout.{tag_step}
use Rattle.language.specs.PlainTypes.{is_plain, are_plain, plain_of, plains_of, plain_branches}
use Rattle.text.specs.Bytes.{plain_word}
use Rattle.text.specs.Places.{past}
use Rattle.encoding.specs.Spells.{Spells}
use Rattle.encoding.specs.FrameLines.{line_at}
use Rattle.encoding.specs.Known.{Known}
use Rattle.index.specs.Sections.{channels_of}
use Rattle.index.specs.Indexed.{declared_at, line_count, Indexed}
use Rattle.plain_types.specs.declared.words.PlainType.{PlainType}
use Rattle.heads.specs.declared.places.Place.{Place}
use Rattle.plain_types.specs.declared.series.Series.{Series}
use Rattle.plain_types.specs.declared.series.BranchSeries.{BranchSeries}
use Rattle.plain_types.specs.Words.{type_at, wanted_type}
use Rattle.plain_types.specs.Agrees.{Typing, meaning, Agrees}

-- no sum overflows: each level binds fewer variables than a byte can count
abbrev pub Room : ℕ → Place → Type 0
Room k p = p.variables + tag_step * (p.levels + k) < 2 ^ 32

-- ---- the scope's words below its end are kept
pub record Kept (n : ℕ) (scope scope' : List ℕ) : Type 0 where
  pub low : take n scope' ≡ take n scope
  pub long : length scope' ≡ length scope

-- ---- a scope of a file that was read: Γ its types, as the first words of the array; C the types of the channels it may name
pub record Stage (text index scope : List ℕ) (line variables : ℕ) (P : File) (C : List Plain) (S : Scope) (Γ : List Plain) : Type 0 where
  pub indexed : Indexed text index P
  pub less : line < line_count P
  pub known : Known P S
  pub channel : (c : ℕ) → c < length C → meaning (type_at (declared_at (channels_of index) c)) ≡ get_or C c pbool
  pub channels : S.channels ≤ length C
  pub words : take variables scope ≡ map plain_word Γ
  pub small : All (WithinPlain tag_step) Γ
  pub long : length Γ ≡ variables
  pub in_scope : S.variables ≡ variables
  pub room : variables_most ≤ length scope

-- ---- what is spelled from a place to its end
pub record Part (line : List ℕ) (levels : ℕ) (S : Scope) (at : ℕ) (e : Expr) (end : ℕ) : Type 0 where
  pub within : WithinExpr levels S e
  pub spelled : Spells expr_bytes line at e
  pub ends : past line at (length (expr_bytes e)) ≡ end

-- where what it is made of ends, it ends
pub part-ends : {line : List ℕ} {levels : ℕ} {S : Scope} {at end m : ℕ} {e a : Expr} → Part line levels S at e end → e ≡ a → past line at (length (expr_bytes a)) ≡ m → m ≡ end
part-ends {line} {at = at} p is long = sym (ap (λ (b : Expr). past line at (length (expr_bytes b))) is ∙ long) ∙ p.ends

pub list-ends : {end m : ℕ} {es fs : Exprs} (line : List ℕ) (at : ℕ) → es ≡ fs → past line at (length (exprs_bytes fs)) ≡ m → past line at (length (exprs_bytes es)) ≡ end → m ≡ end
list-ends line at is long ends = sym (ap (λ (l : Exprs). past line at (length (exprs_bytes l))) is ∙ long) ∙ ends

-- ---- what is asked: o is to be answered, end is where what has it ends
abbrev pub Asked : Type 1
Asked = File → List Plain → Scope → List Plain → Option Plain → ℕ → Type 0

pub record Types (text index scope : List ℕ) (p : Place) (X : Asked) (r : Typing) (scope' : List ℕ) : Type 0 where
  pub says : {P : File} {C : List Plain} {S : Scope} {Γ : List Plain} {o : Option Plain} {end : ℕ} → Stage text index scope p.line p.variables P C S Γ → X P C S Γ o end → Agrees r end o
  pub kept : Kept p.variables scope scope'

module _ (text : List ℕ) (p : Place) where
  pub record AskExpr (P : File) (C : List Plain) (S : Scope) (Γ : List Plain) (o : Option Plain) (end : ℕ) : Type 0 where
    pub expr : Expr
    pub part : Part (line_at text p.line) p.levels S p.at.at expr end
    pub is : o ≡ plain_of P C expr Γ

  pub record AskWant (kind : PlainType) (P : File) (C : List Plain) (S : Scope) (Γ : List Plain) (o : Option Plain) (end : ℕ) : Type 0 where
    pub expr : Expr
    pub part : Part (line_at text p.line) p.levels S p.at.at expr end
    pub type : Plain
    pub wanted : meaning kind ≡ type
    pub is : o ≡ when (is_plain type (plain_of P C expr Γ)) type

  pub record AskLet (P : File) (C : List Plain) (S : Scope) (Γ : List Plain) (o : Option Plain) (end : ℕ) : Type 0 where
    pub first : Expr
    pub second : Expr
    pub middle : ℕ
    pub part : Part (line_at text p.line) p.levels S p.at.at first middle
    pub part₂ : Part (line_at text p.line) p.levels (wider 1 0 S) middle second end
    pub is : o ≡ plain_of P C (elet first second) Γ

  pub record AskIf (P : File) (C : List Plain) (S : Scope) (Γ : List Plain) (o : Option Plain) (end : ℕ) : Type 0 where
    pub first : Expr
    pub second : Expr
    pub third : Expr
    pub middle : ℕ
    pub middle₂ : ℕ
    pub part : Part (line_at text p.line) p.levels S p.at.at first middle
    pub part₂ : Part (line_at text p.line) p.levels S middle second middle₂
    pub part₃ : Part (line_at text p.line) p.levels S middle₂ third end
    pub is : o ≡ plain_of P C (eif first second third) Γ

  pub record AskOp (code : ℕ) (P : File) (C : List Plain) (S : Scope) (Γ : List Plain) (o : Option Plain) (end : ℕ) : Type 0 where
    pub op : Op
    pub coded : op_code op ≡ code
    pub first : Expr
    pub second : Expr
    pub middle : ℕ
    pub part : Part (line_at text p.line) p.levels S p.at.at first middle
    pub part₂ : Part (line_at text p.line) p.levels S middle second end
    pub is : o ≡ plain_of P C (eop op first second) Γ

  pub record AskCall (f : ℕ) (P : File) (C : List Plain) (S : Scope) (Γ : List Plain) (o : Option Plain) (end : ℕ) : Type 0 where
    pub list : Exprs
    pub less : f < length S.arities
    pub within : WithinExprs p.levels S (get_or S.arities f 0) list
    pub spelled : Spells exprs_bytes (line_at text p.line) p.at.at list
    pub ends : past (line_at text p.line) p.at.at (length (exprs_bytes list)) ≡ end
    pub is : o ≡ plain_of P C (ecall f list) Γ

  pub record AskCon (t c : ℕ) (P : File) (C : List Plain) (S : Scope) (Γ : List Plain) (o : Option Plain) (end : ℕ) : Type 0 where
    pub list : Exprs
    pub less : t < length S.types
    pub less₂ : c < length (get_or S.types t [])
    pub within : WithinExprs p.levels S (length (get_or (get_or S.types t []) c [])) list
    pub spelled : Spells exprs_bytes (line_at text p.line) p.at.at list
    pub ends : past (line_at text p.line) p.at.at (length (exprs_bytes list)) ≡ end
    pub is : o ≡ plain_of P C (econ t c list) Γ

  -- the types of those left are wanted from the series' first on
  pub record AskSeveral (index : List ℕ) (s : Series) (P : File) (C : List Plain) (S : Scope) (Γ : List Plain) (o : Option Plain) (end : ℕ) : Type 0 where
    pub list : Exprs
    pub wants : List Plain
    pub answer : Plain
    pub counted : s.count ≡ length wants
    pub each : (j : ℕ) → j < length wants → meaning (wanted_type index s.of (s.first + j)) ≡ get_or wants j pbool
    pub answered : meaning s.answer ≡ answer
    pub within : WithinExprs p.levels S (length wants) list
    pub spelled : Spells exprs_bytes (line_at text p.line) p.at.at list
    pub ends : past (line_at text p.line) p.at.at (length (exprs_bytes list)) ≡ end
    pub is : o ≡ when (are_plain wants (plains_of P C list Γ)) answer

  pub record AskCase (t : ℕ) (P : File) (C : List Plain) (S : Scope) (Γ : List Plain) (o : Option Plain) (end : ℕ) : Type 0 where
    pub first : Expr
    pub result : ResultType
    pub branches : Exprs
    pub middle : ℕ
    pub part : Part (line_at text p.line) p.levels S p.at.at first middle
    pub less : t < length S.types
    pub few : S.sizes ≤ size_variables_most
    pub within : WithinResult (length S.types) S.sizes result
    pub spelled : Spells result_bytes (line_at text p.line) middle result
    pub within₂ : WithinBranches p.levels S (get_or S.types t []) branches
    pub spelled₂ : Spells exprs_bytes (line_at text p.line) (past (line_at text p.line) middle (length (result_bytes result))) branches
    pub ends : past (line_at text p.line) (past (line_at text p.line) middle (length (result_bytes result))) (length (exprs_bytes branches)) ≡ end
    pub is : o ≡ plain_of P C (ecase t first result branches) Γ

  -- the constructors of those left are the type's from the series' first on
  pub record AskBranches (s : BranchSeries) (P : File) (C : List Plain) (S : Scope) (Γ : List Plain) (o : Option Plain) (end : ℕ) : Type 0 where
    pub list : Exprs
    pub constructors : List Constructor
    pub answer : Plain
    pub less : s.of < length P.types
    pub those : drop s.first (constructors_of P s.of) ≡ constructors
    pub counted : s.count ≡ length constructors
    pub answered : meaning s.answer ≡ answer
    pub within : WithinBranches p.levels S constructors list
    pub spelled : Spells exprs_bytes (line_at text p.line) p.at.at list
    pub ends : past (line_at text p.line) p.at.at (length (exprs_bytes list)) ≡ end
    pub is : o ≡ when (plain_branches P C list constructors s.of answer Γ) answer

  pub record AskAdj (P : File) (C : List Plain) (S : Scope) (Γ : List Plain) (o : Option Plain) (end : ℕ) : Type 0 where
    pub size : Size
    pub first : Expr
    pub few : S.sizes ≤ size_variables_most
    pub within : WithinSize S.sizes nesting_most size
    pub spelled : Spells size_bytes (line_at text p.line) p.at.at size
    pub part : Part (line_at text p.line) p.levels S (past (line_at text p.line) p.at.at (length (size_bytes size))) first end
    pub is : o ≡ plain_of P C (eadj size first) Γ

  pub record AskFit (P : File) (C : List Plain) (S : Scope) (Γ : List Plain) (o : Option Plain) (end : ℕ) : Type 0 where
    pub size : ℕ
    pub first : Expr
    pub second : Expr
    pub third : Expr
    pub middle : ℕ
    pub middle₂ : ℕ
    pub part : Part (line_at text p.line) p.levels S p.at.at first middle
    pub part₂ : Part (line_at text p.line) p.levels (wider 1 0 S) middle second middle₂
    pub part₃ : Part (line_at text p.line) p.levels S middle₂ third end
    pub is : o ≡ plain_of P C (efit size first second third) Γ

-- ---- a name for each promise
module _ (text index scope : List ℕ) (p : Place) where
  abbrev pub TypesExpr : Typing → List ℕ → Type 0
  TypesExpr r scope' = Types text index scope p (AskExpr text p) r scope'

  abbrev pub TypesWant : PlainType → Typing → List ℕ → Type 0
  TypesWant kind r scope' = Types text index scope p (AskWant text p kind) r scope'

  abbrev pub TypesLet : Typing → List ℕ → Type 0
  TypesLet r scope' = Types text index scope p (AskLet text p) r scope'

  abbrev pub TypesIf : Typing → List ℕ → Type 0
  TypesIf r scope' = Types text index scope p (AskIf text p) r scope'

  abbrev pub TypesOp : ℕ → Typing → List ℕ → Type 0
  TypesOp code r scope' = Types text index scope p (AskOp text p code) r scope'

  abbrev pub TypesCall : ℕ → Typing → List ℕ → Type 0
  TypesCall f r scope' = Types text index scope p (AskCall text p f) r scope'

  abbrev pub TypesCon : ℕ → ℕ → Typing → List ℕ → Type 0
  TypesCon t c r scope' = Types text index scope p (AskCon text p t c) r scope'

  abbrev pub TypesSeveral : Series → Typing → List ℕ → Type 0
  TypesSeveral s r scope' = Types text index scope p (AskSeveral text p index s) r scope'

  abbrev pub TypesCase : ℕ → Typing → List ℕ → Type 0
  TypesCase t r scope' = Types text index scope p (AskCase text p t) r scope'

  abbrev pub TypesBranches : BranchSeries → Typing → List ℕ → Type 0
  TypesBranches s r scope' = Types text index scope p (AskBranches text p s) r scope'

  abbrev pub TypesAdj : Typing → List ℕ → Type 0
  TypesAdj r scope' = Types text index scope p (AskAdj text p) r scope'

  abbrev pub TypesFit : Typing → List ℕ → Type 0
  TypesFit r scope' = Types text index scope p (AskFit text p) r scope'
