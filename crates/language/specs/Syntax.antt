-- The syntax of a rule file: figure 1 of the paper as document 01, "The rule file", restricts and extends it.
use Rattle.std.specs.Prelude.{ℕ, zero, suc, ◌+◌, List, [], ◌∷◌, ◌++◌, map, Bool, false, length, get_or, eqb}
use Rattle.std.proofs.Math.Option.{Option, none, some}
use Rattle.language.specs.Result.{one_of}

-- A field of a constructor: "`00` Bool, `01` Int, `02` the type itself, `03 t k` an earlier type t of size k".
pub data Field : Type 0 where
  fbool fint own : Field
  other : ℕ → ℕ → Field

abbrev pub Constructor : Type 0
Constructor = List Field

abbrev pub TypeDef : Type 0
TypeDef = List Constructor

-- A plain type: a type without its size. The type of a parameter, "`00`, `01` or `02 t`".
pub data Plain : Type 0 where
  pbool pint : Plain
  pnamed : ℕ → Plain

-- A type with its size, and a declared type: "`00`, `01` or `02 t k`".
pub data Ty : Type 0 where
  tbool tint : Ty
  tnamed : ℕ → ℕ → Ty

-- A size: "`01 k`, `02 i` (size variable), `03 a b` (sum) or `04 a b` (difference)".
pub data Size : Type 0 where
  lit : ℕ → Size
  svar : ℕ → Size
  plus minus : Size → Size → Size

-- A result or return type: "`00`, `01` or `02 t` and a size".
pub data ResultType : Type 0 where
  rbool rint : ResultType
  rnamed : ℕ → Size → ResultType

-- "Operators: `00` +, `01` −, `02` ×; `03` =, `04` <, `05` ≤ on Int; `06` and, `07` or".
pub data Op : Type 0 where
  oadd osub omul oeq olt ole oand oor : Op

-- Expressions, in the order of their codes `10` to `1C`. An Int is its 32 bits; a channel is named by its number.
mutual
  pub data Expr : Type 0 where
    ebool : Bool → Expr
    eint : ℕ → Expr
    evar : ℕ → Expr
    enow : ℕ → Expr
    elast : ℕ → Expr
    elet : Expr → Expr → Expr
    eif : Expr → Expr → Expr → Expr
    eop : Op → Expr → Expr → Expr
    ecall : ℕ → Exprs → Expr
    econ : ℕ → ℕ → Exprs → Expr
    ecase : ℕ → Expr → ResultType → Exprs → Expr
    eadj : Size → Expr → Expr
    efit : ℕ → Expr → Expr → Expr → Expr

  pub data Exprs : Type 0 where
    enil : Exprs
    econs : Expr → Exprs → Exprs

-- A condition: "a relation (`00` =, `01` <, `02` ≤) and two sizes".
pub data Relation : Type 0 where
  req rlt rle : Relation

pub record Condition : Type 0 where
  pub rel : Relation
  pub left : Size
  pub right : Size

pub record Function : Type 0 where
  pub parameters : List Plain
  pub result : ResultType
  pub conditions : List Condition
  pub measure : List ℕ
  pub body : Expr

pub record Input : Type 0 where
  pub declared : Ty
  pub initial : Expr

pub record Node : Type 0 where
  pub declared : Ty
  pub initial : Expr
  pub update : Expr

pub record File : Type 0 where
  pub types : List TypeDef
  pub functions : List Function
  pub inputs : List Input
  pub nodes : List Node

-- The node at a place among the nodes, from 0; no_node stands where there is none.
abbrev pub no_node : Node
no_node = record { declared = tbool; initial = ebool false; update = ebool false }

abbrev pub node_at_of : File → ℕ → Node
node_at_of P i = get_or P.nodes i no_node

-- Channel is document 01's term: "an input or a node, inputs counted first". The channel of that node.
abbrev pub node_channel : File → ℕ → ℕ
node_channel P i = length P.inputs + i

-- The constructors of a type; the fields of a constructor.
abbrev pub constructors_of : File → ℕ → List Constructor
constructors_of P t = get_or P.types t []

abbrev pub fields_of : File → ℕ → ℕ → List Field
fields_of P t c = get_or (constructors_of P t) c []

-- The channels' declared types and initial values.
abbrev pub declared_types : File → List Ty
declared_types P = map (λ (i : Input). i.declared) P.inputs ++ map (λ (n : Node). n.declared) P.nodes

abbrev pub initial_values : File → List Expr
initial_values P = map (λ (i : Input). i.initial) P.inputs ++ map (λ (n : Node). n.initial) P.nodes

-- Frames are counted from 1 in file order: those of a function and of a channel.
abbrev pub function_frame : File → ℕ → ℕ
function_frame P f = length P.types + f + 1

abbrev pub channel_frame : File → ℕ → ℕ
channel_frame P c = length P.types + length P.functions + c + 1

-- how many fields are of the type itself: |I(χ)| of figure 1
unfoldable pub owns : List Field → ℕ
owns [] = 0
owns (fbool ∷ fs) = owns fs
owns (fint ∷ fs) = owns fs
owns (own ∷ fs) = suc (owns fs)
owns (other t k ∷ fs) = owns fs

-- "At least one constructor has no field `02`."
unfoldable pub self_free : TypeDef → Bool
self_free [] = false
self_free (fs ∷ cs) = one_of (eqb (owns fs) 0) (self_free cs)

unfoldable pub look_expr : Exprs → ℕ → Option Expr
look_expr enil i = none
look_expr (econs b bs) zero = some b
look_expr (econs b bs) (suc i) = look_expr bs i
