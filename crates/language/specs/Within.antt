-- Which files are within the limits: document 01, "The rule file", as a predicate on the syntax.
-- What the reader refuses with 3 to 8 is what is not within them. Where a text is not too long, the strict text of its frames is not.
use Rattle.std.specs.Prelude.{ℕ, zero, suc, ◌+◌, ◌≤◌, ◌<◌, List, [], ◌∷◌, ◌++◌, Bool, true, ◌≡◌, length, get_or}
use Rattle.language.specs.Limits.{byte_range, text_most, types_most, functions_most, inputs_most, nodes_most, constructors_most, fields_most, size_most, parameters_most, conditions_most, measures_most, nesting_most, int_range}
use Rattle.language.specs.Syntax.{Field, fbool, fint, own, other, Constructor, TypeDef, Plain, pbool, pint, pnamed, Ty, tbool, tint, tnamed, Size, lit, svar, plus, minus, ResultType, rbool, rint, rnamed, owns}
use Rattle.language.specs.Syntax.{Op, Expr, ebool, eint, evar, enow, elast, elet, eif, eop, ecall, econ, ecase, eadj, efit, Exprs, enil, econs}
use Rattle.language.specs.Syntax.{Condition, Function, Input, Node, File, self_free}
use Rattle.language.specs.Format.{file_text}
use Rattle.language.specs.Scope.{Scope, wider, room_in, named_count, body_scope, outer_scope}

pub data All {A : Type 0} (Q : A → Type 0) : List A → Type 0 where
  all_nil : All Q []
  all_cons : {a : A} {l : List A} → Q a → All Q l → All Q (a ∷ l)

-- "k, 1 to 64"
abbrev pub Bound : ℕ → Type 0
Bound k = (1 ≤ k) × (k ≤ size_most)

pub data WithinField (types : ℕ) : Field → Type 0 where
  w_fbool : WithinField types fbool
  w_fint : WithinField types fint
  w_own : WithinField types own
  w_other : {t k : ℕ} → t < types → Bound k → WithinField types (other t k)

pub data WithinPlain (types : ℕ) : Plain → Type 0 where
  w_pbool : WithinPlain types pbool
  w_pint : WithinPlain types pint
  w_pnamed : {t : ℕ} → t < types → WithinPlain types (pnamed t)

pub data WithinDeclared (types : ℕ) : Ty → Type 0 where
  w_tbool : WithinDeclared types tbool
  w_tint : WithinDeclared types tint
  w_tnamed : {t k : ℕ} → t < types → Bound k → WithinDeclared types (tnamed t k)

-- a size with n levels left, "a leaf counting 1"; "k one byte"
pub data WithinSize (vars : ℕ) : ℕ → Size → Type 0 where
  w_lit : {n k : ℕ} → k < byte_range → WithinSize vars (suc n) (lit k)
  w_svar : {n i : ℕ} → i < vars → WithinSize vars (suc n) (svar i)
  w_plus : {n : ℕ} {a b : Size} → WithinSize vars n a → WithinSize vars n b → WithinSize vars (suc n) (plus a b)
  w_minus : {n : ℕ} {a b : Size} → WithinSize vars n a → WithinSize vars n b → WithinSize vars (suc n) (minus a b)

pub data WithinResult (types vars : ℕ) : ResultType → Type 0 where
  w_rbool : WithinResult types vars rbool
  w_rint : WithinResult types vars rint
  w_rnamed : {t : ℕ} {s : Size} → t < types → WithinSize vars nesting_most s → WithinResult types vars (rnamed t s)

-- an expression with n levels left: its scope is not too wide, its indices name something, its lists are as long as they must be
mutual
  pub data WithinExpr : ℕ → Scope → Expr → Type 0 where
    w_bool : {n : ℕ} {S : Scope} {b : Bool} → room_in S ≡ true → WithinExpr (suc n) S (ebool b)
    w_int : {n : ℕ} {S : Scope} {i : ℕ} → room_in S ≡ true → i < int_range → WithinExpr (suc n) S (eint i)
    w_var : {n : ℕ} {S : Scope} {v : ℕ} → room_in S ≡ true → v < S.variables → WithinExpr (suc n) S (evar v)
    w_now : {n : ℕ} {S : Scope} {c : ℕ} → room_in S ≡ true → c < S.channels → WithinExpr (suc n) S (enow c)
    w_last : {n : ℕ} {S : Scope} {c : ℕ} → room_in S ≡ true → c < S.channels → WithinExpr (suc n) S (elast c)
    w_let : {n : ℕ} {S : Scope} {a b : Expr} → room_in S ≡ true → WithinExpr n S a → WithinExpr n (wider 1 0 S) b → WithinExpr (suc n) S (elet a b)
    w_if : {n : ℕ} {S : Scope} {a b d : Expr} → room_in S ≡ true → WithinExpr n S a → WithinExpr n S b → WithinExpr n S d → WithinExpr (suc n) S (eif a b d)
    w_op : {n : ℕ} {S : Scope} {o : Op} {a b : Expr} → room_in S ≡ true → WithinExpr n S a → WithinExpr n S b → WithinExpr (suc n) S (eop o a b)
    w_call : {n : ℕ} {S : Scope} {f : ℕ} {es : Exprs} → room_in S ≡ true → f < length S.arities → WithinExprs n S (get_or S.arities f 0) es → WithinExpr (suc n) S (ecall f es)
    w_con : {n : ℕ} {S : Scope} {t c : ℕ} {es : Exprs} → room_in S ≡ true → t < length S.types → c < length (get_or S.types t []) →
        WithinExprs n S (length (get_or (get_or S.types t []) c [])) es → WithinExpr (suc n) S (econ t c es)
    w_case : {n : ℕ} {S : Scope} {t : ℕ} {e : Expr} {r : ResultType} {bs : Exprs} → room_in S ≡ true → t < length S.types → WithinExpr n S e →
        WithinResult (length S.types) S.sizes r → WithinBranches n S (get_or S.types t []) bs → WithinExpr (suc n) S (ecase t e r bs)
    w_adj : {n : ℕ} {S : Scope} {s : Size} {e : Expr} → room_in S ≡ true → WithinSize S.sizes nesting_most s → WithinExpr n S e → WithinExpr (suc n) S (eadj s e)
    w_fit : {n : ℕ} {S : Scope} {k : ℕ} {a b d : Expr} → room_in S ≡ true → Bound k → WithinExpr n S a → WithinExpr n (wider 1 0 S) b → WithinExpr n S d → WithinExpr (suc n) S (efit k a b d)

  -- as many expressions as the number says
  pub data WithinExprs : ℕ → Scope → ℕ → Exprs → Type 0 where
    ws_nil : {n : ℕ} {S : Scope} → WithinExprs n S zero enil
    ws_cons : {n m : ℕ} {S : Scope} {e : Expr} {es : Exprs} → WithinExpr n S e → WithinExprs n S m es → WithinExprs n S (suc m) (econs e es)

  -- "one expression for each constructor": all its fields are variables, its `02` fields bring size variables
  pub data WithinBranches : ℕ → Scope → List Constructor → Exprs → Type 0 where
    wb_nil : {n : ℕ} {S : Scope} → WithinBranches n S [] enil
    wb_cons : {n : ℕ} {S : Scope} {fs : Constructor} {cs : List Constructor} {b : Expr} {bs : Exprs} → WithinExpr n (wider (length fs) (owns fs) S) b → WithinBranches n S cs bs → WithinBranches n S (fs ∷ cs) (econs b bs)

-- ---- frames
pub record WithinConstructor (types : ℕ) (fs : Constructor) : Type 0 where
  pub few : length fs ≤ fields_most
  pub fields : All (WithinField types) fs

pub record WithinType (types : ℕ) (d : TypeDef) : Type 0 where
  pub some : 1 ≤ length d
  pub few : length d ≤ constructors_most
  pub constructors : All (WithinConstructor types) d
  pub free : self_free d ≡ true

-- "an earlier type": earlier is how many types stand before
pub data WithinTypes : ℕ → List TypeDef → Type 0 where
  wt_nil : {earlier : ℕ} → WithinTypes earlier []
  wt_cons : {earlier : ℕ} {d : TypeDef} {ds : List TypeDef} → WithinType earlier d → WithinTypes (suc earlier) ds → WithinTypes earlier (d ∷ ds)

pub record WithinCondition (vars : ℕ) (c : Condition) : Type 0 where
  pub left : WithinSize vars nesting_most c.left
  pub right : WithinSize vars nesting_most c.right

pub record WithinFunction (types : List TypeDef) (earlier : List Function) (F : Function) : Type 0 where
  pub few_parameters : length F.parameters ≤ parameters_most
  pub parameters : All (WithinPlain (length types)) F.parameters
  pub result : WithinResult (length types) (named_count F.parameters) F.result
  pub few_conditions : length F.conditions ≤ conditions_most
  pub conditions : All (WithinCondition (named_count F.parameters)) F.conditions
  pub few_measures : length F.measure ≤ measures_most
  pub measure : All (λ i. i < named_count F.parameters) F.measure
  pub body : WithinExpr nesting_most (body_scope types earlier F.parameters) F.body

pub data WithinFunctions (types : List TypeDef) : List Function → List Function → Type 0 where
  wf_nil : {earlier : List Function} → WithinFunctions types earlier []
  wf_cons : {earlier : List Function} {F : Function} {Fs : List Function} → WithinFunction types earlier F → WithinFunctions types (earlier ++ (F ∷ [])) Fs → WithinFunctions types earlier (F ∷ Fs)

pub record WithinInput (P : File) (i : Input) : Type 0 where
  pub declared : WithinDeclared (length P.types) i.declared
  pub initial : WithinExpr nesting_most (outer_scope P.types P.functions 0) i.initial

-- "`13` may name any channel" (R-3), and so may `14`
pub record WithinNode (P : File) (n : Node) : Type 0 where
  pub declared : WithinDeclared (length P.types) n.declared
  pub initial : WithinExpr nesting_most (outer_scope P.types P.functions 0) n.initial
  pub update : WithinExpr nesting_most (outer_scope P.types P.functions (length P.inputs + length P.nodes)) n.update

pub record Within (P : File) : Type 0 where
  pub text : length (file_text P) ≤ text_most
  pub few_types : length P.types ≤ types_most
  pub few_functions : length P.functions ≤ functions_most
  pub few_inputs : length P.inputs ≤ inputs_most
  pub few_nodes : length P.nodes ≤ nodes_most
  pub some_node : 1 ≤ length P.nodes
  pub types : WithinTypes 0 P.types
  pub functions : WithinFunctions P.types [] P.functions
  pub inputs : All (WithinInput P) P.inputs
  pub nodes : All (WithinNode P) P.nodes
