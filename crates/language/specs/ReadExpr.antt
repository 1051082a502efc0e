-- The reader of types, sizes and expressions: document 01, "The rule file", with refusals 4 to 7.
-- Nesting left is the structural argument.
use Rattle.std.specs.Prelude.{ℕ, zero, suc, ◌+◌, ◌*◌, ◌^◌, List, [], ◌∷◌, Bool, true, false, length, get_or}
use Rattle.language.specs.Limits.{size_most, nesting_most}
use Rattle.language.specs.Refusals.{outside_limits}
use Rattle.language.specs.Codes.{type_first, field_first, size_first, expr_first, operator_first, bool_first}
use Rattle.language.specs.Syntax.{Field, fbool, fint, own, other, Constructor, Plain, pbool, pint, pnamed, Ty, tbool, tint, tnamed, Size, lit, svar, plus, minus, ResultType, rbool, rint, rnamed, owns}
use Rattle.language.specs.Syntax.{Op, oadd, osub, omul, oeq, olt, ole, oand, oor, Expr, ebool, eint, evar, enow, elast, elet, eif, eop, ecall, econ, ecase, eadj, efit, Exprs, enil, econs}
use Rattle.language.specs.Scope.{Scope, wider, room_in}
use Rattle.language.specs.Parser.{Parser, ◌>>=◌, return, refuse, byte, index, count, code, code_in}

-- ---- types and sizes
pub data FieldForm : Type 0 where
  bool_field int_field own_field other_field : FieldForm

abbrev pub field_forms : List FieldForm
field_forms = bool_field ∷ int_field ∷ own_field ∷ other_field ∷ []

-- a size of a declared type, a field or a fit: "k, 1 to 64"
unfoldable pub bound : Parser ℕ
bound = count 1 size_most

-- types is the number of types that may be named here
unfoldable pub field_behind : ℕ → FieldForm → Parser Field
field_behind types bool_field = return fbool
field_behind types int_field = return fint
field_behind types own_field = return own
field_behind types other_field = do
  t ← index types
  k ← bound
  return (other t k)

unfoldable pub field : ℕ → Parser Field
field types = do
  form ← code field_first field_forms
  field_behind types form

-- a type: Bool, Int or a named one
pub data TypeForm : Type 0 where
  bool_type int_type named_type : TypeForm

abbrev pub type_forms : List TypeForm
type_forms = bool_type ∷ int_type ∷ named_type ∷ []

unfoldable pub plain_behind : ℕ → TypeForm → Parser Plain
plain_behind types bool_type = return pbool
plain_behind types int_type = return pint
plain_behind types named_type = do
  t ← index types
  return (pnamed t)

unfoldable pub plain : ℕ → Parser Plain
plain types = do
  form ← code type_first type_forms
  plain_behind types form

unfoldable pub declared_behind : ℕ → TypeForm → Parser Ty
declared_behind types bool_type = return tbool
declared_behind types int_type = return tint
declared_behind types named_type = do
  t ← index types
  k ← bound
  return (tnamed t k)

unfoldable pub declared : ℕ → Parser Ty
declared types = do
  form ← code type_first type_forms
  declared_behind types form

pub data SizeForm : Type 0 where
  lit_size var_size plus_size minus_size : SizeForm

abbrev pub size_forms : List SizeForm
size_forms = lit_size ∷ var_size ∷ plus_size ∷ minus_size ∷ []

-- vars is the number of size variables in scope; inner reads a size one level further in
unfoldable pub size_behind : ℕ → Parser Size → SizeForm → Parser Size
size_behind vars inner lit_size = do
  k ← byte
  return (lit k)
size_behind vars inner var_size = do
  i ← index vars
  return (svar i)
size_behind vars inner plus_size = do
  a ← inner
  b ← inner
  return (plus a b)
size_behind vars inner minus_size = do
  a ← inner
  b ← inner
  return (minus a b)

-- a size with n levels left
unfoldable pub size_at : ℕ → ℕ → Parser Size
size_at zero vars = do
  form ← code_in false size_first size_forms
  refuse outside_limits
size_at (suc n) vars = do
  form ← code_in true size_first size_forms
  size_behind vars (size_at n vars) form

abbrev pub size : ℕ → Parser Size
size vars = size_at nesting_most vars

unfoldable pub result_behind : ℕ → ℕ → TypeForm → Parser ResultType
result_behind types vars bool_type = return rbool
result_behind types vars int_type = return rint
result_behind types vars named_type = do
  t ← index types
  s ← size vars
  return (rnamed t s)

unfoldable pub result : ℕ → ℕ → Parser ResultType
result types vars = do
  form ← code type_first type_forms
  result_behind types vars form

-- ---- expressions

pub data Form : Type 0 where
  bool_form int_form var_form now_form last_form let_form if_form op_form call_form con_form case_form adj_form fit_form : Form

-- `10` to `1C`
abbrev pub forms : List Form
forms = bool_form ∷ int_form ∷ var_form ∷ now_form ∷ last_form ∷ let_form ∷ if_form ∷ op_form ∷ call_form ∷ con_form ∷ case_form ∷ adj_form ∷ fit_form ∷ []

abbrev pub ops : List Op
ops = oadd ∷ osub ∷ omul ∷ oeq ∷ olt ∷ ole ∷ oand ∷ oor ∷ []

abbrev pub bools : List Bool
bools = false ∷ true ∷ []

-- an Int, "four bytes, high byte first"
unfoldable pub int : Parser ℕ
int = do
  a ← byte
  b ← byte
  c ← byte
  d ← byte
  return (a * 2 ^ 24 + b * 2 ^ 16 + c * 2 ^ 8 + d)

unfoldable pub exprs : Parser Expr → ℕ → Parser Exprs
exprs p zero = return enil
exprs p (suc n) = do
  e ← p
  es ← exprs p n
  return (econs e es)

-- "one expression for each constructor", with all its fields in scope; its `02` fields bring size variables
unfoldable pub branches : (Scope → Parser Expr) → Scope → List Constructor → Parser Exprs
branches inner S [] = return enil
branches inner S (fs ∷ cs) = do
  b ← inner (wider (length fs) (owns fs) S)
  bs ← branches inner S cs
  return (econs b bs)

-- what stands behind the code of a form; inner reads an expression one level further in
unfoldable pub expr_behind : (Scope → Parser Expr) → Scope → Form → Parser Expr
expr_behind inner S bool_form = do
  b ← code bool_first bools
  return (ebool b)
expr_behind inner S int_form = do
  n ← int
  return (eint n)
expr_behind inner S var_form = do
  v ← index S.variables
  return (evar v)
expr_behind inner S now_form = do
  c ← index S.channels
  return (enow c)
expr_behind inner S last_form = do
  c ← index S.channels
  return (elast c)
expr_behind inner S let_form = do
  a ← inner S
  b ← inner (wider 1 0 S)
  return (elet a b)
expr_behind inner S if_form = do
  a ← inner S
  b ← inner S
  d ← inner S
  return (eif a b d)
expr_behind inner S op_form = do
  o ← code operator_first ops
  a ← inner S
  b ← inner S
  return (eop o a b)
expr_behind inner S call_form = do
  f ← index (length S.arities)
  es ← exprs (inner S) (get_or S.arities f 0)
  return (ecall f es)
expr_behind inner S con_form = do
  t ← index (length S.types)
  c ← index (length (get_or S.types t []))
  es ← exprs (inner S) (length (get_or (get_or S.types t []) c []))
  return (econ t c es)
expr_behind inner S case_form = do
  t ← index (length S.types)
  e ← inner S
  r ← result (length S.types) S.sizes
  bs ← branches inner S (get_or S.types t [])
  return (ecase t e r bs)
expr_behind inner S adj_form = do
  s ← size S.sizes
  e ← inner S
  return (eadj s e)
expr_behind inner S fit_form = do
  k ← bound
  a ← inner S
  b ← inner (wider 1 0 S)
  d ← inner S
  return (efit k a b d)

-- an expression with n levels left; a scope too wide is noticed at its first byte
unfoldable pub expr_at : ℕ → Scope → Parser Expr
expr_at zero S = do
  form ← code_in false expr_first forms
  refuse outside_limits
expr_at (suc n) S = do
  form ← code_in (room_in S) expr_first forms
  expr_behind (expr_at n) S form

abbrev pub expr : Scope → Parser Expr
expr S = expr_at nesting_most S
