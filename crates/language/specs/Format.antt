-- How a rule file is spelled: the bytes of each form, and the text. Document 01, "The rule file".
-- It is a total function of the syntax; which files are within the limits is said in Within.
use Rattle.std.specs.Prelude.{ℕ, ◌+◌, ◌/◌, ◌%◌, ◌^◌, List, [], ◌∷◌, ◌++◌, map, Bool, true, false, length, ltb}
use Rattle.language.specs.Syntax.{Field, fbool, fint, own, other, Constructor, TypeDef, Plain, pbool, pint, pnamed, Ty, tbool, tint, tnamed, Size, lit, svar, plus, minus, ResultType, rbool, rint, rnamed}
use Rattle.language.specs.Syntax.{Op, oadd, osub, omul, oeq, olt, ole, oand, oor, Expr, ebool, eint, evar, enow, elast, elet, eif, eop, ecall, econ, ecase, eadj, efit, Exprs, enil, econs}
use Rattle.language.specs.Syntax.{Relation, req, rlt, rle, Condition, Function, Input, Node, File}
use Rattle.language.specs.Codes.{kind_type, kind_function, kind_input, kind_node, type_bool, type_int, type_named, field_bool, field_int, field_own, field_other, size_number, size_variable, size_sum, size_difference, relation_equal, relation_less, relation_at_most}
use Rattle.language.specs.Codes.{expr_bool, expr_int, expr_variable, expr_now, expr_last, expr_let, expr_if, expr_operator, expr_call, expr_construct, expr_case, expr_adjust, expr_fit}
use Rattle.language.specs.Codes.{operator_plus, operator_minus, operator_times, operator_equal, operator_less, operator_at_most, operator_and, operator_or, bool_false, bool_true, digit_base, line_feed}

-- each of a list in turn
unfoldable pub spell_all : {A : Type 0} → (A → List ℕ) → List A → List ℕ
spell_all f [] = []
spell_all f (x ∷ xs) = f x ++ spell_all f xs

-- ---- bytes
abbrev pub bit : Bool → ℕ
bit false = bool_false
bit true = bool_true

-- "four bytes, high byte first"
unfoldable pub int_bytes : ℕ → List ℕ
int_bytes n = n / 2 ^ 24 % 2 ^ 8 ∷ n / 2 ^ 16 % 2 ^ 8 ∷ n / 2 ^ 8 % 2 ^ 8 ∷ n % 2 ^ 8 ∷ []

unfoldable pub field_bytes : Field → List ℕ
field_bytes fbool = field_bool ∷ []
field_bytes fint = field_int ∷ []
field_bytes own = field_own ∷ []
field_bytes (other t k) = field_other ∷ t ∷ k ∷ []

unfoldable pub plain_bytes : Plain → List ℕ
plain_bytes pbool = type_bool ∷ []
plain_bytes pint = type_int ∷ []
plain_bytes (pnamed t) = type_named ∷ t ∷ []

unfoldable pub declared_bytes : Ty → List ℕ
declared_bytes tbool = type_bool ∷ []
declared_bytes tint = type_int ∷ []
declared_bytes (tnamed t k) = type_named ∷ t ∷ k ∷ []

unfoldable pub size_bytes : Size → List ℕ
size_bytes (lit k) = size_number ∷ k ∷ []
size_bytes (svar i) = size_variable ∷ i ∷ []
size_bytes (plus a b) = size_sum ∷ size_bytes a ++ size_bytes b
size_bytes (minus a b) = size_difference ∷ size_bytes a ++ size_bytes b

unfoldable pub result_bytes : ResultType → List ℕ
result_bytes rbool = type_bool ∷ []
result_bytes rint = type_int ∷ []
result_bytes (rnamed t s) = type_named ∷ t ∷ size_bytes s

abbrev pub op_code : Op → ℕ
op_code oadd = operator_plus
op_code osub = operator_minus
op_code omul = operator_times
op_code oeq = operator_equal
op_code olt = operator_less
op_code ole = operator_at_most
op_code oand = operator_and
op_code oor = operator_or

unfoldable mutual
  pub expr_bytes : Expr → List ℕ
  expr_bytes (ebool b) = expr_bool ∷ bit b ∷ []
  expr_bytes (eint n) = expr_int ∷ int_bytes n
  expr_bytes (evar v) = expr_variable ∷ v ∷ []
  expr_bytes (enow c) = expr_now ∷ c ∷ []
  expr_bytes (elast c) = expr_last ∷ c ∷ []
  expr_bytes (elet a b) = expr_let ∷ expr_bytes a ++ expr_bytes b
  expr_bytes (eif a b d) = expr_if ∷ expr_bytes a ++ (expr_bytes b ++ expr_bytes d)
  expr_bytes (eop o a b) = expr_operator ∷ op_code o ∷ expr_bytes a ++ expr_bytes b
  expr_bytes (ecall f es) = expr_call ∷ f ∷ exprs_bytes es
  expr_bytes (econ t c es) = expr_construct ∷ t ∷ c ∷ exprs_bytes es
  expr_bytes (ecase t e r bs) = expr_case ∷ t ∷ expr_bytes e ++ (result_bytes r ++ exprs_bytes bs)
  expr_bytes (eadj s e) = expr_adjust ∷ size_bytes s ++ expr_bytes e
  expr_bytes (efit k a b d) = expr_fit ∷ k ∷ expr_bytes a ++ (expr_bytes b ++ expr_bytes d)

  pub exprs_bytes : Exprs → List ℕ
  exprs_bytes enil = []
  exprs_bytes (econs e es) = expr_bytes e ++ exprs_bytes es

abbrev pub relation_code : Relation → ℕ
relation_code req = relation_equal
relation_code rlt = relation_less
relation_code rle = relation_at_most

unfoldable pub condition_bytes : Condition → List ℕ
condition_bytes c = relation_code c.rel ∷ size_bytes c.left ++ size_bytes c.right

-- ---- frames: a count stands before each list
unfoldable pub constructor_bytes : Constructor → List ℕ
constructor_bytes fs = length fs ∷ spell_all field_bytes fs

unfoldable pub type_bytes : TypeDef → List ℕ
type_bytes cs = length cs ∷ spell_all constructor_bytes cs

unfoldable pub function_bytes : Function → List ℕ
function_bytes F = length F.parameters ∷ spell_all plain_bytes F.parameters ++ (result_bytes F.result
    ++ (length F.conditions ∷ spell_all condition_bytes F.conditions ++ (length F.measure ∷ F.measure ++ expr_bytes F.body)))

unfoldable pub input_bytes : Input → List ℕ
input_bytes i = declared_bytes i.declared ++ expr_bytes i.initial

unfoldable pub node_bytes : Node → List ℕ
node_bytes n = declared_bytes n.declared ++ (expr_bytes n.initial ++ expr_bytes n.update)

-- "Frames stand in the order types (01), functions (02), inputs (03), nodes (04)"
unfoldable pub file_frames : File → List (List ℕ)
file_frames P = map (λ d. kind_type ∷ type_bytes d) P.types ++ (map (λ F. kind_function ∷ function_bytes F) P.functions
    ++ (map (λ i. kind_input ∷ input_bytes i) P.inputs ++ map (λ n. kind_node ∷ node_bytes n) P.nodes))

-- ---- text: "Lines of upper-case hexadecimal pairs, one frame a line, each ended by LF (0A)"
unfoldable pub pick_digit : Bool → ℕ → ℕ
pick_digit true d = 0x30 + d
pick_digit false d = 0x37 + d

-- `0` to `9` are 30 to 39, `A` to `F` are 41 to 46
unfoldable pub digit_of : ℕ → ℕ
digit_of d = pick_digit (ltb d 10) d

unfoldable pub pair_of : ℕ → List ℕ
pair_of b = digit_of (b / digit_base) ∷ digit_of (b % digit_base) ∷ []

unfoldable pub line_text : List ℕ → List ℕ
line_text bs = spell_all pair_of bs ++ (line_feed ∷ [])

unfoldable pub file_text : File → List ℕ
file_text P = spell_all line_text (file_frames P)
