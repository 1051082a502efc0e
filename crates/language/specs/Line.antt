-- "An input line is one line as above, without the nesting limit: `05` and one value an input (`10`, `11`, `19`) of its type, no
-- size above the declaration or a field's k." It gives a tree for each input, or nothing: refusal 19.
use Rattle.std.specs.Prelude.{ℕ, zero, suc, List, [], ◌∷◌, map, Bool, true, false, length, eqb}
use Rattle.std.proofs.Math.Option.{Option, none, some}
use Rattle.language.specs.Result.{both, when, chain}
use Rattle.language.specs.Refusals.{bad_input_line}
use Rattle.language.specs.Codes.{kind_input_line, expr_first, bool_first}
use Rattle.language.specs.Syntax.{Ty, Input, File, constructors_of, fields_of}
use Rattle.language.specs.Heap.{kbool, kint, Tree, vleaf, vcon, Trees, vnil, vcons}
use Rattle.language.specs.Values.{fits}
use Rattle.language.specs.Parser.{Read, got, bad, Parser, ◌>>=◌, return, refuse, index, code, many}
use Rattle.language.specs.ReadExpr.{Form, bool_form, int_form, var_form, now_form, last_form, let_form, if_form, op_form, call_form, con_form, case_form, adj_form, fit_form, forms, bools, int}
use Rattle.language.specs.Text.{lines_of, line_bytes}

unfoldable pub value_trees : Parser Tree → ℕ → Parser Trees
value_trees p zero = return vnil
value_trees p (suc n) = do
  v ← p
  vs ← value_trees p n
  return (vcons v vs)

-- what stands behind the code of a value; inner reads a field
unfoldable pub value_behind : File → Parser Tree → Form → Parser Tree
value_behind P inner bool_form = do
  b ← code bool_first bools
  return (vleaf (kbool b))
value_behind P inner int_form = do
  n ← int
  return (vleaf (kint n))
value_behind P inner con_form = do
  t ← index (length P.types)
  c ← index (length (constructors_of P t))
  vs ← value_trees inner (length (fields_of P t c))
  return (vcon t c vs)
value_behind P inner var_form = refuse bad_input_line
value_behind P inner now_form = refuse bad_input_line
value_behind P inner last_form = refuse bad_input_line
value_behind P inner let_form = refuse bad_input_line
value_behind P inner if_form = refuse bad_input_line
value_behind P inner op_form = refuse bad_input_line
value_behind P inner call_form = refuse bad_input_line
value_behind P inner case_form = refuse bad_input_line
value_behind P inner adj_form = refuse bad_input_line
value_behind P inner fit_form = refuse bad_input_line

-- a value that takes at most n bytes
unfoldable pub value_at : ℕ → File → Parser Tree
value_at zero P = refuse bad_input_line
value_at (suc n) P = do
  form ← code expr_first forms
  value_behind P (value_at n P) form

-- values for the inputs, and no byte more
unfoldable pub all_read_of : Read (List Tree) → Option (List Tree)
all_read_of (got vs []) = some vs
all_read_of (got vs (b ∷ bs)) = none
all_read_of (bad n) = none

unfoldable pub input_trees : File → List ℕ → Option (List Tree)
input_trees P [] = none
input_trees P (k ∷ bs) = chain (when (eqb k kind_input_line) bs) (λ cs. all_read_of (many (value_at (length cs) P) (length P.inputs) cs))

unfoldable pub trees_fit : File → List Tree → List Ty → Bool
trees_fit P [] [] = true
trees_fit P [] (τ ∷ τs) = false
trees_fit P (v ∷ vs) [] = false
trees_fit P (v ∷ vs) (τ ∷ τs) = both (fits P v τ) (trees_fit P vs τs)

-- exactly one line with its LF
unfoldable pub one_line_of : List (List ℕ) → List ℕ → Option (List ℕ)
one_line_of [] rest = none
one_line_of (l ∷ []) [] = some l
one_line_of (l ∷ []) (c ∷ rest) = none
one_line_of (l ∷ m ∷ ls) rest = none

unfoldable pub line_trees : File → List ℕ → Option (List Tree)
line_trees P line = chain (one_line_of (lines_of line).ended (lines_of line).rest) (λ l. chain (line_bytes l) (λ bs. chain (input_trees P bs) (λ vs.
    when (trees_fit P vs (map (λ (i : Input). i.declared) P.inputs)) vs)))
