-- An expression in two steps, its head and its parts: what is read up to those parts that stand in the scope of the form itself, and
-- how many of them follow. Read so, an expression is what `language` reads (PartsLaws).
use Rattle.std.specs.Prelude.{ℕ, zero, suc, ◌-◌, List, [], false, length, get_or}
use Rattle.language.specs.Syntax.{Expr}
use Rattle.language.specs.Scope.{Scope, room_in}
use Rattle.language.specs.Parser.{Parser, ◌>>=◌, return, refuse, index, code, code_in}
use Rattle.language.specs.ReadExpr.{Form, bool_form, int_form, var_form, now_form, last_form, let_form, if_form, op_form, call_form, con_form, case_form, adj_form, fit_form, forms, ops, size, exprs, expr_behind, expr_at}

-- a form of which no part is left over
unfoldable pub whole : (Scope → Parser Expr) → Scope → Form → Parser ℕ
whole inner S form = do
  e ← expr_behind inner S form
  return 0

-- what stands behind the code of a form, up to its parts: how many they are
unfoldable pub parts : (Scope → Parser Expr) → Scope → Form → Parser ℕ
parts inner S bool_form = whole inner S bool_form
parts inner S int_form = whole inner S int_form
parts inner S var_form = whole inner S var_form
parts inner S now_form = whole inner S now_form
parts inner S last_form = whole inner S last_form
parts inner S let_form = whole inner S let_form
parts inner S if_form = return 3
parts inner S op_form = do
  o ← code 0x00 ops
  return 2
parts inner S call_form = do
  f ← index (length S.arities)
  return (get_or S.arities f 0)
parts inner S con_form = do
  t ← index (length S.types)
  c ← index (length (get_or S.types t []))
  return (length (get_or (get_or S.types t []) c []))
parts inner S case_form = whole inner S case_form
parts inner S adj_form = do
  z ← size S.sizes
  return 1
parts inner S fit_form = whole inner S fit_form

-- the head of an expression with so many levels left
unfoldable pub head_at_of : ℕ → Scope → Parser ℕ
head_at_of zero S = do
  form ← code_in false 0x10 forms
  refuse 7
head_at_of (suc n) S = do
  form ← code_in (room_in S) 0x10 forms
  parts (expr_at n) S form

-- what waits further out, where so many forms are open: at each depth so many expressions
unfoldable pub waits : ℕ → Scope → List ℕ → ℕ → Parser (Unit {0})
waits levels S W zero = return tt
waits levels S W (suc k) = do
  es ← exprs (expr_at (levels - k) S) (get_or W k 0)
  waits levels S W k

-- what remains: so many expressions at this depth, and then what waits
unfoldable pub remaining : ℕ → Scope → ℕ → List ℕ → ℕ → Parser (Unit {0})
remaining levels S left W depth = do
  es ← exprs (expr_at (levels - depth) S) left
  waits levels S W depth
