-- The parts of each form: in which scopes they stand, and that they are spelled one after the other.
use Rattle.std.specs.Prelude.{ℕ, suc, ◌<◌, ◌≤◌, List, [], ◌++◌, true, ◌≡◌, refl, length, get_or, leb}
use Rattle.std.proofs.Common.{append_assoc, sym, ap, ◌∙◌, arith, leb-true}
use Rattle.language.specs.Limits.{types_most, variables_most, size_variables_most, nesting_most}
use Rattle.language.specs.Syntax.{Constructor, Size, ResultType, Op, Expr, elet, eif, eop, ecall, econ, ecase, eadj, efit, Exprs, enil, econs}
use Rattle.language.specs.Format.{expr_bytes, exprs_bytes}
use Rattle.language.specs.Scope.{Scope, wider, room_in}
use Rattle.language.specs.Within.{WithinSize, w_lit, w_svar, w_plus, w_minus, WithinResult, w_rbool, w_rint, w_rnamed, WithinExpr, w_let, w_if, w_op, w_call, w_con, w_case, w_adj, w_fit}
use Rattle.language.specs.Within.{WithinExprs, ws_nil, ws_cons, WithinBranches, wb_nil, wb_cons}
use Rattle.text.specs.Places.{bytes_from, past, IsPlace, past-none, past-append}
use Rattle.theory.specs.Lists.{both_right}
use Rattle.encoding.specs.Spells.{Spells, spells-within, rest-behind}
use Rattle.heads.specs.Skips.{Shapes, Skippable, no_more, one_more}

-- ---- scopes: a wider one has the same types and arities
shapes-wider : {types functions : List ℕ} {S : Scope} (v z : ℕ) → Shapes types functions S → Shapes types functions (wider v z S)
unfolding wider
shapes-wider v z h = record { each = h.each; arities = h.arities; few = h.few; few_types = h.few_types }

-- ---- lists and branches
exprs-skippable : {types functions : List ℕ} {levels m : ℕ} {S : Scope} {es : Exprs} → Shapes types functions S → WithinExprs levels S m es → Skippable types functions levels m es
exprs-skippable h ws_nil = no_more
exprs-skippable h (ws_cons w ws) = one_more h w (exprs-skippable h ws)

branches-skippable : {types functions : List ℕ} {levels : ℕ} {S : Scope} {cs : List Constructor} {bs : Exprs} → Shapes types functions S → WithinBranches levels S cs bs → Skippable types functions levels (length cs) bs
branches-skippable h wb_nil = no_more
branches-skippable h (wb_cons w ws) = one_more (shapes-wider _ _ h) w (branches-skippable h ws)

-- ---- sizes and result types: in a wider scope they are within the limits too
pub size-wider : {vars most n : ℕ} {s : Size} → vars ≤ most → WithinSize vars n s → WithinSize most n s
size-wider le (w_lit b) = w_lit b
size-wider le (w_svar {i} l) = w_svar {i = i} (omega (arith, le, l))
size-wider le (w_plus a b) = w_plus (size-wider le a) (size-wider le b)
size-wider le (w_minus a b) = w_minus (size-wider le a) (size-wider le b)

result-wider : {types most vars wide : ℕ} {r : ResultType} → types ≤ most → vars ≤ wide → WithinResult types vars r → WithinResult most wide r
result-wider le on w_rbool = w_rbool
result-wider le on w_rint = w_rint
result-wider le on (w_rnamed {t} l s) = w_rnamed {t = t} (omega (arith, le, l)) (size-wider on s)

room-sizes : (S : Scope) → room_in S ≡ true → S.sizes ≤ size_variables_most
unfolding room_in
room-sizes S e = leb-true S.sizes size_variables_most (both_right (leb S.variables variables_most) (leb S.sizes size_variables_most) e)

-- ---- the parts of a form within the limits
module _ {types functions : List ℕ} {levels : ℕ} {S : Scope} (h : Shapes types functions S) where
  pub let-parts : {a b : Expr} → WithinExpr (suc levels) S (elet a b) → Skippable types functions levels 2 (econs a (econs b enil))
  let-parts (w_let room a b) = one_more h a (one_more (shapes-wider 1 0 h) b no_more)

  pub if-parts : {a b d : Expr} → WithinExpr (suc levels) S (eif a b d) → Skippable types functions levels 3 (econs a (econs b (econs d enil)))
  if-parts (w_if room a b d) = one_more h a (one_more h b (one_more h d no_more))

  pub op-parts : {o : Op} {a b : Expr} → WithinExpr (suc levels) S (eop o a b) → Skippable types functions levels 2 (econs a (econs b enil))
  op-parts (w_op room a b) = one_more h a (one_more h b no_more)

  pub fit_parts : {k : ℕ} {a b d : Expr} → WithinExpr (suc levels) S (efit k a b d) → Skippable types functions levels 3 (econs a (econs b (econs d enil)))
  fit_parts (w_fit room k a b d) = one_more h a (one_more (shapes-wider 1 0 h) b (one_more h d no_more))

  pub call-parts : {f : ℕ} {es : Exprs} → WithinExpr (suc levels) S (ecall f es) → (f < length S.arities) × Skippable types functions levels (get_or S.arities f 0) es
  call-parts (w_call room l ws) = (l, exprs-skippable h ws)

  pub con-parts : {t k : ℕ} {es : Exprs} → WithinExpr (suc levels) S (econ t k es) →
      (t < length S.types) × ((k < length (get_or S.types t [])) × Skippable types functions levels (length (get_or (get_or S.types t []) k [])) es)
  con-parts (w_con room l m ws) = (l, (m, exprs-skippable h ws))

  pub adj-parts : {s : Size} {e : Expr} → WithinExpr (suc levels) S (eadj s e) → WithinSize size_variables_most nesting_most s × Skippable types functions levels 1 (econs e enil)
  adj-parts (w_adj room s e) = (size-wider (room-sizes S room) s, one_more h e no_more)

  pub case-type : {t : ℕ} {e : Expr} {r : ResultType} {bs : Exprs} → WithinExpr (suc levels) S (ecase t e r bs) → t < length S.types
  case-type (w_case room l e r bs) = l

  pub case-subject : {t : ℕ} {e : Expr} {r : ResultType} {bs : Exprs} → WithinExpr (suc levels) S (ecase t e r bs) → WithinExpr levels S e
  case-subject (w_case room l e r bs) = e

  pub case-result : {t : ℕ} {e : Expr} {r : ResultType} {bs : Exprs} → WithinExpr (suc levels) S (ecase t e r bs) → WithinResult types_most size_variables_most r
  case-result (w_case room l e r bs) = result-wider h.few_types (room-sizes S room) r

  pub case-branches : {t : ℕ} {e : Expr} {r : ResultType} {bs : Exprs} → WithinExpr (suc levels) S (ecase t e r bs) → Skippable types functions levels (length (get_or S.types t [])) bs
  case-branches (w_case room l e r bs) = branches-skippable h bs

-- ---- a list is spelled where its first is and then the others are
pub list-none : {line : List ℕ} {at : ℕ} → IsPlace line at → Spells exprs_bytes line at enil
unfolding exprs_bytes
list-none {line} {at} le = record { rest = bytes_from line at; is = refl; within = le }

pub list-more : {line : List ℕ} {at : ℕ} {e : Expr} {es : Exprs} → Spells expr_bytes line at e → Spells exprs_bytes line (past line at (length (expr_bytes e))) es → Spells exprs_bytes line at (econs e es)
unfolding exprs_bytes
list-more {line} {at} {e} {es} s t = record {
  rest = t.rest;
  is = s.is ∙ ap (λ (l : List ℕ). expr_bytes e ++ l) (sym (rest-behind s) ∙ t.is) ∙ sym (append_assoc (expr_bytes e) (exprs_bytes es) t.rest);
  within = s.within;
}

pub list-one : {line : List ℕ} {at : ℕ} {e : Expr} → Spells expr_bytes line at e → Spells exprs_bytes line at (econs e enil)
list-one s = list-more s (list-none (spells-within s))

-- where it ends
pub none-ends : (line : List ℕ) (at : ℕ) → past line at (length (exprs_bytes enil)) ≡ at
unfolding exprs_bytes
none-ends line at = past-none line at

pub more-ends : (line : List ℕ) (at : ℕ) (e : Expr) (es : Exprs) → past line at (length (exprs_bytes (econs e es))) ≡ past line (past line at (length (expr_bytes e))) (length (exprs_bytes es))
unfolding exprs_bytes
more-ends line at e es = past-append line at (expr_bytes e) (exprs_bytes es)

pub one-ends : (line : List ℕ) (at : ℕ) (e : Expr) → past line at (length (exprs_bytes (econs e enil))) ≡ past line at (length (expr_bytes e))
one-ends line at e = more-ends line at e enil ∙ none-ends line (past line at (length (expr_bytes e)))
