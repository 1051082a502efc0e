-- What is known of an expression whose head was read: its operands, where they stand and end, and the slots that wait for them.
use Rattle.std.specs.Prelude.{ℕ, ◌≤◌, ◌<◌, List, [], true, ◌≡◌}
use Rattle.std.proofs.Math.Path.{refl, sym, ap}
use Rattle.std.proofs.Common.{◌∙◌, subst, arith, le-leb}
use Rattle.std.proofs.Math.ListN.{length, get_or}
use Rattle.std.proofs.lemmas.Bool.{lt-leb}
use Rattle.language.specs.Codes.{operator_and}
use Rattle.language.specs.Result.{choose}
use Rattle.language.specs.Syntax.{Size, ResultType, Op, Expr, elet, eif, eop, ecall, econ, ecase, eadj, efit, Exprs, enil, econs, File}
use Rattle.language.specs.Format.{op_code, expr_bytes, size_bytes, result_bytes}
use Rattle.language.specs.Scope.{Scope}
use Rattle.language.specs.Within.{WithinExpr, ws_nil, ws_cons}
use Rattle.language.specs.Evaluator.{parameter_count}
use Rattle.theory.specs.Lists.{false-is-not-true}
use Rattle.text.specs.declared.Cursor.{Cursor}
use Rattle.theory.specs.Places.{below_or_not}
use Rattle.text.specs.Places.{past}
use Rattle.encoding.specs.Spells.{Spells}
use Rattle.encoding.specs.FrameLines.{line_at}
use Rattle.encoding.specs.Known.{Known}
use Rattle.heads.specs.declared.Form.{Form}
use Rattle.heads.specs.declared.Form.TheVariants.{Bool as BoolForm, Int, Variable, Now, Last, Let, If, Operator, Call, Construct, Case, Adjust, Fit, Missing}
use Rattle.heads.specs.Heads.{Heads, shown, has_parts}
use Rattle.heads.specs.HeadForms.{let-head, if-head, op-head, call-head, con-head, case-head, adj-head, fit-head}
use Rattle.heads.specs.PartLaws.{list-one, list-more}
use Rattle.heads.specs.ScopeShapes.{known-shapes}
use Rattle.index.specs.Sections.{frames_of, types_of, functions_of}
use Rattle.index.specs.Indexed.{frame_place, Indexed}
use Rattle.ends.specs.Ended.{EndAt, Ended, d_let, d_if, d_op, d_call, d_con, d_case, d_adj, d_fit, EndedAll, ds_nil, ds_cons}
use Rattle.ends.specs.EndOf.{end_of, end-told}
use Rattle.evaluation_steps.specs.Operands.{the_operands_of, reserved_for, Compound, c_let, c_if, c_op, c_call, c_con, c_case, c_adj, c_fit}
use Rattle.evaluation_steps.specs.Forms.{one_side, two-sides, operand_count, reserved_count, first_at}
use Rattle.evaluation_steps.specs.Promises.{Stands, StandsAll}

-- ---- the ends of the parts, form by form
pub record CaseEnded (ends : List ℕ) (from : ℕ) (line : List ℕ) (at : ℕ) (e : Expr) (r : ResultType) (bs : Exprs) : Type 0 where
  pub subject : EndedAll ends from line (past line at 2) (econs e enil)
  pub result : EndAt result_bytes ends from line (past line (past line at 2) (length (expr_bytes e))) r
  pub branches : EndedAll ends from line (past line (past line (past line at 2) (length (expr_bytes e))) (length (result_bytes r))) bs

pub record AdjEnded (ends : List ℕ) (from : ℕ) (line : List ℕ) (at : ℕ) (k : Size) (e : Expr) : Type 0 where
  pub size : EndAt size_bytes ends from line (past line at 1) k
  pub subject : EndedAll ends from line (past line (past line at 1) (length (size_bytes k))) (econs e enil)

module _ {ends : List ℕ} {from : ℕ} {line : List ℕ} {at : ℕ} where
  pub let-ended : {a b : Expr} → Ended ends from line at (elet a b) → EndedAll ends from line (past line at 1) (econs a (econs b enil))
  let-ended (d_let d) = d

  pub if-ended : {a b d : Expr} → Ended ends from line at (eif a b d) → EndedAll ends from line (past line at 1) (econs a (econs b (econs d enil)))
  if-ended (d_if d) = d

  pub op-ended : {o : Op} {a b : Expr} → Ended ends from line at (eop o a b) → EndedAll ends from line (past line at 2) (econs a (econs b enil))
  op-ended (d_op d) = d

  pub call-ended : {f : ℕ} {es : Exprs} → Ended ends from line at (ecall f es) → EndedAll ends from line (past line at 2) es
  call-ended (d_call d) = d

  pub con-ended : {t c : ℕ} {es : Exprs} → Ended ends from line at (econ t c es) → EndedAll ends from line (past line at 3) es
  con-ended (d_con d) = d

  pub fit-ended : {k : ℕ} {a b d : Expr} → Ended ends from line at (efit k a b d) → EndedAll ends from line (past line at 2) (econs a (econs b (econs d enil)))
  fit-ended (d_fit d) = d

  pub case-ended : {t : ℕ} {e : Expr} {r : ResultType} {bs : Exprs} → Ended ends from line at (ecase t e r bs) → CaseEnded ends from line at e r bs
  case-ended (d_case a b c) = record { subject = a; result = b; branches = c }

  pub adj-ended : {k : Size} {e : Expr} → Ended ends from line at (eadj k e) → AdjEnded ends from line at k e
  adj-ended (d_adj a b) = record { size = a; subject = b }

  -- ---- of a list: the first, and the others
  pub first_alone : {e : Expr} {es : Exprs} → EndedAll ends from line at (econs e es) → EndedAll ends from line at (econs e enil)
  first_alone (ds_cons a d ds) = ds_cons a d ds_nil

  pub first-end : {e : Expr} {es : Exprs} → EndedAll ends from line at (econs e es) → EndAt expr_bytes ends from line at e
  first-end (ds_cons a d ds) = a

  pub first_ended : {e : Expr} {es : Exprs} → EndedAll ends from line at (econs e es) → Ended ends from line at e
  first_ended (ds_cons a d ds) = d

  pub others-ended : {e : Expr} {es : Exprs} → EndedAll ends from line at (econs e es) → EndedAll ends from line (past line at (length (expr_bytes e))) es
  others-ended (ds_cons a d ds) = ds

-- ---- the operands of an operator
pub left_alone : (o : Op) (a b : Expr) → operator_and ≤ op_code o → the_operands_of (eop o a b) ≡ econs a enil
unfolding the_operands_of choose
left_alone o a b high = rw (le-leb operator_and (op_code o) high)

pub both-sides : (o : Op) (a b : Expr) → op_code o < operator_and → the_operands_of (eop o a b) ≡ econs a (econs b enil)
unfolding the_operands_of choose
both-sides o a b low = rw (lt-leb operator_and (op_code o) low)

-- ---- what is known of the operands
pub record Parts (text index ends : List ℕ) (line : ℕ) (P : File) (S : Scope) (form : Form) (next : ℕ) (e : Expr) : Type 0 where
  pub compound : Compound e
  pub reserved : reserved_for P e ≡ reserved_count (functions_of index) form
  pub stands : StandsAll text index ends line S (first_at ends (frame_place (frames_of index) line) form next) (operand_count (types_of index) (functions_of index) form) (the_operands_of e)

pub first-behind : (ends : List ℕ) (from : ℕ) (form : Form) (at : ℕ) → (form ≡ Adjust → ⊥) → first_at ends from form at ≡ at
first-behind ends from (BoolForm b) at other = refl
first-behind ends from (Int n) at other = refl
first-behind ends from (Variable v) at other = refl
first-behind ends from (Now c) at other = refl
first-behind ends from (Last c) at other = refl
first-behind ends from Let at other = refl
first-behind ends from If at other = refl
first-behind ends from (Operator o) at other = refl
first-behind ends from (Call f) at other = refl
first-behind ends from (Construct t c) at other = refl
first-behind ends from (Case t) at other = refl
first-behind ends from Adjust at other = absurd (other refl)
first-behind ends from (Fit k) at other = refl
first-behind ends from Missing at other = refl

-- the ends of a whole that is known
pub ended-as : {text index ends : List ℕ} {line at : ℕ} {S : Scope} {e : Expr} (whole : Expr) → Stands text index ends line S at e → e ≡ whole → Ended ends (frame_place (frames_of index) line) (line_at text line) at whole
ended-as {text} {index} {ends} {line} {at} whole s q = subst (Ended ends (frame_place (frames_of index) line) (line_at text line) at) q s.ended

pub ended_at : {ends : List ℕ} {from : ℕ} {line : List ℕ} {at m : ℕ} {es : Exprs} → at ≡ m → EndedAll ends from line m es → EndedAll ends from line at es
ended_at {ends} {from} {line} {es = es} q d = subst (λ m. EndedAll ends from line m es) (sym q) d

module _ {text index ends : List ℕ} {line : ℕ} {P : File} {S : Scope} (i : Indexed text index P) (k : Known P S) {at : ℕ} {next : Cursor} {e : Expr} (s : Stands text index ends line S at e) where
  -- one operand, behind the head
  one-part : {form : Form} {left : ℕ} {a whole : Expr} → e ≡ whole → Compound whole → reserved_for P whole ≡ reserved_count (functions_of index) form → the_operands_of whole ≡ econs a enil → operand_count (types_of index) (functions_of index) form ≡ 1 →
      WithinExpr left S a → Spells expr_bytes (line_at text line) (first_at ends (frame_place (frames_of index) line) form next.at) a →
      EndedAll ends (frame_place (frames_of index) line) (line_at text line) (first_at ends (frame_place (frames_of index) line) form next.at) (econs a enil) → Parts text index ends line P S form next.at e
  one-part is c r one count w sp d = rw is (record {
    compound = c;
    reserved = r;
    stands = rw (one, count) (record { levels = _; within = ws_cons w ws_nil; few = omega arith; spelled = list-one sp; ended = d });
  })

  pub parts-of : (form : Form) → has_parts form ≡ true → Heads (line_at text line) at (record { form = form; next = next }) → Parts text index ends line P S form next.at e
  unfolding the_operands_of reserved_for parameter_count
  parts-of (BoolForm b) parts h = false-is-not-true parts
  parts-of (Int n) parts h = false-is-not-true parts
  parts-of (Variable v) parts h = false-is-not-true parts
  parts-of (Now c) parts h = false-is-not-true parts
  parts-of (Last c) parts h = false-is-not-true parts
  parts-of Let parts h =
      let y = let-head h s.spelled s.within refl in
      one-part y.is c_let refl refl refl y.within y.spelled (ended_at (shown h refl).ends (first_alone (let-ended (ended-as _ s y.is))))
  parts-of If parts h =
      let y = if-head h s.spelled s.within refl in
      one-part y.is c_if refl refl refl y.within y.spelled (ended_at (shown h refl).ends (first_alone (if-ended (ended-as _ s y.is))))
  parts-of (Operator o) parts h =
      let y = op-head h s.spelled s.within refl in
      let ended = ended_at (shown h refl).0.ends (op-ended (ended-as _ s y.is)) in
      below_or_not o operator_and
      (λ low. rw y.is (record {
        compound = c_op;
        reserved = refl;
        stands = rw (two-sides o low, both-sides y.op y.first y.second (omega (arith, y.code))) (record {
          levels = y.left;
          within = ws_cons y.within (ws_cons y.within₂ ws_nil);
          few = omega arith;
          spelled = list-more y.spelled (list-one y.spelled₂);
          ended = ended;
        });
      }))
      (λ high. one-part y.is c_op refl (left_alone y.op _ _ (omega (arith, y.code))) (one_side o high) y.within y.spelled (first_alone ended))
  parts-of (Call f) parts h =
      let y = call-head h s.spelled s.within refl in
      let told = known-shapes i k in
      let takes = k.functions f y.less in
      let same : operand_count (types_of index) (functions_of index) (Call f) ≡ get_or S.arities f 0 = omega (arith, told.arities f y.less, told.few f y.less) in
      rw y.is (record {
        compound = c_call;
        reserved = ap parameter_count takes.is ∙ sym (same ∙ takes.arity);
        stands = rw same (record {
          levels = y.left;
          within = y.within;
          few = told.few f y.less;
          spelled = y.spelled;
          ended = ended_at (shown h refl).0.ends (call-ended (ended-as _ s y.is));
        });
      })
  parts-of (Construct t c) parts h =
      let y = con-head h s.spelled s.within refl in
      let told = (known-shapes i k).each t y.less in
      let same : operand_count (types_of index) (functions_of index) (Construct t c) ≡ length (get_or (get_or S.types t []) c []) = omega (arith, told.fields c y.less₂, told.few_fields c y.less₂) in
      rw y.is (record {
        compound = c_con;
        reserved = refl;
        stands = rw same (record {
          levels = y.left;
          within = y.within;
          few = omega (arith, told.few_fields c y.less₂);
          spelled = y.spelled;
          ended = ended_at (shown h refl).0.ends (con-ended (ended-as _ s y.is));
        });
      })
  parts-of (Case t) parts h =
      let y = case-head h s.spelled s.within refl in
      one-part y.is c_case refl refl refl y.within y.spelled (ended_at (shown h refl).0.ends (case-ended (ended-as _ s y.is)).subject)
  parts-of Adjust parts h =
      let y = adj-head h s.spelled s.within refl in
      let d = adj-ended (ended-as _ s y.is) in
      let start : next.at ≡ past (line_at text line) at 1 = (shown h refl).ends in
      let place : end_of ends (frame_place (frames_of index) line) next.at ≡ past (line_at text line) next.at (length (size_bytes y.size)) =
      ap (end_of ends (frame_place (frames_of index) line)) start ∙ end-told d.size ∙ ap (λ m. past (line_at text line) m (length (size_bytes y.size))) (sym start) in
      one-part {form = Adjust} y.is c_adj refl refl refl y.within₂ (subst (λ m. Spells expr_bytes (line_at text line) m y.first) (sym place) y.spelled₂)
      (ended_at (place ∙ ap (λ m. past (line_at text line) m (length (size_bytes y.size))) start) d.subject)
  parts-of (Fit n) parts h =
      let y = fit-head h s.spelled s.within refl in
      one-part y.is c_fit refl refl refl y.within y.spelled (ended_at (shown h refl).0.ends (first_alone (fit-ended (ended-as _ s y.is))))
  parts-of Missing parts h = false-is-not-true parts
