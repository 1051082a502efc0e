-- The expressions that end an expression, form by form: where the first of them starts, and how many they are.
use Rattle.std.specs.Prelude.{ℕ, suc, List, [], ◌≡◌, refl, length, get_or}
use Rattle.std.proofs.Common.{sym, ap, ◌∙◌, subst, arith}
use Rattle.language.specs.Limits.{types_most, size_variables_most, nesting_most}
use Rattle.language.specs.Syntax.{Expr, ebool, eint, evar, enow, elast, elet, eif, eop, ecall, econ, ecase, eadj, efit, Exprs, enil, econs}
use Rattle.language.specs.Format.{expr_bytes, exprs_bytes, size_bytes, result_bytes}
use Rattle.language.specs.Scope.{Scope}
use Rattle.language.specs.Within.{WithinSize, WithinResult, WithinExpr}
use Rattle.text.specs.declared.Cursor.{Cursor}
use Rattle.text.specs.Places.{past}
use Rattle.encoding.specs.Spells.{Spells, spells-within}
use Rattle.heads.specs.declared.Form.{Form}
use Rattle.heads.specs.declared.Form.TheVariants.{Bool as BoolForm, Int, Variable, Now, Last, Let, If, Operator, Call, Construct, Case, Adjust, Fit, Missing}
use Rattle.heads.specs.declared.Head.{Head}
use Rattle.heads.specs.Heads.{Heads, shown}
use Rattle.heads.specs.HeadForms.{no-missing, bool-head, int-head, var-head, channel-head, now_named, last_named, let-head, if-head, op-head, call-head, con-head, case-head, adj-head, fit-head}
use Rattle.heads.specs.Skips.{Shapes, Skippable, no_more, Skips, Over, parts_of}
use Rattle.heads.specs.PartLaws.{let-parts, if-parts, op-parts, fit_parts, call-parts, con-parts, adj-parts, case-type, case-subject, case-result, case-branches, list-none, list-more, list-one, none-ends, more-ends, one-ends}

-- the expressions that end an expression, and where the first of them starts
abbrev pub last_parts : Expr → Exprs
last_parts (ebool b) = enil
last_parts (eint n) = enil
last_parts (evar v) = enil
last_parts (enow c) = enil
last_parts (elast c) = enil
last_parts (elet a b) = econs a (econs b enil)
last_parts (eif a b d) = econs a (econs b (econs d enil))
last_parts (eop o a b) = econs a (econs b enil)
last_parts (ecall f es) = es
last_parts (econ t c es) = es
last_parts (ecase t e r bs) = bs
last_parts (eadj k e) = econs e enil
last_parts (efit k a b d) = econs a (econs b (econs d enil))

abbrev pub parts_place : List ℕ → ℕ → Expr → ℕ
parts_place line at (ebool b) = past line at (length (expr_bytes (ebool b)))
parts_place line at (eint n) = past line at (length (expr_bytes (eint n)))
parts_place line at (evar v) = past line at (length (expr_bytes (evar v)))
parts_place line at (enow c) = past line at (length (expr_bytes (enow c)))
parts_place line at (elast c) = past line at (length (expr_bytes (elast c)))
parts_place line at (elet a b) = past line at 1
parts_place line at (eif a b d) = past line at 1
parts_place line at (eop o a b) = past line at 2
parts_place line at (ecall f es) = past line at 2
parts_place line at (econ t c es) = past line at 3
parts_place line at (ecase t e r bs) = past line (past line (past line at 2) (length (expr_bytes e))) (length (result_bytes r))
parts_place line at (eadj k e) = past line (past line at 1) (length (size_bytes k))
parts_place line at (efit k a b d) = past line at 2

-- the expression at a place ends with its parts: count expressions from next on
pub record Parted (line types functions : List ℕ) (at levels : ℕ) (e : Expr) (next count : ℕ) : Type 0 where
  pub parts : Exprs
  pub are : parts ≡ last_parts e
  pub starts : next ≡ parts_place line at e
  pub skippable : Skippable types functions levels count parts
  pub spelled : Spells exprs_bytes line next parts
  pub long : past line at (length (expr_bytes e)) ≡ past line next (length (exprs_bytes parts))

two-end : (line : List ℕ) (at : ℕ) (a b : Expr) → past line at (length (exprs_bytes (econs a (econs b enil)))) ≡ past line (past line at (length (expr_bytes a))) (length (expr_bytes b))
two-end line at a b = more-ends line at a (econs b enil) ∙ one-ends line (past line at (length (expr_bytes a))) b

-- ---- from the parts themselves
module _ {line types functions : List ℕ} {at levels next : ℕ} {e : Expr} where
  none-parted : {leaf : Expr} → e ≡ leaf → last_parts leaf ≡ enil → parts_place line at leaf ≡ past line at (length (expr_bytes leaf)) → next ≡ past line at (length (expr_bytes e)) → Spells expr_bytes line at e →
      Parted line types functions at levels e next 0
  none-parted is none place q s = record {
    parts = enil;
    are = sym (ap last_parts is ∙ none);
    starts = q ∙ ap (λ (a : Expr). past line at (length (expr_bytes a))) is ∙ sym (ap (parts_place line at) is ∙ place);
    skippable = no_more;
    spelled = list-none (rw q (spells-within s));
    long = sym q ∙ sym (none-ends line next);
  }

  module _ {whole : Expr} (is : e ≡ whole) (place : next ≡ parts_place line at whole) where
    list-parted : {es : Exprs} {n : ℕ} → es ≡ last_parts whole → Spells exprs_bytes line next es → past line at (length (expr_bytes whole)) ≡ past line next (length (exprs_bytes es)) → Skippable types functions levels n es → Parted line types functions at levels e next n
    list-parted {es} are s long w = record {
      parts = es;
      are = are ∙ sym (ap last_parts is);
      starts = place ∙ sym (ap (parts_place line at) is);
      skippable = w;
      spelled = s;
      long = ap (λ (a : Expr). past line at (length (expr_bytes a))) is ∙ long;
    }

    one-parted : {a : Expr} → econs a enil ≡ last_parts whole → Spells expr_bytes line next a → past line at (length (expr_bytes whole)) ≡ past line next (length (expr_bytes a)) → Skippable types functions levels 1 (econs a enil) → Parted line types functions at levels e next 1
    one-parted {a} are s long w = list-parted are (list-one s) (long ∙ sym (one-ends line next a)) w

    two-parted : {a b : Expr} → econs a (econs b enil) ≡ last_parts whole → Spells expr_bytes line next a → Spells expr_bytes line (past line next (length (expr_bytes a))) b → past line at (length (expr_bytes whole)) ≡ past line (past line next (length (expr_bytes a))) (length (expr_bytes b)) →
        Skippable types functions levels 2 (econs a (econs b enil)) → Parted line types functions at levels e next 2
    two-parted {a} {b} are s t long w = list-parted are (list-more s (list-one t)) (long ∙ sym (two-end line next a b)) w

    three-parted : {a b d : Expr} → econs a (econs b (econs d enil)) ≡ last_parts whole → Spells expr_bytes line next a → Spells expr_bytes line (past line next (length (expr_bytes a))) b → Spells expr_bytes line (past line (past line next (length (expr_bytes a))) (length (expr_bytes b))) d →
        past line at (length (expr_bytes whole)) ≡ past line (past line (past line next (length (expr_bytes a))) (length (expr_bytes b))) (length (expr_bytes d)) → Skippable types functions levels 3 (econs a (econs b (econs d enil))) → Parted line types functions at levels e next 3
    three-parted {a} {b} {d} are s t u long w =
        list-parted are (list-more s (list-more t (list-one u))) (long ∙ sym (more-ends line next a (econs b (econs d enil)) ∙ two-end line (past line next (length (expr_bytes a))) b d)) w

-- ---- from the form that was read
module _ {line types functions : List ℕ} {at levels : ℕ} {S : Scope} {e : Expr} {r : Head} (d : Heads line at r) (h : Shapes types functions S) (w : WithinExpr (suc levels) S e) (s : Spells expr_bytes line at e) where
  inside : {a : Expr} → e ≡ a → WithinExpr (suc levels) S a
  inside q = subst (WithinExpr (suc levels) S) q w

  call-parted : {f : ℕ} → r.form ≡ Call f → Parted line types functions at levels e r.next.at (parts_of types functions (Call f))
  call-parted {f} q =
      let i = call-head d s w q in
      let p = call-parts h (inside i.is) in
      let same : parts_of types functions (Call f) ≡ get_or S.arities f 0 = omega (arith, h.arities f p.0, h.few f p.0) in
      list-parted i.is (shown d q).0.ends refl i.spelled i.long (subst (λ m. Skippable types functions levels m i.list) (sym same) p.1)

  con-parted : {t k : ℕ} → r.form ≡ Construct t k → Parted line types functions at levels e r.next.at (parts_of types functions (Construct t k))
  con-parted {t} {k} q =
      let i = con-head d s w q in
      let p = con-parts h (inside i.is) in
      let told = h.each t p.0 in
      let same : parts_of types functions (Construct t k) ≡ length (get_or (get_or S.types t []) k []) = omega (arith, told.fields k p.1.0, told.few_fields k p.1.0) in
      list-parted i.is (shown d q).0.ends refl i.spelled i.long (subst (λ m. Skippable types functions levels m i.list) (sym same) p.1.1)

  -- the forms whose parts start at once
  pub parted : (f : Form) → r.form ≡ f → ((t : ℕ) → f ≡ Case t → ⊥) → (f ≡ Adjust → ⊥) → Parted line types functions at levels e r.next.at (parts_of types functions f)
  parted (BoolForm b) q c a = let i = bool-head d s w q in none-parted i.is refl refl i.ends s
  parted (Int n) q c a = let i = int-head d s w q in none-parted i.is refl refl i.ends s
  parted (Variable v) q c a = let i = var-head d s w q in none-parted i.is refl refl i.ends s
  parted (Now k) q c a = let i = channel-head d s w (now_named q) in none-parted i.is refl refl i.ends s
  parted (Last k) q c a = let i = channel-head d s w (last_named q) in none-parted i.is refl refl i.ends s
  parted Let q c a = let i = let-head d s w q in two-parted i.is (shown d q).ends refl i.spelled i.spelled₂ i.long (let-parts h (inside i.is))
  parted If q c a = let i = if-head d s w q in three-parted i.is (shown d q).ends refl i.spelled i.spelled₂ i.spelled₃ i.long (if-parts h (inside i.is))
  parted (Operator o) q c a = let i = op-head d s w q in two-parted i.is (shown d q).0.ends refl i.spelled i.spelled₂ i.long (op-parts h (inside i.is))
  parted (Call f) q c a = call-parted q
  parted (Construct t k) q c a = con-parted q
  parted (Case t) q c a = absurd (c t refl)
  parted Adjust q c a = absurd (a refl)
  parted (Fit k) q c a = let i = fit-head d s w q in three-parted i.is (shown d q).0.ends refl i.spelled i.spelled₂ i.spelled₃ i.long (fit_parts h (inside i.is))
  parted Missing q c a = absurd (no-missing d s q)

  -- behind the written size
  pub adj-parted : {first : Cursor} → r.form ≡ Adjust → Over size_bytes (WithinSize size_variables_most nesting_most) line r.next.at first → Parted line types functions at levels e first.at 1
  adj-parted {first} q o =
      let i = adj-head d s w q in
      let p = adj-parts h (inside i.is) in
      let place : first.at ≡ past line r.next.at (length (size_bytes i.size)) = o.says i.size p.0 i.spelled in
      one-parted i.is (place ∙ ap (λ (a : ℕ). past line a (length (size_bytes i.size))) (shown d q).ends) refl (subst (λ m. Spells expr_bytes line m i.first) (sym place) i.spelled₂) (i.long ∙ ap (λ (a : ℕ). past line a (length (expr_bytes i.first))) (sym place)) p.1

  -- behind the subject and the return type
  pub case-parted : {t : ℕ} {result first : Cursor} → r.form ≡ Case t → Skips line types functions r.next levels result → Over result_bytes (WithinResult types_most size_variables_most) line result.at first →
      Parted line types functions at levels e first.at (parts_of types functions (Case t))
  case-parted {t} {result} {first} q u o =
      let i = case-head d s w q in
      let within = inside i.is in
      let told = h.each t (case-type h within) in
      let same : parts_of types functions (Case t) ≡ length (get_or S.types t []) = omega (arith, told.constructors, told.few) in
      let subject : result.at ≡ past line r.next.at (length (expr_bytes i.first)) = u.says S i.first h (case-subject h within) i.spelled in
      let place : first.at ≡ past line result.at (length (result_bytes i.result)) = o.says i.result (case-result h within) (subst (λ m. Spells result_bytes line m i.result) (sym subject) i.spelled₂) in
      let start : first.at ≡ past line (past line r.next.at (length (expr_bytes i.first))) (length (result_bytes i.result)) = place ∙ ap (λ (a : ℕ). past line a (length (result_bytes i.result))) subject in
      list-parted i.is (start ∙ ap (λ (a : ℕ). past line (past line a (length (expr_bytes i.first))) (length (result_bytes i.result))) (shown d q).0.ends) refl (subst (λ m. Spells exprs_bytes line m i.branches) (sym start) i.spelled₃) (i.long ∙ ap (λ (a : ℕ). past line a (length (exprs_bytes i.branches))) (sym start)) (subst (λ m. Skippable types functions levels m i.branches) (sym same) (case-branches h within))
