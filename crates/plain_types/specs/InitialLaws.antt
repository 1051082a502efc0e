-- Initial values, return by return: the forms that document 01 allows, and every other one.
use Rattle.std.specs.Prelude.{Some, None}
use Rattle.language.specs.declared.refusals.Refusal.{Refusal}
use Rattle.std.specs.Prelude.{Ok, Err}
use Rattle.std.specs.Prelude.{ℕ, suc, ◌+◌, ◌-◌, ◌*◌, ◌%◌, ◌<◌, List, [], true, false, ◌≡◌, refl, length, get_or}
use Rattle.std.proofs.Math.Option.{Option}
use Rattle.std.proofs.Common.{sym, ◌∙◌, subst, arith}
use Rattle.std.proofs.Math.Path.{ap}
use Rattle.language.specs.Limits.{byte_range, size_variables_most, nesting_most}
use Rattle.language.specs.Result.{both, when}
use Rattle.language.specs.Syntax.{Plain, pbool, Size, Expr, econ, eadj, Exprs, enil, econs}
use Rattle.language.specs.Format.{size_bytes, expr_bytes, exprs_bytes}
use Rattle.language.specs.Scope.{Scope}
use Rattle.language.specs.Within.{WithinExpr, WithinExprs, ws_nil, ws_cons}
use Rattle.language.specs.ReadExpr.{size_at}
use Rattle.language.specs.PlainTypes.{is_initial, are_initial}
use Rattle.text.specs.declared.Cursor.{Cursor}
use Rattle.text.specs.Bytes.{Step, bytes_from, past, forget, Passes}
use Rattle.index.specs.Tables.{type_words, constructor_words}
use Rattle.encoding.specs.Spells.{Spells}
use Rattle.encoding.specs.ExprLists.{first-of-exprs}
use Rattle.heads.specs.SkipHeads.{count_same, next-at, next-there}
use Rattle.heads.specs.PartLaws.{none-ends, more-ends}
use Rattle.heads.specs.declared.Form.{Form}
use Rattle.heads.specs.declared.Form.TheVariants.{Bool as BoolForm, Int, Variable, Now, Last, Let, If, Operator, Call, Construct, Case, Adjust, Fit, Missing}
use Rattle.heads.specs.declared.Head.{Head}
use Rattle.heads.specs.Heads.{Heads}
use Rattle.heads.specs.HeadForms.{no-missing, bool-head, int-head, var-head, channel-head, now_named, last_named, let-head, if-head, op-head, call-head, con-head, case-head, adj-head, fit-head}
use Rattle.plain_types.specs.declared.words.PlainType.TheVariants.{Bool as BoolIs}
use Rattle.plain_types.specs.declared.words.Typed.{Typed}
use Rattle.plain_types.specs.Agrees.{Typing, Agrees, agrees-as, holds, fails, wrong, answered, when_true, when_false, both_first, both-not}
use Rattle.plain_types.specs.Initials.{TestsInitial, TestsInitials}
use Rattle.plain_types.specs.EnterLaws.{no-level, less-deep, room-sizes}
use Rattle.plain_types.specs.ReadLaws.{size-passed}

agrees_at : {r : Typing} {o : Option Plain} {m n : ℕ} → m ≡ n → Agrees r m o → Agrees r n o
agrees_at {r} {o} e a = subst (λ i. Agrees r i o) e a

-- ---- the definition's test, a form each
initial-con : (t c : ℕ) (es : Exprs) → is_initial (econ t c es) ≡ are_initial es
unfolding is_initial
initial-con t c es = refl

initial-adj : (s : Size) (e : Expr) → is_initial (eadj s e) ≡ is_initial e
unfolding is_initial
initial-adj s e = refl

initial-nil : are_initial enil ≡ true
unfolding are_initial
initial-nil = refl

initial-cons : (e : Expr) (es : Exprs) → are_initial (econs e es) ≡ both (is_initial e) (are_initial es)
unfolding are_initial
initial-cons e es = refl

module _ {line : List ℕ} {at n : ℕ} {h : Head} {S : Scope} {e : Expr} (heads : Heads line at h) (s : Spells expr_bytes line at e) (w : WithinExpr n S e) where
  not-initial : (f : Form) → h.form ≡ f → ((b : ℕ) → f ≡ BoolForm b → ⊥) → ((i : ℕ) → f ≡ Int i → ⊥) → ((t c : ℕ) → f ≡ Construct t c → ⊥) → (f ≡ Adjust → ⊥) → is_initial e ≡ false
  unfolding is_initial
  not-initial (BoolForm b) q no_bool no_int no_con no_adj = absurd (no_bool b refl)
  not-initial (Int i) q no_bool no_int no_con no_adj = absurd (no_int i refl)
  not-initial (Variable v) q no_bool no_int no_con no_adj = ap is_initial (var-head heads s w q).is
  not-initial (Now c) q no_bool no_int no_con no_adj = ap is_initial (channel-head heads s w (now_named q)).is
  not-initial (Last c) q no_bool no_int no_con no_adj = ap is_initial (channel-head heads s w (last_named q)).is
  not-initial Let q no_bool no_int no_con no_adj = ap is_initial (let-head heads s w q).is
  not-initial If q no_bool no_int no_con no_adj = ap is_initial (if-head heads s w q).is
  not-initial (Operator o) q no_bool no_int no_con no_adj = ap is_initial (op-head heads s w q).is
  not-initial (Call f) q no_bool no_int no_con no_adj = ap is_initial (call-head heads s w q).is
  not-initial (Construct t c) q no_bool no_int no_con no_adj = absurd (no_con t c refl)
  not-initial (Case t) q no_bool no_int no_con no_adj = ap is_initial (case-head heads s w q).is
  not-initial Adjust q no_bool no_int no_con no_adj = absurd (no_adj refl)
  not-initial (Fit k) q no_bool no_int no_con no_adj = ap is_initial (fit-head heads s w q).is
  not-initial Missing q no_bool no_int no_con no_adj = absurd (no-missing heads s q)

  bool-initial : {b : ℕ} → h.form ≡ BoolForm b → is_initial e ≡ true
  unfolding is_initial
  bool-initial q = ap is_initial (bool-head heads s w q).is

  int-initial : {i : ℕ} → h.form ≡ Int i → is_initial e ≡ true
  unfolding is_initial
  int-initial q = ap is_initial (int-head heads s w q).is

module _ (line types : List ℕ) (c : Cursor) (levels : ℕ) where
  pub initial-cut : {r : Typing} → levels ≡ 0 → TestsInitial line types c levels r
  initial-cut z = record { says = λ {S} {e} told w s. absurd (no-level (subst (λ m. WithinExpr m S e) z w)) }

  module _ {h : Head} (heads : Heads line c.at h) where
    pub initial-bool : {b : ℕ} {r : Typing} → h.form ≡ BoolForm b → r ≡ Some (record { of = BoolIs; next = h.next }) → TestsInitial line types c levels r
    initial-bool q e = record { says = λ told w s. answered e refl (bool-head heads s w q).ends (when_true pbool (bool-initial heads s w q)) }

    pub initial-int : {i : ℕ} {r : Typing} → h.form ≡ Int i → r ≡ Some (record { of = BoolIs; next = h.next }) → TestsInitial line types c levels r
    initial-int q e = record { says = λ told w s. answered e refl (int-head heads s w q).ends (when_true pbool (int-initial heads s w q)) }

    pub initial-other : ((b : ℕ) → h.form ≡ BoolForm b → ⊥) → ((i : ℕ) → h.form ≡ Int i → ⊥) → ((t k : ℕ) → h.form ≡ Construct t k → ⊥) → (h.form ≡ Adjust → ⊥) → TestsInitial line types c levels None
    initial-other no_bool no_int no_con no_adj = record { says = λ told w s. wrong (when_false pbool (not-initial heads s w h.form refl no_bool no_int no_con no_adj)) }

    pub initial-made : {t k n : ℕ} {r : Typing} → h.form ≡ Construct t k → (n ≡ get_or types (type_words * t + 1 + constructor_words * k) 0 % byte_range) × (n < byte_range) → TestsInitials line types h.next (levels - 1) n r → TestsInitial line types c levels r
    initial-made {t} {k} {n} {r} q count u = record {
      says = λ {S} {e} told w s.
          let i = con-head heads s w q in
          let tells = told t i.less in
          let same : n ≡ length (get_or (get_or S.types t []) k []) = count_same count (tells.fields k i.less₂) (omega (arith, tells.few_fields k i.less₂)) in
          agrees-as (ap (λ b. when b pbool) (ap is_initial i.is ∙ initial-con t k i.list))
          (agrees_at (sym (ap (λ (a : Expr). past line c.at (length (expr_bytes a))) i.is ∙ i.long))
          (u.says told (subst (λ m. WithinExprs (levels - 1) S m i.list) (sym same) (subst (λ m. WithinExprs m S (length (get_or (get_or S.types t []) k [])) i.list) (less-deep i.deep) i.within)) i.spelled));
    }

    module _ (q : h.form ≡ Adjust) {z : Step} (a : Passes line h.next.at z (forget (size_at nesting_most size_variables_most (bytes_from line h.next.at)))) where
      size-behind : {S : Scope} {e : Expr} (w : WithinExpr levels S e) (s : Spells expr_bytes line c.at e) → z ≡ Ok (record { at = past line h.next.at (length (size_bytes (adj-head heads s w q).size)) })
      size-behind {S} w s = let i = adj-head heads s w q in size-passed (room-sizes S i.room) i.within i.spelled a

      pub initial-stops : {m : Refusal} → z ≡ Err m → TestsInitial line types c levels None
      initial-stops e = record { says = λ told w s. absurd (next-there (size-behind w s) e) }

      pub initial-behind : {d : Cursor} {r : Typing} → z ≡ Ok d → TestsInitial line types d (levels - 1) r → TestsInitial line types c levels r
      initial-behind {d} {r} e u = record {
        says = λ {S} told w s.
            let i = adj-head heads s w q in
            let place = next-at (size-behind w s) e in
            agrees-as (ap (λ b. when b pbool) (ap is_initial i.is ∙ initial-adj i.size i.first))
            (agrees_at (ap (λ (m : ℕ). past line m (length (expr_bytes i.first))) place ∙ sym (ap (λ (a : Expr). past line c.at (length (expr_bytes a))) i.is ∙ i.long))
            (u.says told (subst (λ m. WithinExpr m S i.first) (less-deep i.deep) i.within₂) (subst (λ m. Spells expr_bytes line m i.first) (sym place) i.spelled₂)));
      }

-- ---- several
record More (levels : ℕ) (S : Scope) (n : ℕ) (es : Exprs) : Type 0 where
  first : Expr
  others : Exprs
  list : es ≡ econs first others
  within : WithinExpr levels S first
  withins : WithinExprs levels S (n - 1) others

more_of : {levels n : ℕ} {S : Scope} {es : Exprs} → WithinExprs levels S n es → (n ≡ 0 → ⊥) → More levels S n es
more_of ws_nil h = absurd (h refl)
more_of {levels} {S} (ws_cons {m} {e} {es} w ws) h = record { first = e; others = es; list = refl; within = w; withins = subst (λ i. WithinExprs levels S i es) (let q : m ≡ suc m - 1 = omega arith in q) ws }

none_of : {levels n : ℕ} {S : Scope} {es : Exprs} → WithinExprs levels S n es → n ≡ 0 → es ≡ enil
none_of ws_nil z = refl
none_of (ws_cons w ws) z = absurd (omega (arith, z))

module _ (line types : List ℕ) (c : Cursor) (levels : ℕ) {n : ℕ} where
  pub initials-none : {r : Typing} → n ≡ 0 → r ≡ Some (record { of = BoolIs; next = c }) → TestsInitials line types c levels n r
  initials-none z e = record {
    says = λ told w s.
        let none = none_of w z in
        answered e refl (sym (ap (λ (a : Exprs). past line c.at (length (exprs_bytes a))) none ∙ none-ends line c.at)) (when_true pbool (ap are_initial none ∙ initial-nil));
  }

  module _ (some_left : n ≡ 0 → ⊥) {x : Typing} (u : TestsInitial line types c levels x) where
    pub initials-wrong : x ≡ None → TestsInitials line types c levels n None
    initials-wrong d = record {
      says = λ {S} told w s.
          let m = more_of w some_left in
          let no = fails (is_initial m.first) pbool (u.says told m.within (first-of-exprs (subst (Spells exprs_bytes line c.at) m.list s)).spelled) d in
          wrong (when_false pbool (ap are_initial m.list ∙ initial-cons m.first m.others ∙ both-not (are_initial m.others) no));
    }

    pub initials-more : {k : Typed} {r : Typing} → x ≡ Some k → TestsInitials line types k.next levels (n - 1) r → TestsInitials line types c levels n r
    initials-more {k} d v = record {
      says = λ {S} told w s.
          let m = more_of w some_left in
          let two = first-of-exprs (subst (Spells exprs_bytes line c.at) m.list s) in
          let h = holds (is_initial m.first) pbool (u.says told m.within two.spelled) d in
          agrees-as (ap (λ b. when b pbool) (ap are_initial m.list ∙ initial-cons m.first m.others ∙ both_first h.is))
          (agrees_at (ap (λ (i : ℕ). past line i (length (exprs_bytes m.others))) h.place ∙ sym (ap (λ (a : Exprs). past line c.at (length (exprs_bytes a))) m.list ∙ more-ends line c.at m.first m.others))
          (v.says told m.withins (subst (λ i. Spells exprs_bytes line i m.others) (sym h.place) two.next)));
    }
