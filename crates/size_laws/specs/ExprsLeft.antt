-- Arguments and fields that are still to be checked: none is left, or a first one and others behind it.
use Rattle.std.specs.Prelude.{ℕ, suc, List, ◌≡◌, refl, length}
use Rattle.std.proofs.Common.{sym, ap, ◌∙◌, subst, arith}
use Rattle.language.specs.Syntax.{Expr, Exprs, enil, econs}
use Rattle.language.specs.Format.{expr_bytes, exprs_bytes}
use Rattle.language.specs.Scope.{Scope}
use Rattle.language.specs.Within.{WithinExpr, WithinExprs, ws_nil, ws_cons}
use Rattle.text.specs.Places.{past}
use Rattle.encoding.specs.Spells.{Spells}
use Rattle.encoding.specs.ExprLists.{first-of-exprs}
use Rattle.size_steps.specs.declared.Site.{Site}
use Rattle.size_laws.specs.Promises.{ExprsPart}

-- ---- none are left, or a first one and others
pub none_within : {n m : ℕ} {S : Scope} {es : Exprs} → WithinExprs n S m es → m ≡ 0 → es ≡ enil
none_within ws_nil z = refl
none_within (ws_cons w ws) z = absurd (omega (arith, z))

pub record MoreWithin (n k : ℕ) (S : Scope) (es : Exprs) : Type 0 where
  pub first : Expr
  pub others : Exprs
  pub is : es ≡ econs first others
  pub within : WithinExpr n S first
  pub withins : WithinExprs n S k others

pub more_within : {n m k : ℕ} {S : Scope} {es : Exprs} → WithinExprs n S m es → m ≡ suc k → MoreWithin n k S es
more_within ws_nil z = absurd (omega (arith, z))
more_within {n} {k} {S} (ws_cons {m} {e} {es} w ws) z = record { first = e; others = es; is = refl; within = w; withins = subst (λ j. WithinExprs n S j es) (omega (arith, z)) ws }

-- a first part and the others behind it
pub record MorePart (line : List ℕ) (p : Site) (S : Scope) (k end : ℕ) (es : Exprs) : Type 0 where
  pub of : MoreWithin p.place.levels k S es
  pub spelled : Spells expr_bytes line p.place.at.at of.first
  pub next : Spells exprs_bytes line (past line p.place.at.at (length (expr_bytes of.first))) of.others
  pub ends : end ≡ past line (past line p.place.at.at (length (expr_bytes of.first))) (length (exprs_bytes of.others))

pub more-part : {line : List ℕ} {p : Site} {S : Scope} {m k end : ℕ} {es : Exprs} → ExprsPart line p S m end es → m ≡ suc k → MorePart line p S k end es
unfolding exprs_bytes
more-part {line} {p} {end} part z =
    let w = more_within part.within z in
    let s = first-of-exprs (subst (Spells exprs_bytes line p.place.at.at) w.is part.spelled) in
    record { of = w; spelled = s.spelled; next = s.next; ends = part.ends ∙ ap (λ (l : Exprs). past line p.place.at.at (length (exprs_bytes l))) w.is ∙ s.ends }

pub exprs-at : {line : List ℕ} {S : Scope} {m : ℕ} {es : Exprs} (p : Site) {at n : ℕ} → Spells exprs_bytes line at es → WithinExprs n S m es → p.place.at.at ≡ at → p.place.levels ≡ n → ExprsPart line p S m (past line at (length (exprs_bytes es))) es
exprs-at {line} {es = es} p s w here levels = record { spelled = rw here s; within = rw levels w; ends = ap (λ (i : ℕ). past line i (length (exprs_bytes es))) (sym here) }
