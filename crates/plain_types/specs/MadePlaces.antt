-- A place that a function made is the place that the laws name.
use Rattle.plain_types.specs.Agrees.{Typing}
use Rattle.std.specs.Prelude.{ℕ, List, ◌≡◌}
use Rattle.std.proofs.Common.{ap, subst}
use Rattle.plain_types.specs.declared.words.PlainType.{PlainType}
use Rattle.heads.specs.declared.places.Place.{Place}
use Rattle.plain_types.specs.declared.series.Series.{Series}
use Rattle.plain_types.specs.declared.series.BranchSeries.{BranchSeries}
use Rattle.plain_types.specs.Asks.{TypesExpr, TypesWant, TypesLet, TypesIf, TypesOp, TypesCall, TypesCon, TypesSeveral, TypesCase, TypesBranches, TypesAdj, TypesFit}

pub same-levels : {p q : Place} → p ≡ q → p.levels ≡ q.levels
same-levels e = ap (λ (r : Place). r.levels) e

pub same-variables : {p q : Place} → p ≡ q → p.variables ≡ q.variables
same-variables e = ap (λ (r : Place). r.variables) e

module _ {text index scope scope' : List ℕ} {p q : Place} {r : Typing} (e : p ≡ q) where
  pub at-expr : TypesExpr text index scope p r scope' → TypesExpr text index scope q r scope'
  at-expr v = subst (λ m. TypesExpr text index scope m r scope') e v

  pub at-want : {kind : PlainType} → TypesWant text index scope p kind r scope' → TypesWant text index scope q kind r scope'
  at-want {kind} v = subst (λ m. TypesWant text index scope m kind r scope') e v

  pub at-let : TypesLet text index scope p r scope' → TypesLet text index scope q r scope'
  at-let v = subst (λ m. TypesLet text index scope m r scope') e v

  pub at-if : TypesIf text index scope p r scope' → TypesIf text index scope q r scope'
  at-if v = subst (λ m. TypesIf text index scope m r scope') e v

  pub at_op : {code : ℕ} → TypesOp text index scope p code r scope' → TypesOp text index scope q code r scope'
  at_op {code} v = subst (λ m. TypesOp text index scope m code r scope') e v

  pub at_call : {f : ℕ} → TypesCall text index scope p f r scope' → TypesCall text index scope q f r scope'
  at_call {f} v = subst (λ m. TypesCall text index scope m f r scope') e v

  pub at-con : {t c : ℕ} → TypesCon text index scope p t c r scope' → TypesCon text index scope q t c r scope'
  at-con {t} {c} v = subst (λ m. TypesCon text index scope m t c r scope') e v

  pub at-several : {s : Series} → TypesSeveral text index scope p s r scope' → TypesSeveral text index scope q s r scope'
  at-several {s} v = subst (λ m. TypesSeveral text index scope m s r scope') e v

  pub at-case : {t : ℕ} → TypesCase text index scope p t r scope' → TypesCase text index scope q t r scope'
  at-case {t} v = subst (λ m. TypesCase text index scope m t r scope') e v

  pub at-branches : {s : BranchSeries} → TypesBranches text index scope p s r scope' → TypesBranches text index scope q s r scope'
  at-branches {s} v = subst (λ m. TypesBranches text index scope m s r scope') e v

  pub at-adj : TypesAdj text index scope p r scope' → TypesAdj text index scope q r scope'
  at-adj v = subst (λ m. TypesAdj text index scope m r scope') e v

  pub at-fit : TypesFit text index scope p r scope' → TypesFit text index scope q r scope'
  at-fit v = subst (λ m. TypesFit text index scope m r scope') e v
