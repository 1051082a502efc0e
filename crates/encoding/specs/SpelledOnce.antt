-- What is spelled at a place is read there, so within given limits a place spells one thing.
use Rattle.std.specs.Prelude.{ℕ, List, ◌≡◌, refl, length}
use Rattle.std.proofs.Common.{sym, ap, ap₂, ◌∙◌}
use Rattle.language.specs.Limits.{nesting_most}
use Rattle.language.specs.Syntax.{Field, Constructor, Plain, Ty, Size, ResultType, Expr, Exprs, econs}
use Rattle.language.specs.Format.{field_bytes, plain_bytes, declared_bytes, size_bytes, result_bytes, expr_bytes, exprs_bytes}
use Rattle.language.specs.Scope.{Scope}
use Rattle.language.specs.Within.{WithinField, WithinPlain, WithinDeclared, WithinSize, WithinResult, WithinExpr, WithinExprs, ws_nil, ws_cons, WithinBranches, wb_nil, wb_cons}
use Rattle.language.specs.Parser.{got, Parser}
use Rattle.text.specs.Bytes.{bytes_from, past}
use Rattle.theory.specs.Exact.{Exact}
use Rattle.theory.specs.ExactTypes.{field-exact, plain-exact, declared-exact, size_exact, result-exact}
use Rattle.theory.specs.ExactExpr.{expr-exact}
use Rattle.encoding.specs.Spells.{Spells, rest-behind}
use Rattle.encoding.specs.ExprLists.{first-of-exprs}

module _ {A : Type 0} {p : Parser A} {bytes : A → List ℕ} {W : A → Type 0} (x : Exact p bytes W) {line : List ℕ} {at : ℕ} where
  pub spelled-is-read : {a : A} → Spells bytes line at a → W a → p (bytes_from line at) ≡ got a (bytes_from line (past line at (length (bytes a))))
  spelled-is-read {a} s w = ap p s.is ∙ x.back a s.rest w ∙ ap (got a) (sym (rest-behind s))

  pub spelled-once : {a b : A} → Spells bytes line at a → Spells bytes line at b → W a → W b → a ≡ b
  spelled-once {a} {b} s r v w = let same : got a _ ≡ got b _ = sym (spelled-is-read s v) ∙ spelled-is-read r w in cc

module _ {line : List ℕ} {at : ℕ} where
  pub field-once : {types : ℕ} {f g : Field} → Spells field_bytes line at f → Spells field_bytes line at g → WithinField types f → WithinField types g → f ≡ g
  field-once {types} = spelled-once (field-exact types)

  pub plain-once : {types : ℕ} {p q : Plain} → Spells plain_bytes line at p → Spells plain_bytes line at q → WithinPlain types p → WithinPlain types q → p ≡ q
  plain-once {types} = spelled-once (plain-exact types)

  pub declared-once : {types : ℕ} {τ σ : Ty} → Spells declared_bytes line at τ → Spells declared_bytes line at σ → WithinDeclared types τ → WithinDeclared types σ → τ ≡ σ
  declared-once {types} = spelled-once (declared-exact types)

  pub size-once : {vars : ℕ} {s r : Size} → Spells size_bytes line at s → Spells size_bytes line at r → WithinSize vars nesting_most s → WithinSize vars nesting_most r → s ≡ r
  size-once {vars} = spelled-once (size_exact vars)

  pub result-once : {types vars : ℕ} {r q : ResultType} → Spells result_bytes line at r → Spells result_bytes line at q → WithinResult types vars r → WithinResult types vars q → r ≡ q
  result-once {types} {vars} = spelled-once (result-exact types vars)

  pub expr-once : {n : ℕ} {S : Scope} {e f : Expr} → Spells expr_bytes line at e → Spells expr_bytes line at f → WithinExpr n S e → WithinExpr n S f → e ≡ f
  expr-once {n} {S} = spelled-once (expr-exact n S)

-- ---- lists of expressions, one after the other
-- where the first is the same, the others are spelled at the same place
same_first : {line : List ℕ} (at : ℕ) {e f : Expr} {es fs : Exprs} → e ≡ f → Spells exprs_bytes line (past line at (length (expr_bytes e))) es →
    (Spells exprs_bytes line (past line at (length (expr_bytes f))) es → es ≡ fs) → econs e es ≡ econs f fs
same_first at p s then = ap₂ econs p (then (rw p at s))

module _ {n : ℕ} {S : Scope} where
  pub exprs-once : {line : List ℕ} {at m : ℕ} {es fs : Exprs} → Spells exprs_bytes line at es → Spells exprs_bytes line at fs → WithinExprs n S m es → WithinExprs n S m fs → es ≡ fs
  exprs-once s r ws_nil ws_nil = refl
  exprs-once {line = line} {at = at} s r (ws_cons {m = m} {e = e} {es = es} v vs) (ws_cons {e = e'} {es = es'} w ws) =
      let x = first-of-exprs s in
      let y = first-of-exprs r in
      same_first at (expr-once x.spelled y.spelled v w) x.next (λ z. exprs-once {at = past line at (length (expr_bytes e'))} z y.next vs ws)

  pub branches-once : {line : List ℕ} {at : ℕ} {cs : List Constructor} {es fs : Exprs} → Spells exprs_bytes line at es → Spells exprs_bytes line at fs → WithinBranches n S cs es → WithinBranches n S cs fs → es ≡ fs
  branches-once s r wb_nil wb_nil = refl
  branches-once {line = line} {at = at} s r (wb_cons {fs = fs} {cs = cs} {b = b} {bs = bs} v vs) (wb_cons {b = b'} {bs = bs'} w ws) =
      let x = first-of-exprs s in
      let y = first-of-exprs r in
      same_first at (expr-once x.spelled y.spelled v w) x.next (λ z. branches-once {at = past line at (length (expr_bytes b'))} z y.next vs ws)
