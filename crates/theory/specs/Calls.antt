-- Which functions an expression calls. In a file within the limits a function calls only earlier ones and itself.
use Rattle.std.specs.Prelude.{ℕ, zero, suc, ◌+◌, ◌≤◌, ◌<◌, List, [], ◌∷◌, ◌++◌, ◌≡◌, length}
use Rattle.std.proofs.Math.Option.{some}
use Rattle.std.proofs.Common.{subst, arith, length-append}
use Rattle.std.proofs.lemmas.List.{length-map}
use Rattle.std.proofs.Math.ListN.{get_elem? as look}
use Rattle.language.specs.Syntax.{TypeDef, Constructor, Expr, ebool, eint, evar, enow, elast, elet, eif, eop, ecall, econ, ecase, eadj, efit, Exprs, enil, econs, Function, File}
use Rattle.language.specs.Scope.{Scope, wider, body_scope}
use Rattle.language.specs.Within.{WithinExpr, WithinExprs, WithinBranches, w_bool, w_int, w_var, w_now, w_last, w_let, w_if, w_op, w_call, w_con, w_case, w_adj, w_fit, ws_nil, ws_cons, wb_nil, wb_cons}
use Rattle.language.specs.Within.{WithinFunction, WithinFunctions, wf_nil, wf_cons, Within}
use Rattle.language.specs.Typing.{Place, outside, inside}
use Rattle.theory.specs.Lists.{none-is-not-some}

-- all functions that the expression calls satisfy A
abbrev mutual
  pub Calls : (ℕ → Type 0) → Expr → Type 0
  Calls A (ebool b) = Unit {0}
  Calls A (eint n) = Unit {0}
  Calls A (evar v) = Unit {0}
  Calls A (enow c) = Unit {0}
  Calls A (elast c) = Unit {0}
  Calls A (elet a b) = Calls A a × Calls A b
  Calls A (eif a b d) = Calls A a × Calls A b × Calls A d
  Calls A (eop o a b) = Calls A a × Calls A b
  Calls A (ecall g es) = A g × CallsAll A es
  Calls A (econ t i es) = CallsAll A es
  Calls A (ecase t e r bs) = Calls A e × CallsAll A bs
  Calls A (eadj s e) = Calls A e
  Calls A (efit k a b d) = Calls A a × Calls A b × Calls A d

  pub CallsAll : (ℕ → Type 0) → Exprs → Type 0
  CallsAll A enil = Unit {0}
  CallsAll A (econs e es) = Calls A e × CallsAll A es

-- what may be called: a function calls earlier ones and itself
abbrev pub Allowed : Place → ℕ → Type 0
Allowed (outside frame C) g = Unit {0}
Allowed (inside f w) g = g ≤ f

-- outside all functions anything may be called
mutual
  pub calls-anything : (e : Expr) → Calls (λ g. Unit {0}) e
  calls-anything (ebool b) = tt
  calls-anything (eint n) = tt
  calls-anything (evar v) = tt
  calls-anything (enow c) = tt
  calls-anything (elast c) = tt
  calls-anything (elet a b) = (calls-anything a, calls-anything b)
  calls-anything (eif a b d) = (calls-anything a, calls-anything b, calls-anything d)
  calls-anything (eop o a b) = (calls-anything a, calls-anything b)
  calls-anything (ecall g es) = (tt, all-call-anything es)
  calls-anything (econ t i es) = all-call-anything es
  calls-anything (ecase t e r bs) = (calls-anything e, all-call-anything bs)
  calls-anything (eadj s e) = calls-anything e
  calls-anything (efit k a b d) = (calls-anything a, calls-anything b, calls-anything d)

  all-call-anything : (es : Exprs) → CallsAll (λ g. Unit {0}) es
  all-call-anything enil = tt
  all-call-anything (econs e es) = (calls-anything e, all-call-anything es)

-- the file's functions call only earlier ones and themselves
pub record Ordered (P : File) : Type 0 where
  pub calls : (g : ℕ) (F : Function) → look P.functions g ≡ some F → Calls (λ f. f ≤ g) F.body

-- an expression within the limits calls what its scope offers
mutual
  unfolding wider

  pub within-calls : {A : ℕ → Type 0} {n : ℕ} {S : Scope} {e : Expr} → WithinExpr n S e → ((f : ℕ) → f < length S.arities → A f) → Calls A e
  within-calls (w_bool r) h = tt
  within-calls (w_int r l) h = tt
  within-calls (w_var r l) h = tt
  within-calls (w_now r l) h = tt
  within-calls (w_last r l) h = tt
  within-calls (w_let r a b) h = (within-calls a h, within-calls b h)
  within-calls (w_if r a b d) h = (within-calls a h, within-calls b h, within-calls d h)
  within-calls (w_op r a b) h = (within-calls a h, within-calls b h)
  within-calls (w_call {f} r l es) h = (h f l, within-calls-all es h)
  within-calls (w_con r t c es) h = within-calls-all es h
  within-calls (w_case r t e s bs) h = (within-calls e h, within-calls-branches bs h)
  within-calls (w_adj r s e) h = within-calls e h
  within-calls (w_fit r k a b d) h = (within-calls a h, within-calls b h, within-calls d h)

  within-calls-all : {A : ℕ → Type 0} {n m : ℕ} {S : Scope} {es : Exprs} → WithinExprs n S m es → ((f : ℕ) → f < length S.arities → A f) → CallsAll A es
  within-calls-all ws_nil h = tt
  within-calls-all (ws_cons e es) h = (within-calls e h, within-calls-all es h)

  within-calls-branches : {A : ℕ → Type 0} {n : ℕ} {S : Scope} {cs : List Constructor} {bs : Exprs} → WithinBranches n S cs bs → ((f : ℕ) → f < length S.arities → A f) → CallsAll A bs
  within-calls-branches wb_nil h = tt
  within-calls-branches (wb_cons b bs) h = (within-calls b h, within-calls-branches bs h)

-- ---- bodies
body-calls : {types : List TypeDef} {F : Function} (earlier : List Function) → WithinFunction types earlier F → Calls (λ f. f ≤ length earlier) F.body
unfolding body_scope
body-calls earlier w = within-calls w.body (λ f less. omega (arith, simp (length-append, length-map) at less))

later-calls : {types : List TypeDef} {Fs : List Function} {F : Function} (earlier : List Function) → WithinFunctions types earlier Fs → (i : ℕ) → look Fs i ≡ some F →
    Calls (λ f. f ≤ length earlier + i) F.body
later-calls earlier wf_nil i e = none-is-not-some e
later-calls {F} earlier (wf_cons {F = G} w ws) zero e =
    let z : length earlier ≡ length earlier + 0 = omega arith in
    let same : G ≡ F = cc in
    subst (λ n. Calls (λ f. f ≤ n) F.body) z (subst (λ (H : Function). Calls (λ f. f ≤ length earlier) H.body) same (body-calls earlier w))
later-calls {F} earlier (wf_cons {F = G} w ws) (suc i) e =
    let z : length (earlier ++ (G ∷ [])) + i ≡ length earlier + suc i = omega (arith, length-append earlier (G ∷ [])) in
    subst (λ n. Calls (λ f. f ≤ n) F.body) z (later-calls (earlier ++ (G ∷ [])) ws i e)

-- "A function calls only earlier ones and itself."
pub within-ordered : {P : File} → Within P → Ordered P
within-ordered w = record { calls = λ g F e. subst (λ n. Calls (λ f. f ≤ n) F.body) (omega arith) (later-calls [] w.functions g e) }
