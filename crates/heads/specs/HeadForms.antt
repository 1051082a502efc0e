-- The head that was read of an expression that is spelled at the place and within the limits: one lemma for each form.
use Rattle.std.specs.Prelude.{ℕ, List, ◌≡◌}
use Rattle.std.proofs.Common.{sym, ◌∙◌, subst, subst₂}
use Rattle.language.specs.Syntax.{Expr, enow, elast}
use Rattle.language.specs.Format.{expr_bytes}
use Rattle.language.specs.Scope.{Scope}
use Rattle.language.specs.Within.{WithinExpr}
use Rattle.encoding.specs.Spells.{Spells}
use Rattle.encoding.specs.IntSpells.{int-value}
use Rattle.encoding.specs.ExprInversions.{bool-spelled, int-spelled, var-spelled, now-spelled, last-spelled, let-spelled, if-spelled, op-spelled, call-spelled, con-spelled, case-spelled, adj-spelled, fit-spelled}
use Rattle.heads.specs.declared.Form.{Form}
use Rattle.heads.specs.declared.Form.TheVariants.{Bool as BoolForm, Int, Variable, Now, Last, Let, If, Operator, Call, Construct, Case, Adjust, Fit, Missing}
use Rattle.heads.specs.declared.Head.{Head}
use Rattle.heads.specs.Heads.{Heads, shown}
use Rattle.heads.specs.UnreadLaws.{unread-none}
use Rattle.heads.specs.HeadParts.{bool-made, int-made, var-made, now-made, last_made, let-made, if-made, op-made, call-made, con-made, case-made, adj-made, fit-made}
pub use Rattle.heads.specs.HeadParts.{BoolHead, IntHead, VarHead, ChannelHead, LetHead, IfHead, OpHead, CallHead, ConHead, CaseHead, AdjHead, FitHead}

-- the form names channel c, now or before the line: x c is the expression
pub data NamesChannel (form : Form) (c : ℕ) : (ℕ → Expr) → Type 0 where
  now_named : form ≡ Now c → NamesChannel form c enow
  last_named : form ≡ Last c → NamesChannel form c elast

-- ---- from the form that was read
module _ {line : List ℕ} {at : ℕ} {r : Head} {e : Expr} (h : Heads line at r) (s : Spells expr_bytes line at e) where
  pub no-missing : r.form ≡ Missing → ⊥
  no-missing q = unread-none (shown h q).1 s

  module _ {n : ℕ} {S : Scope} (w : WithinExpr n S e) where
    pub bool-head : {b : ℕ} → r.form ≡ BoolForm b → BoolHead line at r.next.at n S e b
    bool-head q =
        let c = shown h q in
        let i = bool-spelled s c.0.code in
        subst₂ (λ m b. BoolHead line at m n S e b) (sym c.0.ends) (sym c.1.is) (bool-made i (subst (WithinExpr n S) i.is w))

    pub int-head : {v : ℕ} → r.form ≡ Int v → IntHead line at r.next.at n S e v
    int-head q =
        let c = shown h q in
        let i = int-spelled s c.0.code in
        subst₂ (λ m v. IntHead line at m n S e v) (sym c.0.ends) (sym (c.1 ∙ int-value i w)) (int-made i (subst (WithinExpr n S) i.is w))

    pub var-head : {v : ℕ} → r.form ≡ Variable v → VarHead line at r.next.at n S e v
    var-head q =
        let c = shown h q in
        let i = var-spelled s c.0.code in
        subst₂ (λ m v. VarHead line at m n S e v) (sym c.0.ends) (sym c.1.is) (var-made i (subst (WithinExpr n S) i.is w))

    pub channel-head : {k : ℕ} {x : ℕ → Expr} → NamesChannel r.form k x → ChannelHead x line at r.next.at n S e k
    channel-head (now_named q) =
        let c = shown h q in
        let i = now-spelled s c.0.code in
        subst₂ (λ m k. ChannelHead enow line at m n S e k) (sym c.0.ends) (sym c.1.is) (now-made i (subst (WithinExpr n S) i.is w))
    channel-head (last_named q) =
        let c = shown h q in
        let i = last-spelled s c.0.code in
        subst₂ (λ m k. ChannelHead elast line at m n S e k) (sym c.0.ends) (sym c.1.is) (last_made i (subst (WithinExpr n S) i.is w))

    pub let-head : r.form ≡ Let → LetHead line at r.next.at n S e
    let-head q =
        let c = shown h q in
        let i = let-spelled s c.code in
        subst (λ m. LetHead line at m n S e) (sym c.ends) (let-made i (subst (WithinExpr n S) i.is w))

    pub if-head : r.form ≡ If → IfHead line at r.next.at n S e
    if-head q =
        let c = shown h q in
        let i = if-spelled s c.code in
        subst (λ m. IfHead line at m n S e) (sym c.ends) (if-made i (subst (WithinExpr n S) i.is w))

    pub op-head : {o : ℕ} → r.form ≡ Operator o → OpHead line at r.next.at n S e o
    op-head q =
        let c = shown h q in
        let i = op-spelled s c.0.code in
        subst₂ (λ m o. OpHead line at m n S e o) (sym c.0.ends) (sym c.1.is) (op-made i (subst (WithinExpr n S) i.of.is w))

    pub call-head : {f : ℕ} → r.form ≡ Call f → CallHead line at r.next.at n S e f
    call-head q =
        let c = shown h q in
        let i = call-spelled s c.0.code in
        subst₂ (λ m f. CallHead line at m n S e f) (sym c.0.ends) (sym c.1.is) (call-made i (subst (WithinExpr n S) i.is w))

    pub con-head : {t k : ℕ} → r.form ≡ Construct t k → ConHead line at r.next.at n S e t k
    con-head {t} {k} q =
        let c = shown h q in
        let i = con-spelled s c.0.code in
        rw (c.0.ends, c.1.0.is, c.1.1.is) (con-made i (subst (WithinExpr n S) i.is w))

    pub case-head : {t : ℕ} → r.form ≡ Case t → CaseHead line at r.next.at n S e t
    case-head q =
        let c = shown h q in
        let i = case-spelled s c.0.code in
        subst₂ (λ m t. CaseHead line at m n S e t) (sym c.0.ends) (sym c.1.is) (case-made i (subst (WithinExpr n S) i.is w))

    pub adj-head : r.form ≡ Adjust → AdjHead line at r.next.at n S e
    adj-head q =
        let c = shown h q in
        let i = adj-spelled s c.code in
        subst (λ m. AdjHead line at m n S e) (sym c.ends) (adj-made i (subst (WithinExpr n S) i.is w))

    pub fit-head : {k : ℕ} → r.form ≡ Fit k → FitHead line at r.next.at n S e k
    fit-head q =
        let c = shown h q in
        let i = fit-spelled s c.0.code in
        subst₂ (λ m k. FitHead line at m n S e k) (sym c.0.ends) (sym c.1.is) (fit-made i (subst (WithinExpr n S) i.is w))
