-- The definition's plain type, an equation a form; the types of arguments and branches, one after the other.
use Rattle.std.specs.Prelude.{ℕ, List, [], ◌∷◌, ◌++◌, Bool, true, false, ◌≡◌}
use Rattle.std.proofs.Math.Option.{Option, none, some}
use Rattle.std.proofs.Math.Path.{refl}
use Rattle.std.proofs.Common.{sym}
use Rattle.std.proofs.Math.ListN.{get_elem? as look}
use Rattle.language.specs.Result.{both, when, chain}
use Rattle.language.specs.Syntax.{Constructor, Plain, pbool, pint, pnamed, Size, ResultType, Op, Expr, ebool, eint, evar, elet, eif, eop, ecall, econ, ecase, eadj, efit, Exprs, enil, econs, Function, File, constructors_of}
use Rattle.language.specs.PlainTypes.{plain_fields, plain_result, same_plain, same_plains, operand_type, op_type, is_plain, are_plain, is_named, plain_of, plains_of, plain_branches}
use Rattle.theory.specs.Lists.{both-never}
use Rattle.heads.specs.declared.Form.{Form}
use Rattle.heads.specs.HeadForms.{NamesChannel, now_named, last_named}

-- ---- an expression of the type wanted
module _ {o : Option Plain} {σ : Plain} (τ : Plain) (e : o ≡ some σ) where
  pub is-wanted : same_plain σ τ ≡ true → is_plain τ o ≡ true
  unfolding is_plain
  is-wanted q = rw e q

  pub not-wanted : same_plain σ τ ≡ false → is_plain τ o ≡ false
  unfolding is_plain
  not-wanted q = rw e q

pub none-wanted : {o : Option Plain} (τ : Plain) → o ≡ none → is_plain τ o ≡ false
unfolding is_plain
none-wanted τ e = rw e

-- ---- arguments
are-both : (τ : Plain) (τs : List Plain) (o : Option Plain) (os : Option (List Plain)) → are_plain (τ ∷ τs) (chain o (λ (σ : Plain). chain os (λ (σs : List Plain). some (σ ∷ σs)))) ≡ both (is_plain τ o) (are_plain τs os)
unfolding are_plain chain is_plain same_plains both
are-both τ τs none os = refl
are-both τ τs (some σ) none = sym (both-never (same_plain σ τ) refl)
are-both τ τs (some σ) (some σs) = refl

module _ (P : File) (C : List Plain) (Γ : List Plain) where
  pub are-none : are_plain [] (plains_of P C enil Γ) ≡ true
  unfolding plains_of are_plain same_plains
  are-none = refl

  pub are-more : (τ : Plain) (τs : List Plain) (e : Expr) (es : Exprs) → are_plain (τ ∷ τs) (plains_of P C (econs e es) Γ) ≡ both (is_plain τ (plain_of P C e Γ)) (are_plain τs (plains_of P C es Γ))
  unfolding plains_of
  are-more τ τs e es = are-both τ τs (plain_of P C e Γ) (plains_of P C es Γ)

  -- ---- branches
  pub branches-none : (t : ℕ) (τ : Plain) → plain_branches P C enil [] t τ Γ ≡ true
  unfolding plain_branches
  branches-none t τ = refl

  pub branches-more : (b : Expr) (bs : Exprs) (fs : Constructor) (cs : List Constructor) (t : ℕ) (τ : Plain) →
      plain_branches P C (econs b bs) (fs ∷ cs) t τ Γ ≡ both (is_plain τ (plain_of P C b (Γ ++ plain_fields t fs))) (plain_branches P C bs cs t τ Γ)
  unfolding plain_branches
  branches-more b bs fs cs t τ = refl

  -- ---- the forms
  pub plain-bool : (b : Bool) → plain_of P C (ebool b) Γ ≡ some pbool
  unfolding plain_of
  plain-bool b = refl

  pub plain_int : (n : ℕ) → plain_of P C (eint n) Γ ≡ some pint
  unfolding plain_of
  plain_int n = refl

  pub plain-var : (v : ℕ) → plain_of P C (evar v) Γ ≡ look Γ v
  unfolding plain_of
  plain-var v = refl

  pub plain-channel : {form : Form} {c : ℕ} {x : ℕ → Expr} → NamesChannel form c x → plain_of P C (x c) Γ ≡ look C c
  unfolding plain_of
  plain-channel (now_named q) = refl
  plain-channel (last_named q) = refl

  pub plain-let : (a b : Expr) → plain_of P C (elet a b) Γ ≡ chain (plain_of P C a Γ) (λ σ. plain_of P C b (Γ ++ (σ ∷ [])))
  unfolding plain_of
  plain-let a b = refl

  pub plain-if : (a b d : Expr) → plain_of P C (eif a b d) Γ ≡ chain (plain_of P C b Γ) (λ τ. when (both (is_plain pbool (plain_of P C a Γ)) (is_plain τ (plain_of P C d Γ))) τ)
  unfolding plain_of
  plain-if a b d = refl

  pub plain_op : (o : Op) (a b : Expr) → plain_of P C (eop o a b) Γ ≡ when (both (is_plain (operand_type o) (plain_of P C a Γ)) (is_plain (operand_type o) (plain_of P C b Γ))) (op_type o)
  unfolding plain_of
  plain_op o a b = refl

  pub plain-call : (f : ℕ) (es : Exprs) → plain_of P C (ecall f es) Γ ≡ chain (look P.functions f) (λ (F : Function). when (are_plain F.parameters (plains_of P C es Γ)) (plain_result F.result))
  unfolding plain_of
  plain-call f es = refl

  pub plain-con : (t c : ℕ) (es : Exprs) → plain_of P C (econ t c es) Γ ≡ chain (look (constructors_of P t) c) (λ (fs : Constructor). when (are_plain (plain_fields t fs) (plains_of P C es Γ)) (pnamed t))
  unfolding plain_of
  plain-con t c es = refl

  pub plain-case : (t : ℕ) (e : Expr) (r : ResultType) (bs : Exprs) →
      plain_of P C (ecase t e r bs) Γ ≡ when (both (is_plain (pnamed t) (plain_of P C e Γ)) (plain_branches P C bs (constructors_of P t) t (plain_result r) Γ)) (plain_result r)
  unfolding plain_of
  plain-case t e r bs = refl

  pub plain-adj : (s : Size) (e : Expr) → plain_of P C (eadj s e) Γ ≡ chain (plain_of P C e Γ) (λ τ. when (is_named τ) τ)
  unfolding plain_of
  plain-adj s e = refl

  pub plain-fit : (k : ℕ) (a b d : Expr) →
      plain_of P C (efit k a b d) Γ ≡ chain (plain_of P C a Γ) (λ σ. chain (plain_of P C b (Γ ++ (σ ∷ []))) (λ τ. when (both (is_named σ) (is_plain τ (plain_of P C d Γ))) τ))
  unfolding plain_of
  plain-fit k a b d = refl
