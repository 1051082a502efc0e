-- Plain types as rules: figure 5 without sizes and constraints, and the files whose every frame they type.
-- PlainTyping P C Γ e τ: in the file P, with channels of types C and variables of types Γ, the expression e is of plain type τ.
use Rattle.std.specs.Prelude.{ℕ, List, [], ◌∷◌, ◌++◌, map, Bool, true, ◌≡◌}
use Rattle.std.proofs.Math.Option.{some}
use Rattle.std.proofs.Math.ListN.{get_elem? as look}
use Rattle.language.specs.Syntax.{Constructor, Plain, pbool, pint, pnamed, Ty, Size, ResultType, Op, Expr, ebool, eint, evar, enow, elast, elet, eif, eop, ecall, econ, ecase, eadj, efit, Exprs, enil, econs}
use Rattle.language.specs.Syntax.{Function, Input, Node, File, constructors_of, declared_types}
use Rattle.language.specs.PlainTypes.{plain_fields, plain_result, plain_declared, operand_type, op_type, is_initial}

module _ (P : File) (C : List Plain) where
  mutual
    pub data PlainTyping : List Plain → Expr → Plain → Type 0 where
      p_bool : {Γ : List Plain} {b : Bool} → PlainTyping Γ (ebool b) pbool
      p_int : {Γ : List Plain} {n : ℕ} → PlainTyping Γ (eint n) pint
      p_var : {Γ : List Plain} {v : ℕ} {τ : Plain} → look Γ v ≡ some τ → PlainTyping Γ (evar v) τ
      p_node : {Γ : List Plain} {c : ℕ} {τ : Plain} → look C c ≡ some τ → PlainTyping Γ (enow c) τ
      p_atlast : {Γ : List Plain} {c : ℕ} {τ : Plain} → look C c ≡ some τ → PlainTyping Γ (elast c) τ
      p_let : {Γ : List Plain} {a b : Expr} {σ τ : Plain} → PlainTyping Γ a σ → PlainTyping (Γ ++ (σ ∷ [])) b τ → PlainTyping Γ (elet a b) τ
      p_if : {Γ : List Plain} {a b d : Expr} {τ : Plain} → PlainTyping Γ a pbool → PlainTyping Γ b τ → PlainTyping Γ d τ → PlainTyping Γ (eif a b d) τ
      p_op : {Γ : List Plain} {o : Op} {a b : Expr} {τ : Plain} → PlainTyping Γ a (operand_type o) → PlainTyping Γ b (operand_type o) → τ ≡ op_type o → PlainTyping Γ (eop o a b) τ
      p_call : {Γ : List Plain} {f : ℕ} {es : Exprs} {F : Function} {τ : Plain} →
          look P.functions f ≡ some F → PlainTypings Γ es F.parameters → τ ≡ plain_result F.result → PlainTyping Γ (ecall f es) τ
      p_ctor : {Γ : List Plain} {t c : ℕ} {es : Exprs} {fs : Constructor} → look (constructors_of P t) c ≡ some fs → PlainTypings Γ es (plain_fields t fs) → PlainTyping Γ (econ t c es) (pnamed t)
      p_case : {Γ : List Plain} {t : ℕ} {e : Expr} {r : ResultType} {bs : Exprs} {τ : Plain} →
          PlainTyping Γ e (pnamed t) → PlainBranches Γ t (constructors_of P t) bs τ → τ ≡ plain_result r → PlainTyping Γ (ecase t e r bs) τ
      p_adj : {Γ : List Plain} {s : Size} {e : Expr} {t : ℕ} → PlainTyping Γ e (pnamed t) → PlainTyping Γ (eadj s e) (pnamed t)
      p_fit : {Γ : List Plain} {k t : ℕ} {a b d : Expr} {τ : Plain} → PlainTyping Γ a (pnamed t) → PlainTyping (Γ ++ (pnamed t ∷ [])) b τ → PlainTyping Γ d τ → PlainTyping Γ (efit k a b d) τ

    -- arguments and fields, left to right
    pub data PlainTypings : List Plain → Exprs → List Plain → Type 0 where
      ps_nil : {Γ : List Plain} → PlainTypings Γ enil []
      ps_cons : {Γ : List Plain} {e : Expr} {es : Exprs} {τ : Plain} {τs : List Plain} → PlainTyping Γ e τ → PlainTypings Γ es τs → PlainTypings Γ (econs e es) (τ ∷ τs)

    -- a branch for each of these constructors of type t
    pub data PlainBranches : List Plain → ℕ → List Constructor → Exprs → Plain → Type 0 where
      p_none : {Γ : List Plain} {t : ℕ} {τ : Plain} → PlainBranches Γ t [] enil τ
      p_branch : {Γ : List Plain} {t : ℕ} {fs : Constructor} {cs : List Constructor} {b : Expr} {bs : Exprs} {τ : Plain} →
          PlainTyping (Γ ++ plain_fields t fs) b τ → PlainBranches Γ t cs bs τ → PlainBranches Γ t (fs ∷ cs) (econs b bs) τ

-- the plain types of a file's channels
abbrev pub channel_types : File → List Plain
channel_types P = map plain_declared (declared_types P)

-- the initial value of a channel declared τ
pub record PlainInitial (P : File) (τ : Ty) (e : Expr) : Type 0 where
  pub form : is_initial e ≡ true
  pub typed : PlainTyping P [] [] e (plain_declared τ)

pub record PlainNode (P : File) (M : Node) : Type 0 where
  pub initial : PlainInitial P M.declared M.initial
  pub update : PlainTyping P (channel_types P) [] M.update (plain_declared M.declared)

pub record WellPlain (P : File) : Type 0 where
  pub bodies : (f : ℕ) (F : Function) → look P.functions f ≡ some F → PlainTyping P [] F.parameters F.body (plain_result F.result)
  pub inputs : (i : ℕ) (I : Input) → look P.inputs i ≡ some I → PlainInitial P I.declared I.initial
  pub nodes : (n : ℕ) (M : Node) → look P.nodes n ≡ some M → PlainNode P M
