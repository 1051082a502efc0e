-- Plain types: "Plain types, sizes ignored, are checked in every frame; the subject of a fit or adj is of a named type."
-- Figure 5 without its constraints. Refusal 9, at the first frame in file order with any disagreement.
use Rattle.std.specs.Prelude.{ℕ, ◌+◌, List, [], ◌∷◌, ◌++◌, map, Bool, true, false, eqb}
use Rattle.std.proofs.Math.Option.{Option, none, some}
use Rattle.std.proofs.Math.ListN.{get_elem? as look}
use Rattle.language.specs.Result.{Result, need_each, both, when, chain}
use Rattle.language.specs.Refusals.{types_disagree}
use Rattle.language.specs.Syntax.{Field, fbool, fint, own, other, Constructor, Plain, pbool, pint, pnamed, Ty, tbool, tint, tnamed, ResultType, rbool, rint, rnamed}
use Rattle.language.specs.Syntax.{Op, oadd, osub, omul, oeq, olt, ole, oand, oor, Expr, ebool, eint, evar, enow, elast, elet, eif, eop, ecall, econ, ecase, eadj, efit, Exprs, enil, econs}
use Rattle.language.specs.Syntax.{Function, Input, Node, File, constructors_of, declared_types, function_frame}

unfoldable pub plain_field : ℕ → Field → Plain
plain_field t fbool = pbool
plain_field t fint = pint
plain_field t own = pnamed t
plain_field t (other u k) = pnamed u

abbrev pub plain_fields : ℕ → List Field → List Plain
plain_fields t fs = map (plain_field t) fs

unfoldable pub plain_result : ResultType → Plain
plain_result rbool = pbool
plain_result rint = pint
plain_result (rnamed t s) = pnamed t

unfoldable pub plain_declared : Ty → Plain
plain_declared tbool = pbool
plain_declared tint = pint
plain_declared (tnamed t k) = pnamed t

unfoldable pub same_plain : Plain → Plain → Bool
same_plain pbool pbool = true
same_plain pbool pint = false
same_plain pbool (pnamed u) = false
same_plain pint pbool = false
same_plain pint pint = true
same_plain pint (pnamed u) = false
same_plain (pnamed t) pbool = false
same_plain (pnamed t) pint = false
same_plain (pnamed t) (pnamed u) = eqb t u

unfoldable pub same_plains : List Plain → List Plain → Bool
same_plains [] [] = true
same_plains [] (τ ∷ τs) = false
same_plains (σ ∷ σs) [] = false
same_plains (σ ∷ σs) (τ ∷ τs) = both (same_plain σ τ) (same_plains σs τs)

-- the types of both operands, and of the result: `00` to `05` take Int, `06` and `07` Bool
unfoldable pub operand_type : Op → Plain
operand_type oadd = pint
operand_type osub = pint
operand_type omul = pint
operand_type oeq = pint
operand_type olt = pint
operand_type ole = pint
operand_type oand = pbool
operand_type oor = pbool

unfoldable pub op_type : Op → Plain
op_type oadd = pint
op_type osub = pint
op_type omul = pint
op_type oeq = pbool
op_type olt = pbool
op_type ole = pbool
op_type oand = pbool
op_type oor = pbool

-- a value of the type that is wanted
unfoldable pub is_plain : Plain → Option Plain → Bool
is_plain τ none = false
is_plain τ (some σ) = same_plain σ τ

unfoldable pub are_plain : List Plain → Option (List Plain) → Bool
are_plain τs none = false
are_plain τs (some σs) = same_plains σs τs

unfoldable pub is_named : Plain → Bool
is_named pbool = false
is_named pint = false
is_named (pnamed t) = true

-- the plain type of an expression, or none where types disagree; C: the plain types of the channels
module _ (P : File) (C : List Plain) where
  unfoldable mutual
    pub plain_of : Expr → List Plain → Option Plain
    plain_of (ebool b) Γ = some pbool
    plain_of (eint n) Γ = some pint
    plain_of (evar v) Γ = look Γ v
    plain_of (enow c) Γ = look C c
    plain_of (elast c) Γ = look C c
    plain_of (elet a b) Γ = chain (plain_of a Γ) (λ σ. plain_of b (Γ ++ (σ ∷ [])))
    plain_of (eif a b d) Γ = chain (plain_of b Γ) (λ τ. when (both (is_plain pbool (plain_of a Γ)) (is_plain τ (plain_of d Γ))) τ)
    plain_of (eop o a b) Γ = when (both (is_plain (operand_type o) (plain_of a Γ)) (is_plain (operand_type o) (plain_of b Γ))) (op_type o)
    plain_of (ecall f es) Γ = chain (look P.functions f) (λ F. when (are_plain F.parameters (plains_of es Γ)) (plain_result F.result))
    plain_of (econ t c es) Γ = chain (look (constructors_of P t) c) (λ fs. when (are_plain (plain_fields t fs) (plains_of es Γ)) (pnamed t))
    plain_of (ecase t e r bs) Γ = when (both (is_plain (pnamed t) (plain_of e Γ)) (plain_branches bs (constructors_of P t) t (plain_result r) Γ)) (plain_result r)
    plain_of (eadj s e) Γ = chain (plain_of e Γ) (λ τ. when (is_named τ) τ)
    plain_of (efit k a b d) Γ = chain (plain_of a Γ) (λ σ. chain (plain_of b (Γ ++ (σ ∷ []))) (λ τ. when (both (is_named σ) (is_plain τ (plain_of d Γ))) τ))

    pub plains_of : Exprs → List Plain → Option (List Plain)
    plains_of enil Γ = some []
    plains_of (econs e es) Γ = chain (plain_of e Γ) (λ τ. chain (plains_of es Γ) (λ τs. some (τ ∷ τs)))

    pub plain_branches : Exprs → List Constructor → ℕ → Plain → List Plain → Bool
    plain_branches enil [] t τ Γ = true
    plain_branches enil (fs ∷ cs) t τ Γ = false
    plain_branches (econs b bs) [] t τ Γ = false
    plain_branches (econs b bs) (fs ∷ cs) t τ Γ = both (is_plain τ (plain_of b (Γ ++ plain_fields t fs))) (plain_branches bs cs t τ Γ)

-- "Initial values use `10`, `11`, `19`, `1B` only."
unfoldable mutual
  pub is_initial : Expr → Bool
  is_initial (ebool b) = true
  is_initial (eint n) = true
  is_initial (evar v) = false
  is_initial (enow c) = false
  is_initial (elast c) = false
  is_initial (elet a b) = false
  is_initial (eif a b d) = false
  is_initial (eop o a b) = false
  is_initial (ecall f es) = false
  is_initial (econ t c es) = are_initial es
  is_initial (ecase t e r bs) = false
  is_initial (eadj s e) = is_initial e
  is_initial (efit k a b d) = false

  pub are_initial : Exprs → Bool
  are_initial enil = true
  are_initial (econs e es) = both (is_initial e) (are_initial es)

-- ---- frames
unfoldable pub plain_function : File → Function → Bool
plain_function P F = is_plain (plain_result F.result) (plain_of P [] F.body F.parameters)

unfoldable pub plain_initial : File → Ty → Expr → Bool
plain_initial P τ e = both (is_initial e) (is_plain (plain_declared τ) (plain_of P [] e []))

unfoldable pub plain_input : File → Input → Bool
plain_input P i = plain_initial P i.declared i.initial

unfoldable pub plain_node : File → Node → Bool
plain_node P n = both (plain_initial P n.declared n.initial) (is_plain (plain_declared n.declared) (plain_of P (map plain_declared (declared_types P)) n.update []))

-- refusal 9 unless every frame's plain types agree
unfoldable pub plain_types : {A : Type 0} → File → Result A → Result A
plain_types P r = need_each types_disagree (function_frame P 0) (map (plain_function P) P.functions ++ (map (plain_input P) P.inputs ++ map (plain_node P) P.nodes)) r
