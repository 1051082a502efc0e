-- The plain type check agrees with the rules of plain types: it finds the type of an expression just when the rules give that
-- type, and it refuses a file with 9 just when some frame is not typed.
use Rattle.std.specs.Prelude.{ℕ, List, [], ◌∷◌, ◌++◌, map, Bool, true, ◌↔◌, ◌≡◌, refl}
use Rattle.std.proofs.lemmas.Bool.{false≢true}
use Rattle.std.proofs.Math.Option.{Option, none, some}
use Rattle.std.proofs.Common.{ap, ◌∙◌, eqb-true, eq-eqb}
use Rattle.std.proofs.Math.ListN.{get_elem? as look}
use Rattle.language.specs.Refusals.{types_disagree}
use Rattle.language.specs.Result.{Result, ok, when, chain}
use Rattle.language.specs.Syntax.{Constructor, Plain, pbool, pint, pnamed, Ty, Size, Expr, ebool, eint, evar, enow, elast, elet, eif, eop, ecall, econ, ecase, eadj, efit, Exprs, enil, econs}
use Rattle.language.specs.Syntax.{Node, File, constructors_of}
use Rattle.language.specs.PlainTypes.{same_plain, same_plains, is_plain, are_plain, is_named, plain_of, plains_of, plain_branches, plain_function, plain_initial, plain_input, plain_node, plain_types}
use Rattle.theory.specs.Alls.{all_append, all_left, all_right, all-to-map, all_of_map, all-at, all-each}
use Rattle.theory.specs.Lists.{both_true, both_left, both_right}
use Rattle.theory.specs.Tests.{Whenever, w_some, whenever, whenever-map, whenever-chain, whenever-when, whenever-is, AllTrue, each-test, each-rest, each-passes}
use Rattle.language.specs.PlainTyping.{PlainTyping, p_bool, p_int, p_var, p_node, p_atlast, p_let, p_if, p_op, p_call, p_ctor, p_case, p_adj, p_fit, PlainTypings, ps_nil, ps_cons, PlainBranches, p_none, p_branch, PlainInitial, PlainNode, WellPlain, channel_types}

-- ---- the tests on plain types
pub same-plain : (σ τ : Plain) → same_plain σ τ ≡ true → σ ≡ τ
unfolding same_plain
same-plain pbool pbool e = refl
same-plain pbool pint e = absurd (false≢true e)
same-plain pbool (pnamed u) e = absurd (false≢true e)
same-plain pint pbool e = absurd (false≢true e)
same-plain pint pint e = refl
same-plain pint (pnamed u) e = absurd (false≢true e)
same-plain (pnamed t) pbool e = absurd (false≢true e)
same-plain (pnamed t) pint e = absurd (false≢true e)
same-plain (pnamed t) (pnamed u) e = ap pnamed (eqb-true t u e)

pub same-plains : (σs τs : List Plain) → same_plains σs τs ≡ true → σs ≡ τs
unfolding same_plains
same-plains [] [] e = refl
same-plains [] (τ ∷ τs) e = absurd (false≢true e)
same-plains (σ ∷ σs) [] e = absurd (false≢true e)
same-plains (σ ∷ σs) (τ ∷ τs) e = rw (same-plain σ τ (both_left _ _ e), same-plains σs τs (both_right _ _ e))

pub is-plain : (τ : Plain) (o : Option Plain) → is_plain τ o ≡ true → o ≡ some τ
unfolding is_plain
is-plain τ none e = absurd (false≢true e)
is-plain τ (some σ) e = ap some (same-plain σ τ e)

pub are-plain : (τs : List Plain) (o : Option (List Plain)) → are_plain τs o ≡ true → o ≡ some τs
unfolding are_plain
are-plain τs none e = absurd (false≢true e)
are-plain τs (some σs) e = ap some (same-plains σs τs e)

is-typed : {Q : Plain → Type 0} {τ : Plain} {o : Option Plain} → Whenever Q o → is_plain τ o ≡ true → Q τ
is-typed w t = whenever-is w (is-plain _ _ t)

are-typed : {Q : List Plain → Type 0} {τs : List Plain} {o : Option (List Plain)} → Whenever Q o → are_plain τs o ≡ true → Q τs
are-typed w t = whenever-is w (are-plain _ _ t)

same-plain-refl : (τ : Plain) → same_plain τ τ ≡ true
unfolding same_plain
same-plain-refl pbool = refl
same-plain-refl pint = refl
same-plain-refl (pnamed t) = eq-eqb t t refl

same-plains-refl : (τs : List Plain) → same_plains τs τs ≡ true
unfolding same_plains
same-plains-refl [] = refl
same-plains-refl (τ ∷ τs) = both_true (same-plain-refl τ) (same-plains-refl τs)

some-is-plain : {τ : Plain} {o : Option Plain} → o ≡ some τ → is_plain τ o ≡ true
unfolding is_plain
some-is-plain {τ} e = rw e (same-plain-refl τ)

some-are-plain : {τs : List Plain} {o : Option (List Plain)} → o ≡ some τs → are_plain τs o ≡ true
unfolding are_plain
some-are-plain {τs} e = rw e (same-plains-refl τs)

-- ---- expressions that pass the check are typed
adj-named : {P : File} {C Γ : List Plain} {s : Size} {e : Expr} (τ : Plain) → is_named τ ≡ true → PlainTyping P C Γ e τ → PlainTyping P C Γ (eadj s e) τ
unfolding is_named
adj-named pbool t p = absurd (false≢true t)
adj-named pint t p = absurd (false≢true t)
adj-named (pnamed n) t p = p_adj p

fit-named : {P : File} {C Γ : List Plain} {k : ℕ} {a b d : Expr} (σ : Plain) {τ : Plain} → is_named σ ≡ true →
    PlainTyping P C Γ a σ → PlainTyping P C (Γ ++ (σ ∷ [])) b τ → PlainTyping P C Γ d τ → PlainTyping P C Γ (efit k a b d) τ
unfolding is_named
fit-named pbool t p q r = absurd (false≢true t)
fit-named pint t p q r = absurd (false≢true t)
fit-named (pnamed n) t p q r = p_fit p q r

module _ (P : File) (C : List Plain) where
  mutual
    unfolding plain_of

    plain-typed : (e : Expr) (Γ : List Plain) → Whenever (PlainTyping P C Γ e) (plain_of P C e Γ)
    plain-typed (ebool b) Γ = w_some p_bool
    plain-typed (eint n) Γ = w_some p_int
    plain-typed (evar v) Γ = whenever-map (λ τ e. p_var e) (whenever _)
    plain-typed (enow c) Γ = whenever-map (λ τ e. p_node e) (whenever _)
    plain-typed (elast c) Γ = whenever-map (λ τ e. p_atlast e) (whenever _)
    plain-typed (elet a b) Γ = whenever-chain (plain-typed a Γ) (λ σ p. whenever-map (λ τ q. p_let p q) (plain-typed b _))
    plain-typed (eif a b d) Γ = whenever-chain (plain-typed b Γ) (λ τ q. whenever-when _ _ (λ t. p_if (is-typed (plain-typed a Γ) (both_left _ _ t)) q (is-typed (plain-typed d Γ) (both_right _ _ t))))
    plain-typed (eop o a b) Γ = whenever-when _ _ (λ t. p_op (is-typed (plain-typed a Γ) (both_left _ _ t)) (is-typed (plain-typed b Γ) (both_right _ _ t)) refl)
    plain-typed (ecall f es) Γ = whenever-chain (whenever (look P.functions f)) (λ F e. whenever-when _ _ (λ t. p_call e (are-typed (plains-typed es Γ) t) refl))
    plain-typed (econ t c es) Γ = whenever-chain (whenever (look (constructors_of P t) c)) (λ fs e. whenever-when _ _ (λ x. p_ctor e (are-typed (plains-typed es Γ) x)))
    plain-typed (ecase t a r bs) Γ = whenever-when _ _ (λ x. p_case (is-typed (plain-typed a Γ) (both_left _ _ x)) (branches-typed bs _ t _ Γ (both_right _ _ x)) refl)
    plain-typed (eadj s a) Γ = whenever-chain (plain-typed a Γ) (λ τ p. whenever-when _ _ (λ t. adj-named τ t p))
    plain-typed (efit k a b d) Γ = whenever-chain (plain-typed a Γ) (λ σ p. whenever-chain (plain-typed b _) (λ τ q. whenever-when _ _ (λ t. fit-named σ (both_left _ _ t) p q (is-typed (plain-typed d Γ) (both_right _ _ t)))))

    plains-typed : (es : Exprs) (Γ : List Plain) → Whenever (PlainTypings P C Γ es) (plains_of P C es Γ)
    plains-typed enil Γ = w_some ps_nil
    plains-typed (econs e es) Γ = whenever-chain (plain-typed e Γ) (λ τ p. whenever-chain (plains-typed es Γ) (λ τs ps. w_some (ps_cons p ps)))

    branches-typed : (bs : Exprs) (cs : List Constructor) (t : ℕ) (τ : Plain) (Γ : List Plain) → plain_branches P C bs cs t τ Γ ≡ true → PlainBranches P C Γ t cs bs τ
    branches-typed enil [] t τ Γ e = p_none
    branches-typed enil (fs ∷ cs) t τ Γ e = absurd (false≢true e)
    branches-typed (econs b bs) [] t τ Γ e = absurd (false≢true e)
    branches-typed (econs b bs) (fs ∷ cs) t τ Γ e = p_branch (is-typed (plain-typed b _) (both_left _ _ e)) (branches-typed bs cs t τ Γ (both_right _ _ e))

  pub plain-typing : (e : Expr) (Γ : List Plain) {τ : Plain} → plain_of P C e Γ ≡ some τ → PlainTyping P C Γ e τ
  plain-typing e Γ z = whenever-is (plain-typed e Γ) z

-- ---- typed expressions pass the check
module _ (P : File) (C : List Plain) where
  mutual
    unfolding plain_of chain when is_named

    pub typing-plain : {Γ : List Plain} {e : Expr} {τ : Plain} → PlainTyping P C Γ e τ → plain_of P C e Γ ≡ some τ
    typing-plain p_bool = refl
    typing-plain p_int = refl
    typing-plain (p_var e) = e
    typing-plain (p_node e) = e
    typing-plain (p_atlast e) = e
    typing-plain (p_let p q) = rw (typing-plain p) (typing-plain q)
    typing-plain (p_if p q r) = rw (typing-plain q, both_true (some-is-plain (typing-plain p)) (some-is-plain (typing-plain r)))
    typing-plain (p_op p q z) = rw (both_true (some-is-plain (typing-plain p)) (some-is-plain (typing-plain q)), z)
    typing-plain (p_call e ps z) = rw (e, some-are-plain (typings-plain ps), z)
    typing-plain (p_ctor e ps) = rw (e, some-are-plain (typings-plain ps))
    typing-plain (p_case p bs z) = rw (z, both_true (some-is-plain (typing-plain p)) (rw z at (branches-plain bs)))
    typing-plain (p_adj p) = rw (typing-plain p)
    typing-plain (p_fit p q r) = rw (typing-plain p, typing-plain q, both_true refl (some-is-plain (typing-plain r)))

    typings-plain : {Γ : List Plain} {es : Exprs} {τs : List Plain} → PlainTypings P C Γ es τs → plains_of P C es Γ ≡ some τs
    typings-plain ps_nil = refl
    typings-plain (ps_cons p ps) = rw (typing-plain p, typings-plain ps)

    branches-plain : {Γ : List Plain} {t : ℕ} {cs : List Constructor} {bs : Exprs} {τ : Plain} → PlainBranches P C Γ t cs bs τ → plain_branches P C bs cs t τ Γ ≡ true
    branches-plain p_none = refl
    branches-plain (p_branch p bs) = both_true (some-is-plain (typing-plain p)) (branches-plain bs)

  pub plain-iff-typing : (e : Expr) (Γ : List Plain) (τ : Plain) → (plain_of P C e Γ ≡ some τ) ↔ PlainTyping P C Γ e τ
  plain-iff-typing e Γ τ = ((λ z. plain-typing P C e Γ z), (λ p. typing-plain p))

-- ---- files
plain-initial : (P : File) (τ : Ty) (e : Expr) → plain_initial P τ e ≡ true → PlainInitial P τ e
unfolding plain_initial
plain-initial P τ e t = record { form = both_left _ _ t; typed = plain-typing P [] e [] (is-plain _ _ (both_right _ _ t)) }

initial-plain : (P : File) (τ : Ty) (e : Expr) → PlainInitial P τ e → plain_initial P τ e ≡ true
unfolding plain_initial
initial-plain P τ e x = both_true x.form (some-is-plain (typing-plain P [] x.typed))

plain-node : (P : File) (M : Node) → plain_node P M ≡ true → PlainNode P M
unfolding plain_node
plain-node P M t = record {
  initial = plain-initial P M.declared M.initial (both_left _ _ t);
  update = plain-typing P (channel_types P) M.update [] (is-plain _ _ (both_right _ _ t));
}

node-plain : (P : File) (M : Node) → PlainNode P M → plain_node P M ≡ true
unfolding plain_node
node-plain P M x = both_true (initial-plain P M.declared M.initial x.initial) (some-is-plain (typing-plain P (channel_types P) x.update))

-- the tests of a file, in frame order
abbrev function_tests : File → List Bool
function_tests P = map (plain_function P) P.functions

abbrev input_tests : File → List Bool
input_tests P = map (plain_input P) P.inputs

abbrev node_tests : File → List Bool
node_tests P = map (plain_node P) P.nodes

tests-typed : (P : File) → AllTrue (function_tests P ++ (input_tests P ++ node_tests P)) → WellPlain P
unfolding plain_function plain_input
tests-typed P ts = let cs = all_right (function_tests P) _ ts in record {
  bodies = λ f F at. plain-typing P [] F.body F.parameters (is-plain _ _ (all-at (all_of_map (plain_function P) P.functions (all_left (function_tests P) _ ts)) f at));
  inputs = λ i I at. plain-initial P I.declared I.initial (all-at (all_of_map (plain_input P) P.inputs (all_left (input_tests P) _ cs)) i at);
  nodes = λ n M at. plain-node P M (all-at (all_of_map (plain_node P) P.nodes (all_right (input_tests P) _ cs)) n at);
}

typed-tests : (P : File) → WellPlain P → AllTrue (function_tests P ++ (input_tests P ++ node_tests P))
unfolding plain_function plain_input
typed-tests P W = all_append
    (all-to-map (plain_function P) (all-each P.functions (λ f F at. some-is-plain (typing-plain P [] (W.bodies f F at)))))
    (all_append
    (all-to-map (plain_input P) (all-each P.inputs (λ i I at. initial-plain P I.declared I.initial (W.inputs i I at))))
    (all-to-map (plain_node P) (all-each P.nodes (λ n M at. node-plain P M (W.nodes n M at)))))

pub well-plain : {A : Type 0} {a : A} (P : File) (r : Result A) → plain_types P r ≡ ok a → WellPlain P
unfolding plain_types
well-plain P r z = tests-typed P (each-test types_disagree _ _ r z)

pub well-plain-passes : {A : Type 0} (P : File) (r : Result A) → WellPlain P → plain_types P r ≡ r
unfolding plain_types
well-plain-passes P r W = each-passes types_disagree _ r (typed-tests P W)

pub passes-iff-well-plain : {A : Type 0} (P : File) (r : Result A) (a : A) → (plain_types P r ≡ ok a) ↔ (WellPlain P × (r ≡ ok a))
unfolding plain_types
passes-iff-well-plain P r a = ((λ z. (well-plain P r z, each-rest types_disagree _ _ r z)), (λ w. well-plain-passes P r w.0 ∙ w.1))
