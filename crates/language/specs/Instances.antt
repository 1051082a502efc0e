-- The instances that a derivation of sizes needs: those of its calls, and of the calls in their bodies; and how many different ones.
-- Document 01, "Checking": "an instance, a function with the sizes of its named arguments".
use Rattle.std.specs.Prelude.{ℕ, ◌≤◌, ◌<◌, length}
use mathlib.Core.List.{List, [], ◌∷◌, ◌++◌, Memᴰ as In}
use Rattle.language.specs.Syntax.{Ty, Expr, Exprs, Constructor, Node, File}
use Rattle.language.specs.Within.{All}
use Rattle.language.specs.Estimate.{Estimate}
use Rattle.language.specs.Typing.{Place, Typing, Typings, Branches, AtSplits, Initials, Updates, WellSized}
use Rattle.language.specs.Typing.{t_bool, t_int, t_var, t_node, t_atlast, t_let, t_if, t_op, t_call, t_ctor, t_case, t_adj, t_fit, ts_nil, ts_cons, t_none, t_skip, t_branch, s_none, s_cons, c_none, c_init, c_last, c_node}

-- an instance without its numbers
pub record Key : Type 0 where
  pub function : ℕ
  pub sizes : List ℕ

abbrev pub key : ℕ → List ℕ → Key
key g ks = record { function = g; sizes = ks }

-- in the order of the calls, with repeats
module _ {P : File} where
  unfoldable mutual
    pub instances_of : {p : Place} {Γ : List Ty} {Δ : List ℕ} {e : Expr} {τ : Ty} {n : Estimate} → Typing P p Γ Δ e τ n → List Key
    instances_of (t_bool x) = []
    instances_of (t_int x) = []
    instances_of (t_var l x) = []
    instances_of (t_node l x) = []
    instances_of (t_atlast l x) = []
    instances_of (t_let a b x) = instances_of a ++ instances_of b
    instances_of (t_if a b d x) = instances_of a ++ (instances_of b ++ instances_of d)
    instances_of (t_op s a b r x) = instances_of a ++ instances_of b
    instances_of (t_call {g} {ks} es l s i c f r body x) = instances_of_all es ++ (key g ks ∷ instances_of body)
    instances_of (t_ctor es l s less i k x) = instances_of_all es
    instances_of (t_case e r bs x) = instances_of e ++ instances_of_branches bs
    instances_of (t_adj s e le) = instances_of e
    instances_of (t_fit a b d x) = instances_of a ++ (instances_of b ++ instances_of d)

    pub instances_of_all : {p : Place} {Γ : List Ty} {Δ : List ℕ} {es : Exprs} {τs : List Ty} {n : Estimate} → Typings P p Γ Δ es τs n → List Key
    instances_of_all (ts_nil x) = []
    instances_of_all (ts_cons e es x) = instances_of e ++ instances_of_all es

    pub instances_of_branches : {p : Place} {Γ : List Ty} {Δ : List ℕ} {t k : ℕ} {cs : List Constructor} {bs : Exprs} {τ : Ty} {n : Estimate} → Branches P p Γ Δ t k cs bs τ n → List Key
    instances_of_branches (t_none x) = []
    instances_of_branches (t_skip le bs) = instances_of_branches bs
    instances_of_branches (t_branch less b bs x) = instances_at_splits b ++ instances_of_branches bs

    pub instances_at_splits : {p : Place} {Γ : List Ty} {Δ : List ℕ} {t : ℕ} {fs : Constructor} {kss : List (List ℕ)} {b : Expr} {τ : Ty} {n : Estimate} → AtSplits P p Γ Δ t fs kss b τ n →
        List Key
    instances_at_splits (s_none x) = []
    instances_at_splits (s_cons b bs x) = instances_of b ++ instances_at_splits bs

  unfoldable pub instances_of_initials : {c : ℕ} {es : List Expr} {τs : List Ty} → Initials P c es τs → List Key
  instances_of_initials c_none = []
  instances_of_initials (c_init e es) = instances_of e ++ instances_of_initials es

  unfoldable pub instances_of_updates : {c : ℕ} {ns : List Node} {xs : List Estimate} → Updates P c ns xs → List Key
  instances_of_updates c_last = []
  instances_of_updates (c_node u us) = instances_of u ++ instances_of_updates us

  -- all instances of a file
  unfoldable pub instances_of_file : {xs : List Estimate} → WellSized P xs → List Key
  instances_of_file w = instances_of_initials w.initials ++ instances_of_updates w.updates

-- the instances that a derivation needs
abbrev pub Needed : {P : File} {xs : List Estimate} → WellSized P xs → Key → Type 0
Needed w k = In k (instances_of_file w)

-- ---- how many different things satisfy K
pub data Distinct {A : Type 0} : List A → Type 0 where
  distinct_nil : Distinct []
  distinct_cons : {a : A} {l : List A} → (In a l → ⊥) → Distinct l → Distinct (a ∷ l)

-- more than n: those of a list without repeats that is longer
pub record MoreThan {A : Type 0} (n : ℕ) (K : A → Type 0) : Type 0 where
  pub these : List A
  pub distinct : Distinct these
  pub many : n < length these
  pub all : All K these

-- at most n: they all stand in a list of at most n
pub record AtMost {A : Type 0} (n : ℕ) (K : A → Type 0) : Type 0 where
  pub these : List A
  pub few : length these ≤ n
  pub all : (a : A) → K a → In a these
