-- Figures 5, 6 and 7 together, read at instances: "the paper's 'for all sizes' is read at each instance, a function with the
-- sizes of its named arguments". An expression in a typed scope has a type with a size and the three numbers of figure 7.
-- A rule bears the paper's name. Computed numbers stand as a variable and an equation. Both sides of `06` and `07` count, though one may not
-- be evaluated: document 02, R-2, "The estimate keeps 1 plus both sides, an upper bound".
use Rattle.std.specs.Prelude.{ℕ, suc, ◌+◌, ◌-◌, ◌≤◌, ◌<◌, List, [], ◌∷◌, ◌++◌, Bool, true, ◌≡◌, length, ltb, eqb}
use Rattle.std.proofs.Math.Option.{some}
use Rattle.std.proofs.Math.ListN.{get_elem? as look}
use Rattle.language.specs.Limits.{size_most}
use Rattle.language.specs.Result.{choose}
use Rattle.language.specs.Syntax.{Constructor, Plain, pbool, pint, pnamed, Ty, tbool, tint, tnamed, Size, ResultType, Op, owns, Expr, ebool, eint, evar, enow, elast, elet, eif, eop, ecall, econ, ecase, eadj, efit, Exprs, enil, econs}
use Rattle.language.specs.Syntax.{Function, Node, File, constructors_of, function_frame, channel_frame, declared_types, initial_values}
use Rattle.language.specs.PlainTypes.{operand_type, op_type}
use Rattle.language.specs.Sizes.{type_size, type_at, conditions_hold, sum, summed_measure, sizes_of, parameter_types, field_types, own_sizes}
use Rattle.language.specs.Splits.{splits}
use Rattle.language.specs.Estimate.{Estimate, nothing, one_cell, after, either, with_slots, in_call}

-- Where an expression stands: outside all functions, in a frame and with the channels of these types, or in a function at an
-- instance whose summed measure is this.
pub data Place : Type 0 where
  outside : ℕ → List Ty → Place
  inside : ℕ → ℕ → Place

-- the types of the channels that may be read there: "Its body names no channel."
unfoldable pub channels_at : Place → List Ty
channels_at (outside frame C) = C
channels_at (inside f w) = []

unfoldable pub frame_at : File → Place → ℕ
frame_at P (outside frame C) = frame
frame_at P (inside f w) = function_frame P f

-- "for a self-call that the summed measure falls": R of T-CALL
unfoldable pub falls : Place → ℕ → ℕ → Bool
falls (outside frame C) g w = true
falls (inside f v) g w = choose (eqb f g) (ltb w v) true

-- the base types of operators as types with sizes
unfoldable pub base_type : Plain → Ty
base_type pbool = tbool
base_type pint = tint
base_type (pnamed t) = tnamed t 0

module _ (P : File) where
  mutual
    pub data Typing : Place → List Ty → List ℕ → Expr → Ty → Estimate → Type 0 where
      t_bool : {p : Place} {Γ : List Ty} {Δ : List ℕ} {b : Bool} {x : Estimate} → x ≡ one_cell → Typing p Γ Δ (ebool b) tbool x
      t_int : {p : Place} {Γ : List Ty} {Δ : List ℕ} {n : ℕ} {x : Estimate} → x ≡ one_cell → Typing p Γ Δ (eint n) tint x
      t_var : {p : Place} {Γ : List Ty} {Δ : List ℕ} {v : ℕ} {τ : Ty} {x : Estimate} → look Γ v ≡ some τ → x ≡ nothing → Typing p Γ Δ (evar v) τ x
      t_node : {p : Place} {Γ : List Ty} {Δ : List ℕ} {c : ℕ} {τ : Ty} {x : Estimate} → look (channels_at p) c ≡ some τ → x ≡ nothing → Typing p Γ Δ (enow c) τ x
      t_atlast : {p : Place} {Γ : List Ty} {Δ : List ℕ} {c : ℕ} {τ : Ty} {x : Estimate} → look (channels_at p) c ≡ some τ → x ≡ nothing → Typing p Γ Δ (elast c) τ x
      t_let : {p : Place} {Γ : List Ty} {Δ : List ℕ} {a b : Expr} {σ τ : Ty} {m n x : Estimate} →
          Typing p Γ Δ a σ m → Typing p (Γ ++ (σ ∷ [])) Δ b τ n → x ≡ after m (with_slots 1 n) → Typing p Γ Δ (elet a b) τ x
      t_if : {p : Place} {Γ : List Ty} {Δ : List ℕ} {a b d : Expr} {τ : Ty} {l m n x : Estimate} →
          Typing p Γ Δ a tbool l → Typing p Γ Δ b τ m → Typing p Γ Δ d τ n → x ≡ after l (either m n) → Typing p Γ Δ (eif a b d) τ x
      t_op : {p : Place} {Γ : List Ty} {Δ : List ℕ} {o : Op} {a b : Expr} {σ τ : Ty} {m n x : Estimate} →
          σ ≡ base_type (operand_type o) → Typing p Γ Δ a σ m → Typing p Γ Δ b σ n → τ ≡ base_type (op_type o) → x ≡ after (after m n) one_cell → Typing p Γ Δ (eop o a b) τ x
      t_call : {p : Place} {Γ : List Ty} {Δ : List ℕ} {g : ℕ} {es : Exprs} {τs : List Ty} {ks : List ℕ} {F : Function} {τ : Ty} {m n x : Estimate} →
          Typings p Γ Δ es τs m → look P.functions g ≡ some F → sizes_of τs ≡ ks → parameter_types F.parameters ks ≡ τs →
          conditions_hold ks F.conditions ≡ true → falls p g (summed_measure F.measure ks) ≡ true → type_at ks F.result ≡ some τ →
          Typing (inside g (summed_measure F.measure ks)) (parameter_types F.parameters ks) ks F.body τ n →
          x ≡ with_slots (length F.parameters) (after m (in_call n)) → Typing p Γ Δ (ecall g es) τ x
      t_ctor : {p : Place} {Γ : List Ty} {Δ : List ℕ} {t i : ℕ} {es : Exprs} {τs : List Ty} {fs : Constructor} {ks : List ℕ} {k : ℕ} {m x : Estimate} →
          Typings p Γ Δ es τs m → look (constructors_of P t) i ≡ some fs → own_sizes fs τs ≡ ks → sum ks < size_most → field_types t fs ks ≡ τs → k ≡ 1 + sum ks →
          x ≡ after m one_cell → Typing p Γ Δ (econ t i es) (tnamed t k) x
      t_case : {p : Place} {Γ : List Ty} {Δ : List ℕ} {t k : ℕ} {e : Expr} {r : ResultType} {bs : Exprs} {τ : Ty} {m n x : Estimate} →
          Typing p Γ Δ e (tnamed t k) m → type_at Δ r ≡ some τ → Branches p Γ Δ t k (constructors_of P t) bs τ n →
          x ≡ after m n → Typing p Γ Δ (ecase t e r bs) τ x
      t_adj : {p : Place} {Γ : List Ty} {Δ : List ℕ} {s : Size} {e : Expr} {t j k : ℕ} {m : Estimate} →
          type_size Δ s ≡ some k → Typing p Γ Δ e (tnamed t j) m → j ≤ k → Typing p Γ Δ (eadj s e) (tnamed t k) m
      t_fit : {p : Place} {Γ : List Ty} {Δ : List ℕ} {k : ℕ} {a b d : Expr} {t j : ℕ} {τ : Ty} {l m n x : Estimate} →
          Typing p Γ Δ a (tnamed t j) l → Typing p (Γ ++ (tnamed t k ∷ [])) Δ b τ m → Typing p Γ Δ d τ n →
          x ≡ after l (either (with_slots 1 m) n) → Typing p Γ Δ (efit k a b d) τ x

    -- arguments and fields, left to right
    pub data Typings : Place → List Ty → List ℕ → Exprs → List Ty → Estimate → Type 0 where
      ts_nil : {p : Place} {Γ : List Ty} {Δ : List ℕ} {x : Estimate} → x ≡ nothing → Typings p Γ Δ enil [] x
      ts_cons : {p : Place} {Γ : List Ty} {Δ : List ℕ} {e : Expr} {es : Exprs} {τ : Ty} {τs : List Ty} {m n x : Estimate} →
          Typing p Γ Δ e τ m → Typings p Γ Δ es τs n → x ≡ after m n → Typings p Γ Δ (econs e es) (τ ∷ τs) x

    -- T-BRANCH for each branch of a case over type t at size k: "skipped when m is at most its number of own-type fields"
    pub data Branches : Place → List Ty → List ℕ → ℕ → ℕ → List Constructor → Exprs → Ty → Estimate → Type 0 where
      t_none : {p : Place} {Γ : List Ty} {Δ : List ℕ} {t k : ℕ} {τ : Ty} {x : Estimate} → x ≡ nothing → Branches p Γ Δ t k [] enil τ x
      t_skip : {p : Place} {Γ : List Ty} {Δ : List ℕ} {t k : ℕ} {fs : Constructor} {cs : List Constructor} {b : Expr} {bs : Exprs} {τ : Ty} {n : Estimate} →
          k ≤ owns fs → Branches p Γ Δ t k cs bs τ n → Branches p Γ Δ t k (fs ∷ cs) (econs b bs) τ n
      t_branch : {p : Place} {Γ : List Ty} {Δ : List ℕ} {t k : ℕ} {fs : Constructor} {cs : List Constructor} {b : Expr} {bs : Exprs} {τ : Ty} {m n x : Estimate} →
          owns fs < k → AtSplits p Γ Δ t fs (splits (owns fs) (k - 1)) b τ m → Branches p Γ Δ t k cs bs τ n →
          x ≡ either (with_slots (length fs) m) n → Branches p Γ Δ t k (fs ∷ cs) (econs b bs) τ x

    -- one branch at each of these splits
    pub data AtSplits : Place → List Ty → List ℕ → ℕ → Constructor → List (List ℕ) → Expr → Ty → Estimate → Type 0 where
      s_none : {p : Place} {Γ : List Ty} {Δ : List ℕ} {t : ℕ} {fs : Constructor} {b : Expr} {τ : Ty} {x : Estimate} → x ≡ nothing → AtSplits p Γ Δ t fs [] b τ x
      s_cons : {p : Place} {Γ : List Ty} {Δ : List ℕ} {t : ℕ} {fs : Constructor} {ks : List ℕ} {kss : List (List ℕ)} {b : Expr} {τ : Ty} {m n x : Estimate} →
          Typing p (Γ ++ field_types t fs ks) (Δ ++ ks) b τ m → AtSplits p Γ Δ t fs kss b τ n → x ≡ either m n → AtSplits p Γ Δ t fs (ks ∷ kss) b τ x

  -- C-INIT: "a channel and its expressions agree exactly"; an initial value names no channel. c counts channels.
  pub data Initials : ℕ → List Expr → List Ty → Type 0 where
    c_none : {c : ℕ} → Initials c [] []
    c_init : {c : ℕ} {e : Expr} {es : List Expr} {τ : Ty} {τs : List Ty} {x : Estimate} → Typing (outside (channel_frame P c) []) [] [] e τ x → Initials (suc c) es τs → Initials c (e ∷ es) (τ ∷ τs)

  -- C-NODE: the updates and their numbers
  pub data Updates : ℕ → List Node → List Estimate → Type 0 where
    c_last : {c : ℕ} → Updates c [] []
    c_node : {c : ℕ} {n : Node} {ns : List Node} {x : Estimate} {xs : List Estimate} →
        Typing (outside (channel_frame P c) (declared_types P)) [] [] n.update n.declared x → Updates (suc c) ns xs → Updates c (n ∷ ns) (x ∷ xs)

  -- a file whose sizes are right, with the numbers of its updates
  pub record WellSized (xs : List Estimate) : Type 0 where
    pub initials : Initials 0 (initial_values P) (declared_types P)
    pub updates : Updates (length P.inputs) P.nodes xs
