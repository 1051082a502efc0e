-- The size checker: figures 5 to 7 as a function, with refusals 10 to 14 and the list of instances in order of entry.
-- Document 01, "Checking". Open recursion: `enter` is what a called body gives; instances left are the structural argument.
use Rattle.std.specs.Prelude.{ℕ, zero, suc, ◌+◌, ◌-◌, List, [], ◌∷◌, ◌++◌, true, false, length, set, ltb, leb, eqb}
use Rattle.std.proofs.Math.Option.{Option, none, some}
use Rattle.std.proofs.Math.ListN.{get_elem? as look}
use Rattle.language.specs.Limits.{size_most, instances_most}
use Rattle.language.specs.Refusals.{bad_index, types_disagree, size_outside, sizes_disagree, condition_fails, measure_not_less, too_many_instances}
use Rattle.language.specs.Result.{Result, ok, no, bind, need, from, both, choose}
use Rattle.language.specs.Syntax.{Constructor, Ty, tbool, tint, tnamed, owns, Expr, ebool, eint, evar, enow, elast, elet, eif, eop, ecall, econ, ecase, eadj, efit, Exprs, enil, econs}
use Rattle.language.specs.Syntax.{Function, Node, File, constructors_of, function_frame, channel_frame, declared_types, initial_values}
use Rattle.language.specs.PlainTypes.{operand_type, op_type}
use Rattle.language.specs.Sizes.{type_size, type_at, conditions_hold, sum, summed_measure, sizes_of, parameter_types, field_types, own_sizes, same_type, same_types, same_sizes}
use Rattle.language.specs.Splits.{splits}
use Rattle.language.specs.Estimate.{Estimate, nothing, one_cell, after, either, with_slots, in_call}
use Rattle.language.specs.Typing.{Place, outside, inside, channels_at, frame_at, falls, base_type}

-- An instance is document 01's term: "a function with the sizes of its named arguments". Its numbers are its body's, filled
-- in when the body has been checked.
pub record Instance : Type 0 where
  pub function : ℕ
  pub sizes : List ℕ
  pub numbers : Estimate

-- what a part gives: a type (of several parts, types), its numbers, and the instances entered so far
pub record Sized : Type 0 where
  pub type : Ty
  pub numbers : Estimate
  pub list : List Instance

pub record Sizeds : Type 0 where
  pub types : List Ty
  pub numbers : Estimate
  pub list : List Instance

pub record Counted : Type 0 where
  pub numbers : Estimate
  pub list : List Instance

-- a value of a named type; plain types have been checked before
unfoldable pub named : {A : Type 0} → Ty → ℕ → (ℕ → ℕ → Result A) → Result A
named tbool frame k = no types_disagree frame
named tint frame k = no types_disagree frame
named (tnamed t j) frame k = k t j

-- one branch at each split
unfoldable pub at_splits : List (List ℕ) → (List ℕ → List Instance → Result Counted) → List Instance → Result Counted
at_splits [] f L = ok (record { numbers = nothing; list = L })
at_splits (ks ∷ kss) f L = bind (f ks L) (λ q. bind (at_splits kss f q.list) (λ r. ok (record { numbers = either q.numbers r.numbers; list = r.list })))

-- what a called body gives: the call's frame, the function, its sizes, its result type, the instances so far
abbrev pub Enter : Type 0
Enter = ℕ → ℕ → Function → List ℕ → Ty → List Instance → Result Counted

module _ (P : File) (enter : Enter) where
  unfoldable mutual
    pub sized : Expr → Place → List Ty → List ℕ → List Instance → Result Sized
    sized (ebool b) p Γ Δ L = ok (record { type = tbool; numbers = one_cell; list = L })
    sized (eint n) p Γ Δ L = ok (record { type = tint; numbers = one_cell; list = L })
    sized (evar v) p Γ Δ L = from (look Γ v) bad_index (frame_at P p) (λ τ. ok (record { type = τ; numbers = nothing; list = L }))
    sized (enow c) p Γ Δ L = from (look (channels_at p) c) bad_index (frame_at P p) (λ τ. ok (record { type = τ; numbers = nothing; list = L }))
    sized (elast c) p Γ Δ L = from (look (channels_at p) c) bad_index (frame_at P p) (λ τ. ok (record { type = τ; numbers = nothing; list = L }))
    sized (elet a b) p Γ Δ L = bind (sized a p Γ Δ L) (λ q. bind (sized b p (Γ ++ (q.type ∷ [])) Δ q.list) (λ r.
        ok (record { type = r.type; numbers = after q.numbers (with_slots 1 r.numbers); list = r.list })))
    sized (eif a b d) p Γ Δ L = bind (sized a p Γ Δ L) (λ q. need (same_type q.type tbool) types_disagree (frame_at P p) (bind (sized b p Γ Δ q.list) (λ r. bind (sized d p Γ Δ r.list) (λ s.
        need (same_type s.type r.type) sizes_disagree (frame_at P p) (ok (record { type = r.type; numbers = after q.numbers (either r.numbers s.numbers); list = s.list }))))))
    sized (eop o a b) p Γ Δ L = bind (sized a p Γ Δ L) (λ q. need (same_type q.type (base_type (operand_type o))) types_disagree (frame_at P p) (bind (sized b p Γ Δ q.list) (λ r.
        need (same_type r.type (base_type (operand_type o))) types_disagree (frame_at P p) (ok (record { type = base_type (op_type o); numbers = after (after q.numbers r.numbers) one_cell; list = r.list })))))
    -- "A call checks arguments, conditions, for a self-call that the summed measure falls, the result size, then enters its body"
    sized (ecall g es) p Γ Δ L = bind (sizeds es p Γ Δ L) (λ q. from (look P.functions g) bad_index (frame_at P p) (λ F. let ks = sizes_of q.types in
        need (same_types (parameter_types F.parameters ks) q.types) types_disagree (frame_at P p) (need (conditions_hold ks F.conditions) condition_fails (frame_at P p)
        (need (falls p g (summed_measure F.measure ks)) measure_not_less (frame_at P p) (from (type_at ks F.result) size_outside (function_frame P g) (λ τ. bind (enter (frame_at P p) g F ks τ q.list) (λ r.
        ok (record { type = τ; numbers = with_slots (length F.parameters) (after q.numbers (in_call r.numbers)); list = r.list }))))))))
    -- "10 precedes 11"
    sized (econ t i es) p Γ Δ L = bind (sizeds es p Γ Δ L) (λ q. from (look (constructors_of P t) i) bad_index (frame_at P p) (λ fs. let ks = own_sizes fs q.types in
        need (ltb (sum ks) size_most) size_outside (frame_at P p) (need (same_types (field_types t fs ks) q.types) sizes_disagree (frame_at P p)
        (ok (record { type = tnamed t (1 + sum ks); numbers = after q.numbers one_cell; list = q.list })))))
    sized (ecase t e r bs) p Γ Δ L = bind (sized e p Γ Δ L) (λ q. named q.type (frame_at P p) (λ u k. need (eqb u t) types_disagree (frame_at P p) (from (type_at Δ r) size_outside (frame_at P p) (λ τ.
        bind (sized_branches bs (constructors_of P t) p Γ Δ t k τ q.list) (λ s. ok (record { type = τ; numbers = after q.numbers s.numbers; list = s.list }))))))
    sized (eadj s e) p Γ Δ L = from (type_size Δ s) size_outside (frame_at P p) (λ k. bind (sized e p Γ Δ L) (λ q. named q.type (frame_at P p) (λ t j.
        need (leb j k) sizes_disagree (frame_at P p) (ok (record { type = tnamed t k; numbers = q.numbers; list = q.list })))))
    sized (efit k a b d) p Γ Δ L = bind (sized a p Γ Δ L) (λ q. named q.type (frame_at P p) (λ t j. bind (sized b p (Γ ++ (tnamed t k ∷ [])) Δ q.list) (λ r. bind (sized d p Γ Δ r.list) (λ s.
        need (same_type s.type r.type) sizes_disagree (frame_at P p) (ok (record { type = r.type; numbers = after q.numbers (either (with_slots 1 r.numbers) s.numbers); list = s.list }))))))

    pub sizeds : Exprs → Place → List Ty → List ℕ → List Instance → Result Sizeds
    sizeds enil p Γ Δ L = ok (record { types = []; numbers = nothing; list = L })
    sizeds (econs e es) p Γ Δ L = bind (sized e p Γ Δ L) (λ q. bind (sizeds es p Γ Δ q.list) (λ r.
        ok (record { types = q.type ∷ r.types; numbers = after q.numbers r.numbers; list = r.list })))

    -- a branch is skipped, or "checked for every split"; "Agreement with the return type closes each of these checks."
    pub sized_branches : Exprs → List Constructor → Place → List Ty → List ℕ → ℕ → ℕ → Ty → List Instance → Result Counted
    sized_branches enil [] p Γ Δ t k τ L = ok (record { numbers = nothing; list = L })
    sized_branches enil (fs ∷ cs) p Γ Δ t k τ L = no types_disagree (frame_at P p)
    sized_branches (econs b bs) [] p Γ Δ t k τ L = no types_disagree (frame_at P p)
    sized_branches (econs b bs) (fs ∷ cs) p Γ Δ t k τ L =
        let skip : Result Counted = sized_branches bs cs p Γ Δ t k τ L in
        let take : Result Counted = bind (at_splits (splits (owns fs) (k - 1)) (λ ks M. bind (sized b p (Γ ++ field_types t fs ks) (Δ ++ ks) M) (λ q. need (same_type q.type τ) sizes_disagree (frame_at P p) (ok (record { numbers = q.numbers; list = q.list })))) L)
        (λ q. bind (sized_branches bs cs p Γ Δ t k τ q.list) (λ r. ok (record { numbers = either (with_slots (length fs) q.numbers) r.numbers; list = r.list }))) in
        choose (leb k (owns fs)) skip take

-- the numbers of an instance that was entered before
unfoldable pub find : List Instance → ℕ → List ℕ → Option Estimate
find [] g ks = none
find (r ∷ L) g ks = elim (both (eqb r.function g) (same_sizes r.sizes ks)) [ true ↦ some r.numbers | false ↦ find L g ks ]

unfoldable pub found_or : Option Estimate → List Instance → Result Counted → Result Counted
found_or (some n) L r = ok (record { numbers = n; list = L })
found_or none L r = r

-- "then enters its body if that instance was not entered before"; the record is added on entry. left: the instances left at
-- the most, of which the bodies inside are entered.
unfoldable pub enter_at : File → ℕ → ℕ → Enter
enter_at P most zero frame g F ks τ L = found_or (find L g ks) L (no too_many_instances frame)
enter_at P most (suc left) frame g F ks τ L =
    let body : Result Counted = need (ltb (length L) most) too_many_instances frame (bind (sized P (enter_at P most left) F.body (inside g (summed_measure F.measure ks)) (parameter_types F.parameters ks) ks (L ++ (record { function = g; sizes = ks; numbers = nothing } ∷ [])))
    (λ q. need (same_type q.type τ) sizes_disagree (function_frame P g) (ok (record { numbers = q.numbers; list = set q.list (length L) (record { function = g; sizes = ks; numbers = q.numbers }) })))) in
    found_or (find L g ks) L body

-- ---- the file: "Initial values come first in channel order, then updates in node order"
-- an expression of channel c, which agrees exactly with the declared type
unfoldable pub sized_channel : File → ℕ → List Ty → Expr → Ty → List Instance → Result Counted
sized_channel P c C e τ L = bind (sized P (enter_at P instances_most instances_most) e (outside (channel_frame P c) C) [] [] L)
    (λ q. need (same_type q.type τ) sizes_disagree (channel_frame P c) (ok (record { numbers = q.numbers; list = q.list })))

unfoldable pub sized_initials : File → ℕ → List Expr → List Ty → List Instance → Result (List Instance)
sized_initials P c [] τs L = ok L
sized_initials P c (e ∷ es) [] L = ok L
sized_initials P c (e ∷ es) (τ ∷ τs) L = bind (sized_channel P c [] e τ L) (λ q. sized_initials P (suc c) es τs q.list)

-- the numbers of each update, and all instances
pub record SizedFile : Type 0 where
  pub updates : List Estimate
  pub list : List Instance

unfoldable pub sized_updates : File → ℕ → List Node → List Instance → Result SizedFile
sized_updates P c [] L = ok (record { updates = []; list = L })
sized_updates P c (n ∷ ns) L = bind (sized_channel P c (declared_types P) n.update n.declared L) (λ q. bind (sized_updates P (suc c) ns q.list) (λ r.
    ok (record { updates = q.numbers ∷ r.updates; list = r.list })))

unfoldable pub sized_file : File → Result SizedFile
sized_file P = bind (sized_initials P 0 (initial_values P) (declared_types P) []) (λ L. sized_updates P (length P.inputs) P.nodes L)
