-- The definition's checker only adds instances: those that were in the list stay where they are, as they are.
use Rattle.std.specs.Prelude.{ℕ, zero, suc, ◌-◌, List, [], ◌∷◌, ◌++◌, ◌≡◌, length, set}
use Rattle.std.proofs.Common.{append_assoc, append-nil, sym, ap, ◌∙◌}
use Rattle.std.proofs.Math.Seq.{set-append_seam}
use Rattle.language.specs.Result.{Result}
use Rattle.language.specs.Syntax.{Constructor, Ty, tnamed, owns, Expr, ebool, eint, evar, enow, elast, elet, eif, eop, ecall, econ, ecase, eadj, efit, Exprs, enil, econs, Function, File, constructors_of}
use Rattle.language.specs.Sizes.{field_types}
use Rattle.language.specs.Splits.{splits}
use Rattle.language.specs.Typing.{Place}
use Rattle.language.specs.Checker.{Instance, Sized, Sizeds, Counted, Enter, at_splits, sized, sizeds, sized_branches, find, enter_at}
use Rattle.theory.specs.Outcomes.{Sat, accepted, refused, bind-outcome, need-outcome, from-outcome, choose-outcome}
use Rattle.theory.specs.CheckerSteps.{named-outcome, found_or-outcome}

-- M is L and more
pub record Extends (L M : List Instance) : Type 0 where
  pub more : List Instance
  pub is : M ≡ L ++ more

pub extends-not : {L : List Instance} → Extends L L
extends-not {L} = record { more = []; is = sym (append-nil L) }

pub extends-then : {L M N : List Instance} → Extends L M → Extends M N → Extends L N
extends-then {L} g h = record { more = g.more ++ h.more; is = h.is ∙ ap (λ l. l ++ h.more) g.is ∙ append_assoc L g.more h.more }

-- a record behind L was filled in
pub filled_in : {M : List Instance} (L : List Instance) (r s : Instance) (g : Extends (L ++ (r ∷ [])) M) → set M (length L) s ≡ L ++ (s ∷ g.more)
filled_in {M} L r s g = ap (λ m. set m (length L) s) (g.is ∙ append_assoc L (r ∷ []) g.more) ∙ set-append_seam L r g.more s

pub extends-filled : {M : List Instance} (L : List Instance) (r s : Instance) → Extends (L ++ (r ∷ [])) M → Extends L (set M (length L) s)
extends-filled L r s g = record { more = s ∷ g.more; is = filled_in L r s g }

-- ---- what a part of the checker does to any list
abbrev pub Keeps : {A : Type 0} → (A → List Instance) → (List Instance → Result A) → Type 0
Keeps list run = (L : List Instance) → Sat (λ q. Extends L (list q)) (run L)

abbrev pub list_of : Sized → List Instance
list_of q = q.list

abbrev pub list_of_all : Sizeds → List Instance
list_of_all q = q.list

abbrev pub list_of_counted : Counted → List Instance
list_of_counted q = q.list

abbrev pub EnterKeeps : Enter → Type 0
EnterKeeps enter = (frame g : ℕ) (F : Function) (ks : List ℕ) (τ : Ty) → Keeps list_of_counted (enter frame g F ks τ)

splits-keep : (f : List ℕ → List Instance → Result Counted) → ((ks : List ℕ) → Keeps list_of_counted (f ks)) → (kss : List (List ℕ)) → Keeps list_of_counted (at_splits kss f)
unfolding at_splits
splits-keep f h [] L = accepted extends-not
splits-keep f h (ks ∷ kss) L = bind-outcome (h ks L) (λ q _ x. bind-outcome (splits-keep f h kss q.list) (λ r _ y. accepted (extends-then x y)))

module _ (P : File) (enter : Enter) (en : EnterKeeps enter) where
  mutual
    unfolding sized sizeds sized_branches

    pub sized-keeps : (e : Expr) (p : Place) (Γ : List Ty) (Δ : List ℕ) → Keeps list_of (sized P enter e p Γ Δ)
    sized-keeps (ebool b) p Γ Δ L = accepted extends-not
    sized-keeps (eint i) p Γ Δ L = accepted extends-not
    sized-keeps (evar v) p Γ Δ L = from-outcome _ _ _ (λ _. tt) (λ τ e. accepted extends-not)
    sized-keeps (enow c) p Γ Δ L = from-outcome _ _ _ (λ _. tt) (λ τ e. accepted extends-not)
    sized-keeps (elast c) p Γ Δ L = from-outcome _ _ _ (λ _. tt) (λ τ e. accepted extends-not)
    sized-keeps (elet a b) p Γ Δ L = bind-outcome (sized-keeps a p Γ Δ L) (λ q _ x. bind-outcome (sized-keeps b p (Γ ++ (q.type ∷ [])) Δ q.list) (λ r _ y. accepted (extends-then x y)))
    sized-keeps (eif a b d) p Γ Δ L = bind-outcome (sized-keeps a p Γ Δ L) (λ q _ x. need-outcome _ _ _ (λ _. tt) (λ _. bind-outcome (sized-keeps b p Γ Δ q.list) (λ r _ y.
        bind-outcome (sized-keeps d p Γ Δ r.list) (λ s _ z. need-outcome _ _ _ (λ _. tt) (λ _. accepted (extends-then x (extends-then y z)))))))
    sized-keeps (eop o a b) p Γ Δ L = bind-outcome (sized-keeps a p Γ Δ L) (λ q _ x. need-outcome _ _ _ (λ _. tt) (λ _. bind-outcome (sized-keeps b p Γ Δ q.list) (λ r _ y.
        need-outcome _ _ _ (λ _. tt) (λ _. accepted (extends-then x y)))))
    sized-keeps (ecall g es) p Γ Δ L = bind-outcome (sizeds-keep es p Γ Δ L) (λ q _ x. from-outcome _ _ _ (λ _. tt) (λ F _. need-outcome _ _ _ (λ _. tt) (λ _. need-outcome _ _ _ (λ _. tt) (λ _.
        need-outcome _ _ _ (λ _. tt) (λ _. from-outcome _ _ _ (λ _. tt) (λ τ _. bind-outcome (en _ g F _ τ q.list) (λ r _ y. accepted (extends-then x y))))))))
    sized-keeps (econ t i es) p Γ Δ L = bind-outcome (sizeds-keep es p Γ Δ L) (λ q _ x. from-outcome _ _ _ (λ _. tt) (λ fs _. need-outcome _ _ _ (λ _. tt) (λ _. need-outcome _ _ _ (λ _. tt) (λ _. accepted x))))
    sized-keeps (ecase t e r bs) p Γ Δ L = bind-outcome (sized-keeps e p Γ Δ L) (λ q _ x. named-outcome _ _ tt (λ u k _. need-outcome _ _ _ (λ _. tt) (λ _. from-outcome _ _ _ (λ _. tt) (λ τ _.
        bind-outcome (branches-keep bs (constructors_of P t) p Γ Δ t k τ q.list) (λ s _ y. accepted (extends-then x y))))))
    sized-keeps (eadj s e) p Γ Δ L = from-outcome _ _ _ (λ _. tt) (λ k _. bind-outcome (sized-keeps e p Γ Δ L) (λ q _ x. named-outcome _ _ tt (λ t j _. need-outcome _ _ _ (λ _. tt) (λ _. accepted x))))
    sized-keeps (efit k a b d) p Γ Δ L = bind-outcome (sized-keeps a p Γ Δ L) (λ q _ x. named-outcome _ _ tt (λ t j _. bind-outcome (sized-keeps b p (Γ ++ (tnamed t k ∷ [])) Δ q.list) (λ r _ y.
        bind-outcome (sized-keeps d p Γ Δ r.list) (λ s _ z. need-outcome _ _ _ (λ _. tt) (λ _. accepted (extends-then x (extends-then y z)))))))

    sizeds-keep : (es : Exprs) (p : Place) (Γ : List Ty) (Δ : List ℕ) → Keeps list_of_all (sizeds P enter es p Γ Δ)
    sizeds-keep enil p Γ Δ L = accepted extends-not
    sizeds-keep (econs e es) p Γ Δ L = bind-outcome (sized-keeps e p Γ Δ L) (λ q _ x. bind-outcome (sizeds-keep es p Γ Δ q.list) (λ r _ y. accepted (extends-then x y)))

    branches-keep : (bs : Exprs) (cs : List Constructor) (p : Place) (Γ : List Ty) (Δ : List ℕ) (t k : ℕ) (τ : Ty) → Keeps list_of_counted (sized_branches P enter bs cs p Γ Δ t k τ)
    branches-keep enil [] p Γ Δ t k τ L = accepted extends-not
    branches-keep enil (fs ∷ cs) p Γ Δ t k τ L = refused tt
    branches-keep (econs b bs) [] p Γ Δ t k τ L = refused tt
    branches-keep (econs b bs) (fs ∷ cs) p Γ Δ t k τ L = choose-outcome _ (λ _. branches-keep bs cs p Γ Δ t k τ L) (λ _.
        bind-outcome (splits-keep _ (λ ks M. bind-outcome (sized-keeps b p (Γ ++ field_types t fs ks) (Δ ++ ks) M) (λ q _ x. need-outcome _ _ _ (λ _. tt) (λ _. accepted x))) (splits (owns fs) (k - 1)) L) (λ q _ x.
        bind-outcome (branches-keep bs cs p Γ Δ t k τ q.list) (λ r _ y. accepted (extends-then x y))))

pub enters_keep : (P : File) (most left : ℕ) → EnterKeeps (enter_at P most left)
unfolding enter_at
enters_keep P most zero frame g F ks τ L = found_or-outcome (find L g ks) L (λ n e. extends-not) (λ _. refused tt)
enters_keep P most (suc left) frame g F ks τ L = found_or-outcome (find L g ks) L (λ n e. extends-not)
    (λ _. need-outcome _ _ _ (λ _. tt) (λ _. bind-outcome (sized-keeps P (enter_at P most left) (enters_keep P most left) F.body _ _ _ _) (λ q _ x. need-outcome _ _ _ (λ _. tt) (λ _. accepted (extends-filled L _ _ x)))))
