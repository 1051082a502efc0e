-- A state that is right is a typed one, and back; a heap of values, slid, is a right state.
use Rattle.std.specs.Prelude.{ℕ, zero, suc, ◌<◌, List, [], true, ◌≡◌, length}
use Rattle.std.proofs.Common.{ap, ◌∙◌, arith}
use Rattle.language.specs.Syntax.{Ty, File, declared_types}
use Rattle.language.specs.Slide.{State, mem, reached, slide}
use Rattle.language.specs.Layout.{cells_right, roots_right, all_reached, state_right}
use Rattle.theory.specs.Lists.{both_left, both_right, both_true}
use Rattle.theory.specs.Places.{below-or-last}
use Rattle.theory.specs.SlideKept.{each-reached}
use Rattle.theory.specs.TypedStates.{Holds, StateTyped}
use Rattle.theory.specs.SlideTyped.{slide-typed}
use Rattle.theory.specs.CellsRight.{values-cells-right, right-cells-values, env-roots-right, right-roots-env}

reached-each : (R : List ℕ) (n : ℕ) → all_reached R n ≡ true → (i : ℕ) → i < n → mem i R ≡ true
unfolding all_reached
reached-each R zero e i less = absurd (omega arith)
reached-each R (suc n) e i less = below-or-last i n less (λ below. reached-each R n (both_right _ _ e) i below) (λ last. ap (λ x. mem x R) last ∙ both_left _ _ e)

pub typed-right : {P : File} {s : State} → StateTyped P s → state_right P s ≡ true
unfolding state_right
typed-right {P} {s} t = both_true (values-cells-right [] s.heap t.holds.values) (both_true (env-roots-right t.holds.channels) (each-reached (reached s) (length s.heap) t.all-reached))

pub right-holds : (P : File) (τs : List Ty) (s : State) → cells_right P [] s.heap ≡ true → roots_right s.heap s.roots τs ≡ true → Holds P τs s
right-holds P τs s cells roots = let all = right-cells-values cells in record { values = all; channels = right-roots-env all s.roots τs roots }

pub right-typed : (P : File) (s : State) → state_right P s ≡ true → StateTyped P s
unfolding state_right
right-typed P s e = let rest = both_right (cells_right P [] s.heap) _ e in record {
  holds = right-holds P (declared_types P) s (both_left _ _ e) (both_left _ _ rest);
  all-reached = reached-each (reached s) (length s.heap) (both_right _ _ rest);
}

-- what an iteration leaves
pub slide-right : (P : File) (s : State) → cells_right P [] s.heap ≡ true → roots_right s.heap s.roots (declared_types P) ≡ true → state_right P (slide s) ≡ true
slide-right P s cells roots = typed-right (slide-typed s (right-holds P (declared_types P) s cells roots))
