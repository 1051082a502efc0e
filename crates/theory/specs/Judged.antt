-- The verdict on a board: it is accepted exactly where it lends the three numbers, else the first of 15 to 17 that it is short of is
-- answered; and the numbers are what is reported.
use Rattle.std.specs.Prelude.{ℕ, ◌≤◌, Bool, true, false, ◌≡◌, refl, leb}
use Rattle.std.proofs.Common.{ap, arith, le-leb, leb-true, leb-false}
use Rattle.std.proofs.lemmas.Bool.{lt-leb}
use Rattle.language.specs.Limits.{cells_most, slots_most, calls_most}
use Rattle.language.specs.Refusals.{heap_short, environment_short, stack_short}
use Rattle.language.specs.Result.{choose}
use Rattle.language.specs.Estimate.{Estimate}
use Rattle.language.specs.Machine.{Board, board_allowed, Answer, Verdict, accepted, short, answer, judge}
use Rattle.language.specs.Run.{Enough}
use Rattle.language.specs.Acceptance.{ShortOf, heap-short, environment-short, stack-short}
use Rattle.theory.specs.Lists.{both_left, both_right}

-- "A board has at most 2,048 cells, 256 slots, 64 calls."
pub record BoardAllowed (b : Board) : Type 0 where
  pub cells : b.cells ≤ cells_most
  pub slots : b.slots ≤ slots_most
  pub calls : b.calls ≤ calls_most

pub board-allowed : (b : Board) → board_allowed b ≡ true → BoardAllowed b
unfolding board_allowed
board-allowed b e = let more = both_right (leb b.cells cells_most) _ e in
    record { cells = leb-true b.cells cells_most (both_left _ _ e); slots = leb-true b.slots slots_most (both_left _ _ more); calls = leb-true b.calls calls_most (both_right _ _ more) }

-- ---- 15, 16, 17: where the first answer is chosen
chosen-accepted : (test : Bool) (v : Verdict) (n : ℕ) (y x : Estimate) → 1 ≤ n → answer (choose test v (short n y)) ≡ answer (accepted x) → (test ≡ true) × (answer v ≡ answer (accepted x))
unfolding choose answer
chosen-accepted true v n y x more e = (refl, e)
chosen-accepted false v n y x more e = absurd (let z : n ≡ 0 = ap (λ (a : Answer). a.number) e in omega arith)

-- accepted, so the board lends the numbers, and they are reported
pub judge-accepted : (b : Board) (y x : Estimate) → answer (judge b y) ≡ answer (accepted x) → (y ≡ x) × Enough y b
unfolding judge answer
judge-accepted b y x e =
    let cells = chosen-accepted (leb y.heap b.cells) _ heap_short y x (omega arith) e in
    let slots = chosen-accepted (leb y.env b.slots) _ environment_short y x (omega arith) cells.1 in
    let calls = chosen-accepted (leb y.stack b.calls) _ stack_short y x (omega arith) slots.1 in (
      ap (λ (a : Answer). a.bounds) calls.1,
      record { cells = leb-true y.heap b.cells cells.0; slots = leb-true y.env b.slots slots.0; calls = leb-true y.stack b.calls calls.0 },
    )

-- a board that lends them is answered with them
pub judge-enough : (b : Board) (x : Estimate) → Enough x b → judge b x ≡ accepted x
unfolding judge choose
judge-enough b x e = rw (le-leb x.heap b.cells e.cells, le-leb x.env b.slots e.slots, le-leb x.stack b.calls e.calls)

-- ---- 0 is given to an acceptance alone
chosen-zero : (test : Bool) (v : Verdict) (n : ℕ) (y : Estimate) → 1 ≤ n → (answer (choose test v (short n y))).number ≡ 0 → ((answer v).number ≡ 0 → answer v ≡ answer (accepted y)) → answer (choose test v (short n y)) ≡ answer (accepted y)
unfolding choose answer
chosen-zero true v n y more e f = f e
chosen-zero false v n y more e f = absurd (omega arith)

pub judge-zero : (b : Board) (y : Estimate) → (answer (judge b y)).number ≡ 0 → answer (judge b y) ≡ answer (accepted y)
unfolding judge
judge-zero b y e = chosen-zero _ _ heap_short y (omega arith) e (λ f. chosen-zero _ _ environment_short y (omega arith) f (λ g. chosen-zero _ _ stack_short y (omega arith) g (λ _. refl)))

-- ---- 15, 16, 17: the first that the board is short of, and all three numbers
pub judge-short : (b : Board) (x : Estimate) {n : ℕ} → ShortOf x b n → judge b x ≡ short n x
unfolding judge choose
judge-short b x (heap-short less) = rw (lt-leb x.heap b.cells less)
judge-short b x (environment-short cells less) = rw (le-leb x.heap b.cells cells, lt-leb x.env b.slots less)
judge-short b x (stack-short cells slots less) = rw (le-leb x.heap b.cells cells, le-leb x.env b.slots slots, lt-leb x.stack b.calls less)

-- a verdict is an acceptance or one of them
pub judge-cases : (b : Board) (x : Estimate) {X : Type 0} → (Enough x b → X) → ((n : ℕ) → ShortOf x b n → X) → X
judge-cases b x {X} has lacks = by-cells (leb x.heap b.cells) refl
  where
    by-calls : (t : Bool) → leb x.stack b.calls ≡ t → x.heap ≤ b.cells → x.env ≤ b.slots → X
    by-calls true e cells slots = has (record { cells = cells; slots = slots; calls = leb-true x.stack b.calls e })
    by-calls false e cells slots = lacks stack_short (stack-short cells slots (leb-false x.stack b.calls e))

    by_slots : (t : Bool) → leb x.env b.slots ≡ t → x.heap ≤ b.cells → X
    by_slots true e cells = by-calls (leb x.stack b.calls) refl cells (leb-true x.env b.slots e)
    by_slots false e cells = lacks environment_short (environment-short cells (leb-false x.env b.slots e))

    by-cells : (t : Bool) → leb x.heap b.cells ≡ t → X
    by-cells true e = by_slots (leb x.env b.slots) refl (leb-true x.heap b.cells e)
    by-cells false e = lacks heap_short (heap-short (leb-false x.heap b.cells e))
