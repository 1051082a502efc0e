-- 15 to 17 and acceptance: each test of the code is one of the definition's.
use Rattle.std.specs.Prelude.{ℕ, ◌≤◌, ◌<◌, Bool, ◌≡◌, leb}
use Rattle.std.proofs.Math.Bool.{true, false}
use Rattle.std.proofs.Math.Path.{refl}
use Rattle.std.proofs.Common.{ap, ◌∙◌, arith}
use Rattle.language.specs.Estimate.{Estimate}
use Rattle.language.specs.Machine.{Board as MachineBoard, answer, judge, Verdict, accepted, short}
use Rattle.estimate.specs.declared.Estimate.{Estimate as Held}
use Rattle.language.specs.Result.{choose}
use borrow.Author.Tests.{le-leb, lt-leb}
use Rattle.answers.specs.declared.Board.{Board}
use Rattle.answers.specs.declared.Answer.{Answer}
use Rattle.answers.specs.Boards.{board_of, numbers_of, said, bounds_of, Judges}

-- ---- what the board has
module _ {b : Board} {x : Held} {r : Answer} where
  judges-as : {n : ℕ} → r ≡ bounds_of n x → said (bounds_of n x) ≡ answer (judge (board_of b) (numbers_of x)) → Judges b x r
  judges-as e f = record { is = ap (λ (a : Answer). said a) e ∙ f }

  pub heap-over : r ≡ bounds_of 15 x → b.cells < x.heap → Judges b x r
  unfolding judge choose answer
  heap-over e h = judges-as e (rw (lt-leb _ _ h) refl)

  pub environment-over : r ≡ bounds_of 16 x → x.heap ≤ b.cells → b.slots < x.env → Judges b x r
  unfolding judge choose answer
  environment-over e cells h = judges-as e (rw (le-leb _ _ cells, lt-leb _ _ h) refl)

  pub stack-over : r ≡ bounds_of 17 x → x.heap ≤ b.cells → x.env ≤ b.slots → b.calls < x.stack → Judges b x r
  unfolding judge choose answer
  stack-over e cells slots h = judges-as e (rw (le-leb _ _ cells, le-leb _ _ slots, lt-leb _ _ h) refl)

  pub enough : r ≡ bounds_of 0 x → x.heap ≤ b.cells → x.env ≤ b.slots → x.stack ≤ b.calls → Judges b x r
  unfolding judge choose answer
  enough e cells slots calls = judges-as e (rw (le-leb _ _ cells, le-leb _ _ slots, le-leb _ _ calls) refl)

-- a verdict by its number
module _ (b : MachineBoard) (x : Estimate) where
  judged_by : Bool → Bool → Bool → Verdict
  judged_by p q s = choose p (choose q (choose s (accepted x) (short 17 x)) (short 16 x)) (short 15 x)

  pub number-accepts : (answer (judge b x)).number ≡ 0 → judge b x ≡ accepted x
  unfolding judge answer choose judged_by
  number-accepts = go (leb x.heap b.cells) (leb x.env b.slots) (leb x.stack b.calls)
    where
      go : (p q s : Bool) → (answer (judged_by p q s)).number ≡ 0 → judged_by p q s ≡ accepted x
      go true true true e = refl
      go true true false e = absurd (omega (arith, e))
      go true false s e = absurd (omega (arith, e))
      go false q s e = absurd (omega (arith, e))

  pub number-refuses : ((answer (judge b x)).number ≡ 0 → ⊥) → (m : ℕ) × (judge b x ≡ short m x)
  unfolding judge answer choose judged_by
  number-refuses = go (leb x.heap b.cells) (leb x.env b.slots) (leb x.stack b.calls)
    where
      go : (p q s : Bool) → ((answer (judged_by p q s)).number ≡ 0 → ⊥) → (m : ℕ) × (judged_by p q s ≡ short m x)
      go true true true e = absurd (e refl)
      go true true false e = (17, refl)
      go true false s e = (16, refl)
      go false q s e = (15, refl)
