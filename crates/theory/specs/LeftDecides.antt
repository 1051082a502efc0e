-- What a shop expects of "list is empty or search it" (document 02, R-2): where the left side decides, the right side is not evaluated.
-- Whatever it is, also one that would be refused with 20 to 23, the value is the left side's, in a new cell.
use Rattle.std.specs.Prelude.{ℕ, ◌<◌, List, [], ◌∷◌, ◌++◌, Bool, ◌↔◌, ◌≡◌, length}
use Rattle.std.proofs.Math.Bool.{true, false}
use Rattle.std.proofs.Math.Option.{some}
use Rattle.std.proofs.Math.Path.{refl, sym}
use Rattle.std.proofs.Common.{◌∙◌}
use Rattle.std.proofs.Math.ListN.{get_elem? as look}
use Rattle.language.specs.Syntax.{Op, oand, oor, Expr, eop, File}
use Rattle.language.specs.Result.{choose}
use Rattle.language.specs.Heap.{kbool, Cell, leaf, truth, decides, constant_in}
use Rattle.language.specs.Evaluator.{bind_out, alloc, Channels, eval, run}
use Rattle.language.specs.Rules.{Runs, e_op_decided}
use Rattle.language.specs.Meets.{Meets, m_op_right}
use Rattle.theory.specs.Heaps.{cell-at}
use Rattle.theory.specs.RulesGive.{runs-eval}
use Rattle.theory.specs.MeetsGive.{meets-runs-not}

module _ {P : File} {cap : ℕ} {N : Channels} {u s j : ℕ} {E : List ℕ} {h i : List Cell} {a : Expr} {v : Bool} (left : Runs P cap N u s E h a j i) (is : look i j ≡ some (leaf (kbool v))) where
  pub any-right-side : {o : Op} → decides o v ≡ true → length i < cap → (b : Expr) → Runs P cap N u s E h (eop o a b) (length i) (i ++ (leaf (kbool v) ∷ []))
  any-right-side d free b = e_op_decided left is d (record { free = free; at = refl; is = refl })

  -- the right side has no part in the answer, also where no cell is left for the value
  pub right-side-unread : (o : Op) → decides o v ≡ true → (b c : Expr) → eval P (run P cap u) cap N (eop o a b) E s h ≡ eval P (run P cap u) cap N (eop o a c) E s h
  unfolding eval bind_out choose truth constant_in
  right-side-unread o d b c = answer b ∙ sym (answer c)
    where
      answer : (b : Expr) → eval P (run P cap u) cap N (eop o a b) E s h ≡ alloc cap i (leaf (kbool v))
      answer b = rw (runs-eval P cap left, cell-at i j is, d)

  -- a right side that would be refused is the refusal of the whole exactly where the left side does not decide
  pub refused-right-side : {o : Op} {b : Expr} {n : ℕ} → length i < cap → Meets P cap N u s E i b n → Meets P cap N u s E h (eop o a b) n ↔ (decides o v ≡ false)
  unfolding truth
  refused-right-side {o} {b} {n} free m = (forth (decides o v) refl, λ more. m_op_right left is more m)
    where
      forth : (d : Bool) → decides o v ≡ d → Meets P cap N u s E h (eop o a b) n → d ≡ false
      forth false e w = refl
      forth true e w = absurd (meets-runs-not w (any-right-side e free b))

-- the two operators in a line each: false and anything, true or anything
module _ {P : File} {cap : ℕ} {N : Channels} {u s j : ℕ} {E : List ℕ} {h i : List Cell} {a : Expr} (left : Runs P cap N u s E h a j i) (free : length i < cap) where
  pub false-and : look i j ≡ some (leaf (kbool false)) → (b : Expr) → Runs P cap N u s E h (eop oand a b) (length i) (i ++ (leaf (kbool false) ∷ []))
  unfolding decides
  false-and is = any-right-side left is refl free

  pub true-or : look i j ≡ some (leaf (kbool true)) → (b : Expr) → Runs P cap N u s E h (eop oor a b) (length i) (i ++ (leaf (kbool true) ∷ []))
  unfolding decides
  true-or is = any-right-side left is refl free
