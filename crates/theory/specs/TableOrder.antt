-- Where every node reads earlier nodes only, as document 01 had it, the order is the table's: such files are iterated as before.
use Prim.Native.Nat.{ℕ, zero, suc, ◌+◌, ◌<◌}
use mathlib.Core.List.{List, [], ◌∷◌, ◌++◌, append-nil}
use Rattle.std.specs.Prelude.{true, ◌≡◌, refl}
use Rattle.std.proofs.Math.Bool.{not}
use Rattle.std.proofs.Math.Option.{Option, some}
use Rattle.std.proofs.Math.Path.{sym, ap}
use Rattle.std.proofs.Common.{◌∙◌}
use native.Mathlib.Omega.{arith}
use Rattle.std.proofs.Math.ListN.{length}
use Rattle.std.proofs.Math.Seq.{append_snoc}
use Rattle.std.proofs.lemmas.Bool.{not-true}
use Rattle.language.specs.Syntax.{File}
use Rattle.language.specs.Within.{All, all_nil, all_cons}
use Rattle.language.specs.Slide.{mem}
use Rattle.language.specs.Order.{node_readings, read_by, all_mem, ready, lowest, and_then, order_from, order}
use Rattle.theory.specs.Lists.{both_left, both_true, false-is-not-true, never_true}
use Rattle.theory.specs.Members.{mem-all}
use Rattle.theory.specs.Places.{below_or_not, equal_or_not}
use Rattle.theory.specs.OrderComplete.{mem-snoc, mem-snoc-last, mem-snoc-cases, Lowest, l_none, l_some, lowest-is}
use Rattle.theory.specs.AnyOrder.{readings-length}

-- ---- the table's order
unfoldable pub up_to : ℕ → List ℕ
up_to zero = []
up_to (suc n) = up_to n ++ (n ∷ [])

below_in : (n j : ℕ) → j < n → mem j (up_to n) ≡ true
unfolding up_to
below_in zero j less = absurd (omega arith)
below_in (suc n) j less = equal_or_not j n (λ at. rw at (mem-snoc-last n (up_to n))) (λ other. mem-snoc j n (up_to n) (below_in n j (omega arith)))

in-below : (n j : ℕ) → mem j (up_to n) ≡ true → j < n
unfolding up_to mem
in-below zero j e = false-is-not-true e
in-below (suc n) j e = mem-snoc-cases j n (up_to n) e (λ z. omega (arith, in-below n j z)) (λ z. omega arith)

mems-of-all : (js done : List ℕ) → All (λ j. mem j done ≡ true) js → all_mem js done ≡ true
unfolding all_mem
mems-of-all [] done all_nil = refl
mems-of-all (j ∷ js) done (all_cons e all) = both_true e (mems-of-all js done all)

module _ (R : List (List ℕ)) (earlier : (i j : ℕ) → mem j (read_by R i) ≡ true → j < i) where
  ready-here : (k : ℕ) → ready R (up_to k) k ≡ true
  unfolding ready
  ready-here k = both_true (ap not (never_true (mem k (up_to k)) (λ e. omega (arith, in-below k k e)))) (mems-of-all (read_by R k) (up_to k) (mem-all (read_by R k) (λ j e. below_in k j (earlier k j e))))

  next_here : (k : ℕ) → k < length R → lowest (ready R (up_to k)) (length R) 0 ≡ some k
  unfolding ready
  next_here k less = is (lowest-is (ready R (up_to k)) (length R) 0)
    where
      is : {o : Option ℕ} → Lowest (ready R (up_to k)) (length R) 0 o → o ≡ some k
      is (l_none none_of) = false-is-not-true (sym (none_of k (omega arith) (omega arith)) ∙ ready-here k)
      is (l_some {j} le small at low) = below_or_not j k
          (λ before. false-is-not-true (sym (not-true (mem j (up_to k)) (both_left (not (mem j (up_to k))) (all_mem (read_by R j) (up_to k)) at)) ∙ below_in k j before))
          (λ behind. equal_or_not j k (λ same. ap some same) (λ other. false-is-not-true (sym (low k (omega arith) (omega arith)) ∙ ready-here k)))

  from-here : (m k : ℕ) → m + k ≡ length R → up_to k ++ order_from R m (up_to k) ≡ up_to (length R)
  unfolding order_from and_then up_to
  from-here zero k e = let same : k ≡ length R = omega arith in append-nil (up_to k) ∙ ap up_to same
  from-here (suc m) k e =
      ap (λ o. up_to k ++ and_then o (λ i. order_from R m (up_to k ++ (i ∷ [])))) (next_here k (omega arith)) ∙ begins ∙ from-here m (suc k) (omega arith)
    where
      begins : up_to k ++ and_then (some k) (λ i. order_from R m (up_to k ++ (i ∷ []))) ≡ up_to (suc k) ++ order_from R m (up_to (suc k))
      begins = sym (append_snoc (up_to k) k (order_from R m (up_to k ++ (k ∷ []))))

-- ---- a file as it was before R-3
pub table-order : (P : File) → ((i j : ℕ) → mem j (read_by (node_readings P) i) ≡ true → j < i) → order P ≡ up_to (length P.nodes)
unfolding order up_to
table-order P earlier = rw (← (readings-length P)) (from-here (node_readings P) earlier (length (node_readings P)) 0 (omega arith))
