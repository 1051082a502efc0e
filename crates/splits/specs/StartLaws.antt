-- The first split written, size by size: so far a part of it has been pasted into the list.
use Rattle.std.specs.Prelude.{ℕ, zero, suc, ◌+◌, ◌-◌, ◌≤◌, ◌<◌, List, [], ◌∷◌, ◌++◌, ◌≡◌, length, get_or, take, drop, set, replicate}
use Rattle.std.proofs.Math.Path.{refl}
use Rattle.std.proofs.Common.{sym, ap, ◌∙◌, arith, length-append, length-set, take_all}
use Rattle.std.proofs.lemmas.List.{length-replicate, get_or-replicate, get_or_at}
use Rattle.std.proofs.Math.ListN.{get_or-append}
use Rattle.std.proofs.Math.Seq.{paste, paste-zero, paste-suc}
use Rattle.splits.specs.Next.{first_of}
use Rattle.splits.specs.Moves.{Starts}

-- ---- the first split, by place
pub first_long : (r n : ℕ) → length (first_of r n) ≡ r
unfolding first_of
first_long zero n = refl
first_long (suc r) n = omega (arith, length-append (replicate r 1) ((n - r) ∷ []), length-replicate {A = ℕ} r 1)

first-ones : (r n j : ℕ) → suc j < r → get_or (first_of r n) j 0 ≡ 1
unfolding first_of
first-ones zero n j h = absurd (omega arith)
first-ones (suc r) n j h = get_or-append (replicate r 1) ((n - r) ∷ []) 0 j (omega (arith, length-replicate {A = ℕ} r 1)) ∙ get_or-replicate r j 1 0 (omega arith)

first-last : (r n j : ℕ) → suc j ≡ r → get_or (first_of r n) j 0 ≡ n - (r - 1)
unfolding first_of
first-last zero n j h = absurd (omega arith)
first-last (suc r) n j h = get_or_at (replicate r 1) (n - r) [] 0 j (omega (arith, length-replicate {A = ℕ} r 1)) ∙ omega arith

-- ---- the sizes before i are written
pub record Written (sizes₀ : List ℕ) (at r n i : ℕ) (sizes : List ℕ) : Type 0 where
  pub from : at ≤ i
  pub below : i < at + r
  pub room : at + r ≤ length sizes₀
  pub long : length sizes ≡ length sizes₀
  pub is : sizes ≡ paste sizes₀ at (first_of r n) (i - at)

module _ {sizes₀ sizes : List ℕ} {at r n i : ℕ} (v : Written sizes₀ at r n i sizes) where
  -- one more, of the split's size there
  stored : (k : ℕ) → get_or (first_of r n) (i - at) 0 ≡ k → set sizes i k ≡ paste sizes₀ at (first_of r n) (suc (i - at))
  stored k e =
      let place : at + (i - at) ≡ i = omega (arith, v.from) in
      ap (λ l. set l i k) v.is ∙ ap (λ p. set (paste sizes₀ at (first_of r n) (i - at)) p k) (sym place) ∙ ap (λ p. set (paste sizes₀ at (first_of r n) (i - at)) (at + (i - at)) p) (sym e)
      ∙ paste-suc sizes₀ at (first_of r n) (i - at) 0 (omega (arith, v.from, v.below, v.room)) (omega (arith, first_long r n, v.from, v.below))

  pub written_on : i < at + r - 1 → Written sizes₀ at r n (i + 1) (set sizes i 1)
  written_on h =
      let count : suc (i - at) ≡ i + 1 - at = omega (arith, v.from) in
      record {
        from = omega (arith, v.from);
        below = omega arith;
        room = v.room;
        long = length-set sizes i 1 ∙ v.long;
        is = stored 1 (first-ones r n (i - at) (omega (arith, v.from))) ∙ ap (paste sizes₀ at (first_of r n)) count;
      }

  pub written-long : length (set sizes (at + r - 1) (n - (r - 1))) ≡ length sizes₀
  written-long = length-set sizes (at + r - 1) (n - (r - 1)) ∙ v.long

  pub written_all : at + r - 1 ≤ i → r ≤ n → Starts sizes₀ at r n (set sizes (at + r - 1) (n - (r - 1)))
  written_all h le =
      let end : i ≡ at + r - 1 = omega (arith, v.below) in
      let count : suc (i - at) ≡ r = omega (arith, v.from, v.below) in
      record {
        starts = λ _ _. rw (sym end) (stored (n - (r - 1)) (first-last r n (i - at) count) ∙ ap (paste sizes₀ at (first_of r n)) count ∙ ap (λ l. take at sizes₀ ++ l ++ drop (at + r) sizes₀) (take_all r (first_of r n) (omega (arith, first_long r n))));
        too_many = λ less. absurd (omega arith);
        beyond = λ less. absurd (omega (arith, v.room));
      }

-- ---- where nothing is written
module _ (sizes : List ℕ) (at r n : ℕ) where
  pub starts-nothing : r ≡ 0 → Starts sizes at r n sizes
  unfolding first_of
  starts-nothing e = record { starts = λ _ _. rw e (paste-zero sizes at []); too_many = λ _. refl; beyond = λ _. refl }
