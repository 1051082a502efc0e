-- Positive sizes whose sum is at most n lie under some split of n: each is at most the split's.
use Rattle.std.specs.Prelude.{ℕ, zero, suc, ◌+◌, ◌-◌, ◌≤◌, ◌<◌, ◌≡◌, refl, length}
use mathlib.Core.List.Memᴰ
use mathlib.Core.List.{List, [], ◌∷◌, map, Memᴰ}
use Rattle.std.proofs.Common.{subst, zero-add, add-zero, add-suc, suc-add, arith}
use Rattle.language.specs.Within.{All, all_nil, all_cons}
use Rattle.language.specs.Sizes.{sum}
use Rattle.language.specs.Splits.{firsts, splits_of, splits}

pub data Under : List ℕ → List ℕ → Type 0 where
  under_nil : Under [] []
  under_cons : {k j : ℕ} {ks js : List ℕ} → k ≤ j → Under ks js → Under (k ∷ ks) (j ∷ js)

abbrev pub Positive : List ℕ → Type 0
Positive ks = All (λ k. 0 < k) ks

pub positive-sum : {ks : List ℕ} → Positive ks → length ks ≤ sum ks
unfolding sum
positive-sum all_nil = omega arith
positive-sum (all_cons pos all) = omega (arith, positive-sum all)

-- ---- a split whose first size is p + j stands behind those with smaller ones
later_first : (f : ℕ → List (List ℕ)) (j p q : ℕ) (ks : List ℕ) → Memᴰ ks (f (suc q)) → Memᴰ ((p + j) ∷ ks) (firsts f p (suc (j + q)))
unfolding firsts
later_first f zero p q ks i = rw (add-zero, zero-add) (Memᴰ.append_left (firsts f (suc p) q) (Memᴰ.map (λ js. p ∷ js) i))
later_first f (suc j) p q ks i = rw (add-suc, suc-add) (Memᴰ.append_right (map (λ js. p ∷ js) (f (suc (suc (j + q))))) (rw suc-add at (later_first f j (suc p) q ks i)))

first-then-rest : (f : ℕ → List (List ℕ)) (k n : ℕ) (ks : List ℕ) → 0 < k → k < n → Memᴰ ks (f (n - k)) → Memᴰ (k ∷ ks) (firsts f 1 (n - 1))
first-then-rest f k n ks pos less i =
    let rest : n - k ≡ suc (n - k - 1) = omega arith in
    let first : 1 + (k - 1) ≡ k = omega arith in
    let whole : suc ((k - 1) + (n - k - 1)) ≡ n - 1 = omega arith in
    subst (λ x. Memᴰ (x ∷ ks) (firsts f 1 (n - 1))) first
    (subst (λ y. Memᴰ ((1 + (k - 1)) ∷ ks) (firsts f 1 y)) whole (later_first f (k - 1) 1 (n - k - 1) ks (subst (λ z. Memᴰ ks (f z)) rest i)))

-- ---- a split of n into r sizes that is over these
pub record Covered (r n : ℕ) (ks : List ℕ) : Type 0 where
  pub split : List ℕ
  pub is : Memᴰ split (splits r n)
  pub over : Under ks split

-- what the sum leaves goes to the last size
cover-some : (k : ℕ) (ks : List ℕ) (n : ℕ) → 0 < k → Positive ks → k + sum ks ≤ n → Covered (suc (length ks)) n (k ∷ ks)
unfolding splits splits_of sum
cover-some k [] n pos all le = record { split = n ∷ []; is = Memᴰ.head refl; over = under_cons {k = k} {j = n} (omega arith) under_nil }
cover-some k (j ∷ ks) n pos (all_cons next all) le = one_more (cover-some j ks (n - k) next all (omega arith))
  where
    one_more : Covered (suc (length ks)) (n - k) (j ∷ ks) → Covered (suc (suc (length ks))) n (k ∷ j ∷ ks)
    one_more c = record { split = k ∷ c.split; is = first-then-rest (splits_of (length ks)) k n c.split pos (omega arith) c.is; over = under_cons {k = k} {j = k} (omega arith) c.over }

pub cover : (ks : List ℕ) (n : ℕ) → Positive ks → sum ks ≤ n → Covered (length ks) n ks
unfolding splits sum
cover [] n all le = record { split = []; is = Memᴰ.head refl; over = under_nil }
cover (k ∷ ks) n (all_cons pos all) le = cover-some k ks n pos all le
