-- What holds of every number below i; the lowest number below n that passes a test, where one does.
use Rattle.std.specs.Prelude.{ℕ, ◌<◌, Bool, true, false, Option, Some, None, ◌≡◌}

pub record Below (Q : ℕ → Type 0) (i : ℕ) : Type 0 where
  pub each : (k : ℕ) → k < i → Q k

pub data LowestBelow (f : ℕ → Bool) (n : ℕ) : Option ℕ → Type 0 where
  lowest_at : {r : ℕ} → r < n → f r ≡ true → Below (λ k. f k ≡ false) r → LowestBelow f n (Some r)
  none_passes : Below (λ k. f k ≡ false) n → LowestBelow f n None
