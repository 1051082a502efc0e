-- What a pass over a file answers: a value, or a refusal with its number and frame (document 01, "By place").
use Rattle.std.specs.Prelude.{ℕ, suc, List, [], ◌∷◌, Bool, true, false}
use Rattle.std.proofs.Math.Option.{Option, none, some}

pub data Result (A : Type 0) : Type 0 where
  ok : A → Result A
  no : ℕ → ℕ → Result A

unfoldable pub bind : {A B : Type 0} → Result A → (A → Result B) → Result B
bind (ok a) k = k a
bind (no n frame) k = no n frame

-- refused with n unless the test holds
unfoldable pub need : {A : Type 0} → Bool → ℕ → ℕ → Result A → Result A
need true n frame r = r
need false n frame r = no n frame

-- refused with n unless there is a value
unfoldable pub from : {A B : Type 0} → Option A → ℕ → ℕ → (A → Result B) → Result B
from (some a) n frame k = k a
from none n frame k = no n frame

-- ---- tests
unfoldable pub both : Bool → Bool → Bool
both true b = b
both false b = false

unfoldable pub one_of : Bool → Bool → Bool
one_of true b = true
one_of false b = b

unfoldable pub when : {A : Type 0} → Bool → A → Option A
when true a = some a
when false a = none

unfoldable pub choose : {A : Type 0} → Bool → A → A → A
choose true a b = a
choose false a b = b

-- the first test that fails refuses; tests stand for the frames from this one on
unfoldable pub need_each : {A : Type 0} → ℕ → ℕ → List Bool → Result A → Result A
need_each n frame [] r = r
need_each n frame (b ∷ bs) r = need b n frame (need_each n (suc frame) bs r)

unfoldable pub chain : {A B : Type 0} → Option A → (A → Option B) → Option B
chain (some a) k = k a
chain none k = none
