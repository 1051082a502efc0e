-- What `ok` leaves of an answer tells what the answer was.
use Rattle.std.specs.Prelude.{◌≡◌, refl, Result, Ok, Err, Option, Some, None}
use Rattle.std.specs.Result.{result_ok}

pub was_ok : {A E : Type 0} (x : Result A E) {o : Option A} {a : A} → o ≡ result_ok x → o ≡ Some a → x ≡ Ok a
was_ok (Ok b) q p = cc
was_ok (Err e) q p = cc

pub was_err : {A E : Type 0} (x : Result A E) {o : Option A} → o ≡ result_ok x → o ≡ None → (e : E) × (x ≡ Err e)
was_err (Ok b) q p = cc
was_err (Err e) q p = (e, refl)
