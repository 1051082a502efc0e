-- The records of the checker's list beside the instances of a derivation.
use Rattle.std.specs.Prelude.{ℕ, List, map}
use Rattle.language.specs.Syntax.{Ty, Function, File}
use Rattle.language.specs.Sizes.{summed_measure, parameter_types}
use Rattle.language.specs.Estimate.{Estimate}
use Rattle.language.specs.Typing.{inside, Typing}
use Rattle.language.specs.Checker.{Instance}
pub use Rattle.language.specs.Instances.{Key, key}

-- a record of the list
abbrev pub entered : ℕ → List ℕ → Estimate → Instance
entered g ks n = record { function = g; sizes = ks; numbers = n }

abbrev pub key_of : Instance → Key
key_of r = record { function = r.function; sizes = r.sizes }

abbrev pub keys_of : List Instance → List Key
keys_of L = map key_of L

-- a derivation of the body of function g at sizes ks
abbrev pub BodyTyping : File → ℕ → Function → List ℕ → Ty → Estimate → Type 0
BodyTyping P g F ks τ n = Typing P (inside g (summed_measure F.measure ks)) (parameter_types F.parameters ks) ks F.body τ n
