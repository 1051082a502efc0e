-- The readers of fields, types and sizes are exact.
use Prim.Native.Nat.{ℕ, zero, suc}
use mathlib.Core.List.{List, [], ◌++◌, append_assoc}
use Rattle.std.proofs.Math.Bool.{true, false}
use Rattle.std.specs.Prelude.{◌≡◌}
use Rattle.std.proofs.Math.Path.{refl}
use Rattle.language.specs.Limits.{size_most, nesting_most}
use Rattle.language.specs.Refusals.{outside_limits}
use Rattle.language.specs.Result.{choose}
use Rattle.language.specs.Syntax.{Field, fbool, fint, own, other, Plain, pbool, pint, pnamed, Ty, tbool, tint, tnamed, Size, lit, svar, plus, minus, ResultType, rbool, rint, rnamed}
use Rattle.language.specs.Format.{field_bytes, plain_bytes, declared_bytes, size_bytes, result_bytes}
use Rattle.language.specs.Within.{Bound, WithinField, w_fbool, w_fint, w_own, w_other, WithinPlain, w_pbool, w_pint, w_pnamed, WithinDeclared, w_tbool, w_tint, w_tnamed}
use Rattle.language.specs.Within.{WithinSize, w_lit, w_svar, w_plus, w_minus, WithinResult, w_rbool, w_rint, w_rnamed}
use Rattle.language.specs.Parser.{got, and_then, from_option, must, byte, decode, code, code_in}
use Rattle.language.specs.ReadExpr.{bound, field_behind, field, plain_behind, plain, declared_behind, declared, size_forms, size_behind, size_at, size, result_behind, result}
use Rattle.theory.specs.Exact.{Behind, Exact, next, done, refused}
use Rattle.theory.specs.ExactParts.{one, byte-exact, index-exact, count-exact, entry, no_entry, coded, coded_in}

pub bound-exact : Exact bound one Bound
unfolding bound
bound-exact = count-exact 1 size_most

module _ (types : ℕ) where
  pub field-exact : Exact (field types) field_bytes (WithinField types)
  unfolding field code byte and_then decode choose from_option field_behind field_bytes
  field-exact = record { back = back; forth = forth }
    where
      back : (f : Field) (rest : List ℕ) → WithinField types f → field types (field_bytes f ++ rest) ≡ got f rest
      back fbool rest w_fbool = refl
      back fint rest w_fint = refl
      back own rest w_own = refl
      back (other t k) rest (w_other u v) = rw ((index-exact types).back t _ u, bound-exact.back k rest v)

      forth : Behind field_bytes (WithinField types) [] (field types)
      forth =
          coded (entry (done w_fbool refl) (
          entry (done w_fint refl) (
          entry (done w_own refl) (
          entry (next (index-exact types).forth λ t u. next bound-exact.forth λ k v. done (w_other u v) refl) no_entry))))

  pub plain-exact : Exact (plain types) plain_bytes (WithinPlain types)
  unfolding plain code byte and_then decode choose from_option plain_behind plain_bytes
  plain-exact = record { back = back; forth = forth }
    where
      back : (π : Plain) (rest : List ℕ) → WithinPlain types π → plain types (plain_bytes π ++ rest) ≡ got π rest
      back pbool rest w_pbool = refl
      back pint rest w_pint = refl
      back (pnamed t) rest (w_pnamed u) = rw ((index-exact types).back t rest u)

      forth : Behind plain_bytes (WithinPlain types) [] (plain types)
      forth =
          coded (entry (done w_pbool refl) (
          entry (done w_pint refl) (
          entry (next (index-exact types).forth λ t u. done (w_pnamed u) refl) no_entry)))

  pub declared-exact : Exact (declared types) declared_bytes (WithinDeclared types)
  unfolding declared code byte and_then decode choose from_option declared_behind declared_bytes
  declared-exact = record { back = back; forth = forth }
    where
      back : (τ : Ty) (rest : List ℕ) → WithinDeclared types τ → declared types (declared_bytes τ ++ rest) ≡ got τ rest
      back tbool rest w_tbool = refl
      back tint rest w_tint = refl
      back (tnamed t k) rest (w_tnamed u v) = rw ((index-exact types).back t _ u, bound-exact.back k rest v)

      forth : Behind declared_bytes (WithinDeclared types) [] (declared types)
      forth =
          coded (entry (done w_tbool refl) (
          entry (done w_tint refl) (
          entry (next (index-exact types).forth λ t u. next bound-exact.forth λ k v. done (w_tnamed u v) refl) no_entry)))

-- ---- sizes, by induction on the levels left
module _ (vars : ℕ) where
  size_back : (n : ℕ) (s : Size) (rest : List ℕ) → WithinSize vars n s → size_at n vars (size_bytes s ++ rest) ≡ got s rest
  unfolding size_at code_in code byte and_then decode choose from_option must size_behind size_bytes
  size_back (suc n) (lit k) rest (w_lit u) = refl
  size_back (suc n) (svar i) rest (w_svar u) = rw ((index-exact vars).back i rest u)
  size_back (suc n) (plus a b) rest (w_plus u v) = rw (append_assoc (size_bytes a) (size_bytes b) rest, size_back n a _ u, size_back n b rest v)
  size_back (suc n) (minus a b) rest (w_minus u v) = rw (append_assoc (size_bytes a) (size_bytes b) rest, size_back n a _ u, size_back n b rest v)
  size_back zero s rest x' = elim x' [ ]

  size-forth : (n : ℕ) → Behind size_bytes (WithinSize vars n) [] (size_at n vars)
  unfolding size_at size_behind size_bytes
  size-forth zero = refused (code_in false 0x01 size_forms) outside_limits
  size-forth (suc n) =
      coded_in true (entry (λ room. next byte-exact.forth λ k u. done (w_lit u) refl) (
      entry (λ room. next (index-exact vars).forth λ i u. done (w_svar u) refl) (
      entry (λ room. next (size-forth n) λ a u. next (size-forth n) λ b v. done (w_plus u v) refl) (
      entry (λ room. next (size-forth n) λ a u. next (size-forth n) λ b v. done (w_minus u v) refl) no_entry))))

  pub size_exact : Exact (size vars) size_bytes (WithinSize vars nesting_most)
  size_exact = record { back = size_back nesting_most; forth = size-forth nesting_most }

pub result-exact : (types vars : ℕ) → Exact (result types vars) result_bytes (WithinResult types vars)
unfolding result code byte and_then decode choose from_option result_behind result_bytes
result-exact types vars = record { back = back; forth = forth }
  where
    back : (ρ : ResultType) (rest : List ℕ) → WithinResult types vars ρ → result types vars (result_bytes ρ ++ rest) ≡ got ρ rest
    back rbool rest w_rbool = refl
    back rint rest w_rint = refl
    back (rnamed t s) rest (w_rnamed u v) = rw ((index-exact types).back t _ u, (size_exact vars).back s rest v)

    forth : Behind result_bytes (WithinResult types vars) [] (result types vars)
    forth =
        coded (entry (done w_rbool refl) (
        entry (done w_rint refl) (
        entry (next (index-exact types).forth λ t u. next (size_exact vars).forth λ s v. done (w_rnamed u v) refl) no_entry)))
