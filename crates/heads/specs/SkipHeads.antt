-- Reading where something is spelled: the byte that the line has, the step over what is spelled, the count that a table tells.
use Rattle.language.specs.declared.refusals.Refusal.{Refusal}
use Rattle.std.specs.Prelude.{Ok, Err}
use Rattle.text.specs.Bytes.{Number, Step}
use Rattle.std.specs.Prelude.{ℕ, ◌%◌, ◌<◌, List, ◌≡◌}
use Rattle.std.proofs.Common.{sym, ap, ◌∙◌, arith}
use Rattle.language.specs.Limits.{byte_range}
use Rattle.text.specs.declared.Cursor.{Cursor}
use Rattle.text.specs.declared.Found.{Found}
use Rattle.text.specs.Places.{past, bytes_left, byte_at}
use Rattle.text.specs.IntLaws.{ByteAt}
use Rattle.heads.specs.ReadLaws.{byte-none, byte-found as found_at}

-- ---- a byte that the line has is read
module _ {line : List ℕ} {at : ℕ} {x : Number} (some : 0 < bytes_left line at) (v : ByteAt line at x) where
  pub byte-found : {f : Found} → x ≡ Ok f → (f.value ≡ byte_at line at) × (f.next.at ≡ past line at 1)
  byte-found e = let found = found_at v e in (found.value.is, found.ends)

  pub byte-there : {m : Refusal} → x ≡ Err m → ⊥
  byte-there e = byte-none v e some

-- ---- a step over what is spelled
step_place : Step → ℕ
step_place (Ok c) = c.at
step_place (Err n) = 0

pub next-at : {x : Step} {d : Cursor} {n : ℕ} → x ≡ Ok (record { at = n }) → x ≡ Ok d → d.at ≡ n
unfolding step_place
next-at q e = ap step_place (sym e ∙ q)

pub next-there : {x : Step} {n : ℕ} {m : Refusal} → x ≡ Ok (record { at = n }) → x ≡ Err m → ⊥
next-there q e = let same = sym e ∙ q in let z : ◌≡◌ {A = ℕ} 0 1 = cc in omega arith

-- a count of a table is its word
pub count_same : {n word m : ℕ} → (n ≡ word % byte_range) × (n < byte_range) → word ≡ m → m < byte_range → n ≡ m
count_same q e less = omega (arith, q.0, e, less)
