-- What a cursor's byte and Int say of the line's bytes, on any bytes: where one is found, and where none is.
use Rattle.language.specs.declared.refusals.Refusal.{Refusal}
use Rattle.language.specs.RefusalNumbers.{number_of}
use Rattle.std.specs.Prelude.{Ok, Err}
use Rattle.std.specs.Prelude.{ℕ, ◌+◌, ◌*◌, ◌^◌, ◌≤◌, ◌<◌, List, [], ◌∷◌, ◌≡◌, refl, length, get_or, drop}
use Rattle.std.proofs.Math.Path.{sym, ap}
use Rattle.std.proofs.Common.{◌∙◌, arith}
use Rattle.language.specs.Parser.{Read, got, bad, and_then, byte}
use Rattle.language.specs.ReadExpr.{int}
use Rattle.text.specs.declared.Found.{Found}
use Rattle.text.specs.Bytes.{Number, bytes_from, past, bytes_left, ReadsNumber}
use Rattle.text.specs.Places.{bytes_past, byte_past}
use Rattle.text.specs.StepLaws.{number-got, number-bad, number-moved, number-below, moved-past}
use Rattle.text.specs.IntLaws.{ByteAt}
use Rattle.encoding.specs.Forms.{four_at}
use Rattle.encoding.specs.CursorSpells.{byte-is, byte_left, byte-behind}
use Rattle.heads.specs.Heads.{OperandAt}

-- ---- a byte
pub record ByteFound (line : List ℕ) (at : ℕ) (f : Found) : Type 0 where
  pub some : 0 < bytes_left line at
  pub value : OperandAt line at f.value
  pub ends : f.next.at ≡ past line at 1

value_of : Number → ℕ
value_of (Ok f) = f.value
value_of (Err n) = 0

module _ {line : List ℕ} {at : ℕ} {x : Number} (v : ByteAt line at x) where
  pub byte-found : {f : Found} → x ≡ Ok f → ByteFound line at f
  unfolding value_of
  byte-found e =
      let some = byte_left v.0 e in
      let same = sym e ∙ byte-is x some v.0 in
      record { some = some; value = record { is = ap value_of same; small = number-below v.1 e }; ends = byte-behind v.0 e }

  pub byte-none : {m : Refusal} → x ≡ Err m → 0 < bytes_left line at → ⊥
  byte-none e some = let same = sym e ∙ byte-is x some v.0 in let z : ◌≡◌ {A = ℕ} 0 1 = cc in omega arith

-- ---- an Int
pub record IntFound (line : List ℕ) (at : ℕ) (f : Found) : Type 0 where
  pub within : 4 ≤ bytes_left line at
  pub value : f.value ≡ four_at line at
  pub ends : f.next.at ≡ past line at 4

-- the number of the first four bytes of a list
abbrev first_four : List ℕ → ℕ
first_four bs = get_or bs 0 0 * 2 ^ 24 + get_or bs 1 0 * 2 ^ 16 + get_or bs 2 0 * 2 ^ 8 + get_or bs 3 0

data FourRead (bs : List ℕ) : Read ℕ → Type 0 where
  four_read : {n : ℕ} {cs : List ℕ} → n ≡ first_four bs → 4 ≤ length bs → cs ≡ drop 4 bs → FourRead bs (got n cs)
  four_cut : {m : ℕ} → length bs < 4 → FourRead bs (bad m)

int-reads : (bs : List ℕ) → FourRead bs (int bs)
unfolding int byte and_then
int-reads [] = four_cut (omega arith)
int-reads (a ∷ []) = four_cut (omega arith)
int-reads (a ∷ b ∷ []) = four_cut (omega arith)
int-reads (a ∷ b ∷ c ∷ []) = four_cut (omega arith)
int-reads (a ∷ b ∷ c ∷ d ∷ bs) = four_read {cs = bs} refl (omega arith) refl

four-from : (line : List ℕ) (at : ℕ) → first_four (bytes_from line at) ≡ four_at line at
four-from line at = rw (byte_past line at 1, byte_past line at 2, byte_past line at 3)

module _ {line : List ℕ} {at : ℕ} {x : Number} (v : ReadsNumber line at x (int (bytes_from line at))) where
  pub int-found : {f : Found} → x ≡ Ok f → IntFound line at f
  int-found {f} e = go (rw (number-got v e) at (int-reads (bytes_from line at)))
    where
      go : FourRead (bytes_from line at) (got f.value (bytes_from line f.next.at)) → IntFound line at f
      go (four_read value enough rest) = record {
        within = enough;
        value = value ∙ four-from line at;
        ends = moved-past 4 (number-moved v e) enough (rest ∙ sym (bytes_past line at 4));
      }

  pub int-none : {m : Refusal} → x ≡ Err m → 4 ≤ bytes_left line at → ⊥
  int-none {m} e le = go (rw (number-bad v e) at (int-reads (bytes_from line at)))
    where
      go : FourRead (bytes_from line at) (bad (number_of m)) → ⊥
      go (four_cut less) = omega (arith, less, le)
