-- A variable read at once: it is one exactly where a head would be read as one.
use Rattle.language.specs.declared.refusals.Refusal.{Refusal}
use Rattle.std.specs.Prelude.{Ok, Err, Option, Some, None}
use Rattle.std.specs.Result.{result_ok}
use Rattle.text.specs.Bytes.{Number}
use Rattle.std.specs.Prelude.{ℕ, List, ◌≡◌, refl}
use Rattle.std.proofs.Common.{◌∙◌, arith}
use Rattle.text.specs.declared.Cursor.{Cursor}
use Rattle.text.specs.declared.Found.{Found}
use Rattle.text.specs.IntLaws.{ByteAt}
use Rattle.heads.specs.declared.Form.TheVariants.{Variable}
use Rattle.heads.specs.Heads.{Shows}
use Rattle.heads.specs.HeadLaws.{left_behind, code_is, operand_read}
use Rattle.heads.specs.ReadLaws.{byte-found, byte-none}

pub data VariableRead (line : List ℕ) (at : ℕ) : Option Found → Type 0 where
  is_variable : {f : Found} → Shows line at f.next.at (Variable f.value) → VariableRead line at (Some f)
  no-variable : ((next v : ℕ) → Shows line at next (Variable v) → ⊥) → VariableRead line at None

module _ {line : List ℕ} {start : Cursor} {x : Number} (read : ByteAt line start.at x) where
  pub no_byte : {m : Refusal} → x ≡ Err m → VariableRead line start.at None
  no_byte e = no-variable (λ next v s. byte-none read e (omega (arith, s.0.within)))

  module _ {f : Found} (e : x ≡ Ok f) where
    pub other-code : (f.value ≡ 0x12 → ⊥) → VariableRead line start.at None
    other-code other = no-variable (λ next v s. other ((byte-found read e).value.is ∙ s.0.code))

    -- the byte behind the code, where there is one
    pub operand-of : f.value ≡ 0x12 → (y : Number) → ByteAt line f.next.at y → VariableRead line start.at (result_ok y)
    operand-of code (Ok g) behind = is_variable (operand_read (code_is read 0x12 e code) 0x12 refl behind refl)
    operand-of code (Err m) behind = no-variable (λ next v s. byte-none behind refl (omega (arith, left_behind (code_is read 0x12 e code), s.0.within)))
