-- What reading the head of an expression promises, on any bytes: a form that is read has its code at the place and its operands
-- behind the code, and the parts start behind those; where none is read, the line ends too early or the code is of no form.
use Rattle.std.specs.Prelude.{ℕ, ◌≤◌, ◌<◌, List, Bool, true, false, ◌≡◌}
use Rattle.std.proofs.Common.{subst}
use Rattle.language.specs.Limits.{byte_range}
use Rattle.text.specs.Places.{past, bytes_left, byte_at}
use Rattle.encoding.specs.Forms.{four_at}
use Rattle.heads.specs.declared.Form.{Form}
use Rattle.heads.specs.declared.Form.TheVariants.{Bool as BoolForm, Int, Variable, Now, Last, Let, If, Operator, Call, Construct, Case, Adjust, Fit, Missing}
use Rattle.heads.specs.declared.Head.{Head}

-- whether a form that was read has parts
abbrev pub has_parts : Form → Bool
has_parts (BoolForm b) = false
has_parts (Int n) = false
has_parts (Variable v) = false
has_parts (Now c) = false
has_parts (Last c) = false
has_parts Let = true
has_parts If = true
has_parts (Operator o) = true
has_parts (Call f) = true
has_parts (Construct t c) = true
has_parts (Case t) = true
has_parts Adjust = true
has_parts (Fit k) = true
has_parts Missing = false

-- the code stands at the place, and the line has the bytes of the head, up to next
pub record Coded (line : List ℕ) (at first long next : ℕ) : Type 0 where
  pub code : byte_at line at ≡ first
  pub ends : next ≡ past line at long
  pub within : long ≤ bytes_left line at

-- b is the byte at a place
pub record OperandAt (line : List ℕ) (at b : ℕ) : Type 0 where
  pub is : b ≡ byte_at line at
  pub small : b < byte_range

-- the code is of no form with no byte, or more than one, behind it
pub record OtherCode (code : ℕ) : Type 0 where
  pub no_int : code ≡ 0x11 → ⊥
  pub no_let : code ≡ 0x15 → ⊥
  pub no_if : code ≡ 0x16 → ⊥
  pub no_construct : code ≡ 0x19 → ⊥
  pub no_adjust : code ≡ 0x1B → ⊥

-- the code is of no form with one byte behind it
pub record NoOperand (code : ℕ) : Type 0 where
  pub no_bool : code ≡ 0x10 → ⊥
  pub no_variable : code ≡ 0x12 → ⊥
  pub no_now : code ≡ 0x13 → ⊥
  pub no_last : code ≡ 0x14 → ⊥
  pub no_operator : code ≡ 0x17 → ⊥
  pub no_call_of : code ≡ 0x18 → ⊥
  pub no_case : code ≡ 0x1A → ⊥
  pub no_fit : code ≡ 0x1C → ⊥

-- why no form is read: the line ends before the code or before the head does, or the code is of no form
pub data Unread (line : List ℕ) (at : ℕ) : Type 0 where
  no_code : bytes_left line at ≡ 0 → Unread line at
  no_form : OtherCode (byte_at line at) → NoOperand (byte_at line at) → Unread line at
  no_operand : OtherCode (byte_at line at) → bytes_left line at < 2 → Unread line at
  no_constructor : byte_at line at ≡ 0x19 → bytes_left line at < 3 → Unread line at
  no-int : byte_at line at ≡ 0x11 → bytes_left line at < 5 → Unread line at

-- a form at a place, whose parts start at next
abbrev pub Shows : List ℕ → ℕ → ℕ → Form → Type 0
Shows line at next (BoolForm b) = Coded line at 0x10 2 next × OperandAt line (past line at 1) b
Shows line at next (Int n) = Coded line at 0x11 5 next × (n ≡ four_at line (past line at 1))
Shows line at next (Variable v) = Coded line at 0x12 2 next × OperandAt line (past line at 1) v
Shows line at next (Now c) = Coded line at 0x13 2 next × OperandAt line (past line at 1) c
Shows line at next (Last c) = Coded line at 0x14 2 next × OperandAt line (past line at 1) c
Shows line at next Let = Coded line at 0x15 1 next
Shows line at next If = Coded line at 0x16 1 next
Shows line at next (Operator o) = Coded line at 0x17 2 next × OperandAt line (past line at 1) o
Shows line at next (Call f) = Coded line at 0x18 2 next × OperandAt line (past line at 1) f
Shows line at next (Construct t c) = Coded line at 0x19 3 next × (OperandAt line (past line at 1) t × OperandAt line (past line at 2) c)
Shows line at next (Case t) = Coded line at 0x1A 2 next × OperandAt line (past line at 1) t
Shows line at next Adjust = Coded line at 0x1B 1 next
Shows line at next (Fit k) = Coded line at 0x1C 2 next × OperandAt line (past line at 1) k
Shows line at next Missing = (next ≡ at) × Unread line at

pub record Heads (line : List ℕ) (at : ℕ) (r : Head) : Type 0 where
  pub shows : Shows line at r.next.at r.form

module _ {line : List ℕ} {at : ℕ} {r : Head} (h : Heads line at r) {f : Form} (q : r.form ≡ f) where
  -- what is known of the form; with it `Shows line at next (Call f)` gives `.1 .small : f < byteRange`
  pub shown : Shows line at r.next.at f
  shown = subst (Shows line at r.next.at) q h.shows
