-- The head of an expression, return by return: what the reads so far say gives what the head promises.
use Rattle.language.specs.declared.refusals.Refusal.{Refusal}
use Rattle.std.specs.Prelude.{Ok, Err}
use Rattle.std.specs.Prelude.{ℕ, ◌+◌, ◌-◌, ◌<◌, List, ◌≡◌, refl}
use Rattle.std.proofs.Common.{sym, ap, ◌∙◌, arith}
use Rattle.language.specs.ReadExpr.{int}
use Rattle.text.specs.declared.Cursor.{Cursor}
use Rattle.text.specs.declared.Found.{Found}
use Rattle.text.specs.Bytes.{Number, bytes_from, past, bytes_left, ReadsNumber}
use Rattle.text.specs.Places.{past-past, left-past}
use Rattle.text.specs.IntLaws.{ByteAt}
use Rattle.heads.specs.declared.Form.TheVariants.{Int, Construct, Missing}
use Rattle.heads.specs.declared.Head.{Head}
use Rattle.heads.specs.Heads.{Coded, OperandAt, OtherCode, NoOperand, Unread, no_code, no_form, no_operand, no_constructor, no-int, Heads}
use Rattle.heads.specs.ReadLaws.{byte-found, byte-none, int-found, int-none}

abbrev pub missing_head : Cursor → Head
missing_head c = record { form = Missing; next = c }

missing-here : {line : List ℕ} {c : Cursor} {r : Head} → r ≡ missing_head c → Unread line c.at → Heads line c.at r
missing-here q u = rw q (record { shows = (refl, u) })

none_left : (n : ℕ) → (0 < n → ⊥) → n ≡ 0
none_left n h = omega (arith, h)

-- ---- behind what is known of a head so far
module _ {line : List ℕ} {at code k next : ℕ} (d : Coded line at code k next) where
  pub left_behind : bytes_left line next ≡ bytes_left line at - k
  left_behind = ap (bytes_left line) d.ends ∙ left-past line at k

  ends-behind : {n : ℕ} (m : ℕ) → n ≡ past line next m → n ≡ past line at (k + m)
  ends-behind m q = q ∙ ap (λ (a : ℕ). past line a m) d.ends ∙ past-past line at k m

  -- one byte more
  coded-more : {x : Number} {f : Found} → ByteAt line next x → x ≡ Ok f → Coded line at code (k + 1) f.next.at
  coded-more v e = let found = byte-found v e in record { code = d.code; ends = ends-behind 1 found.ends; within = omega (arith, left_behind, found.some, d.within) }

-- ---- the code
module _ {line : List ℕ} {start : Cursor} {x : Number} (v : ByteAt line start.at x) where
  pub code-missing : {m : Refusal} {r : Head} → x ≡ Err m → r ≡ missing_head start → Heads line start.at r
  code-missing e q = missing-here q (no_code (none_left (bytes_left line start.at) (byte-none v e)))

  pub code_read : {f : Found} → x ≡ Ok f → Coded line start.at f.value 1 f.next.at
  code_read e = let found = byte-found v e in record { code = sym found.value.is; ends = found.ends; within = found.some }

  -- the code is k
  pub code_is : {f : Found} (k : ℕ) → x ≡ Ok f → f.value ≡ k → Coded line start.at k 1 f.next.at
  code_is k e q = rw q at (code_read e)

module _ {line : List ℕ} {start c : Cursor} where
  -- ---- one byte behind the code
  module _ {code : ℕ} (d : Coded line start.at code 1 c.at) where
    pub operand-missing : {x : Number} {m : Refusal} {r : Head} → OtherCode code → ByteAt line c.at x → x ≡ Err m → r ≡ missing_head start → Heads line start.at r
    operand-missing o v e q = missing-here q (no_operand (rw (← d.code) at o) (omega (arith, none_left (bytes_left line c.at) (byte-none v e), left_behind d)))

    pub operand_read : {x : Number} {f : Found} (k : ℕ) → code ≡ k → ByteAt line c.at x → x ≡ Ok f → Coded line start.at k 2 f.next.at × OperandAt line (past line start.at 1) f.value
    operand_read k q v e =
        let found = byte-found v e in
        (record { code = d.code ∙ q; ends = ends-behind d 1 found.ends; within = omega (arith, left_behind d, found.some) }, rw d.ends at found.value)

    pub code-unknown : {r : Head} → OtherCode code → NoOperand code → r ≡ missing_head start → Heads line start.at r
    code-unknown o n q = missing-here q (no_form (rw (← d.code) at o) (rw (← d.code) at n))

  -- ---- `11`
  module _ (d : Coded line start.at 0x11 1 c.at) {x : Number} (v : ReadsNumber line c.at x (int (bytes_from line c.at))) where
    pub number-missing : {m : Refusal} {r : Head} → x ≡ Err m → r ≡ missing_head start → Heads line start.at r
    number-missing e q = missing-here q (no-int d.code (omega (arith, int-none v e, left_behind d)))

    pub number_read : {f : Found} → x ≡ Ok f → Heads line start.at (record { form = Int f.value; next = f.next })
    number_read e =
        let found = int-found v e in
        record { shows = (record { code = d.code; ends = ends-behind d 4 found.ends; within = omega (arith, left_behind d, found.within) }, rw d.ends at found.value) }

  -- ---- `19`
  module _ (d : Coded line start.at 0x19 1 c.at) {x : Number} (v : ByteAt line c.at x) where
    pub construct-missing : {m : Refusal} {r : Head} → x ≡ Err m → r ≡ missing_head start → Heads line start.at r
    construct-missing e q = missing-here q (no_constructor d.code (omega (arith, none_left (bytes_left line c.at) (byte-none v e), left_behind d)))

    module _ {f : Found} (e : x ≡ Ok f) {y : Number} (u : ByteAt line f.next.at y) where
      pub construct-cut : {m : Refusal} {r : Head} → y ≡ Err m → r ≡ missing_head start → Heads line start.at r
      construct-cut o q = missing-here q (no_constructor d.code (omega (arith, none_left (bytes_left line f.next.at) (byte-none u o), left_behind (coded-more d v e))))

      pub construct-read : {g : Found} → y ≡ Ok g → Heads line start.at (record { form = Construct f.value g.value; next = g.next })
      construct-read {g} o =
          let two = coded-more d v e in
          (record { shows = (coded-more two u o, (rw d.ends at (byte-found v e).value, rw two.ends at (byte-found u o).value)) })
