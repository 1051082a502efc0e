-- A line counted and stored, byte by byte, as a cursor reads it.
use Rattle.language.specs.declared.refusals.Refusal.{Refusal}
use Rattle.std.specs.Prelude.{Ok, Err}
use Prim.Native.Nat.{ℕ, ◌+◌, ◌*◌, ◌/◌, ◌%◌, ◌≤◌, ◌<◌}
use mathlib.Core.List.{List, [], ◌∷◌, ◌++◌, append-nil, append_assoc}
use Rattle.std.specs.Prelude.{◌≡◌, refl}
use Rattle.std.proofs.Math.Path.{sym, ap}
use Rattle.std.proofs.Common.{◌∙◌, add-zero, zero-add, add-one, arith, length-append}
use Rattle.std.proofs.Math.ListN.{length, set}
use Rattle.std.proofs.Math.Seq.{sets, length-sets}
use Rattle.language.specs.Codes.{digit_base, line_feed}
use Rattle.language.specs.Parser.{got, bad, byte}
use Rattle.language.specs.Format.{spell_all, digit_of, pair_of, line_text}
use Rattle.text.specs.declared.Cursor.{Cursor}
use Rattle.text.specs.declared.Found.{Found}
use Rattle.text.specs.Bytes.{Number, bytes_from, bytes_left, ReadsNumber}
use Rattle.text.specs.Places.{left-most}
use Rattle.text.specs.StepLaws.{number-got, number-bad}
use Rattle.theory.specs.Lists.{sets-append}
use Rattle.theory.specs.ExactText.{pairs-long, line-long as text-long}
use Rattle.index.specs.Entries.{spell-more}
use Rattle.writer.specs.Writes.{strict_line, PutsLine}

-- ---- pairs and lines
pub line-long : (line : List ℕ) → length (strict_line line) ≡ 2 * bytes_left line 0 + 1
line-long line = text-long (bytes_from line 0) ∙ sym (add-one (2 * bytes_left line 0))

pub pair_put : {high low : ℕ} (buffer : List ℕ) (at b : ℕ) → high ≡ digit_of (b / digit_base) → low ≡ digit_of (b % digit_base) → set (set buffer at high) (at + 1) low ≡ sets buffer at (pair_of b)
unfolding pair_of
pair_put buffer at b h l = rw (h, l, add-one) refl

-- ---- a byte that a cursor reads is the first of those left; where it reads none, none is left
byte-got : {b : ℕ} {cs : List ℕ} (bs : List ℕ) → byte bs ≡ got b cs → bs ≡ b ∷ cs
unfolding byte
byte-got [] e = absurd (let z : ◌≡◌ {A = ℕ} 0 1 = cc in omega arith)
byte-got {b} {cs} (a ∷ bs) e = let value : a ≡ b = cc in let rest : bs ≡ cs = cc in λ i. value i ∷ rest i

byte-bad : {n : ℕ} (bs : List ℕ) → byte bs ≡ bad n → bs ≡ []
unfolding byte
byte-bad [] e = refl
byte-bad (a ∷ bs) e = absurd (let z : ◌≡◌ {A = ℕ} 0 1 = cc in omega arith)

module _ {line : List ℕ} {at : ℕ} {x : Number} (v : ReadsNumber line at x (byte (bytes_from line at))) where
  byte-first : {f : Found} → x ≡ Ok f → bytes_from line at ≡ f.value ∷ bytes_from line f.next.at
  byte-first e = byte-got (bytes_from line at) (number-got v e)

  byte_last : {n : Refusal} → x ≡ Err n → bytes_from line at ≡ []
  byte_last e = byte-bad (bytes_from line at) (number-bad v e)

  pub byte-less : {f : Found} → x ≡ Ok f → bytes_left line f.next.at < bytes_left line at
  byte-less e = omega (arith, ap length (byte-first e))

-- ---- the bytes of a line, counted
pub record CountTo (line : List ℕ) (n : ℕ) (c : Cursor) : Type 0 where
  pub is : n + bytes_left line c.at ≡ bytes_left line 0

pub count-start : (line : List ℕ) → CountTo line 0 (record { at = 0 })
count-start line = record { is = zero-add (bytes_left line 0) }

module _ {line : List ℕ} {n : ℕ} {c : Cursor} (t : CountTo line n c) {x : Number} (v : ReadsNumber line c.at x (byte (bytes_from line c.at))) where
  pub count-few : {f : Found} → x ≡ Ok f → n < length line
  count-few e = omega (arith, t.is, ap length (byte-first v e), left-most line 0)

  pub count-on : {f : Found} → x ≡ Ok f → CountTo line (n + 1) f.next
  count-on e = record { is = omega (arith, t.is, ap length (byte-first v e)) }

  pub count-end : {m : Refusal} → x ≡ Err m → n ≡ bytes_left line 0
  count-end e = omega (arith, t.is, ap length (byte_last v e))

-- ---- a line stored: the pairs of its first bytes, and where the next one goes
pub record LineTo (line : List ℕ) (from : ℕ) (buffer₀ : List ℕ) (at : ℕ) (c : Cursor) (buffer : List ℕ) : Type 0 where
  pub first : List ℕ
  pub split : bytes_from line 0 ≡ first ++ bytes_from line c.at
  pub place : at ≡ from + length (spell_all pair_of first)
  pub is : buffer ≡ sets buffer₀ from (spell_all pair_of first)

pub line-start : (line : List ℕ) (from : ℕ) (buffer : List ℕ) → LineTo line from buffer from (record { at = 0 }) buffer
unfolding spell_all
line-start line from buffer = record { first = []; split = refl; place = sym (add-zero from); is = refl }

module _ {line : List ℕ} {from : ℕ} {buffer₀ : List ℕ} {at : ℕ} {c : Cursor} {buffer : List ℕ} (t : LineTo line from buffer₀ at c buffer) where
  pub line_kept : length buffer ≡ length buffer₀
  line_kept = ap length t.is ∙ length-sets buffer₀ from (spell_all pair_of t.first)

  left_behind : from + length (strict_line line) ≡ at + 2 * bytes_left line c.at + 1
  left_behind = omega (arith, line-long line, t.place, pairs-long t.first, ap length t.split, length-append t.first (bytes_from line c.at))

  module _ (room : from + length (strict_line line) ≤ length buffer₀) where
    pub feed-fits : at < length buffer
    feed-fits = omega (arith, room, left_behind, line_kept)

    pub pair_fits : {x : Number} {f : Found} → ReadsNumber line c.at x (byte (bytes_from line c.at)) → x ≡ Ok f → at + 1 < length buffer
    pair_fits v e = omega (arith, room, left_behind, line_kept, byte-less v e)

  module _ {x : Number} (v : ReadsNumber line c.at x (byte (bytes_from line c.at))) where
    pub line_on : {f : Found} {buffer' : List ℕ} → x ≡ Ok f → buffer' ≡ sets buffer at (pair_of f.value) → LineTo line from buffer₀ (at + 2) f.next buffer'
    unfolding pair_of
    line_on {f} {buffer'} e w =
        let b = f.value in
        let pairs : List ℕ = spell_all pair_of t.first in
        record {
          first = t.first ++ (b ∷ []);
          split = t.split ∙ ap (λ l. t.first ++ l) (byte-first v e) ∙ sym (append_assoc t.first (b ∷ []) (bytes_from line f.next.at));
          place = sym (ap (λ l. from + length l) (spell-more pair_of t.first b) ∙ ap (λ n. from + n) (length-append pairs (pair_of b)) ∙ omega (arith, t.place));
          is = w ∙ ap (λ l. sets l at (pair_of b)) t.is ∙ ap (λ n. sets (sets buffer₀ from pairs) n (pair_of b)) t.place ∙ sym (sets-append pairs (pair_of b) buffer₀ from)
              ∙ ap (sets buffer₀ from) (sym (spell-more pair_of t.first b));
        }

    pub line-end : {m : Refusal} {buffer' : List ℕ} → x ≡ Err m → buffer' ≡ set buffer at line_feed → PutsLine line from buffer₀ (at + 1) buffer'
    unfolding line_text
    line-end {buffer'} e w =
        let pairs : List ℕ = spell_all pair_of t.first in
        let whole : t.first ≡ bytes_from line 0 = sym (t.split ∙ ap (λ l. t.first ++ l) (byte_last v e) ∙ append-nil t.first) in
        record {
          place = omega (arith, left_behind, ap length (byte_last v e));
          is = w ∙ ap (λ l. set l at line_feed) t.is ∙ ap (λ n. set (sets buffer₀ from pairs) n line_feed) t.place ∙ sym (sets-append pairs (line_feed ∷ []) buffer₀ from)
              ∙ ap (λ bs. sets buffer₀ from (line_text bs)) whole;
        }
