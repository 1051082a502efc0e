-- Lines counted and stored, one behind the other.
use Prim.Native.Nat.{ℕ, zero, suc, ◌+◌, ◌*◌, ◌≤◌, ◌<◌}
use Rattle.std.specs.Prelude.{List, ◌++◌, ◌≡◌, length}
use Rattle.std.proofs.Math.Path.{refl}
use Rattle.std.proofs.Common.{sym, ap, ◌∙◌, zero-add}
use Rattle.std.proofs.Math.Numerals.{add-one}
use native.Mathlib.Omega.{arith}
use Rattle.std.proofs.Math.ListN.{length-append}
use Rattle.std.proofs.lemmas.List.Edits.{sets}
use Rattle.std.proofs.Math.Seq.{length-sets}
use Rattle.theory.specs.Places.{below-or-last}
use Rattle.text.specs.Bytes.{bytes_left}
use Rattle.index.specs.Sections.{frames_of}
use Rattle.index.specs.Indexed.{frame_part}
use Rattle.theory.specs.Lists.{sets-append}
use Rattle.writer.specs.Writes.{strict_line, strict_lines, PutsLine}
use Rattle.writer.specs.LineLaws.{line-long}

-- ---- one line more
module _ (text index : List ℕ) where
  lines_more : (i : ℕ) → strict_lines text index (i + 1) ≡ strict_lines text index i ++ strict_line (frame_part text (frames_of index) i)
  unfolding strict_lines
  lines_more i = rw add-one refl

  -- with more lines no fewer characters
  lines-longer : (i n : ℕ) → i ≤ n → length (strict_lines text index i) ≤ length (strict_lines text index n)
  unfolding strict_lines
  lines-longer i zero le = let none : i ≡ 0 = omega arith in rw none (omega arith)
  lines-longer i (suc n) le =
      below-or-last
      i
      (suc n)
      (omega arith)
      (λ below. omega (arith, lines-longer i n (omega arith), length-append (strict_lines text index n) (strict_line (frame_part text (frames_of index) n))))
      (λ last. rw last (omega arith))

-- ---- how many characters the first i of n lines have
pub record LengthTo (text index : List ℕ) (n total i : ℕ) : Type 0 where
  pub low : i ≤ n
  pub is : total ≡ length (strict_lines text index i)

pub length-start : (text index : List ℕ) (n : ℕ) → LengthTo text index n 0 0
unfolding strict_lines
length-start text index n = record { low = omega arith; is = refl }

module _ {text index : List ℕ} {n total i : ℕ} (t : LengthTo text index n total i) where
  module _ {line : List ℕ} (less : i < n) (part : line ≡ frame_part text (frames_of index) i) where
    next-is : total + length (strict_line line) ≡ length (strict_lines text index (i + 1))
    next-is =
        ap (λ m. m + length (strict_line line)) t.is ∙ ap (λ l. length (strict_lines text index i) + length (strict_line l)) part
        ∙ sym (length-append (strict_lines text index i) (strict_line (frame_part text (frames_of index) i))) ∙ ap length (sym (lines_more text index i))

    pub next-within : total + length (strict_line line) ≤ length (strict_lines text index n)
    next-within = omega (arith, next-is, lines-longer text index (i + 1) n (omega arith))

    module _ {bytes : ℕ} (count : bytes ≡ bytes_left line 0) where
      pub length-within : total + (2 * bytes + 1) ≤ length (strict_lines text index n)
      length-within = omega (arith, next-within, line-long line, count)

      pub length-on : LengthTo text index n (total + (2 * bytes + 1)) (i + 1)
      length-on = record { low = omega arith; is = omega (arith, next-is, line-long line, count) }

  pub length-end : n ≤ i → total ≡ length (strict_lines text index n)
  length-end le = let all : i ≡ n = omega (arith, t.low) in t.is ∙ ap (λ m. length (strict_lines text index m)) all

-- ---- these lines stored, and where the next one goes
pub record LinesTo (text index : List ℕ) (n : ℕ) (buffer₀ : List ℕ) (at i : ℕ) (buffer : List ℕ) : Type 0 where
  pub place : LengthTo text index n at i
  pub is : buffer ≡ sets buffer₀ 0 (strict_lines text index i)

pub lines_start : (text index : List ℕ) (n : ℕ) (buffer : List ℕ) → LinesTo text index n buffer 0 0 buffer
unfolding strict_lines
lines_start text index n buffer = record { place = length-start text index n; is = refl }

module _ {text index : List ℕ} {n : ℕ} {buffer₀ : List ℕ} {at i : ℕ} {buffer : List ℕ} (t : LinesTo text index n buffer₀ at i buffer) where
  pub lines-kept : length buffer ≡ length buffer₀
  lines-kept = ap length t.is ∙ length-sets buffer₀ 0 (strict_lines text index i)

  module _ {line : List ℕ} (less : i < n) (part : line ≡ frame_part text (frames_of index) i) where
    pub line-fits : length (strict_lines text index n) ≤ length buffer₀ → at + length (strict_line line) ≤ length buffer
    line-fits room = omega (arith, room, next-within t.place less part, lines-kept)

    pub lines-on : {r : ℕ} {buffer' : List ℕ} → PutsLine line at buffer r buffer' → LinesTo text index n buffer₀ r (i + 1) buffer'
    lines-on p =
        let so_far : List ℕ = strict_lines text index i in
        let next : so_far ++ strict_line line ≡ strict_lines text index (i + 1) = ap (λ l. so_far ++ strict_line l) part ∙ sym (lines_more text index i) in
        let behind : at ≡ 0 + length so_far = t.place.is ∙ sym (zero-add (length so_far)) in
        record {
          place = record { low = omega arith; is = p.place ∙ next-is t.place less part };
          is = p.is ∙ ap (λ l. sets l at (strict_line line)) t.is ∙ ap (λ m. sets (sets buffer₀ 0 so_far) m (strict_line line)) behind ∙ sym (sets-append so_far (strict_line line) buffer₀ 0)
              ∙ ap (sets buffer₀ 0) next;
        }

  pub lines_end : n ≤ i → buffer ≡ sets buffer₀ 0 (strict_lines text index n)
  lines_end le = let all : i ≡ n = omega (arith, t.place.low) in t.is ∙ ap (λ m. sets buffer₀ 0 (strict_lines text index m)) all
