-- A channel by the first byte of its line, and a strict line: LF ends it and it has bytes.
use Rattle.language.specs.declared.refusals.Refusal.{Refusal}
use Rattle.language.specs.RefusalNumbers.{number_of}
use Rattle.std.specs.Prelude.{Some, None}
use Rattle.std.specs.Prelude.{Ok, Err}
use Rattle.std.specs.Prelude.{ℕ, ◌+◌, ◌-◌, ◌<◌, Bool, drop, eqb}
use mathlib.Core.List.{List, [], ◌∷◌}
use Rattle.std.proofs.Math.Bool.{true, false}
use Rattle.std.proofs.Math.Option.{Option, none, some}
use Rattle.std.proofs.Math.Path.{◌≡◌, refl, ap}
use Rattle.std.proofs.Common.{sym, ◌∙◌, arith}
use Rattle.std.proofs.Math.ListN.{length, take, length-drop}
use Rattle.std.proofs.Math.Dec.{ltb}
use borrow.Author.Tests.{eq-eqb, ne_eqb, ltb-true}
use Rattle.language.specs.Limits.{byte_range}
use Rattle.language.specs.Result.{both, one_of, choose}
use Rattle.language.specs.Codes.{line_feed}
use Rattle.language.specs.Parser.{byte, bad}
use Rattle.language.specs.Text.{line_bytes}
use Rattle.language.specs.Reader.{is_channel}
use Rattle.text.specs.declared.Found.{Found}
use Rattle.text_lines.specs.Lines.{LineEnd}
use Rattle.text.specs.Bytes.{Number, bytes_of, bytes_from, given, ReadsNumber, Below}
use Rattle.text.specs.Places.{bytes-start}
use Rattle.text_lines.specs.Lines.{first_line, next_line, is_some, line_end, channels_of}

-- ---- a channel, by the first byte of its line
first_byte : (bs line : List ℕ) {x : Number} {f : Found} → given line x ≡ byte bs → x ≡ Ok f → is_channel bs ≡ one_of (eqb f.value 0x03) (eqb f.value 0x04)
unfolding given byte is_channel
first_byte [] line e q = absurd (let z = sym e ∙ ap (given line) q in let y : ◌≡◌ {A = ℕ} 0 1 = cc in omega arith)
first_byte (b ∷ bs) line {f = f} e q = let y : b ≡ f.value = let u = sym e ∙ ap (given line) q in cc in rw y

module _ {line : List ℕ} {x : Number} (v : ReadsNumber line 0 x (byte (bytes_from line 0)) × Below byte_range x) where
  first_is : given line x ≡ byte (bytes_of line)
  first_is = v.0.is ∙ ap byte (bytes-start line)

  pub line-without-bytes : {n : Refusal} → x ≡ Err n → 0 ≡ channels_of (bytes_of line)
  unfolding given byte is_channel choose
  line-without-bytes {n} q = go (bytes_of line) (sym first_is ∙ ap (given line) q)
    where
      go : (bs : List ℕ) → byte bs ≡ bad (number_of n) → 0 ≡ channels_of bs
      go [] e = refl
      go (b ∷ bs) e = absurd (let y : ◌≡◌ {A = ℕ} 0 1 = cc in omega arith)

  pub input-line : {f : Found} → x ≡ Ok f → f.value ≡ 3 → 1 ≡ channels_of (bytes_of line)
  unfolding one_of choose
  input-line q k = rw (first_byte (bytes_of line) line first_is q, eq-eqb _ 0x03 k)

  pub node-line : {f : Found} → x ≡ Ok f → (f.value ≡ 3 → ⊥) → f.value ≡ 4 → 1 ≡ channels_of (bytes_of line)
  unfolding one_of choose
  node-line q n k = rw (first_byte (bytes_of line) line first_is q, ne_eqb _ 0x03 n, eq-eqb _ 0x04 k)

  pub other-line : {f : Found} → x ≡ Ok f → (f.value ≡ 3 → ⊥) → (f.value ≡ 4 → ⊥) → 0 ≡ channels_of (bytes_of line)
  unfolding one_of choose
  other-line q n k = rw (first_byte (bytes_of line) line first_is q, ne_eqb _ 0x03 n, ne_eqb _ 0x04 k)

-- ---- the line at a place: LF ends it and it has bytes, or the text is refused there
pub record Ended (t : List ℕ) (at end : ℕ) : Type 0 where
  pub from : at < end
  pub less : end < length t
  pub place : end ≡ next_line t at - 1
  pub is : take (end - at) (drop at t) ≡ first_line (drop at t)
  pub frame : List ℕ
  pub spelled : line_bytes (first_line (drop at t)) ≡ some frame

pub first-line-taken : (l : List ℕ) → take (length (first_line l)) l ≡ first_line l
unfolding first_line choose
first-line-taken [] = refl
first-line-taken (c ∷ l) = go (eqb c line_feed) (first-line-taken l)
  where
    go : (b : Bool) → take (length (first_line l)) l ≡ first_line l → take (length (choose b [] (c ∷ first_line l))) (c ∷ l) ≡ choose b [] (c ∷ first_line l)
    go true e = refl
    go false e = ap (λ k. c ∷ k) e

filled : (l bs : List ℕ) → line_bytes l ≡ some bs → 0 < length l
unfolding line_bytes
filled [] bs e = absurd (let z : ◌≡◌ {A = ℕ} 0 1 = cc in omega arith)
filled (c ∷ l) bs e = omega arith

module _ (t : List ℕ) (at : ℕ) {x : LineEnd} (v : x ≡ line_end t at) where
  pub line-ended : {end : ℕ} → x ≡ Some end → Ended t at end
  unfolding line_end both choose is_some
  line-ended {end} q = go (ltb (length (first_line (drop at t))) (length (drop at t))) (line_bytes (first_line (drop at t))) refl refl (sym v ∙ q)
    where
      go : (a : Bool) (o : Option (List ℕ)) → ltb (length (first_line (drop at t))) (length (drop at t)) ≡ a → line_bytes (first_line (drop at t)) ≡ o → choose (both a (is_some o)) (Some (at + length (first_line (drop at t)))) None ≡ Some end → Ended t at end
      go true (some bs) p o e =
          let place : at + length (first_line (drop at t)) ≡ end = cc in
          let same : end - at ≡ length (first_line (drop at t)) = omega (arith, place) in
          record {
            from = omega (arith, place, filled (first_line (drop at t)) bs o);
            less = omega (arith, place, ltb-true (length (first_line (drop at t))) (length (drop at t)) p, length-drop at t);
            place = omega (arith, place);
            is = ap (λ n. take n (drop at t)) same ∙ first-line-taken (drop at t);
            frame = bs;
            spelled = o;
          }
      go true none p o e = absurd (let z : ◌≡◌ {A = ℕ} 0 1 = cc in omega arith)
      go false o p q e = absurd (let z : ◌≡◌ {A = ℕ} 0 1 = cc in omega arith)
