-- A constructor's fields one after the other: the own-type sizes summed, each other size against its k.
use Rattle.std.specs.Prelude.{ℕ, ◌+◌, ◌-◌, ◌%◌, ◌≤◌, ◌<◌, Bool, ◌≡◌, ltb, leb, Option, Some, None, IfSome}
use mathlib.Core.List.{List, ◌∷◌}
use Rattle.std.proofs.Math.Bool.{true, false}
use Rattle.std.proofs.Math.Path.{refl, sym, ap}
use Rattle.std.proofs.Common.{◌∙◌}
use native.Mathlib.Omega.{arith}
use borrow.Author.Tests.{lt-ltb, le-ltb, le-leb, lt-leb, ltb-false}
use Rattle.language.specs.Limits.{size_most}
use Rattle.language.specs.Codes.{field_own}
use Rattle.language.specs.Result.{both, choose}
use Rattle.language.specs.Syntax.{Field, fbool, fint, own, other}
use Rattle.language.specs.Within.{WithinField, w_fbool, w_fint, w_own, w_other}
use Rattle.language.specs.Heap.{Cell, cell_at, size_in, own_sum, fields_within_of}
use Rattle.language.specs.Layout.{tag_step}
use Rattle.theory.specs.Lists.{both-never}
use Rattle.text.specs.Bytes.{field_word}
use Rattle.state_words.specs.Holds.{Holds, Reads}
use Rattle.new_cells.specs.Asked.{summed, added, size_told, Adds}

-- ---- one field
module _ {words : List ℕ} {used sum word l : ℕ} (low : sum < size_most) where
  -- a Bool or an Int
  pub constant-added : word < field_own → Adds words used sum word l (Some sum)
  unfolding added field_word
  constant-added less = record { says = go; low = low }
    where
      go : {t : ℕ} {f : Field} {h : List Cell} → WithinField t f → field_word f ≡ word → Holds words used h → sum ≡ added sum f (size_in (cell_at h l))
      go w_fbool e v = refl
      go w_fint e v = refl
      go w_own e v = absurd (omega arith)
      go (w_other u k) e v = absurd (omega arith)

  module _ {s : ℕ} (p : Reads words used (λ h. size_in (cell_at h l)) s) where
    -- of the type itself
    module _ (is : word ≡ field_own) where
      own-size : {r : Option ℕ} → IfSome r (λ n. n < size_most) → choose (ltb (sum + s) size_most) (sum + s) size_most ≡ size_told r → Adds words used sum word l r
      unfolding added field_word
      own-size {r} less e = record { says = go; low = less }
        where
          go : {t : ℕ} {f : Field} {h : List Cell} → WithinField t f → field_word f ≡ word → Holds words used h → size_told r ≡ added sum f (size_in (cell_at h l))
          go w_fbool q v = absurd (omega arith)
          go w_fint q v = absurd (omega arith)
          go {h = h} w_own q v = sym e ∙ ap (λ n. choose (ltb (sum + n) size_most) (sum + n) size_most) (p.says h v)
          go (w_other u k) q v = absurd (omega arith)

      pub own-added : s < size_most - sum → Adds words used sum word l (Some (sum + s))
      unfolding choose
      own-added less = own-size (omega arith) (rw (lt-ltb (sum + s) size_most (omega arith)))

      pub own-over : size_most - sum ≤ s → Adds words used sum word l None
      unfolding choose
      own-over le = own-size tt (rw (le-ltb (sum + s) size_most (omega arith)))

    -- of another type
    module _ {k : ℕ} (high : field_own ≤ word) (not_own : word ≡ field_own → ⊥) (told : k ≡ word % tag_step) where
      other-size : {r : Option ℕ} → IfSome r (λ n. n < size_most) → choose (leb s k) sum size_most ≡ size_told r → Adds words used sum word l r
      unfolding added field_word
      other-size {r} less e = record { says = go; low = less }
        where
          go : {t : ℕ} {f : Field} {h : List Cell} → WithinField t f → field_word f ≡ word → Holds words used h → size_told r ≡ added sum f (size_in (cell_at h l))
          go w_fbool q v = absurd (omega arith)
          go w_fint q v = absurd (omega arith)
          go w_own q v = absurd (not_own (sym q))
          go {h = h} (w_other {k = j} less bound) q v =
              let same : k ≡ j = omega (arith, bound.1) in
              sym e ∙ ap (λ n. choose (leb n k) sum size_most) (p.says h v) ∙ ap (λ n. choose (leb (size_in (cell_at h l)) n) sum size_most) same

      pub other-added : s ≤ k → Adds words used sum word l (Some sum)
      unfolding choose
      other-added le = other-size low (rw (le-leb s k le))

      pub other-over : k < s → Adds words used sum word l None
      unfolding choose
      other-over less = other-size tt (rw (lt-leb s k less))

-- ---- the sum goes on behind a field, or has reached the largest size
module _ (h : List Cell) (fs : List Field) (ls : List ℕ) (sum : ℕ) (low : sum < size_most) where
  abbrev onward : ℕ → ℕ
  onward r = choose (ltb r size_most) (summed h fs ls r) size_most

  same-on : summed h fs ls sum ≡ onward sum
  unfolding choose
  same-on = rw (lt-ltb sum size_most low)

  own_on : (s : ℕ) (b : Bool) → ltb (sum + s) size_most ≡ b → choose (both (ltb (sum + (s + own_sum h fs ls)) size_most) (fields_within_of h fs ls)) (sum + (s + own_sum h fs ls)) size_most ≡ onward (choose b (sum + s) size_most)
  unfolding choose summed both
  own_on s true e =
      let more : sum + (s + own_sum h fs ls) ≡ sum + s + own_sum h fs ls = omega arith in
      rw (e, more)
  own_on s false e = rw (le-ltb (sum + (s + own_sum h fs ls)) size_most (omega (arith, ltb-false (sum + s) size_most e)))

  other-on : (b : Bool) → choose (both (ltb (sum + own_sum h fs ls) size_most) (both b (fields_within_of h fs ls))) (sum + own_sum h fs ls) size_most ≡ onward (choose b sum size_most)
  unfolding choose summed both
  other-on true = rw (lt-ltb sum size_most low)
  other-on false = rw (both-never (ltb (sum + own_sum h fs ls) size_most) refl)

  pub field-on : (f : Field) (l : ℕ) → summed h (f ∷ fs) (l ∷ ls) sum ≡ onward (added sum f (size_in (cell_at h l)))
  unfolding summed added own_sum fields_within_of
  field-on fbool l = same-on
  field-on fint l = same-on
  field-on own l = own_on (size_in (cell_at h l)) (ltb (sum + size_in (cell_at h l)) size_most) refl
  field-on (other u k) l = other-on (leb (size_in (cell_at h l)) k)
