-- One cell in words and back: a cell of the file is read from its words, and the words that are read are the cell's.
use Rattle.std.specs.Prelude.{ℕ, zero, suc, ◌+◌, ◌-◌, ◌*◌, ◌/◌, ◌%◌, ◌≤◌, ◌<◌, List, ◌∷◌, Bool, true, false, ◌≡◌, refl, length, drop, eqb, leb, ltb}
use Rattle.std.proofs.Math.Option.{Option, none, some}
use Rattle.std.proofs.Common.{ap, lt-ltb, le-leb, ne_eqb, leb-true, eqb-true}
use native.Mathlib.Omega.{arith}
use Rattle.std.proofs.Math.ListN.{get_elem? as look}
use Rattle.language.specs.Limits.{fields_most, int_range}
use Rattle.language.specs.Result.{both, when, choose}
use Rattle.language.specs.Syntax.{File, Constructor, constructors_of}
use Rattle.language.specs.Format.{bit}
use Rattle.language.specs.Heap.{kbool, kint, Cell, leaf, con, fields_in}
use Rattle.language.specs.Layout.{bool_tag, int_tag, tag_step, cell_tag, cell_value, padded, words_of, all_zero, constructor_of_words, cell_of_words}
use Rattle.theory.specs.Lists.{both_left, both_right}
use Rattle.theory.specs.Tests.{Whenever, w_none, whenever-when}
use Rattle.theory.specs.Choices.{whenever-choose}
use Rattle.theory.specs.Padding.{padded-zero, padded-front, padded-rest, filled-up}

-- ---- a cell that its words can hold
pub data Writable (P : File) : Cell → Type 0 where
  bool_writable : {b : Bool} → Writable P (leaf (kbool b))
  int_writable : {n : ℕ} → n < int_range → Writable P (leaf (kint n))
  con_writable : {t c k : ℕ} {ls : List ℕ} {fs : Constructor} → look (constructors_of P t) c ≡ some fs → length ls ≡ length fs → length fs ≤ fields_most → c < tag_step → Writable P (con t c k ls)

bit-back : (b : Bool) → eqb (bit b) 1 ≡ b
bit-back true = refl
bit-back false = refl

bit-small : (b : Bool) → bit b ≤ 1
bit-small true = omega arith
bit-small false = omega arith

pub cell-read-back : {P : File} {c : Cell} → Writable P c → cell_of_words P (cell_tag c) (cell_value c) (padded fields_most (fields_in c)) ≡ some c
unfolding cell_of_words cell_tag cell_value fields_in choose when both constructor_of_words
cell-read-back (bool_writable {b}) = rw (le-leb (bit b) 1 (bit-small b), padded-zero fields_most, bit-back b)
cell-read-back (int_writable {n} less) = rw (lt-ltb n int_range less, padded-zero fields_most)
cell-read-back {P} (con_writable {t} {c} {k} {ls} {fs} known same few small) =
    let tag = tag_step * (t + 1) + c in
    let type : tag / tag_step - 1 ≡ t = omega arith in
    let constructor : tag % tag_step ≡ c = omega arith in
    rw (
      ne_eqb tag 1 (λ e. omega arith),
      ne_eqb tag 2 (λ e. omega arith),
      le-leb tag_step tag (omega arith),
      type,
      constructor,
      known,
      ← same,
      padded-rest fields_most ls (omega arith),
      padded-front fields_most ls (omega arith),
    )

-- ---- the words of a cell that is read
pub record CellRead (tag v : ℕ) (ls : List ℕ) (c : Cell) : Type 0 where
  pub words : length ls ≡ fields_most → tag ∷ v ∷ ls ≡ words_of c

bit_is : (v : ℕ) → v ≤ 1 → v ≡ bit (eqb v 1)
bit_is zero le = refl
bit_is (suc zero) le = refl
bit_is (suc (suc v)) le = absurd (omega arith)

module _ (tag v : ℕ) (ls : List ℕ) where
  bool-read : tag ≡ bool_tag → both (leb v 1) (all_zero ls) ≡ true → CellRead tag v ls (leaf (kbool (eqb v 1)))
  unfolding words_of cell_tag cell_value fields_in
  bool-read is e = record { words = λ size. rw (is, filled-up fields_most 0 ls size (both_right _ _ e)) (ap (λ x. bool_tag ∷ x ∷ ls) (bit_is v (leb-true v 1 (both_left _ _ e)))) }

  int-read : tag ≡ int_tag → both (ltb v int_range) (all_zero ls) ≡ true → CellRead tag v ls (leaf (kint v))
  unfolding words_of cell_tag cell_value fields_in
  int-read is e = record { words = λ size. rw (is, filled-up fields_most 0 ls size (both_right _ _ e)) }

  con-read : tag_step ≤ tag → (o : Option Constructor) → Whenever (CellRead tag v ls) (constructor_of_words (tag / tag_step - 1) (tag % tag_step) v ls o)
  unfolding constructor_of_words words_of cell_tag cell_value fields_in
  con-read le none = w_none
  con-read le (some fs) = whenever-when (all_zero (drop (length fs) ls)) _ (λ e. record
      { words = λ size. let same : tag_step * (tag / tag_step - 1 + 1) + tag % tag_step ≡ tag = omega arith in rw (same, filled-up fields_most (length fs) ls size e) })

  pub cell-read : (P : File) → Whenever (CellRead tag v ls) (cell_of_words P tag v ls)
  unfolding cell_of_words
  cell-read P = whenever-choose (eqb tag bool_tag) (λ e. whenever-when _ _ (bool-read (eqb-true tag bool_tag e)))
      (λ not_bool. whenever-choose (eqb tag int_tag) (λ e. whenever-when _ _ (int-read (eqb-true tag int_tag e)))
      (λ not_int. whenever-choose (leb tag_step tag) (λ e. con-read (leb-true tag_step tag e) (look (constructors_of P (tag / tag_step - 1)) (tag % tag_step))) (λ small. w_none)))
