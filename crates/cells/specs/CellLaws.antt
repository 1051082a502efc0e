-- The cells of a type, return by return: a type's, a constructor's, and those of several values of the type.
use Prim.Native.Nat.{ℕ, zero, suc, ◌+◌, ◌-◌, ◌*◌, ◌%◌, ◌≤◌, ◌<◌, max}
use Rattle.std.specs.Prelude.{List, ◌≡◌, get_or, set, take}
use Rattle.std.proofs.Math.Path.{refl}
use Rattle.std.proofs.Common.{sym, ap, ◌∙◌, arith, add-one, take_all}
use borrow.Author.Tests.{lt-ltb, le-ltb}
use Rattle.language.specs.Result.{choose}
use Rattle.language.specs.Limits.{byte_range, types_most, fields_most, size_most}
use Rattle.language.specs.Syntax.{File, constructors_of, fields_of, owns}
use Rattle.language.specs.Estimate.{stop}
use Rattle.language.specs.Cells.{max_to, other_cells, cells_named}
use Rattle.index.specs.Tables.{constructor_words, type_words}
use Rattle.index.specs.Sections.{types_of}
use Rattle.cells.specs.Most.{most_own, split_cells, made_cells, most_made}
use Rattle.cells.specs.Counts.{place, stands_for, Right, Counts, Sized, CountsCells, Several, CountsOwn, MadeSized, CountsConstructor, CountsOthers}
use Rattle.cells.specs.MostLaws.{cells-made, made-next, own-none, own_split, split-next}
use Rattle.cells.specs.TypeWords.{few-types, types-within, constructors-told, few-owns, owns-told}
use Rattle.cells.specs.TableLaws.{counts-known, counts-noted}
use Rattle.cells.specs.CountLaws.{counts-given, counts-as, counts_of, counts-sum, counts-max, counts-one-more}

-- ---- a type at a size
module _ {index table : List ℕ} {t k : ℕ} where
  pub cells-no-type : types_most ≤ t → CountsCells index table t k 0 table
  cells-no-type over = counts-given (omega arith) (λ P h a. absurd (omega (arith, over, few-types h, a.named)))

  pub cells-no-size : size_most < k → CountsCells index table t k 0 table
  cells-no-size over = counts-given (omega arith) (λ P h a. absurd (omega (arith, over, a.few)))

  sized-several : (P : File) → Right index table P → Sized t k P → Several t 0 k P
  sized-several P h a = record { named = a.named; few = omega arith; low = a.few }

  cells-stand : (P : File) → Right index table P → Sized t k P → cells_named P t k ≡ stands_for P t 0 k
  unfolding stands_for
  cells-stand P h a = refl

  pub cells-known : {word q : ℕ} → word ≡ get_or table (place t 0 k) 0 → (word ≡ 0 → ⊥) → q ≡ stop (word - 1 + 0) → CountsCells index table t k q table
  cells-known e some w = counts-known t 0 k sized-several cells-stand e some w

-- the constructors before c
abbrev pub CellsTo : List ℕ → List ℕ → ℕ → ℕ → ℕ → ℕ → List ℕ → Type 0
CellsTo index table t k c = Counts index table (Sized t k) (λ P. most_made P t k (take c (constructors_of P t)))

pub cells-start : (index table : List ℕ) (t k : ℕ) → CellsTo index table t k 0 0 table
unfolding most_made
cells-start index table t k = counts-given (omega arith) (λ P h a. omega arith)

module _ {index table table₁ : List ℕ} {t k n c most : ℕ} (q : (n ≡ get_or (types_of index) (type_words * t) 0 % byte_range) × (n < byte_range)) (v : CellsTo index table t k c most table₁) where
  pub cells-on : {made r : ℕ} {table₂ : List ℕ} → c < n → CountsConstructor index table₁ t k c made table₂ → r ≡ stop (max made most) → CellsTo index table t k (c + 1) r table₂
  cells-on less w e =
      counts-as (counts-max v w (λ P h a. record { made = record { named = a.named; there = omega (arith, less, constructors-told h a.named q) }; low = a.few }) e)
      (λ P h a. rw add-one (sym (made-next P t k c (constructors_of P t) (omega (arith, less, constructors-told h a.named q)))))

  pub cells-end : {table₂ : List ℕ} → n ≤ c → table₂ ≡ set table₁ (place t 0 k) (1 + most) → CountsCells index table t k most table₂
  cells-end le e =
      counts-noted t 0 k sized-several cells-stand
      (counts-as v (λ P h a. ap (most_made P t k) (take_all c (constructors_of P t) (omega (arith, le, constructors-told h a.named q))) ∙ sym (cells-made P (types-within h) t a.named k a.some)))
      e

-- ---- a constructor
module _ {index table : List ℕ} {t k c own : ℕ} (q : (own ≡ get_or (types_of index) (type_words * t + 2 + constructor_words * c) 0 % byte_range) × (own < byte_range)) where
  pub constructor-none : k ≤ own → CountsConstructor index table t k c 0 table
  unfolding made_cells choose
  constructor-none le = counts-given (omega arith) (λ P h a. rw (le-ltb (owns (fields_of P t c)) k (omega (arith, le, owns-told h a.made q))))

  pub constructor-some : {others owned both r : ℕ} {table₁ table₂ : List ℕ} → own < k → CountsOthers index table t c others table₁ → CountsOwn index table₁ t own (k - 1) owned table₂ → both ≡ stop (others + owned) → r ≡ stop (1 + both) →
      CountsConstructor index table t k c r table₂
  unfolding made_cells choose
  constructor-some {others} {table₁} less v w e f =
      let u : Counts index table (MadeSized t k c) (λ P. other_cells (cells_named P) (fields_of P t c)) others table₁ = counts_of v (λ P h a. a.made) in
      counts-as (counts-one-more (counts-sum u w (λ P h a. record { named = a.made.named; few = omega (arith, owns-told h a.made q, few-owns h a.made); low = omega (arith, a.low) }) e) f)
      (λ P h a. rw (← (owns-told h a.made q), lt-ltb own k less))

-- ---- several values of the type
module _ {index table : List ℕ} {t r m : ℕ} where
  pub own-zero : r ≡ 0 → CountsOwn index table t r m 0 table
  unfolding most_own
  own-zero e = counts-given (omega arith) (λ P h a. rw e)

  pub own-short : m < r → CountsOwn index table t r m 0 table
  own-short less = counts-given (omega arith) (λ P h a. rw (own-none P t r m less))

  pub own-over : fields_most < r → CountsOwn index table t r m 0 table
  own-over over = counts-given (omega arith) (λ P h a. absurd (omega (arith, over, a.few)))

  own-stand : (r ≡ 0 → ⊥) → (P : File) → Right index table P → Several t r m P → most_own P t r m ≡ stands_for P t r m
  unfolding stands_for
  own-stand some P h a = stand r some
    where
      stand : (s : ℕ) → (s ≡ 0 → ⊥) → most_own P t s m ≡ stands_for P t s m
      stand zero some = absurd (some refl)
      stand (suc s) some = refl

  pub own-known : {word q : ℕ} → (r ≡ 0 → ⊥) → word ≡ get_or table (place t r m) 0 → (word ≡ 0 → ⊥) → q ≡ stop (word - 1 + 0) → CountsOwn index table t r m q table
  own-known some e there w = counts-known t r m (λ P h a. a) (own-stand some) e there w

-- the first value of size at most p
abbrev pub OwnTo : List ℕ → List ℕ → ℕ → ℕ → ℕ → ℕ → ℕ → List ℕ → Type 0
OwnTo index table t r m p = Counts index table (Several t r m) (λ P. max_to (split_cells P t (r - 1) m) p)

pub own-start : (index table : List ℕ) (t r m : ℕ) → OwnTo index table t r m 0 0 table
unfolding max_to
own-start index table t r m = counts-given (omega arith) (λ P h a. omega arith)

module _ {index table table₁ : List ℕ} {t r m p most : ℕ} (some : r ≡ 0 → ⊥) (room : r ≤ m) (v : OwnTo index table t r m p most table₁) where
  pub own_on : {first rest both q : ℕ} {table₂ table₃ : List ℕ} → p < m - (r - 1) → CountsCells index table₁ t (p + 1) first table₂ → CountsOwn index table₂ t (r - 1) (m - (p + 1)) rest table₃ →
      both ≡ stop (first + rest) → q ≡ stop (max both most) → OwnTo index table t r m (p + 1) q table₃
  own_on {first} {table₂} less u w e f =
      let a : Counts index table₁ (Several t r m) (λ P. cells_named P t (p + 1)) first table₂ = counts_of u (λ P h s. sized P s) in
      counts-as (counts-max v (counts-sum a w (λ P h s. record { named = s.named; few = omega (arith, s.few); low = omega (arith, s.low) }) e) (λ P h s. s) f)
      (λ P h s. rw add-one (sym (split-next (split_cells P t (r - 1) m) p)))
    where
      sized : (P : File) → Several t r m P → Sized t (p + 1) P
      sized P s = record { named = s.named; some = omega arith; few = omega (arith, less, room, s.low) }

  pub own-end : {table₂ : List ℕ} → p ≤ m - (r - 1) → m - (r - 1) ≤ p → table₂ ≡ set table₁ (place t r m) (1 + most) → CountsOwn index table t r m most table₂
  own-end low high e =
      let last : p ≡ m - (r - 1) = omega (arith, low, high) in
      counts-noted t r m (λ P h a. a) (own-stand some) (counts-as v (λ P h a. ap (max_to (split_cells P t (r - 1) m)) last ∙ sym (own_split P t r m some))) e
