-- What a parser gave, taken apart: a part and what follows it, an index, and that a byte and a code take a byte.
use Rattle.std.specs.Prelude.{ℕ, suc, ◌-◌, ◌<◌, List, [], ◌∷◌, Bool, true, false, ◌≡◌, refl, length, ltb, leb}
use Rattle.std.proofs.Common.{sym, ap, ◌∙◌, arith, ltb-true}
use Rattle.language.specs.Refusals.{bad_index, bad_code}
use Rattle.language.specs.Result.{both}
use Rattle.language.specs.Parser.{Read, got, bad, Parser, and_then, must, return, byte, index as index_read}
use Rattle.text.specs.Codes.{code_place}
use Rattle.index.specs.ParserLaws.{bad-is-not-got, got-value}

-- ---- a parser that gave something: its first part did, and what follows from there on
pub record Then {A B : Type 0} (x : Read A) (k : A → Parser B) (b : B) (rest : List ℕ) : Type 0 where
  pub value : A
  pub left : List ℕ
  pub first : x ≡ got value left
  pub then : k value left ≡ got b rest

pub then-got : {A B : Type 0} (x : Read A) (k : A → Parser B) {b : B} {rest : List ℕ} → and_then x k ≡ got b rest → Then x k b rest
unfolding and_then
then-got (got a bs) k e = record { value = a; left = bs; first = refl; then = e }
then-got (bad n) k e = bad-is-not-got e

-- an index that was read is a byte below its bound
pub record IndexGot (bound : ℕ) (bs : List ℕ) (i : ℕ) (cs : List ℕ) : Type 0 where
  pub read : byte bs ≡ got i cs
  pub less : i < bound

pub index-got : (bound : ℕ) (bs : List ℕ) {i : ℕ} {cs : List ℕ} → index_read bound bs ≡ got i cs → IndexGot bound bs i cs
unfolding index_read must
index-got bound bs {i} {cs} e = by (then-got (byte bs) (λ n. must (ltb n bound) bad_index (return n)) e)
  where
    tested : (n : ℕ) (ds : List ℕ) (b : Bool) → ltb n bound ≡ b → byte bs ≡ got n ds → must b bad_index (return n) ds ≡ got i cs → IndexGot bound bs i cs
    tested n ds true h r q = record { read = r ∙ q; less = ltb-true i bound (ap (λ m. ltb m bound) (sym (got-value q)) ∙ h) }
    tested n ds false h r q = bad-is-not-got q

    by : Then (byte bs) (λ n. must (ltb n bound) bad_index (return n)) i cs → IndexGot bound bs i cs
    by w = tested w.value w.left (ltb w.value bound) refl w.first w.then

-- ---- a byte and a code take a byte
pub byte-shorter : (bs : List ℕ) {b : ℕ} {cs : List ℕ} → byte bs ≡ got b cs → length bs ≡ suc (length cs)
unfolding byte
byte-shorter [] e = absurd (let z : ◌≡◌ {A = ℕ} 0 1 = cc in omega arith)
byte-shorter (b ∷ bs) {cs} e = let same : bs ≡ cs = cc in ap (λ (l : List ℕ). suc (length l)) same

one_byte : (b : Bool) (n : ℕ) (bs : List ℕ) {i : ℕ} {cs : List ℕ} → must b bad_code (return n) bs ≡ got i cs → cs ≡ bs
unfolding must
one_byte true n bs e = cc
one_byte false n bs e = absurd (let z : ◌≡◌ {A = ℕ} 0 1 = cc in omega arith)

pub code-shorter : (first size : ℕ) (bs : List ℕ) {i : ℕ} {cs : List ℕ} → code_place first size bs ≡ got i cs → length bs ≡ suc (length cs)
unfolding code_place byte and_then
code-shorter first size [] e = absurd (let z : ◌≡◌ {A = ℕ} 0 1 = cc in omega arith)
code-shorter first size (b ∷ bs) e = ap (λ (l : List ℕ). suc (length l)) (sym (one_byte (both (leb first b) (ltb (b - first) size)) (b - first) bs e))
