-- What it means that a parser is exact for a way of spelling: it reads what is spelled within the limits, and nothing else.
-- Starts, Behind and Exact are notions of the proofs; document 01 has no words for them.
use Rattle.std.specs.Prelude.{ℕ, ◌<◌, ◌≡◌, refl}
use mathlib.Core.List.{List, [], ◌∷◌, ◌++◌, append_assoc, append-nil}
use Rattle.std.proofs.Common.{sym, ◌∙◌}
use Rattle.std.proofs.Math.Path.{ap}
use Rattle.language.specs.Limits.{byte_range}
use Rattle.language.specs.Result.{ok}
use Rattle.language.specs.Within.{All}
use Rattle.language.specs.Parser.{Read, got, Parser, and_then, return, refuse}
use Rattle.language.specs.Reader.{whole}
use Rattle.theory.specs.Outcomes.{Sat, sat-ok, sat-no, Reads, reads_got, reads_bad, reads-map, reads_then, reads-refused}

abbrev pub Byte : ℕ → Type 0
Byte b = b < byte_range

-- the bytes bs are the spelling of a, which is within its limits, and the rest
pub record Starts {A : Type 0} (bytes : A → List ℕ) (W : A → Type 0) (bs : List ℕ) (a : A) (rest : List ℕ) : Type 0 where
  pub within : W a
  pub spelled : bs ≡ bytes a ++ rest
  pub small : All Byte rest

-- where the bytes front have been read, p reads on to the end of a spelling that starts with them
pub record Behind {A : Type 0} (bytes : A → List ℕ) (W : A → Type 0) (front : List ℕ) (p : Parser A) : Type 0 where
  pub reads : (bs : List ℕ) → All Byte bs → Reads (Starts bytes W (front ++ bs)) (p bs)

-- back: every spelling within the limits is read, whatever follows it; forth: what is read is one
pub record Exact {A : Type 0} (p : Parser A) (bytes : A → List ℕ) (W : A → Type 0) : Type 0 where
  pub back : (a : A) (rest : List ℕ) → W a → p (bytes a ++ rest) ≡ got a rest
  pub forth : Behind bytes W [] p

-- ---- how Behind goes through a parser: one part more, and the end
pub next : {A B : Type 0} {f : A → List ℕ} {U : A → Type 0} {bytes : B → List ℕ} {W : B → Type 0} {front : List ℕ} {p : Parser A} {k : A → Parser B} →
    Behind f U [] p → ((a : A) → U a → Behind bytes W (front ++ f a) (k a)) → Behind bytes W front (λ bs. and_then (p bs) k)
next {A} {f} {U} {bytes} {W} {front} {k} x then = record { reads = λ bs small. reads_then (x.reads bs small) λ a rest s. on bs a rest s }
  where
    on : (bs : List ℕ) (a : A) (rest : List ℕ) → Starts f U bs a rest → Reads (Starts bytes W (front ++ bs)) (k a rest)
    on bs a rest s = rw (s.spelled, ← append_assoc front (f a) rest) ((then a s.within).reads rest s.small)

pub done : {A : Type 0} {bytes : A → List ℕ} {W : A → Type 0} {front : List ℕ} {a : A} → W a → bytes a ≡ front → Behind bytes W front (return a)
done w e = record { reads = λ bs small. reads_got (record { within = w; spelled = ap (λ (l : List ℕ). l ++ bs) (sym e); small = small }) }

pub refused : {A B : Type 0} {bytes : B → List ℕ} {W : B → Type 0} {front : List ℕ} (p : Parser A) (n : ℕ) → Behind bytes W front (λ bs. and_then (p bs) (λ a. refuse n))
refused p n = record { reads = λ bs small. reads-refused (p bs) n }

-- the same values, their limits or their spelling said in other words
pub behind-as : {A : Type 0} {f bytes : A → List ℕ} {U W : A → Type 0} {front : List ℕ} {p : Parser A} → ((a : A) → U a → W a × (bytes a ≡ front ++ f a)) →
    Behind f U [] p → Behind bytes W front p
behind-as {A} {f} {bytes} {U} {W} {front} means x = record { reads = λ bs small. reads-map (λ a rest s. in-other-words bs a rest s) (x.reads bs small) }
  where
    in-other-words : (bs : List ℕ) (a : A) (rest : List ℕ) → Starts f U bs a rest → Starts bytes W (front ++ bs) a rest
    in-other-words bs a rest s = let w = means a s.within in record { within = w.0; spelled = rw (s.spelled, w.1) (sym (append_assoc front (f a) rest)); small = s.small }

pub exact-as : {A : Type 0} {p : Parser A} {bytes : A → List ℕ} {U W : A → Type 0} → ((a : A) → U a → W a) → ((a : A) → W a → U a) → Exact p bytes U → Exact p bytes W
exact-as to from x = record { back = λ a rest w. x.back a rest (from a w); forth = behind-as (λ a u. (to a u, refl)) x.forth }

-- the spellings of three parts and the rest
pub append-three : (x y z rest : List ℕ) → x ++ (y ++ z) ++ rest ≡ x ++ (y ++ (z ++ rest))
append-three x y z rest = simp append_assoc

-- ---- a frame that is read to its end
module _ {A : Type 0} {p : Parser A} {bytes : A → List ℕ} {W : A → Type 0} (x : Exact p bytes W) (frame : ℕ) where
  pub whole_back : (a : A) → W a → whole frame (p (bytes a)) ≡ ok a
  unfolding whole
  whole_back a w = ap (whole frame) ends
    where
      ends : p (bytes a) ≡ got a []
      ends = rw append-nil at (x.back a [] w)

  pub whole-forth : (bs : List ℕ) → All Byte bs → Sat (λ a. W a × (bs ≡ bytes a)) (whole frame (p bs))
  unfolding whole
  whole-forth bs small = go (x.forth.reads bs small)
    where
      go : {r : Read A} → Reads (Starts bytes W bs) r → Sat (λ a. W a × (bs ≡ bytes a)) (whole frame r)
      go (reads_got {a} {rest = []} s) = sat-ok (s.within, s.spelled ∙ append-nil (bytes a))
      go (reads_got {rest = b ∷ bs} s) = sat-no
      go reads_bad = sat-no
