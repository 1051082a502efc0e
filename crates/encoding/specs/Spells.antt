-- What is spelled at a place of a line: the bytes from there on are its bytes and a rest. Where its parts are spelled.
-- Spells is a notion of the proofs; document 01 has no word for it.
use Rattle.std.specs.Prelude.{ℕ, zero, suc, ◌≤◌, ◌<◌, List, [], ◌∷◌, ◌++◌, ◌≡◌, refl, length, get_or, take, drop}
use Rattle.std.proofs.Common.{append_assoc, sym, ap, ◌∙◌, arith, length-append}
use Rattle.std.proofs.Math.Option.{some}
use Rattle.std.proofs.Math.ListN.{get_or-append, get_elem? as look}
use Rattle.std.proofs.Math.Seq.{drop-append_seam}
use Rattle.language.specs.Format.{spell_all}
use Rattle.text.specs.Places.{bytes_from, past, IsPlace, bytes_left, byte_at, past-none, past-append, bytes_past, byte_past, past-is-place}
use Rattle.theory.specs.Lists.{none-is-not-some}

-- bytes is the way of spelling: exprBytes for an expression, sizeBytes for a size
pub record Spells {A : Type 0} (bytes : A → List ℕ) (line : List ℕ) (at : ℕ) (a : A) : Type 0 where
  pub rest : List ℕ
  pub is : bytes_from line at ≡ bytes a ++ rest
  pub within : IsPlace line at

-- bytes that spell themselves
abbrev pub themselves : List ℕ → List ℕ
themselves bs = bs

-- a is the leaf b, a form of so many bytes
pub record IsLeaf {A : Type 0} (bytes : A → List ℕ) (n : ℕ) (a b : A) : Type 0 where
  pub is : a ≡ b
  pub long : length (bytes b) ≡ n

-- ---- the end and the bytes of what is spelled, and what stands inside it
module _ {A : Type 0} {bytes : A → List ℕ} {line : List ℕ} {at : ℕ} {a : A} (s : Spells bytes line at a) where
  -- so many bytes are left
  pub spells-left : length (bytes a) ≤ bytes_left line at
  spells-left = omega (arith, ap length s.is, length-append (bytes a) s.rest)

  pub spells-within : IsPlace line (past line at (length (bytes a)))
  spells-within = past-is-place line at (length (bytes a)) s.within spells-left

  pub spells-byte : (k : ℕ) → k < length (bytes a) → byte_at line (past line at k) ≡ get_or (bytes a) k 0
  spells-byte k less = byte_past line at k ∙ ap (λ (l : List ℕ). get_or l k 0) s.is ∙ get_or-append (bytes a) s.rest 0 k less

  pub spells-first : 0 < length (bytes a) → byte_at line at ≡ get_or (bytes a) 0 0
  spells-first less = rw (past-none line at) at (spells-byte 0 less)

  pub rest-behind : bytes_from line (past line at (length (bytes a))) ≡ s.rest
  rest-behind = bytes_past line at (length (bytes a)) ∙ ap (drop (length (bytes a))) s.is ∙ drop-append_seam (bytes a) s.rest

  module _ {B : Type 0} {f : B → List ℕ} {b : B} where
    pub spells-front : (back : List ℕ) → bytes a ≡ f b ++ back → Spells f line at b
    spells-front back e = record { rest = back ++ s.rest; is = s.is ∙ ap (λ (l : List ℕ). l ++ s.rest) e ∙ append_assoc (f b) back s.rest; within = s.within }

    pub spells-next : (front : List ℕ) → bytes a ≡ front ++ f b → Spells f line (past line at (length front)) b
    spells-next front e =
        let here : bytes_from line at ≡ front ++ (f b ++ s.rest) = s.is ∙ ap (λ (l : List ℕ). l ++ s.rest) e ∙ append_assoc front (f b) s.rest in
        record {
          rest = s.rest;
          is = bytes_past line at (length front) ∙ ap (drop (length front)) here ∙ drop-append_seam front (f b ++ s.rest);
          within = past-is-place line at (length front) s.within (omega (arith, spells-left, ap length e, length-append front (f b)));
        }

-- ---- two things in a row, and three
pub record SpellsTwo {A B : Type 0} (f : A → List ℕ) (g : B → List ℕ) (line : List ℕ) (at : ℕ) (a : A) (b : B) : Type 0 where
  pub spelled : Spells f line at a
  pub next : Spells g line (past line at (length (f a))) b
  pub ends : past line at (length (f a ++ g b)) ≡ past line (past line at (length (f a))) (length (g b))

pub record SpellsThree {A B C : Type 0} (f : A → List ℕ) (g : B → List ℕ) (h : C → List ℕ) (line : List ℕ) (at : ℕ) (a : A) (b : B) (c : C) : Type 0 where
  pub spelled : Spells f line at a
  pub next : Spells g line (past line at (length (f a))) b
  pub last : Spells h line (past line (past line at (length (f a))) (length (g b))) c
  pub ends : past line at (length (f a ++ (g b ++ h c))) ≡ past line (past line (past line at (length (f a))) (length (g b))) (length (h c))

-- what has a head ends where what stands behind the head ends
pub ends-behind : (line : List ℕ) (at : ℕ) {bytes : List ℕ} (head back : List ℕ) → bytes ≡ head ++ back → past line at (length bytes) ≡ past line (past line at (length head)) (length back)
ends-behind line at head back e = ap (λ (l : List ℕ). past line at (length l)) e ∙ past-append line at head back

-- behind the bytes of a head
pub two-behind : {Z A B : Type 0} {bytes : Z → List ℕ} {f : A → List ℕ} {g : B → List ℕ} {line : List ℕ} {at : ℕ} {z : Z} {a : A} {b : B} (head : List ℕ) →
    bytes z ≡ head ++ (f a ++ g b) → Spells bytes line at z → SpellsTwo f g line (past line at (length head)) a b
two-behind {f} {g} {line} {at} {a} {b} head e s =
    let both : Spells themselves line (past line at (length head)) (f a ++ g b) = spells-next s head e in
    record { spelled = spells-front both (g b) refl; next = spells-next both (f a) refl; ends = past-append line (past line at (length head)) (f a) (g b) }

pub three-behind : {Z A B C : Type 0} {bytes : Z → List ℕ} {f : A → List ℕ} {g : B → List ℕ} {h : C → List ℕ} {line : List ℕ} {at : ℕ} {z : Z} {a : A} {b : B} {c : C} (head : List ℕ) →
    bytes z ≡ head ++ (f a ++ (g b ++ h c)) → Spells bytes line at z → SpellsThree f g h line (past line at (length head)) a b c
three-behind {f} {g} {h} {line} {at} {a} {b} {c} head e s =
    let all : Spells themselves line (past line at (length head)) (f a ++ (g b ++ h c)) = spells-next s head e in
    let others : SpellsTwo g h line (past line (past line at (length head)) (length (f a))) b c = two-behind (f a) refl all in
    record {
      spelled = spells-front all (g b ++ h c) refl;
      next = others.spelled;
      last = others.next;
      ends = past-append line (past line at (length head)) (f a) (g b ++ h c) ∙ others.ends;
    }

-- at the same place
pub two_here : {Z A B : Type 0} {bytes : Z → List ℕ} {f : A → List ℕ} {g : B → List ℕ} {line : List ℕ} {at : ℕ} {z : Z} {a : A} {b : B} →
    bytes z ≡ f a ++ g b → Spells bytes line at z → SpellsTwo f g line at a b
two_here {f} {g} {line} {at} {a} {b} e s = let both : SpellsTwo f g line (past line at 0) a b = two-behind [] e s in rw (past-none line at) at both

pub three-here : {Z A B C : Type 0} {bytes : Z → List ℕ} {f : A → List ℕ} {g : B → List ℕ} {h : C → List ℕ} {line : List ℕ} {at : ℕ} {z : Z} {a : A} {b : B} {c : C} →
    bytes z ≡ f a ++ (g b ++ h c) → Spells bytes line at z → SpellsThree f g h line at a b c
three-here {f} {g} {h} {line} {at} {a} {b} {c} e s = let all : SpellsThree f g h line (past line at 0) a b c = three-behind [] e s in rw (past-none line at) at all

-- ---- a list, each in turn
pub first-of-list : {A : Type 0} {f : A → List ℕ} {line : List ℕ} {at : ℕ} {a : A} {l : List A} → Spells (spell_all f) line at (a ∷ l) → SpellsTwo f (spell_all f) line at a l
unfolding spell_all
first-of-list s = two_here refl s

list-parted : {A : Type 0} (f : A → List ℕ) (l : List A) (i : ℕ) {a : A} → look l i ≡ some a → spell_all f l ≡ spell_all f (take i l) ++ (f a ++ spell_all f (drop (suc i) l))
unfolding spell_all
list-parted f [] i e = none-is-not-some e
list-parted f (b ∷ l) zero {a} e = let same : b ≡ a = cc in rw same
list-parted f (b ∷ l) (suc i) {a} e = rw (list-parted f l i e) (sym (append_assoc (f b) (spell_all f (take i l)) (f a ++ spell_all f (drop (suc i) l))))

-- the one at a number, those before it and those behind it
pub among-list : {A : Type 0} {f : A → List ℕ} {line : List ℕ} {at : ℕ} {l : List A} {a : A} (i : ℕ) → Spells (spell_all f) line at l → look l i ≡ some a →
    SpellsThree (spell_all f) f (spell_all f) line at (take i l) a (drop (suc i) l)
among-list {f} {l} i s e = three-here (list-parted f l i e) s
