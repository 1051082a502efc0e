-- What a cursor's answer says of a parser's, and one read behind another.
use Rattle.language.specs.declared.refusals.Refusal.{Refusal}
use Rattle.language.specs.RefusalNumbers.{number_of}
use Rattle.std.specs.Prelude.{Ok, Err}
use Rattle.std.specs.Prelude.{ℕ, ◌+◌, ◌≤◌, ◌<◌, List, ◌≡◌, refl}
use Rattle.std.proofs.Common.{zero-le, ◌∙◌, lt_of_lt_of_le, arith}
use Rattle.std.proofs.Math.Path.{sym, ap}
use Rattle.language.specs.Parser.{Read, got, bad, Parser, and_then}
use Rattle.text.specs.declared.Cursor.{Cursor}
use Rattle.text.specs.declared.Found.{Found}
use Rattle.text.specs.Bytes.{Number, Step, bytes_from, past, IsPlace, bytes_left, given, passed, forget, Moved, moved, stopped, step_of, ReadsNumber, Passes, Below, below, no_number}
use Rattle.text.specs.Places.{past-none, past-past, past-once, left-past}
use Rattle.text.specs.ReadLaws.{read-then, read-stops}

-- ---- the cursor's way
pub ends-within : {line : List ℕ} {at : ℕ} {c : Cursor} → Moved line at (Ok c) → IsPlace line c.at
ends-within (moved n e h k) = k

-- it stays where it is
pub moved_none : {line : List ℕ} {c : Cursor} → IsPlace line c.at → Moved line c.at (Ok c)
moved_none {line} {c} k = moved 0 (sym (past-none line c.at)) zero-le k

pub moved-left : {line : List ℕ} {at : ℕ} {c : Cursor} → Moved line at (Ok c) → bytes_left line c.at ≤ bytes_left line at
moved-left {line} {at} (moved n e h k) = omega (arith, ap (bytes_left line) e, left-past line at n)

-- behind so many bytes, where the bytes left say so
pub moved-past : {line : List ℕ} {at : ℕ} {c : Cursor} (n : ℕ) → Moved line at (Ok c) → n ≤ bytes_left line at → bytes_from line c.at ≡ bytes_from line (past line at n) → c.at ≡ past line at n
moved-past {line} {at} n (moved m e h k) le same = e ∙ ap (past line at) (past-once line at h le (ap (bytes_from line) (sym e) ∙ same))

pub moved_on : {line : List ℕ} {at : ℕ} {c : Cursor} {r : Step} → Moved line at (Ok c) → Moved line c.at r → Moved line at r
moved_on {line} {at} (moved n e h k) (moved m d i j) =
    moved (n + m) (d ∙ ap (λ (a : ℕ). past line a m) e ∙ past-past line at n m) (omega (arith, h, i, ap (bytes_left line) e, left-past line at n)) j
moved_on u stopped = stopped

-- ---- numbers below a bound
pub below_more : {m n : ℕ} {x : Number} → m ≤ n → Below m x → Below n x
below_more le (below h) = below (lt_of_lt_of_le h le)
below_more le no_number = no_number

value-below : {n : ℕ} {f : Found} → Below n (Ok f) → f.value < n
value-below (below h) = h

pub number-below : {n : ℕ} {x : Number} {f : Found} → Below n x → x ≡ Ok f → f.value < n
number-below b e = value-below (rw e at b)

-- ---- the parser's answer, from the cursor's
module _ {line : List ℕ} {at : ℕ} {x : Number} {y : Read ℕ} (v : ReadsNumber line at x y) where
  pub number-got : {f : Found} → x ≡ Ok f → y ≡ got f.value (bytes_from line f.next.at)
  unfolding given
  number-got e = sym v.is ∙ ap (given line) e

  pub number-bad : {n : Refusal} → x ≡ Err n → y ≡ bad (number_of n)
  unfolding given
  number-bad e = sym v.is ∙ ap (given line) e

-- a parser gives some value, with these bytes left
pub record Gives {A : Type 0} (y : Read A) (bs : List ℕ) : Type 0 where
  pub value : A
  pub is : y ≡ got value bs

forget-got : {A : Type 0} (y : Read A) (bs : List ℕ) → forget y ≡ got tt bs → Gives y bs
unfolding forget
forget-got (got a cs) bs e = record { value = a; is = let same : cs ≡ bs = cc in ap (got a) same }
forget-got (bad n) bs e = absurd (let z : ◌≡◌ {A = ℕ} 0 1 = cc in omega arith)

forget-bad : {A : Type 0} (y : Read A) (n : ℕ) → forget y ≡ bad n → y ≡ bad n
unfolding forget
forget-bad (got a cs) n e = absurd (let z : ◌≡◌ {A = ℕ} 0 1 = cc in omega arith)
forget-bad (bad m) n e = let same : m ≡ n = cc in ap bad same

module _ {A : Type 0} {line : List ℕ} {at : ℕ} {r : Step} {y : Read A} (v : Passes line at r (forget y)) where
  pub pass-got : {c : Cursor} → r ≡ Ok c → Gives y (bytes_from line c.at)
  unfolding passed
  pass-got e = forget-got y _ (sym v.is ∙ ap (passed line) e)

  pub pass-bad : {n : Refusal} → r ≡ Err n → y ≡ bad (number_of n)
  unfolding passed
  pass-bad e = forget-bad y _ (sym v.is ∙ ap (passed line) e)

-- ---- behind a cursor that moved: the parser's equation, and what was read from there on
module _ {line : List ℕ} {at : ℕ} {x : Number} {y : Read ℕ} (v : ReadsNumber line at x y) where
  pub number-moved : {f : Found} → x ≡ Ok f → Moved line at (Ok f.next)
  number-moved e = rw e at v.on

  -- the same answer, of another parser
  pub number_same : {f : Found} {z : Read ℕ} → x ≡ Ok f → z ≡ got f.value (bytes_from line f.next.at) → ReadsNumber line at (Ok f) z
  unfolding given
  number_same e p = record { is = sym p; on = number-moved e }

  pub number-none : {n : Refusal} {z : Read ℕ} → x ≡ Err n → z ≡ bad (number_of n) → ReadsNumber line at x z
  number-none e p = record { is = v.is ∙ number-bad v e ∙ sym p; on = v.on }

  -- another number at the same place
  pub number-other : {f : Found} {m : ℕ} {z : Read ℕ} → x ≡ Ok f → z ≡ got m (bytes_from line f.next.at) → ReadsNumber line at (Ok (record { value = m; next = f.next })) z
  unfolding given
  number-other e p = record { is = sym p; on = number-moved e }

pub number-refused : {line : List ℕ} {at : ℕ} {n : Refusal} {z : Read ℕ} → z ≡ bad (number_of n) → ReadsNumber line at (Err n) z
unfolding given
number-refused p = record { is = sym p; on = stopped }

pub pass-moved : {line : List ℕ} {at : ℕ} {r : Step} {y : Read (Unit {0})} {c : Cursor} → Passes line at r y → r ≡ Ok c → Moved line at (Ok c)
pass-moved v e = rw e at v.on

pub pass-none : {line : List ℕ} {at : ℕ} {n : Refusal} {x : Number} {s : Step} {z : Read (Unit {0})} → x ≡ Err n → s ≡ step_of x → z ≡ bad (number_of n) → Passes line at s z
unfolding passed
pass-none e d p = rw (d, e) (record { is = sym p; on = stopped })

pub pass-here : {line : List ℕ} {at : ℕ} {c : Cursor} {z : Read (Unit {0})} → Moved line at (Ok c) → z ≡ got tt (bytes_from line c.at) → Passes line at (Ok c) z
unfolding passed
pass-here m p = record { is = sym p; on = m }

pub reads-behind : {line : List ℕ} {at : ℕ} {c : Cursor} {w : Number} {y z : Read ℕ} → Moved line at (Ok c) → z ≡ y → ReadsNumber line c.at w y → ReadsNumber line at w z
reads-behind m p u = record { is = u.is ∙ sym p; on = moved_on m u.on }

pub passes-behind : {line : List ℕ} {at : ℕ} {c : Cursor} {s : Step} {y z : Read (Unit {0})} → Moved line at (Ok c) → z ≡ y → Passes line c.at s y → Passes line at s z
passes-behind m p u = record { is = u.is ∙ sym p; on = moved_on m u.on }

-- ---- a number and then, a pass and then: to a number, to a pass
module _ {line : List ℕ} {at : ℕ} {x : Number} {y : Read ℕ} (k : ℕ → Parser ℕ) (v : ReadsNumber line at x y) where
  pub read-then-read : {f : Found} {w : Number} → x ≡ Ok f → ReadsNumber line f.next.at w (k f.value (bytes_from line f.next.at)) → ReadsNumber line at w (and_then y k)
  read-then-read e u = reads-behind (number-moved v e) (read-then k v e) u

  pub read-stops-read : {n : Refusal} → x ≡ Err n → ReadsNumber line at x (and_then y k)
  read-stops-read e = number-none v e (read-stops k v e)

module _ {B : Type 0} {line : List ℕ} {at : ℕ} {x : Number} {y : Read ℕ} (k : ℕ → Parser B) (v : ReadsNumber line at x y) where
  pub read-then-pass : {f : Found} {s : Step} → x ≡ Ok f → Passes line f.next.at s (forget (k f.value (bytes_from line f.next.at))) → Passes line at s (forget (and_then y k))
  read-then-pass e u = passes-behind (number-moved v e) (ap forget (read-then k v e)) u

  pub read-stops-pass : {n : Refusal} {s : Step} → x ≡ Err n → s ≡ step_of x → Passes line at s (forget (and_then y k))
  unfolding forget
  read-stops-pass e d = pass-none e d (ap forget (read-stops k v e))

module _ {A B : Type 0} {line : List ℕ} {at : ℕ} {r : Step} (y : Read A) (k : A → Parser B) (v : Passes line at r (forget y)) where
  pub pass-then-pass : {c : Cursor} {s : Step} → r ≡ Ok c → ((a : A) → Passes line c.at s (forget (k a (bytes_from line c.at)))) → Passes line at s (forget (and_then y k))
  unfolding and_then
  pass-then-pass e u = let g = pass-got v e in passes-behind (pass-moved v e) (ap (λ w. forget (and_then w k)) g.is) (u g.value)

  pub pass-stops-pass : {n : Refusal} → r ≡ Err n → Passes line at r (forget (and_then y k))
  unfolding passed and_then forget
  pass-stops-pass e = rw e (record { is = sym (ap (λ w. forget (and_then w k)) (pass-bad {y = y} v e)); on = stopped })

-- ---- a value built from the last one read changes nothing for a pass
pub forget-then : {A B : Type 0} (g : A → B) (y : Read A) → forget (and_then y (λ a bs. got (g a) bs)) ≡ forget y
unfolding forget and_then
forget-then g (got a bs) = refl
forget-then g (bad n) = refl

pub read-passes : {line : List ℕ} {at : ℕ} {y : Read ℕ} (x : Number) → ReadsNumber line at x y → Passes line at (step_of x) (forget y)
unfolding given passed forget
read-passes (Ok f) v = record { is = ap forget v.is; on = v.on }
read-passes (Err n) v = record { is = ap forget v.is; on = v.on }

pub read-ends-pass : {B : Type 0} {line : List ℕ} {at : ℕ} {x : Number} {y : Read ℕ} {s : Step} (g : ℕ → B) → ReadsNumber line at x y → s ≡ step_of x → Passes line at s (forget (and_then y (λ n bs. got (g n) bs)))
read-ends-pass {x} {y} g v d = rw (forget-then g y, d) (read-passes x v)
