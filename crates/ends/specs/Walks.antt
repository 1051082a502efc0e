-- What the functions that note ends promise: for every scope whose types and arities the tables tell, and every expression within the
-- limits that is spelled there, where it ends, that the table tells it and its parts, that all other words are as they were, and which
-- channels its `13`s name.
use Rattle.std.specs.Prelude.{ℕ, ◌+◌, ◌≤◌, ◌<◌, List, ◌≡◌, length, get_or}
use Rattle.language.specs.Limits.{text_most}
use Rattle.language.specs.Syntax.{Expr, Exprs}
use Rattle.language.specs.Order.{readings, all_readings}
use Rattle.language.specs.Format.{expr_bytes, exprs_bytes}
use Rattle.language.specs.Scope.{Scope}
use Rattle.language.specs.Within.{WithinExpr}
use Rattle.text.specs.declared.Cursor.{Cursor}
use Rattle.text.specs.Places.{past}
use Rattle.encoding.specs.Spells.{Spells}
use Rattle.heads.specs.Skips.{Shapes, Skippable, Over}
use Rattle.ends.specs.declared.walk.Passed.{Passed}
use Rattle.ends.specs.Gathered.{Gathers, Joins}
use Rattle.ends.specs.Ended.{end_in, EndAt, Ended, EndedAll}

-- the words outside a range are as they were
pub record Kept (low high : ℕ) (ends ends' : List ℕ) : Type 0 where
  pub before : (i : ℕ) → i < low → get_or ends' i 0 ≡ get_or ends i 0
  pub behind : (i : ℕ) → high ≤ i → get_or ends' i 0 ≡ get_or ends i 0

-- the word of one place was written, if the table has it and it fits
pub record Noted (from at end : ℕ) (ends ends' : List ℕ) : Type 0 where
  pub is : from + at < length ends → end ≤ text_most → end_in ends' from at ≡ end
  pub others : (i : ℕ) → (i ≡ from + at → ⊥) → get_or ends' i 0 ≡ get_or ends i 0

-- where a thing that is spelled at a place ends was noted, and the cursor stands there
pub record NotedOver {A : Type 0} (bytes : A → List ℕ) (Limited : A → Type 0) (line : List ℕ) (from at : ℕ) (ends ends' : List ℕ) (r : Cursor) : Type 0 where
  pub over : Over bytes Limited line at r
  pub long : length ends ≡ text_most
  pub noted : Noted from at r.at ends ends'

-- a cursor, and the set of what was read up to it
pub record Reached (behind : Cursor) (readings : ℕ) (r : Passed) : Type 0 where
  pub place : r.behind ≡ behind
  pub read : r.readings ≡ readings

-- n bytes from a place on were walked over, the table tells of them, and what they read was gathered
pub record Walked (Told : List ℕ → Type 0) (Read : ℕ → Type 0) (line : List ℕ) (from at n : ℕ) (ends ends' : List ℕ) (r : Passed) : Type 0 where
  pub stops : r.behind.at ≡ past line at n
  pub told : Told ends'
  pub read : Read r.readings
  pub kept : Kept (from + at) (from + past line at n) ends ends'

-- where an expression ends, and its parts
pub record EndedHere (from : ℕ) (line : List ℕ) (at : ℕ) (e : Expr) (ends : List ℕ) : Type 0 where
  pub end : EndAt expr_bytes ends from line at e
  pub parts : Ended ends from line at e

-- an expression was walked over; several were, behind what was passed before
abbrev pub WalkedOver : List ℕ → ℕ → ℕ → Expr → List ℕ → List ℕ → Passed → Type 0
WalkedOver line from at e ends ends' r = Walked (EndedHere from line at e) (Gathers (readings e)) line from at (length (expr_bytes e)) ends ends' r

abbrev pub WalkedBehind : List ℕ → ℕ → Passed → Exprs → List ℕ → List ℕ → Passed → Type 0
WalkedBehind line from d es ends ends' r =
    Walked (λ (t : List ℕ). EndedAll t from line d.behind.at es) (Joins (all_readings es) d.readings) line from d.behind.at (length (exprs_bytes es)) ends ends' r

pub record Walks (line types functions : List ℕ) (from : ℕ) (c : Cursor) (levels : ℕ) (ends ends' : List ℕ) (r : Passed) : Type 0 where
  pub says : (S : Scope) (e : Expr) → Shapes types functions S → WithinExpr levels S e → Spells expr_bytes line c.at e → from + length line ≤ text_most → WalkedOver line from c.at e ends ends' r

pub record WalksAll (line types functions : List ℕ) (from : ℕ) (d : Passed) (levels n : ℕ) (ends ends' : List ℕ) (r : Passed) : Type 0 where
  pub says : (es : Exprs) → Skippable types functions levels n es → Spells exprs_bytes line d.behind.at es → from + length line ≤ text_most → WalkedBehind line from d es ends ends' r

-- of n expressions m are left, behind d: what is done with these decides the whole
pub record WalksOn (line types functions : List ℕ) (from : ℕ) (c : Passed) (levels n : ℕ) (ends : List ℕ) (d : Passed) (m : ℕ) (ends' : List ℕ) : Type 0 where
  pub rest : {t : List ℕ} {r : Passed} → WalksAll line types functions from d levels m ends' t r → WalksAll line types functions from c levels n ends t r
