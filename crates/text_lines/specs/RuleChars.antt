-- A line of a rule file, character by character: each but LF and CR belongs to it, and LF, or CR with LF behind it, ends it.
use Rattle.std.specs.Prelude.{Some, None}
use Prim.Native.Nat.{ℕ, suc, ◌+◌, ◌≤◌, ◌<◌}
use Rattle.std.specs.Prelude.{List, [], ◌∷◌, Bool, true, false, ◌≡◌, refl, length, get_or, drop, eqb, ltb}
use Rattle.std.proofs.Math.Option.{Option}
use Rattle.std.proofs.Common.{ap, drop-cons}
use native.Mathlib.Omega.{arith}
use Rattle.std.proofs.Math.ListN.{drop_of_length-le}
use borrow.Author.Tests.{eq-eqb, ne_eqb, lt-ltb, le-ltb, ltb-true, ltb-false}
use Rattle.language.specs.Codes.{line_feed, carriage_return}
use Rattle.language.specs.Result.{both, choose}
use Rattle.language.specs.Text.{is_empty, without_return, last_or_more}
use Rattle.text_lines.specs.Lines.{first_line, is_some}
use Rattle.text_lines.specs.LinesSpell.{never}
use Rattle.text_lines.specs.LinesPairs.{two-there}
use Rattle.text_lines.specs.RuleLines.{line_chars, is_ended, line_close, line_from}

-- ---- the characters of a line
-- a character that is no part of a line's end
pub record Plain (c : ℕ) : Type 0 where
  pub feed : eqb c line_feed ≡ false
  pub return : eqb c carriage_return ≡ false

kept : (c : ℕ) (l : List ℕ) → eqb c carriage_return ≡ false → without_return (c ∷ l) ≡ c ∷ without_return l
unfolding without_return last_or_more choose
kept c [] e = rw e
kept c (d ∷ l) e = refl

pub chars-plain : (c : ℕ) (l : List ℕ) → Plain c → line_chars (c ∷ l) ≡ c ∷ line_chars l
unfolding first_line choose
chars-plain c l p = rw p.feed (kept c (first_line l) p.return)

-- the characters of a line, if it has any, begin with its first one
pub data Begins (c : ℕ) : List ℕ → Type 0 where
  nothing : Begins c []
  character : {l : List ℕ} → Begins c (c ∷ l)

pub chars-begin : (c : ℕ) (l : List ℕ) → Begins c (line_chars (c ∷ l))
unfolding first_line without_return last_or_more choose
chars-begin c l = go (eqb c line_feed) (eqb c carriage_return) (first_line l)
  where
    go : (a b : Bool) (k : List ℕ) → Begins c (without_return (choose a [] (c ∷ k)))
    go true b k = nothing
    go false b [] = last (eqb c carriage_return)
      where
        last : (e : Bool) → Begins c (choose e [] (c ∷ []))
        last true = nothing
        last false = character
    go false b (d ∷ k) = character

-- ---- one character passed
both-longer : (m n : ℕ) → ltb (suc m) (suc n) ≡ ltb m n
both-longer m n = go (ltb m n) refl
  where
    go : (b : Bool) → ltb m n ≡ b → ltb (suc m) (suc n) ≡ b
    go true q = lt-ltb (suc m) (suc n) (omega (arith, ltb-true m n q))
    go false q = le-ltb (suc m) (suc n) (omega (arith, ltb-false m n q))

ended-plain : (c : ℕ) (l : List ℕ) → Plain c → is_ended (c ∷ l) ≡ is_ended l
unfolding first_line choose
ended-plain c l p = rw p.feed (both-longer (length (first_line l)) (length l))

pub char-passed : (asked next : List ℕ → Option (List ℕ)) (at c : ℕ) (l : List ℕ) → Plain c → is_some (asked (c ∷ line_chars l)) ≡ is_some (next (line_chars l)) → line_from asked at (c ∷ l) ≡ line_from next (suc at) l
unfolding line_from first_line choose
char-passed asked next at c l p e =
    let chars : at + suc (length (line_chars l)) ≡ suc at + length (line_chars l) = omega arith in
    let behind : at + suc (length (first_line l)) + 1 ≡ suc at + length (first_line l) + 1 = omega arith in
    rw (ended-plain c l p, chars-plain c l p, e, p.feed, chars, behind)

-- ---- the end of a line at a place
module _ (t : List ℕ) (at : ℕ) where
  pub close-beyond : length t ≤ at → None ≡ line_close t at
  unfolding line_close first_line both choose
  close-beyond h = rw (drop_of_length-le t {i = at} h)

  pub close-feed : at < length t → get_or t at 0 ≡ line_feed → Some (at + 1) ≡ line_close t at
  unfolding line_close first_line without_return is_empty both choose
  close-feed h e =
      let ended : 0 < suc (length (drop (suc at) t)) = omega arith in
      let place : at + 1 ≡ at + 0 + 1 = omega arith in
      rw (drop-cons t at 0 h, eq-eqb _ _ e, lt-ltb _ _ ended) (ap Some place)

  has-characters : is_empty (line_chars (drop at t)) ≡ false → None ≡ line_close t at
  unfolding line_close choose
  has-characters e = rw (e, never (is_ended (drop at t)))

  pub close_other : at < length t → (get_or t at 0 ≡ line_feed → ⊥) → (get_or t at 0 ≡ carriage_return → ⊥) → None ≡ line_close t at
  unfolding is_empty
  close_other h n m =
      let plain : Plain (get_or t at 0) = record { feed = ne_eqb _ _ n; return = ne_eqb _ _ m } in
      has-characters (rw (drop-cons t at 0 h, chars-plain (get_or t at 0) (drop (suc at) t) plain))

  pub close-cut : at < length t → get_or t at 0 ≡ carriage_return → length t ≤ at + 1 → None ≡ line_close t at
  unfolding line_close first_line both choose
  close-cut h e last = rw (drop-cons t at 0 h, e, drop_of_length-le t {i = suc at} (omega arith))

  pub close-inside : at + 1 < length t → get_or t at 0 ≡ carriage_return → (get_or t (at + 1) 0 ≡ line_feed → ⊥) → None ≡ line_close t at
  unfolding first_line without_return last_or_more is_empty choose
  close-inside h e n = has-characters (rw (two-there t at h, e, ne_eqb _ _ n))

  pub close-return : at + 1 < length t → get_or t at 0 ≡ carriage_return → get_or t (at + 1) 0 ≡ line_feed → Some (at + 1 + 1) ≡ line_close t at
  unfolding line_close first_line without_return last_or_more is_empty both choose
  close-return h e f =
      let ended : 1 < suc (suc (length (drop (at + 2) t))) = omega arith in
      rw (two-there t at h, e, f, lt-ltb _ _ ended)
