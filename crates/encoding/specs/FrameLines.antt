-- The lines of a text's frames: the characters of each, and where it starts in the text. Document 02, R-1: a line ends with LF or CR LF,
-- and the extra lines are no frames.
use Rattle.std.specs.Prelude.{ℕ, zero, suc, ◌+◌, ◌≤◌, ◌<◌, Bool, true, false, ◌≡◌, refl, length, get_or, take, drop}
use mathlib.Core.List.{List, [], ◌∷◌, ◌++◌, map, append_assoc}
use Rattle.std.proofs.Math.Option.{Option, none, some}
use Rattle.std.proofs.Common.{sym, ap, ◌∙◌, arith, le_trans, length-append, length-drop, drop-drop}
use Rattle.std.proofs.lemmas.List.{length-map, take-append-le}
use Rattle.std.proofs.Math.Seq.{drop-append_seam}
use Rattle.language.specs.Refusals.{bad_line}
use Rattle.language.specs.Codes.{line_feed}
use Rattle.language.specs.Result.{Result, ok, no, bind, need, from, choose}
use Rattle.language.specs.Format.{spell_all}
use Rattle.language.specs.Text.{is_empty, lines_of, frame_bytes, without_return, is_extra, frame_lines, frames_in, text_frames}
use Rattle.text_lines.specs.RuleAnswers.{return-taken, return_fits}
use Rattle.theory.specs.ExactText.{ended, lines-forth}

pub record FrameLine : Type 0 where
  pub start : ℕ
  pub line : List ℕ

-- of lines that follow each other from a place on, each ended by LF; the extra ones are no frames
unfoldable pub frame_lines_from : ℕ → List (List ℕ) → List FrameLine
frame_lines_from at [] = []
frame_lines_from at (l ∷ ls) =
    let line = without_return l in
    let others = frame_lines_from (at + length l + 1) ls in
    choose (is_extra line) others (record { start = at; line = line } ∷ others)

unfoldable pub frame_lines_of : List ℕ → List FrameLine
frame_lines_of t = frame_lines_from 0 (lines_of t).ended

-- where the line of frame i + 1 starts, and its characters
abbrev pub line_start : List ℕ → ℕ → ℕ
line_start t i = get_or (map (λ (f : FrameLine). f.start) (frame_lines_of t)) i (length t)

abbrev pub line_at : List ℕ → ℕ → List ℕ
line_at t i = get_or (map (λ (f : FrameLine). f.line) (frame_lines_of t)) i []

-- ---- lines one behind the other, from a place on
pub data Ordered (t : List ℕ) : ℕ → List FrameLine → Type 0 where
  no_line : {at : ℕ} → at ≤ length t → Ordered t at []
  one_line : {at : ℕ} {f : FrameLine} {fs : List FrameLine} → at ≤ f.start → take (length f.line) (drop f.start t) ≡ f.line → f.start + length f.line < length t →
      Ordered t (f.start + length f.line + 1) fs → Ordered t at (f ∷ fs)

-- what stands from a place on are these lines and a rest
record Lines (t : List ℕ) (at : ℕ) (ls : List (List ℕ)) (rest : List ℕ) : Type 0 where
  within : at ≤ length t
  is : drop at t ≡ spell_all ended ls ++ rest

module _ {t : List ℕ} {at : ℕ} {l : List ℕ} {ls : List (List ℕ)} {rest : List ℕ} (h : Lines t at (l ∷ ls) rest) where
  first_is : drop at t ≡ ended l ++ (spell_all ended ls ++ rest)
  unfolding spell_all
  first_is = h.is ∙ append_assoc (ended l) (spell_all ended ls) rest

  first_fits : at + length l + 1 ≤ length t
  first_fits = omega (arith, h.within, length-drop at t, ap length first_is, length-append (ended l) (spell_all ended ls ++ rest), length-append l (line_feed ∷ []))

  others : Lines t (at + length l + 1) ls rest
  others =
      let place : at + (length l + 1) ≡ at + length l + 1 = omega arith in
      let long : length l + 1 ≡ length (ended l) = sym (length-append l (line_feed ∷ [])) in
      record {
        within = first_fits;
        is = ap (λ n. drop n t) (sym place) ∙ sym (drop-drop (length l + 1) at t) ∙ ap (drop (length l + 1)) first_is ∙ ap (λ n. drop n (ended l ++ (spell_all ended ls ++ rest))) long ∙ drop-append_seam (ended l) (spell_all ended ls ++ rest);
      }

  -- a part that the first line begins with
  part-taken : (m : List ℕ) → take (length m) l ≡ m → length m ≤ length l → take (length m) (drop at t) ≡ m
  part-taken m is fits =
      ap (take (length m)) (first_is ∙ append_assoc l (line_feed ∷ []) (spell_all ended ls ++ rest)) ∙ take-append-le (length m) l (line_feed ∷ (spell_all ended ls ++ rest)) fits ∙ is

-- lines that start later are in order from an earlier place on as well
from-earlier : {t : List ℕ} {at at' : ℕ} {fs : List FrameLine} → at ≤ at' → Ordered t at' fs → Ordered t at fs
from-earlier le (no_line h) = no_line (le_trans le h)
from-earlier le (one_line h p w o) = one_line (le_trans le h) p w o

lines-ordered : {t : List ℕ} {at : ℕ} (ls : List (List ℕ)) {rest : List ℕ} → Lines t at ls rest → Ordered t at (frame_lines_from at ls)
unfolding frame_lines_from choose
lines-ordered [] h = no_line h.within
lines-ordered {t} {at} (l ∷ ls) h = go (is_extra (without_return l)) (lines-ordered {at = at + length l + 1} ls (others h))
  where
    go : (b : Bool) → Ordered t (at + length l + 1) (frame_lines_from (at + length l + 1) ls) →
        Ordered t at (choose b (frame_lines_from (at + length l + 1) ls) (record { start = at; line = without_return l } ∷ frame_lines_from (at + length l + 1) ls))
    go true o = from-earlier (omega arith) o
    go false o = one_line {at = at} {f = record { start = at; line = without_return l }} (omega arith) (part-taken h (without_return l) (return-taken l) (return_fits l))
        (omega (arith, first_fits h, return_fits l)) (from-earlier (omega (arith, return_fits l)) o)

pub text-ordered : (t : List ℕ) → Ordered t 0 (frame_lines_of t)
unfolding frame_lines_of
text-ordered t = lines-ordered (lines_of t).ended (record { within = omega arith; is = lines-forth t })

-- ---- what that says of each by its number
abbrev start_in : List ℕ → List FrameLine → ℕ → ℕ
start_in t fs i = get_or (map (λ (f : FrameLine). f.start) fs) i (length t)

abbrev line_in : List FrameLine → ℕ → List ℕ
line_in fs i = get_or (map (λ (f : FrameLine). f.line) fs) i []

least : {t : List ℕ} {at : ℕ} {fs : List FrameLine} → Ordered t at fs → (i : ℕ) → at ≤ start_in t fs i
least (no_line h) i = h
least (one_line h p w o) zero = h
least (one_line h p w o) (suc i) = omega (arith, h, least o i)

order : {t : List ℕ} {at : ℕ} {fs : List FrameLine} → Ordered t at fs → (i j : ℕ) → i ≤ j → start_in t fs i ≤ start_in t fs j
order (no_line h) i j le = omega arith
order (one_line h p w o) zero zero le = omega arith
order (one_line h p w o) zero (suc j) le = omega (arith, least o j)
order (one_line h p w o) (suc i) zero le = absurd (omega arith)
order (one_line h p w o) (suc i) (suc j) le = order o i j (omega arith)

apart : {t : List ℕ} {at : ℕ} {fs : List FrameLine} → Ordered t at fs → (i j : ℕ) → i < length fs → i < j → start_in t fs i + length (line_in fs i) < start_in t fs j
apart (no_line h) i j less later = absurd (omega arith)
apart (one_line h p w o) i zero less later = absurd (omega arith)
apart (one_line h p w o) zero (suc j) less later = omega (arith, least o j)
apart (one_line h p w o) (suc i) (suc j) less later = apart o i j (omega arith) (omega arith)

part : {t : List ℕ} {at : ℕ} {fs : List FrameLine} → Ordered t at fs → (i : ℕ) → i < length fs → (take (length (line_in fs i)) (drop (start_in t fs i) t) ≡ line_in fs i) × (start_in t fs i + length (line_in fs i) < length t)
part (no_line h) i less = absurd (omega arith)
part (one_line h p w o) zero less = (p, w)
part (one_line h p w o) (suc i) less = part o i (omega arith)

module _ (t : List ℕ) where
  pub line-order : (i j : ℕ) → i ≤ j → line_start t i ≤ line_start t j
  line-order i j le = order (text-ordered t) i j le

  -- a line that is there ends before a later one starts
  pub line_before : (i j : ℕ) → i < length (frame_lines_of t) → i < j → line_start t i + length (line_at t i) < line_start t j
  line_before i j there less = apart (text-ordered t) i j there less

  pub line-part : (i : ℕ) → i < length (frame_lines_of t) → take (length (line_at t i)) (drop (line_start t i) t) ≡ line_at t i
  line-part i there = (part (text-ordered t) i there).0

  pub line-within : (i : ℕ) → i < length (frame_lines_of t) → line_start t i + length (line_at t i) < length t
  line-within i there = (part (text-ordered t) i there).1

-- no characters stand beyond the last line
pub line-there : (t : List ℕ) (i : ℕ) → 0 < length (line_at t i) → i < length (frame_lines_of t)
line-there t i some-there = go (frame_lines_of t) i some-there
  where
    go : (fs : List FrameLine) (i : ℕ) → 0 < length (line_in fs i) → i < length fs
    go [] i h = absurd (omega arith)
    go (f ∷ fs) zero h = omega arith
    go (f ∷ fs) (suc i) h = omega (arith, go fs i h)

-- ---- the lines of a text and its frames
-- these are the lines of the frames, by the definition
lines_are : (at : ℕ) (ls : List (List ℕ)) → map (λ (f : FrameLine). f.line) (frame_lines_from at ls) ≡ frame_lines ls
unfolding frame_lines_from frame_lines choose
lines_are at [] = refl
lines_are at (l ∷ ls) = go (is_extra (without_return l)) (lines_are (at + length l + 1) ls)
  where
    go : (b : Bool) → map (λ (f : FrameLine). f.line) (frame_lines_from (at + length l + 1) ls) ≡ frame_lines ls →
        map (λ (f : FrameLine). f.line) (choose b (frame_lines_from (at + length l + 1) ls) (record { start = at; line = without_return l } ∷ frame_lines_from (at + length l + 1) ls)) ≡ choose b (frame_lines ls) (without_return l ∷ frame_lines ls)
    go true e = e
    go false e = ap (λ (ms : List (List ℕ)). without_return l ∷ ms) e

-- each line spells the frame of its number
record Spelled (ls gs : List (List ℕ)) : Type 0 where
  count : length ls ≡ length gs
  each : (i : ℕ) → i < length gs → frame_bytes (get_or ls i []) ≡ some (get_or gs i [])

spelled-more : {l : List ℕ} {ls : List (List ℕ)} {g : List ℕ} {gs : List (List ℕ)} → frame_bytes l ≡ some g → Spelled ls gs → Spelled (l ∷ ls) (g ∷ gs)
spelled-more {l} {ls} {g} {gs} e s = record { count = omega (arith, s.count); each = go }
  where
    go : (i : ℕ) → i < length (g ∷ gs) → frame_bytes (get_or (l ∷ ls) i []) ≡ some (get_or (g ∷ gs) i [])
    go zero h = e
    go (suc i) h = s.each i (omega arith)

lines-spelled : (k : ℕ) (ls : List (List ℕ)) (rest : List ℕ) (gs : List (List ℕ)) → frames_in k ls rest ≡ ok gs → Spelled ls gs
unfolding frames_in need from bind
lines-spelled k [] rest gs e = go (is_empty rest) e
  where
    go : (b : Bool) → need b bad_line k (ok []) ≡ ok gs → Spelled [] gs
    go true e = let none_left : [] ≡ gs = cc in rw (← none_left) (record { count = refl; each = λ i h. absurd (omega arith) })
    go false e = absurd (let z : ◌≡◌ {A = ℕ} 0 1 = cc in omega arith)
lines-spelled k (l ∷ ls) rest gs e = go (frame_bytes l) (frames_in (suc k) ls rest) refl refl e (lines-spelled (suc k) ls rest)
  where
    go : (o : Option (List ℕ)) (r : Result (List (List ℕ))) → frame_bytes l ≡ o → frames_in (suc k) ls rest ≡ r → from o bad_line k (λ bs. bind r (λ hs. ok (bs ∷ hs))) ≡ ok gs →
        ((hs : List (List ℕ)) → frames_in (suc k) ls rest ≡ ok hs → Spelled ls hs) → Spelled (l ∷ ls) gs
    go (some bs) (ok hs) p q e inner = let all_of : bs ∷ hs ≡ gs = cc in rw (← all_of) (spelled-more p (inner hs q))
    go (some bs) (no n frame) p q e inner = absurd (let z : ◌≡◌ {A = ℕ} 0 1 = cc in omega arith)
    go none r p q e inner = absurd (let z : ◌≡◌ {A = ℕ} 0 1 = cc in omega arith)

module _ (t : List ℕ) (gs : List (List ℕ)) (are : text_frames t ≡ ok gs) where
  all-spelled : Spelled (map (λ (f : FrameLine). f.line) (frame_lines_of t)) gs
  unfolding frame_lines_of text_frames
  all-spelled = rw (lines_are 0 (lines_of t).ended) (lines-spelled 1 (frame_lines (lines_of t).ended) (lines_of t).rest gs are)

  pub frames-counted : length (frame_lines_of t) ≡ length gs
  frames-counted = sym (length-map (frame_lines_of t) (λ (f : FrameLine). f.line)) ∙ all-spelled.count

  pub line-spelled : (i : ℕ) → i < length gs → frame_bytes (line_at t i) ≡ some (get_or gs i [])
  line-spelled i h = all-spelled.each i h
