-- The text of a list of frames is read back; the frames of any text are lines of bytes, and their own text is no longer than it.
use Rattle.std.specs.Prelude.{ℕ, suc, ◌+◌, ◌*◌, ◌/◌, ◌%◌, ◌≤◌, ◌<◌, Bool, true, false, ◌≡◌, refl, length, eqb}
use mathlib.Core.List.{List, [], ◌∷◌, ◌++◌, map, append_assoc, cons≢nil}
use Rattle.std.proofs.Math.Option.{Option, some}
use Rattle.std.proofs.Common.{ap, ap₂, arith, le_refl, length-append, eqb-true}
use Rattle.language.specs.Result.{ok, bind, need, from, choose}
use Rattle.language.specs.Refusals.{bad_line}
use Rattle.language.specs.Codes.{digit_base, line_feed, space, carriage_return, semicolon}
use Rattle.language.specs.Format.{spell_all, digit_of, pair_of, line_text}
use Rattle.language.specs.Within.{All, all_nil, all_cons}
use Rattle.language.specs.Text.{Lines, longer, lines_of, line_bytes, is_empty, pair, any_digit, pair_at, behind_pair, behind_space, frame_bytes, last_or_more, without_return, is_extra, frame_lines, frames_in, text_frames}
use Rattle.theory.specs.Tests.{Whenever, w_some, w_none, whenever-map, whenever-choose}
use Rattle.theory.specs.Outcomes.{Sat, sat-ok, sat-no, outcome-map, sat-bind, sat-from}
use Rattle.theory.specs.Exact.{Byte}
use Rattle.theory.specs.ExactDigits.{any-digit-back, any-digit-small, digit-is-not, pairs-back, pairs-forth}

-- what a line spells: some bytes
pub data Filled : List ℕ → Type 0 where
  filled : {b : ℕ} {bs : List ℕ} → Byte b → All Byte bs → Filled (b ∷ bs)

-- ---- lines
digit-no-feed : (d : ℕ) → eqb (digit_of d) line_feed ≡ false
digit-no-feed d = digit-is-not d line_feed (λ high. absurd (omega arith))

pub line-ended : (bs t : List ℕ) → lines_of (spell_all pair_of bs ++ (line_feed ∷ t)) ≡ record { ended = spell_all pair_of bs ∷ (lines_of t).ended; rest = (lines_of t).rest }
unfolding lines_of spell_all pair_of choose longer
line-ended [] t = refl
line-ended (b ∷ bs) t = rw (digit-no-feed (b / digit_base), digit-no-feed (b % digit_base), line-ended bs t)

lines-back : (fs : List (List ℕ)) → lines_of (spell_all line_text fs) ≡ record { ended = map (spell_all pair_of) fs; rest = [] }
unfolding lines_of spell_all line_text
lines-back [] = refl
lines-back (bs ∷ fs) = rw (append_assoc (spell_all pair_of bs) (line_feed ∷ []) (spell_all line_text fs), line-ended bs (spell_all line_text fs), lines-back fs)

abbrev pub ended : List ℕ → List ℕ
ended l = l ++ (line_feed ∷ [])

pub lines-forth : (t : List ℕ) → t ≡ spell_all ended (lines_of t).ended ++ (lines_of t).rest
unfolding lines_of spell_all choose longer
lines-forth [] = refl
lines-forth (c ∷ t) = go (eqb c line_feed) refl (lines_of t).ended (lines_of t).rest (lines-forth t)
  where
    go : (feed : Bool) → eqb c line_feed ≡ feed → (ls : List (List ℕ)) (rest : List ℕ) → t ≡ spell_all ended ls ++ rest →
        let r : Lines = choose feed (record { ended = [] ∷ ls; rest = rest }) (longer c ls rest) in c ∷ t ≡ spell_all ended r.ended ++ r.rest
    go true e ls rest is = ap₂ {C = List ℕ} ◌∷◌ (eqb-true c line_feed e) is
    go false e [] rest is = ap (λ (l : List ℕ). c ∷ l) is
    go false e (l ∷ ls) rest is = ap (λ (l : List ℕ). c ∷ l) is

-- ---- the bytes of a strict line
pub line-back : (bs : List ℕ) → Filled bs → line_bytes (spell_all pair_of bs) ≡ some bs
unfolding line_bytes spell_all pair_of
line-back (b ∷ bs) (filled w ws) = pairs-back (b ∷ bs) (all_cons w ws)
line-back [] x' = elim x' [ ]

pub line-forth : (l : List ℕ) → Whenever (λ bs. (l ≡ spell_all pair_of bs) × Filled bs) (line_bytes l)
unfolding line_bytes spell_all
line-forth [] = w_none
line-forth (c ∷ l) = whenever-map (λ bs s. (s.is, not-empty bs s.is s.small)) (pairs-forth (c ∷ l))
  where
    not-empty : (bs : List ℕ) → c ∷ l ≡ spell_all pair_of bs → All Byte bs → Filled bs
    not-empty [] e small = absurd (cons≢nil e)
    not-empty (b ∷ bs) e (all_cons w ws) = filled w ws

-- ---- the bytes of a frame's line: strict pairs are read back
pair-back : (b : ℕ) (bs : List ℕ) → Byte b → pair (any_digit (digit_of (b / digit_base))) (any_digit (digit_of (b % digit_base))) (some bs) ≡ some (b ∷ bs)
unfolding pair
pair-back b bs w = rw (any-digit-back (b / digit_base) (omega arith), any-digit-back (b % digit_base) (omega arith)) (ap {B = Option (List ℕ)} (λ (n : ℕ). some (n ∷ bs)) (omega arith))

behind-back : (bs : List ℕ) → All Byte bs → behind_pair (spell_all pair_of bs) ≡ some bs
unfolding spell_all pair_of pair_at choose
behind-back [] all_nil = refl
behind-back (b ∷ bs) (all_cons w ws) = rw (digit-is-not (b / digit_base) space (λ high. absurd (omega arith)), behind-back bs ws) (pair-back b bs w)

pub frame_back : (bs : List ℕ) → Filled bs → frame_bytes (spell_all pair_of bs) ≡ some bs
unfolding spell_all pair_of pair_at frame_bytes
frame_back (b ∷ bs) (filled w ws) = rw (behind-back bs ws) (pair-back b bs w)
frame_back [] x' = elim x' [ ]

-- and what is read are bytes, for each of which the line has two characters
record BytesIn (line bs : List ℕ) : Type 0 where
  small : All Byte bs
  room : 2 * length bs ≤ length line

one-character-more : {c : ℕ} {l bs : List ℕ} → BytesIn l bs → BytesIn (c ∷ l) bs
one-character-more r = record { small = r.small; room = omega (arith, r.room) }

pair-in : {a b : ℕ} {l : List ℕ} {high low : Option ℕ} {rest : Option (List ℕ)} → Whenever (λ d. d < digit_base) high → Whenever (λ d. d < digit_base) low → Whenever (BytesIn l) rest →
    Whenever (λ bs. Filled bs × BytesIn (a ∷ b ∷ l) bs) (pair high low rest)
unfolding pair
pair-in (w_some {a = c} u) (w_some {a = d} v) (w_some r) = let byte : Byte (c * digit_base + d) = omega arith in w_some (filled byte r.small, record { small = all_cons byte r.small; room = omega (arith, r.room) })
pair-in (w_some u) (w_some v) w_none = w_none
pair-in (w_some u) w_none w = w_none
pair-in w_none v w = w_none

mutual
  unfolding pair_at

  pair-at-in : (a : ℕ) (l : List ℕ) → Whenever (λ bs. Filled bs × BytesIn (a ∷ l) bs) (pair_at a l)
  pair-at-in a [] = w_none
  pair-at-in a (b ∷ l) = pair-in (any-digit-small a) (any-digit-small b) (behind-pair-in l)

  behind-pair-in : (l : List ℕ) → Whenever (BytesIn l) (behind_pair l)
  behind-pair-in [] = w_some (record { small = all_nil; room = omega arith })
  behind-pair-in (c ∷ l) = whenever-choose (eqb c space) (whenever-map (λ bs r. one-character-more r) (behind-space-in l)) (whenever-map (λ bs r. r.1) (pair-at-in c l))

  behind-space-in : (l : List ℕ) → Whenever (BytesIn l) (behind_space l)
  behind-space-in [] = w_none
  behind-space-in (c ∷ l) = whenever-choose (eqb c space) (whenever-map (λ bs r. one-character-more r) (behind-space-in l)) (whenever-map (λ bs r. r.1) (pair-at-in c l))

pub frame-forth : (l : List ℕ) → Whenever (λ bs. Filled bs × (2 * length bs ≤ length l)) (frame_bytes l)
unfolding frame_bytes
frame-forth [] = w_none
frame-forth (c ∷ l) = whenever-map (λ bs r. (r.0, r.1.room)) (pair-at-in c l)

-- ---- the lines of frames: a strict line is one as it stands
no_return : (bs : List ℕ) → without_return (spell_all pair_of bs) ≡ spell_all pair_of bs
unfolding spell_all pair_of without_return last_or_more choose
no_return [] = refl
no_return (b ∷ []) = rw (digit-is-not (b % digit_base) carriage_return (λ high. absurd (omega arith)))
no_return (b ∷ c ∷ bs) = ap (λ (l : List ℕ). digit_of (b / digit_base) ∷ digit_of (b % digit_base) ∷ l) (no_return (c ∷ bs))

not-extra : (bs : List ℕ) → Filled bs → is_extra (spell_all pair_of bs) ≡ false
unfolding spell_all pair_of is_extra
not-extra (b ∷ bs) (filled w ws) = digit-is-not (b / digit_base) semicolon (λ high. (omega arith, omega arith))
not-extra [] x' = elim x' [ ]

frame-lines-back : (fs : List (List ℕ)) → All Filled fs → frame_lines (map (spell_all pair_of) fs) ≡ map (spell_all pair_of) fs
unfolding frame_lines choose
frame-lines-back [] all_nil = refl
frame-lines-back (bs ∷ fs) (all_cons w ws) = rw (no_return bs, not-extra bs w, frame-lines-back fs ws)

-- and none is longer than it stands in the text
no_longer : (l : List ℕ) → length (without_return l) ≤ length l
unfolding without_return last_or_more choose
no_longer [] = le_refl 0
no_longer (c ∷ []) = go (eqb c carriage_return)
  where
    go : (return : Bool) → length (choose return [] (c ∷ [])) ≤ 1
    go true = omega arith
    go false = omega arith
no_longer (c ∷ d ∷ l) = omega (arith, no_longer (d ∷ l))

ended-long : (l : List ℕ) (ls : List (List ℕ)) → length (spell_all ended (l ∷ ls)) ≡ suc (length l) + length (spell_all ended ls)
unfolding spell_all
ended-long l ls = omega (arith, length-append (ended l) (spell_all ended ls), length-append l (line_feed ∷ []))

frame-lines-long : (ls : List (List ℕ)) → length (spell_all ended (frame_lines ls)) ≤ length (spell_all ended ls)
unfolding frame_lines choose spell_all
frame-lines-long [] = le_refl 0
frame-lines-long (l ∷ ls) = go (is_extra (without_return l)) (frame-lines-long ls)
  where
    go : (extra : Bool) → length (spell_all ended (frame_lines ls)) ≤ length (spell_all ended ls) → length (spell_all ended (choose extra (frame_lines ls) (without_return l ∷ frame_lines ls))) ≤ length (spell_all ended (l ∷ ls))
    go true more = omega (arith, ended-long l ls)
    go false more = omega (arith, ended-long l ls, ended-long (without_return l) (frame_lines ls), no_longer l)

-- ---- the frames of the lines
frames-in-back : (frame : ℕ) (fs : List (List ℕ)) → All Filled fs → frames_in frame (map (spell_all pair_of) fs) [] ≡ ok fs
unfolding frames_in need is_empty from bind
frames-in-back frame [] all_nil = refl
frames-in-back frame (bs ∷ fs) (all_cons w ws) = rw (frame_back bs w, frames-in-back (suc frame) fs ws)

pub pairs-long : (bs : List ℕ) → length (spell_all pair_of bs) ≡ 2 * length bs
unfolding spell_all pair_of
pairs-long [] = refl
pairs-long (b ∷ bs) = omega (arith, pairs-long bs)

pub line-long : (bs : List ℕ) → length (line_text bs) ≡ suc (2 * length bs)
unfolding line_text
line-long bs = omega (arith, length-append (spell_all pair_of bs) (line_feed ∷ []), pairs-long bs)

frames-in-forth : (frame : ℕ) (ls : List (List ℕ)) (rest : List ℕ) → Sat (λ fs. All Filled fs × (length (spell_all line_text fs) ≤ length (spell_all ended ls))) (frames_in frame ls rest)
unfolding frames_in spell_all is_empty need
frames-in-forth frame [] [] = sat-ok (all_nil, le_refl 0)
frames-in-forth frame [] (c ∷ rest) = sat-no
frames-in-forth frame (l ∷ ls) rest =
    sat-from bad_line frame (frame-forth l) λ bs B.
    sat-bind (frames-in-forth (suc frame) ls rest) λ fs F.
    sat-ok (all_cons B.0 F.0, omega (arith, B.1, F.1, line-long bs, length-append (line_text bs) (spell_all line_text fs), ended-long l ls))

-- ---- the text
pub text-back : (fs : List (List ℕ)) → All Filled fs → text_frames (spell_all line_text fs) ≡ ok fs
unfolding text_frames
text-back fs ws = rw (lines-back fs, frame-lines-back fs ws) (frames-in-back 1 fs ws)

pub text-forth : (t : List ℕ) → Sat (λ fs. All Filled fs × (length (spell_all line_text fs) ≤ length t)) (text_frames t)
unfolding text_frames
text-forth t =
    let ls = (lines_of t).ended in
    outcome-map (λ fs F. (F.0, omega (arith, F.1, frame-lines-long ls, ap length (lines-forth t), length-append (spell_all ended ls) (lines_of t).rest))) (frames-in-forth 1 (frame_lines ls) (lines_of t).rest)
