-- The measure of the cycle: the calls left, then what is left of the line, then the function's rank.
use Rattle.std.specs.Prelude.{Ok}
use Rattle.evaluation_steps.specs.declared.Values.{Values}
use Rattle.evaluation_steps.specs.Promises.{EvaluatedAll}
use Rattle.std.specs.Prelude.{ℕ, zero, suc, ◌+◌, ◌-◌, ◌*◌, ◌≤◌, ◌<◌, ◌^◌, List, true, ◌≡◌, refl, length, drop}
use Rattle.std.proofs.Common.{ap, subst, arith, suc-mul, le_refl, length-take, length-drop}
use Rattle.theory.specs.Lists.{false-is-not-true}
use Rattle.text.specs.declared.Cursor.{Cursor}
use Rattle.text.specs.Places.{bytes_left, left-later, left-most}
use Rattle.heads.specs.declared.Form.{Form}
use Rattle.heads.specs.declared.Form.TheVariants.{Bool as BoolForm, Int, Variable, Now, Last, Let, If, Operator, Call, Construct, Case, Adjust, Fit, Missing}
use Rattle.heads.specs.declared.Head.{Head}
use Rattle.heads.specs.Heads.{Heads, shown, has_parts}
use Rattle.heads.specs.HeadLaws.{left_behind}
use Rattle.index.specs.Sections.{frames_of}
use Rattle.index.specs.Indexed.{frame_place, frame_length, frame_part}
use Rattle.evaluation_steps.specs.declared.Context.{Context}
use Rattle.ends.specs.EndOf.{end_of, end-least}
use Rattle.evaluation_steps.specs.Forms.{first_at, end_after}
use Rattle.evaluation_steps.specs.Contexts.{moved_to, bound_to, body_context}
use Rattle.evaluation_steps.specs.Promises.{Onward, goes_on}

-- more than any line's share of a call; shut, so that no sum is worked out with it
unfoldable pub call_share : ℕ
call_share = 2 ^ 66

-- the ranks: each function calls those of a lower rank at the same place
abbrev pub ranks : ℕ
ranks = 5

abbrev pub measure_of : List ℕ → List ℕ → Context → ℕ → ℕ
measure_of text index p rank = p.calls * call_share + (ranks * bytes_left (frame_part text (frames_of index) p.line) p.at.at + rank)

part-short : (text frames : List ℕ) (i : ℕ) → length (frame_part text frames i) ≤ length text
unfolding frame_part
part-short text frames i = omega (arith, length-take (frame_length frames i) (drop (frame_place frames i) text), length-drop (frame_place frames i) text)

-- ---- it falls
fewer : (a b c : ℕ) → b < c → a + b < a + c
fewer a b c less = omega arith

one-call : (share calls x y : ℕ) → (calls ≡ 0 → ⊥) → x < share → (calls - 1) * share + x < calls * share + y
one-call share zero x y more less = absurd (more refl)
one-call share (suc k) x y more less =
    let down : suc k - 1 ≡ k = omega arith in
    rw down (omega (arith, suc-mul k share))

share-most : (left length rank : ℕ) → left ≤ length → length < 2 ^ 63 → rank < ranks → ranks * left + rank < call_share
unfolding call_share
share-most left length rank le short few = omega arith

module _ (text index : List ℕ) (p : Context) {t : ℕ} (rank : ℕ) (e : measure_of text index p rank ≡ t) where
  -- a lower rank, no earlier in the line
  pub falls-to : (q : Context) (rank' : ℕ) → q.line ≡ p.line → q.calls ≡ p.calls → p.at.at ≤ q.at.at → rank' < rank → measure_of text index q rank' < t
  falls-to q rank' line calls later less =
      let left = left-later (frame_part text (frames_of index) p.line) p.at.at q.at.at later in
      rw (← e, line, calls) (fewer (p.calls * call_share) _ _ (omega (arith, left, less)))

  -- behind a head that was read
  pub falls-behind : (q : Context) (rank' : ℕ) → q.line ≡ p.line → q.calls ≡ p.calls → bytes_left (frame_part text (frames_of index) p.line) q.at.at < bytes_left (frame_part text (frames_of index) p.line) p.at.at → rank' < ranks →
      measure_of text index q rank' < t
  falls-behind q rank' line calls shorter less = rw (← e, line, calls) (fewer (p.calls * call_share) _ _ (omega (arith, shorter, less)))

  -- a call less, anywhere
  pub falls-call : (q : Context) (rank' : ℕ) → length text < 2 ^ 63 → (p.calls ≡ 0 → ⊥) → q.calls ≡ p.calls - 1 → rank' < ranks → measure_of text index q rank' < t
  falls-call q rank' short more calls less =
      let most = left-most (frame_part text (frames_of index) q.line) q.at.at in
      let part = part-short text (frames_of index) q.line in
      rw (← e, calls) (one-call call_share p.calls _ _ more (share-most (bytes_left (frame_part text (frames_of index) q.line) q.at.at) (length text) rank' (omega (arith, most, part)) short less))

  -- by the way the place was made
  module _ {q : Context} {c : Cursor} (rank' : ℕ) where
    pub falls-moved : {used : ℕ} → q ≡ moved_to p c used → p.at.at ≤ c.at → rank' < rank → measure_of text index q rank' < t
    falls-moved {used} m later less = rw m (falls-to (moved_to p c used) rank' refl refl later less)

    pub falls-bound : (n : ℕ) → q ≡ bound_to p c n → p.at.at ≤ c.at → rank' < rank → measure_of text index q rank' < t
    falls-bound n m later less = rw m (falls-to (bound_to p c n) rank' refl refl later less)

    pub falls-head : {used : ℕ} → q ≡ moved_to p c used → bytes_left (frame_part text (frames_of index) p.line) c.at < bytes_left (frame_part text (frames_of index) p.line) p.at.at → rank' < ranks → measure_of text index q rank' < t
    falls-head {used} m shorter less = rw m (falls-behind (moved_to p c used) rank' refl refl shorter less)

  pub falls-body : {q : Context} (f n rank' : ℕ) → q ≡ body_context index p f n → length text < 2 ^ 63 → (p.calls ≡ 0 → ⊥) → rank' < ranks → measure_of text index q rank' < t
  falls-body f n rank' m short more less = rw m (falls-call (body_context index p f n) rank' short more refl less)

-- what is left behind a head with parts is less
pub head-shorter : {line : List ℕ} {at : ℕ} {head : Head} → Heads line at head → (form : Form) → head.form ≡ form → has_parts form ≡ true → bytes_left line head.next.at < bytes_left line at
head-shorter h (BoolForm b) q parts = false-is-not-true parts
head-shorter h (Int n) q parts = false-is-not-true parts
head-shorter h (Variable v) q parts = false-is-not-true parts
head-shorter h (Now c) q parts = false-is-not-true parts
head-shorter h (Last c) q parts = false-is-not-true parts
head-shorter h Let q parts = let c = shown h q in omega (arith, left_behind c, c.within)
head-shorter h If q parts = let c = shown h q in omega (arith, left_behind c, c.within)
head-shorter h (Operator o) q parts = let c = (shown h q).0 in omega (arith, left_behind c, c.within)
head-shorter h (Call f) q parts = let c = (shown h q).0 in omega (arith, left_behind c, c.within)
head-shorter h (Construct t k) q parts = let c = (shown h q).0 in omega (arith, left_behind c, c.within)
head-shorter h (Case t) q parts = let c = (shown h q).0 in omega (arith, left_behind c, c.within)
head-shorter h Adjust q parts = let c = shown h q in omega (arith, left_behind c, c.within)
head-shorter h (Fit k) q parts = let c = (shown h q).0 in omega (arith, left_behind c, c.within)
head-shorter h Missing q parts = false-is-not-true parts

pub shorter-behind : {line part : List ℕ} (next at : ℕ) → line ≡ part → bytes_left line next < bytes_left line at → bytes_left part next < bytes_left part at
shorter-behind next at e less = subst (λ l. bytes_left l next < bytes_left l at) e less

-- ---- no end is before its start
pub later-end : {c : Cursor} (ends : List ℕ) (from at : ℕ) → c.at ≡ end_of ends from at → at ≤ c.at
later-end ends from at e = rw e (end-least ends from at)

after-later : (ends : List ℕ) (from at n : ℕ) → at ≤ end_after ends from at n
unfolding end_after
after-later ends from at zero = le_refl at
after-later ends from at (suc n) = omega (arith, after-later ends from at n, end-least ends from (end_after ends from at n))

pub later-branch : {first c : Cursor} (ends : List ℕ) (from at n : ℕ) → first.at ≡ end_of ends from at → c.at ≡ end_after ends from first.at n → at ≤ c.at
later-branch {first} ends from at n e f = rw f (omega (arith, later-end {c = first} ends from at e, after-later ends from first.at n))

pub later_first : {c : Cursor} (ends : List ℕ) (from : ℕ) (form : Form) (at : ℕ) → c.at ≡ first_at ends from form at → at ≤ c.at
later_first ends from (BoolForm b) at e = omega (arith, e)
later_first ends from (Int n) at e = omega (arith, e)
later_first ends from (Variable v) at e = omega (arith, e)
later_first ends from (Now c) at e = omega (arith, e)
later_first ends from (Last c) at e = omega (arith, e)
later_first ends from Let at e = omega (arith, e)
later_first ends from If at e = omega (arith, e)
later_first ends from (Operator o) at e = omega (arith, e)
later_first ends from (Call f) at e = omega (arith, e)
later_first ends from (Construct t c) at e = omega (arith, e)
later_first ends from (Case t) at e = omega (arith, e)
later_first ends from Adjust at e = rw e (end-least ends from at)
later_first ends from (Fit k) at e = omega (arith, e)
later_first ends from Missing at e = omega (arith, e)

-- the cursor behind several is not before the first
pub later-all : {at : ℕ} {x : EvaluatedAll} {v : Values} → Onward at x → x ≡ Ok v → at ≤ v.next.at
later-all {at} {x} {v} o e = go (subst (Onward at) e o)
  where
    go : Onward at (Ok v) → at ≤ v.next.at
    go (goes_on le) = le

pub later-two : (p : Context) {q : Context} {c next : Cursor} {used : ℕ} → p.at.at ≤ c.at → q ≡ moved_to p c used → q.at.at ≤ next.at → p.at.at ≤ next.at
later-two p {q} {c} first e second = omega (arith, first, moved_at, second)
  where
    moved_at : q.at.at ≡ c.at
    moved_at = ap (λ (z : Context). z.at.at) e
