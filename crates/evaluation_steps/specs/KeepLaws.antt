-- What stays as it was over two steps, and what the second may rest on: words, slots, the place's file and heap.
use Rattle.std.specs.Prelude.{Ok, Err}
use Rattle.new_cells.specs.Steps.{Evaluated}
use Rattle.std.specs.Prelude.{ℕ, ◌+◌, ◌-◌, ◌≤◌, ◌<◌, List, ◌≡◌, refl, length, get_or, take, drop}
use Rattle.std.proofs.Common.{sym, ap, ◌∙◌, subst, arith, le_refl, length-drop, length-take-le, get_or-take}
use Rattle.language.specs.Limits.{channels_most}
use Rattle.language.specs.Syntax.{File}
use Rattle.language.specs.Scope.{Scope}
use Rattle.language.specs.Within.{All}
use Rattle.language.specs.Heap.{Cell}
use Rattle.language.specs.Layout.{state_length}
use Rattle.language.specs.Evaluator.{Channels}
use Rattle.theory.specs.Lists.{take-fewer, drop_more}
use Rattle.theory.specs.CellWords.{Writable}
use Rattle.text.specs.declared.Cursor.{Cursor}
use Rattle.state_words.specs.Words.{channel_at}
use Rattle.state_words.specs.Holds.{Holds}
use Rattle.new_cells.specs.Steps.{Board, Grown, has_grown, not_grown, Kept}
use Rattle.evaluation_steps.specs.declared.Context.{Context}
use Rattle.new_cells.specs.declared.Value.{Value}
use Rattle.language.specs.declared.refusals.Refusal.{Refusal}
use Rattle.evaluation_steps.specs.Contexts.{moved_to, bound_to, body_context}
use Rattle.evaluation_steps.specs.Promises.{Room, Below, Stage}

-- what a step that gave a value leaves
pub record Moved (words : List ℕ) (used : ℕ) (words' : List ℕ) (used' : ℕ) : Type 0 where
  pub more : used ≤ used'
  pub fits : state_length used' ≤ length words
  pub long : length words' ≡ length words
  pub low : take (state_length used) words' ≡ take (state_length used) words
  pub high : drop (state_length used') words' ≡ drop (state_length used') words

module _ {words : List ℕ} {used : ℕ} where
  -- nothing was written
  pub kept-refused : {n : Refusal} → Kept words words used (Err n)
  kept-refused = record { long = refl; low = refl; grown = not_grown }

  pub kept-value : {l : ℕ} → Board words used → Kept words words used (Ok (record { cell = l; used = used }))
  kept-value b = record { long = refl; low = refl; grown = has_grown (le_refl used) b.fits refl }

  pub moved_by : {words' : List ℕ} {x : Evaluated} {v : Value} → Kept words words' used x → x ≡ Ok v → Moved words used words' v.used
  moved_by {words'} {x} {v} k e = go (subst (Grown words words' used) e k.grown)
    where
      go : Grown words words' used (Ok v) → Moved words used words' v.used
      go (has_grown more fits high) = record { more = more; fits = fits; long = k.long; low = k.low; high = high }

  module _ {words₁ : List ℕ} {used₁ : ℕ} (m : Moved words used words₁ used₁) where
    pub board-moved : Board words used → Board words₁ used₁
    board-moved b = record { fits = omega (arith, m.fits, m.long); small = omega (arith, b.small, m.long) }

    longer : state_length used ≤ state_length used₁
    longer = omega (arith, m.more)

    pub kept_then : {words₂ : List ℕ} {r : Evaluated} → Kept words₁ words₂ used₁ r → Kept words words₂ used r
    kept_then {words₂} {r} k = record { long = k.long ∙ m.long; low = take-fewer (state_length used) (state_length used₁) words₂ words₁ longer k.low ∙ m.low; grown = go k.grown }
      where
        go : {r : Evaluated} → Grown words₁ words₂ used₁ r → Grown words words₂ used r
        go (has_grown {v} more fits high) =
            has_grown (omega (arith, more, m.more)) (omega (arith, fits, m.long)) (high ∙ drop_more (state_length used₁) (state_length v.used) words₁ words (omega (arith, more)) m.high)
        go not_grown = not_grown

    -- the channels' words
    pub channel-kept : (c : ℕ) → c < channels_most → channel_at words₁ c ≡ channel_at words c
    channel-kept c few =
        let below : 1 + c < state_length used = omega (arith, few) in
        sym (get_or-take (state_length used) words₁ (1 + c) 0 below) ∙ ap (λ (x : List ℕ). get_or x (1 + c) 0) m.low ∙ get_or-take (state_length used) words (1 + c) 0 below

-- ---- slots
pub below-same : (top : ℕ) (slots : List ℕ) → Below top slots slots
below-same top slots = record { low = refl; long = refl }

pub below_then : {top top₁ : ℕ} {slots slots₁ slots₂ : List ℕ} → Below top slots slots₁ → Below top₁ slots₁ slots₂ → top ≤ top₁ → Below top slots slots₂
below_then {top} {top₁} {slots} {slots₁} {slots₂} a b le = record { low = take-fewer top top₁ slots₂ slots₁ le b.low ∙ a.low; long = b.long ∙ a.long }

-- ---- the place of what comes next
module _ {text index ends now words words₁ : List ℕ} {p : Context} {P : File} {cells : ℕ} {S : Scope} {N : Channels} {h h₁ : List Cell} {used₁ : ℕ} (st : Stage text index ends now words p P cells S N h) (m : Moved words p.used words₁ used₁) where
  pub stage-moved : (c : Cursor) → Holds words₁ used₁ h₁ → All (Writable P) h₁ → Stage text index ends now words₁ (moved_to p c used₁) P cells S N h₁
  stage-moved c held writable = record {
    indexed = st.indexed;
    told = st.told;
    less = st.less;
    known = st.known;
    now_cells = st.now_cells;
    last_cells = λ k less. channel-kept m k (omega (arith, less, st.few)) ∙ st.last_cells k less;
    few = st.few;
    lies = record { board = m.long ∙ st.lies.board; held = held; writable = writable };
  }

pub room_moved : {words words₁ slots slots₁ : List ℕ} {p : Context} {used₁ : ℕ} (c : Cursor) → Room words slots p → Moved words p.used words₁ used₁ → Below p.top slots slots₁ → Room words₁ slots₁ (moved_to p c used₁)
room_moved c r m b = record { board = board-moved m r.board; top = omega (arith, r.top, b.long) }

-- ---- room at a place that was made of another
module _ {words slots : List ℕ} {p q : Context} (r : Room words slots p) where
  pub room_at : {c : Cursor} → q ≡ moved_to p c p.used → Room words slots q
  room_at e = rw e (record { board = r.board; top = r.top })

  pub room_bound : {c : Cursor} (n : ℕ) (slots₁ : List ℕ) → q ≡ bound_to p c n → length slots₁ ≡ length slots → p.top + n ≤ length slots → Room words slots₁ q
  room_bound n slots₁ e long free = rw e (record { board = r.board; top = omega (arith, long, free) })

  pub room-body : (index : List ℕ) (f n : ℕ) (slots₁ : List ℕ) → q ≡ body_context index p f n → length slots₁ ≡ length slots → p.top + n ≤ length slots → Room words (take (length slots₁ - p.top) (drop p.top slots₁)) q
  room-body index f n slots₁ e long free = rw e (record { board = r.board; top = omega (arith, long, free, length-drop p.top slots₁, length-take-le (length slots₁ - p.top) (drop p.top slots₁) (omega (arith, length-drop p.top slots₁))) })

  pub room_cut : {c : Cursor} (cut : ℕ) → q ≡ moved_to p c p.used → cut ≤ length slots → p.top ≤ cut → Room words (take cut slots) q
  room_cut cut e within free = rw e (record { board = r.board; top = omega (arith, free, length-take-le cut slots within) })

pub room_next : {words words₁ slots slots₁ : List ℕ} {p q : Context} {c : Cursor} {used₁ : ℕ} → Room words slots p → q ≡ moved_to p c used₁ → Moved words p.used words₁ used₁ → Below p.top slots slots₁ → Room words₁ slots₁ q
room_next {c = c} r e m b = rw e (room_moved c r m b)
