-- The steps of marking.
use Rattle.std.specs.Prelude.{ℕ, zero, suc, ◌+◌, ◌-◌, ◌≤◌, ◌<◌, List, [], ◌∷◌, ◌++◌, Bool, ◌≡◌, refl, length, get_or, drop, set, replicate, eqb}
use Rattle.std.proofs.Common.{append-nil, sym, ap, ◌∙◌, subst, add-one, arith, length-set, drop-cons, get_or-set_same, get_or-set_other, eqb-true}
use Rattle.std.proofs.Math.Bool.{true, false, not}
use Rattle.std.proofs.Math.Seq.{drop-length}
use Rattle.std.proofs.lemmas.Bool.{eqb-false, not-true, not-false}
use Rattle.language.specs.Result.{one_of, choose}
use Rattle.language.specs.Format.{bit}
use Rattle.language.specs.Heap.{kbool, Cell, leaf, cell_at, fields_in}
use Rattle.language.specs.Slide.{mem, reached_from, reached}
use Rattle.theory.specs.Members.{mem-append}
use Rattle.state_words.specs.Words.{channel_at, row_of}
use Rattle.state_words.specs.ReadLaws.{fields-held}
use Rattle.marking.specs.Marks.{Marks, Touched, Visited, passed_by, named_marked, Marking, MarkedFrom, MarksReached}

-- ---- one more cell marked
one_more : (b : Bool) (l x : ℕ) (marks : List ℕ) (v : ℕ) → l < length marks → get_or marks l 0 ≡ choose b 1 v → get_or (set marks x 1) l 0 ≡ choose (one_of b (one_of (eqb l x) false)) 1 v
unfolding choose one_of
one_more b l x marks v less e = cases (eqb l x) refl b e
  where
    cases : (c : Bool) → eqb l x ≡ c → (b : Bool) → get_or marks l 0 ≡ choose b 1 v → get_or (set marks x 1) l 0 ≡ choose (one_of b (one_of c false)) 1 v
    cases true q true e = rw (← (eqb-true l x q)) (get_or-set_same marks l 1 0 less)
    cases true q false e = rw (← (eqb-true l x q)) (get_or-set_same marks l 1 0 less)
    cases false q true e = get_or-set_other marks x l 1 0 (eqb-false l x q) ∙ e
    cases false q false e = get_or-set_other marks x l 1 0 (eqb-false l x q) ∙ e

pub touched-start : (f : ℕ → ℕ) (marks : List ℕ) → Touched (row_of f 0) marks marks
unfolding row_of mem choose
touched-start f marks = record { long = refl; at = λ l less. refl }

pub touched-on : (f : ℕ → ℕ) {j x : ℕ} {marks₀ marks marks' : List ℕ} → Touched (row_of f j) marks₀ marks → x ≡ f j → marks' ≡ set marks x 1 → Touched (row_of f (j + 1)) marks₀ marks'
unfolding row_of mem
touched-on f {j} {x} {marks₀} {marks} {marks'} t q e = rw add-one (record {
  long = ap length e ∙ length-set marks x 1 ∙ t.long;
  at = λ l less. ap (λ (m : List ℕ). get_or m l 0) e ∙ one_more (mem l (row_of f j)) l x marks (get_or marks₀ l 0) (omega (arith, t.long)) (t.at l less)
      ∙ ap (λ b. choose b 1 (get_or marks₀ l 0)) (ap (λ y. one_of (mem l (row_of f j)) (one_of (eqb l y) false)) q ∙ sym (mem-append l (row_of f j) (f j ∷ [])));
})

-- ---- marks of a list
mark-added : (a b : Bool) → choose a 1 (bit b) ≡ bit (one_of a b)
unfolding choose one_of
mark-added true b = refl
mark-added false b = refl

touched-marks : {named marks marks' R : List ℕ} → Touched named marks marks' → Marks marks R → Marks marks' (named ++ R)
touched-marks {named} {marks} {marks'} {R} t m = record {
  at = λ l less. t.at l (omega (arith, t.long)) ∙ ap (choose (mem l named) 1) (m.at l (omega (arith, t.long))) ∙ mark-added (mem l named) (mem l R) ∙ ap bit (sym (mem-append l named R));
}

pub not-marked : (b : Bool) → bit b ≡ 0 → b ≡ false
not-marked true e = absurd (omega arith)
not-marked false e = refl

pub marked : (b : Bool) → ((bit b ≡ 0) → ⊥) → b ≡ true
marked true e = refl
marked false e = absurd (e refl)

-- ---- a cell visited, those above it being settled
module _ {index words marks₀ : List ℕ} {used : ℕ} {h : List Cell} (g : Marking index words used marks₀ h) where
  visited-marks : {i : ℕ} {marks marks' : List ℕ} (S : List ℕ) → i < used → length marks ≡ length marks₀ → Visited index words i marks marks' → Marks marks S → Marks marks' (choose (mem i S) (fields_in (cell_at h i) ++ S) S)
  unfolding choose
  visited-marks {i} {marks} S less long (passed_by z e) m =
      let not : mem i S ≡ false = not-marked (mem i S) (sym (m.at i (omega (arith, g.each))) ∙ z) in
      rw (not, e) m
  visited-marks {i} {marks} S less long (named_marked z t) m =
      let is : mem i S ≡ true = marked (mem i S) (λ y. z (m.at i (omega (arith, g.each)) ∙ y)) in
      rw (is, ← (fields-held g.indexed g.holds g.writable i less)) (touched-marks t m)

visited-long : {index words marks marks' : List ℕ} {i : ℕ} → Visited index words i marks marks' → length marks' ≡ length marks
visited-long (passed_by z e) = ap length e
visited-long (named_marked z t) = t.long

pub marked_start : (index words marks : List ℕ) (used : ℕ) → MarkedFrom index words used marks used marks
unfolding reached_from
marked_start index words marks used = record { long = refl; says = λ h g R m. rw (g.holds.count, drop-length h) m }

next-marked : {index words marks₀ marks marks' : List ℕ} {used : ℕ} (i : ℕ) → suc i ≤ used → MarkedFrom index words used marks₀ (suc i) marks → Visited index words i marks marks' → MarkedFrom index words used marks₀ i marks'
unfolding reached_from
next-marked i le m v = record {
  long = visited-long v ∙ m.long;
  says = λ h g R r. rw (drop-cons h i (leaf (kbool false)) (omega (arith, g.holds.count))) (visited-marks g (reached_from R (suc i) (drop (suc i) h)) le m.long v (m.says h g R r));
}

pub marked-on : {index words marks₀ marks marks' : List ℕ} {used : ℕ} (i : ℕ) → 0 < i → i ≤ used → MarkedFrom index words used marks₀ i marks → Visited index words (i - 1) marks marks' → MarkedFrom index words used marks₀ (i - 1) marks'
marked-on zero more le m v = absurd (omega arith)
marked-on (suc i) more le m v = let one : suc i - 1 ≡ i = omega arith in rw one (next-marked i le m (rw one at v))

-- ---- the whole
no-marks : (used : ℕ) → Marks (replicate used 0) []
unfolding mem
no-marks used = record { at = λ l less. zeros-at used l }
  where
    zeros-at : (n l : ℕ) → get_or {A = ℕ} (replicate n 0) l 0 ≡ 0
    zeros-at zero l = refl
    zeros-at (suc n) zero = refl
    zeros-at (suc n) (suc l) = zeros-at n l

pub reached-marked : {index words marks marks₁ marks' : List ℕ} {channels used : ℕ} → Touched (row_of (channel_at words) channels) marks marks₁ → MarkedFrom index words used marks₁ 0 marks' → MarksReached index words channels used marks marks'
unfolding reached
reached-marked {words} {marks} {marks₁} {channels} {used} t m = record {
  long = m.long ∙ t.long;
  says = λ h g none. m.says h (record { text = g.text; file = g.file; indexed = g.indexed; holds = g.holds; writable = g.writable; each = t.long ∙ g.each }) (row_of (channel_at words) channels)
      (subst (λ R. Marks marks₁ R) (append-nil (row_of (channel_at words) channels)) (touched-marks t (rw none (no-marks used))));
}

-- ---- what the test of a mark says
pub unmarked : {m : ℕ} {r : Bool} → r ≡ not (eqb m 0) → r ≡ false → m ≡ 0
unmarked {m} q e = eqb-true m 0 (not-false (eqb m 0) (sym q ∙ e))

pub has-mark : {m : ℕ} {r : Bool} → r ≡ not (eqb m 0) → r ≡ true → m ≡ 0 → ⊥
has-mark {m} q e = eqb-false m 0 (not-true (eqb m 0) (sym q ∙ e))
