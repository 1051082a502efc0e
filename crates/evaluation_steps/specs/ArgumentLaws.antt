-- Expressions one after the other: what is left decides the whole, turn by turn.
use Rattle.std.specs.Prelude.{Ok, Err}
use Rattle.language.specs.declared.refusals.Refusal.{Refusal}
use Rattle.new_cells.specs.declared.Value.{Value}
use Rattle.new_cells.specs.Steps.{Evaluated}
use Rattle.evaluation_steps.specs.Promises.{EvaluatedAll}
use Rattle.std.specs.Prelude.{ℕ, zero, suc, ◌+◌, ◌-◌, ◌≤◌, ◌<◌, ◌≡◌, length, get_or, take, set}
use mathlib.Core.List.{List, [], ◌∷◌, ◌++◌, append-nil, append_assoc}
use Rattle.std.proofs.Math.Path.{refl, sym, ap, subst, subst₂}
use Rattle.std.proofs.Common.{◌∙◌, add-one, get_or-set_same, get_or-set_other}
use native.Mathlib.Omega.{arith}
use Rattle.std.proofs.Math.Nat.{le_refl}
use Rattle.language.specs.Limits.{parameters_most}
use Rattle.language.specs.Syntax.{Expr, Exprs, enil, econs, File}
use Rattle.language.specs.Format.{expr_bytes, exprs_bytes}
use Rattle.language.specs.Scope.{Scope}
use Rattle.language.specs.Within.{All, WithinExprs, ws_nil, ws_cons}
use Rattle.language.specs.Heap.{Cell}
use Rattle.language.specs.Evaluator.{Out, value, refused, Outs, values, refused_all_of, first, rest, Channels, eval, evals, run}
use Rattle.theory.specs.CellWords.{Writable}
use Rattle.text.specs.declared.Cursor.{Cursor}
use Rattle.text.specs.Places.{past}
use Rattle.encoding.specs.Spells.{Spells}
use Rattle.encoding.specs.FrameLines.{line_at}
use Rattle.encoding.specs.ExprLists.{first-of-exprs}
use Rattle.heads.specs.PartLaws.{none-ends, more-ends}
use Rattle.index.specs.Sections.{frames_of}
use Rattle.index.specs.Indexed.{frame_place}
use Rattle.state_words.specs.Words.{row_of}
use Rattle.state_words.specs.Holds.{Holds}
use Rattle.ends.specs.Ended.{EndedAll, ds_cons}
use Rattle.ends.specs.EndOf.{end_of, end-told, end-least}
use Rattle.new_cells.specs.Steps.{Numbered, Agrees, is_value, is_refused, Kept, has_grown}
use Rattle.evaluation_steps.specs.declared.Context.{Context}
use Rattle.evaluation_steps.specs.Contexts.{moved_to}
use Rattle.evaluation_steps.specs.Promises.{Room, Below, Stage, Stands, StandsAll, cells_in, are_values, are_refused, goes_on, goes_out, EvalsAll}
use Rattle.evaluation_steps.specs.Asks.{EvalsExpr}
use Rattle.evaluation_steps.specs.KeepLaws.{Moved, moved_by, kept_then, below-same, below_then, stage-moved}

-- ---- what an answer says of the definition's
pub record Valued (P : File) (words' : List ℕ) (used' l : ℕ) (o : Out) : Type 0 where
  pub heap : List Cell
  pub is : o ≡ value l heap
  pub held : Holds words' used' heap
  pub writable : All (Writable P) heap

pub valued : {P : File} {words' : List ℕ} {x : Evaluated} {o : Out} {v : Value} → Agrees P words' x o → x ≡ Ok v → Valued P words' v.used v.cell o
valued {P} {words'} {x} {o} {v} a e = go (subst (λ r. Agrees P words' r o) e a)
  where
    go : {o : Out} → Agrees P words' (Ok v) o → Valued P words' v.used v.cell o
    go (is_value {h = h} held writable) = record { heap = h; is = refl; held = held; writable = writable }

-- a refusal, by the number that the definition gives it
pub record Unvalued (k : Refusal) (o : Out) : Type 0 where
  pub number : ℕ
  pub is : o ≡ refused number
  pub numbered : Numbered k number

pub not-valued : {P : File} {words' : List ℕ} {x : Evaluated} {o : Out} {k : Refusal} → Agrees P words' x o → x ≡ Err k → Unvalued k o
not-valued {P} {words'} {x} {o} {k} a e = go (subst (λ r. Agrees P words' r o) e a)
  where
    go : {o : Out} → Agrees P words' (Err k) o → Unvalued k o
    go (is_refused {m = m} n) = record { number = m; is = refl; numbered = n }

-- ---- cells before those of the rest
unfoldable before : List ℕ → Outs → Outs
before ls (values ms g) = values (ls ++ ms) g
before ls (refused_all_of k) = refused_all_of k

before-rest : (ls : List ℕ) (l : ℕ) (o : Outs) → before ls (rest l o) ≡ before (ls ++ (l ∷ [])) o
unfolding before rest
before-rest ls l (values ms g) = ap (λ (x : List ℕ). values x g) (sym (append_assoc ls (l ∷ []) ms))
before-rest ls l (refused_all_of k) = refl

before-none : (o : Outs) → o ≡ before [] o
unfolding before
before-none (values ms g) = refl
before-none (refused_all_of k) = refl

-- ---- a word more in the row
row_same : (f g : ℕ → ℕ) (n : ℕ) → ((j : ℕ) → j < n → f j ≡ g j) → row_of f n ≡ row_of g n
unfolding row_of
row_same f g zero each = refl
row_same f g (suc n) each = rw (row_same f g n (λ j less. each j (omega arith)), each n (omega arith))

row_more : (row : List ℕ) (i l : ℕ) → i < length row → cells_in (set row i l) (i + 1) ≡ cells_in row i ++ (l ∷ [])
unfolding row_of
row_more row i l less = rw (add-one) (rw (row_same (λ j. get_or (set row i l) j 0) (λ j. get_or row j 0) i (λ j low. get_or-set_other row i j l 0 (λ e. omega arith)), get_or-set_same row i l 0 less))

-- ---- the first of those left
record FirstOf (text index ends : List ℕ) (line : ℕ) (S : Scope) (at n : ℕ) (es : Exprs) : Type 0 where
  one : Expr
  others : Exprs
  is : es ≡ econs one others
  stands : Stands text index ends line S at one
  end : end_of ends (frame_place (frames_of index) line) at ≡ past (line_at text line) at (length (expr_bytes one))
  more : StandsAll text index ends line S (past (line_at text line) at (length (expr_bytes one))) (n - 1) others

first_of : {text index ends : List ℕ} {line : ℕ} {S : Scope} {at n : ℕ} {es : Exprs} → 0 < n → StandsAll text index ends line S at n es → FirstOf text index ends line S at n es
first_of {text} {index} {ends} {line} {S} {at} some s = go some s.within s.spelled s.ended s.few
  where
    go : {n : ℕ} {es : Exprs} → 0 < n → WithinExprs s.levels S n es → Spells exprs_bytes (line_at text line) at es → EndedAll ends (frame_place (frames_of index) line) (line_at text line) at es → n ≤ parameters_most →
        FirstOf text index ends line S at n es
    go more ws_nil y z few = absurd (omega arith)
    go more (ws_cons {m = m} {e = e} {es = es} w ws) y (ds_cons a d ds) few =
        let less : suc m - 1 ≡ m = omega arith in
        let two = first-of-exprs y in
        record {
          one = e;
          others = es;
          is = refl;
          stands = record { levels = s.levels; within = w; spelled = two.spelled; ended = d };
          end = end-told a;
          more = record { levels = s.levels; within = subst (λ k. WithinExprs s.levels S k es) (sym less) ws; few = omega arith; spelled = two.next; ended = ds };
        }

none_left : {levels n : ℕ} {S : Scope} {es : Exprs} → n ≡ 0 → WithinExprs levels S n es → es ≡ enil
none_left e ws_nil = refl
none_left e (ws_cons w ws) = absurd (omega arith)

-- ---- the turns
-- what is left, with the cells so far
record LeftOver (text index ends words₁ row₁ : List ℕ) (p : Context) (n : ℕ) (at₁ used₁ i : ℕ) (P : File) (cells : ℕ) (S : Scope) (N : Channels) (E : List ℕ) (s : ℕ) (h : List Cell) (es : Exprs) : Type 0 where
  done : List ℕ
  left : Exprs
  heap : List Cell
  stored : cells_in row₁ i ≡ done
  held : Holds words₁ used₁ heap
  writable : All (Writable P) heap
  stands : StandsAll text index ends p.line S at₁ (n - i) left
  behind : past (line_at text p.line) p.at.at (length (exprs_bytes es)) ≡ past (line_at text p.line) at₁ (length (exprs_bytes left))
  is : evals P (run P cells p.calls) cells N es E s h ≡ before done (evals P (run P cells p.calls) cells N left E s heap)

pub record Gathered (text index ends now words slots : List ℕ) (p : Context) (n : ℕ) (words₁ slots₁ row₁ : List ℕ) (at₁ : Cursor) (used₁ i : ℕ) : Type 0 where
  pub few : i ≤ n
  pub moved : Moved words p.used words₁ used₁
  pub below : Below p.top slots slots₁
  pub onward : p.at.at ≤ at₁.at
  says : {P : File} {cells : ℕ} {S : Scope} {N : Channels} {h : List Cell} {es : Exprs} → Stage text index ends now words p P cells S N h → StandsAll text index ends p.line S p.at.at n es →
      LeftOver text index ends words₁ row₁ p n at₁.at used₁ i P cells S N (take p.top slots) (length slots - p.top) h es

module _ (text index ends now words slots : List ℕ) (p : Context) (n : ℕ) where
  pub gathered_none : (row : List ℕ) → Room words slots p → Gathered text index ends now words slots p n words slots row p.at p.used 0
  unfolding row_of
  gathered_none row r = record {
    few = omega arith;
    moved = record { more = le_refl p.used; fits = r.board.fits; long = refl; low = refl; high = refl };
    below = below-same p.top slots;
    onward = le_refl p.at.at;
    says = λ {P} {cells} {S} {N} {h} {es} st s.
        let all : n - 0 ≡ n = omega arith in
        record {
          done = [];
          left = es;
          heap = h;
          stored = refl;
          held = st.lies.held;
          writable = st.lies.writable;
          stands = subst (λ k. StandsAll text index ends p.line S p.at.at k es) (sym all) s;
          behind = refl;
          is = before-none _;
        };
  }

  module _ {words₁ slots₁ row₁ : List ℕ} {at₁ : Cursor} {used₁ i : ℕ} (g : Gathered text index ends now words slots p n words₁ slots₁ row₁ at₁ used₁ i) where
    -- ---- one more
    module _ (some : i < n) {q : Context} (e : q ≡ moved_to p at₁ used₁) {x : Evaluated} {words₂ slots₂ : List ℕ} (v : EvalsExpr text index ends now words₁ slots₁ q x words₂ slots₂) where
      here : EvalsExpr text index ends now words₁ slots₁ (moved_to p at₁ used₁) x words₂ slots₂
      here = rw e at v

      both_below : Below p.top slots slots₂
      both_below = below_then g.below here.below (le_refl p.top)

      module _ {P : File} {cells : ℕ} {S : Scope} {N : Channels} {h : List Cell} {es : Exprs} (st : Stage text index ends now words p P cells S N h) (s : StandsAll text index ends p.line S p.at.at n es) where
        l : LeftOver text index ends words₁ row₁ p n at₁.at used₁ i P cells S N (take p.top slots) (length slots - p.top) h es
        l = g.says st s

        f : FirstOf text index ends p.line S at₁.at (n - i) l.left
        f = first_of (omega arith) l.stands

        answer : Agrees P words₂ x (eval P (run P cells p.calls) cells N f.one (take p.top slots) (length slots - p.top) l.heap)
        answer = here.says (stage-moved st g.moved at₁ l.held l.writable) (record {
          expr = f.one;
          stands = f.stands;
          is = ap (λ (E : List ℕ). eval P (run P cells p.calls) cells N f.one E (length slots - p.top) l.heap) (sym g.below.low) ∙
              ap (λ k. eval P (run P cells p.calls) cells N f.one (take p.top slots₁) (k - p.top) l.heap) (sym g.below.long);
        })

        opened : evals P (run P cells p.calls) cells N es (take p.top slots) (length slots - p.top) h ≡
            before l.done (first (eval P (run P cells p.calls) cells N f.one (take p.top slots) (length slots - p.top) l.heap) (λ c k. rest c (evals P (run P cells p.calls) cells N f.others (take p.top slots) (length slots - p.top) k)))
        unfolding evals
        opened = l.is ∙ ap (λ (z : Exprs). before l.done (evals P (run P cells p.calls) cells N z (take p.top slots) (length slots - p.top) l.heap)) f.is

      pub gathered-more : {u : Value} {row₂ : List ℕ} {at₂ : Cursor} → x ≡ Ok u → length row₁ ≡ parameters_most → row₂ ≡ set row₁ i u.cell → at₂.at ≡ end_of ends (frame_place (frames_of index) p.line) at₁.at →
          Gathered text index ends now words slots p n words₂ slots₂ row₂ at₂ u.used (i + 1)
      unfolding first
      gathered-more {u} {row₂} {at₂} d wide w a = record {
        few = omega arith;
        moved = moved_by (kept_then g.moved here.kept) d;
        below = both_below;
        onward = omega (arith, g.onward, a, end-least ends (frame_place (frames_of index) p.line) at₁.at);
        says = λ {P} {cells} {S} {N} {h} {es} st s.
            let k = l st s in
            let one = f st s in
            let value = valued (answer st s) d in
            let fewer : n - i - 1 ≡ n - (i + 1) = omega arith in
            let place : at₂.at ≡ past (line_at text p.line) at₁.at (length (expr_bytes one.one)) = a ∙ one.end in
            record {
              done = k.done ++ (u.cell ∷ []);
              left = one.others;
              heap = value.heap;
              stored = ap (λ (r : List ℕ). cells_in r (i + 1)) w ∙ row_more row₁ i u.cell (omega (arith, wide, s.few)) ∙ ap (λ (z : List ℕ). z ++ (u.cell ∷ [])) k.stored;
              held = value.held;
              writable = value.writable;
              stands = subst₂ (λ b c. StandsAll text index ends p.line S b c one.others) (sym place) fewer one.more;
              behind = k.behind ∙ ap (λ (z : Exprs). past (line_at text p.line) at₁.at (length (exprs_bytes z))) one.is ∙ more-ends (line_at text p.line) at₁.at one.one one.others ∙
                  ap (λ b. past (line_at text p.line) b (length (exprs_bytes one.others))) (sym place);
              is = opened st s ∙ ap (λ (z : Out). before k.done (first z (λ c b. rest c (evals P (run P cells p.calls) cells N one.others (take p.top slots) (length slots - p.top) b)))) value.is ∙
                  before-rest k.done u.cell _;
            };
      }

      -- ---- or a refusal
      pub gathered-refused : {k : Refusal} {r : EvaluatedAll} → x ≡ Err k → r ≡ Err k → EvalsAll text index ends now words slots p n r words₂ slots₂ row₁
      unfolding first before
      gathered-refused {k} {r} d q = rw q (record {
        says = λ {P} {cells} {S} {N} {h} {es} st s.
            let u = not-valued (answer st s) d in
            rw (opened st s ∙ ap (λ (z : Out). before (l st s).done (first z (λ c b. rest c (evals P (run P cells p.calls) cells N (f st s).others (take p.top slots) (length slots - p.top) b)))) u.is) (are_refused u.numbered);
        kept = subst (Kept words words₂ p.used) d (kept_then g.moved here.kept);
        below = both_below;
        onward = goes_out;
      })

    -- ---- all of them
    pub gathered-all : {r : EvaluatedAll} → n ≤ i → r ≡ Ok (record { used = used₁; next = at₁ }) → EvalsAll text index ends now words slots p n r words₁ slots₁ row₁
    unfolding evals before
    gathered-all {r} all q = rw q (record {
      says = λ {P} {cells} {S} {N} {h} {es} st s.
          let k = g.says st s in
          let none : k.left ≡ enil = none_left (omega arith) k.stands.within in
          let same : i ≡ n = omega (arith, g.few) in
          rw (k.is ∙ ap (λ (z : Exprs). before k.done (evals P (run P cells p.calls) cells N z (take p.top slots) (length slots - p.top) k.heap)) none)
          (are_values k.held k.writable (ap (cells_in row₁) (sym same) ∙ k.stored ∙ sym (append-nil k.done))
          (sym (k.behind ∙ ap (λ (z : Exprs). past (line_at text p.line) at₁.at (length (exprs_bytes z))) none ∙ none-ends (line_at text p.line) at₁.at)));
      kept = record { long = g.moved.long; low = g.moved.low; grown = has_grown g.moved.more g.moved.fits g.moved.high };
      below = g.below;
      onward = goes_on g.onward;
    })
