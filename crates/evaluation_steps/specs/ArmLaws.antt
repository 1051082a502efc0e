-- The second part of a let, and the arms of an if and of a fit, return by return.
use Rattle.std.specs.Prelude.{Err}
use Rattle.language.specs.declared.refusals.Refusal.TheVariants.{EnvironmentSpent}
use Rattle.new_cells.specs.Steps.{Evaluated, by_number}
use Rattle.std.specs.Prelude.{ℕ, ◌+◌, ◌-◌, ◌≤◌, ◌<◌, List, [], ◌∷◌, ◌++◌, Bool, true, false, ◌≡◌, refl, length, take, set}
use Rattle.std.proofs.Common.{sym, ap, ◌∙◌, subst, arith, add-one, length-set, take-suc-set, lt-ltb, le-ltb, le-leb}
use Rattle.std.proofs.lemmas.List.{take-set-le}
use Rattle.std.proofs.lemmas.Bool.{lt-leb}
use Rattle.language.specs.Syntax.{File}
use Rattle.language.specs.Scope.{Scope, wider}
use Rattle.language.specs.Heap.{Cell, truth, cell_at, constant_in, size_in}
use Rattle.language.specs.Evaluator.{Out, Channels, eval, run}
use Rattle.text.specs.declared.Cursor.{Cursor}
use Rattle.encoding.specs.Known.{wider-known}
use Rattle.index.specs.Sections.{frames_of}
use Rattle.index.specs.Indexed.{frame_place}
use Rattle.state_words.specs.Holds.{Reads}
use Rattle.ends.specs.EndOf.{end_of, end-told}
use Rattle.evaluation_steps.specs.declared.Context.{Context}
use Rattle.evaluation_steps.specs.Operands.{choose-first, choose-second, needs-met, needs-unmet}
use Rattle.evaluation_steps.specs.Contexts.{moved_to, bound_to}
use Rattle.evaluation_steps.specs.Promises.{Below, Stage, Stands, Asked, Evals}
use Rattle.evaluation_steps.specs.Asks.{AskExpr, EvalsExpr, EvalsBound, EvalsChoice, EvalsFit}
use Rattle.evaluation_steps.specs.KeepLaws.{below-same, below_then}
use Rattle.evaluation_steps.specs.ExprLaws.{agrees-refused, kept-not, stage_at}

-- ---- more in the environment
pub stage-wider : {text index ends now words : List ℕ} {p : Context} {P : File} {cells : ℕ} {S : Scope} {N : Channels} {h : List Cell} (c : Cursor) (n v s : ℕ) → Stage text index ends now words p P cells S N h →
    Stage text index ends now words (bound_to p c n) P cells (wider v s S) N h
unfolding wider
stage-wider c n v s st = record { indexed = st.indexed; told = st.told; less = st.less; known = wider-known v s st.known; now_cells = st.now_cells; last_cells = st.last_cells; few = st.few; lies = st.lies }

pub one-bound : (slots : List ℕ) (top l : ℕ) → top < length slots → take (top + 1) (set slots top l) ≡ take top slots ++ (l ∷ [])
one-bound slots top l less = rw (add-one) (take-suc-set slots top l less)

pub below_one : (slots : List ℕ) (top l : ℕ) → Below top slots (set slots top l)
below_one slots top l = record { low = take-set-le top slots top l (omega arith); long = length-set slots top l }

module _ (text index ends now words slots : List ℕ) (p : Context) (l : ℕ) where
  -- ---- `15`
  pub bound-full : {r : Evaluated} → length slots ≤ p.top → r ≡ Err EnvironmentSpent → EvalsBound text index ends now words slots p l r words slots
  bound-full full q = record {
    says = λ st ask. agrees-refused by_number q (needs-unmet _ _ _ ask.is (le-ltb 0 (length slots - p.top) (omega arith)));
    kept = kept-not q;
    below = below-same p.top slots;
  }

  pub bound-done : {q : Context} {r : Evaluated} {slots₁ words' slots₂ : List ℕ} → p.top < length slots → slots₁ ≡ set slots p.top l → q ≡ bound_to p p.at 1 → EvalsExpr text index ends now words slots₁ q r words' slots₂ →
      EvalsBound text index ends now words slots p l r words' slots₂
  bound-done {r = r} {words' = words'} {slots₂ = slots₂} free e f v = go (rw (e, f) at v)
    where
      go : EvalsExpr text index ends now words (set slots p.top l) (bound_to p p.at 1) r words' slots₂ → EvalsBound text index ends now words slots p l r words' slots₂
      go v = record {
        says = λ {P} {cells} {S} {N} {h} st ask. v.says (stage-wider p.at 1 1 0 st) (record {
          expr = ask.second;
          stands = ask.stands;
          is = needs-met _ _ _ ask.is (lt-ltb 0 (length slots - p.top) (omega arith)) ∙
              ap (λ (E : List ℕ). eval P (run P cells p.calls) cells N ask.second E (length slots - p.top - 1) h) (sym (one-bound slots p.top l free)) ∙
              ap (λ s. eval P (run P cells p.calls) cells N ask.second (take (p.top + 1) (set slots p.top l)) s h) (fewer (length-set slots p.top l));
        });
        kept = v.kept;
        below = below_then (below_one slots p.top l) v.below (omega arith);
      }
        where
          fewer : {n : ℕ} → n ≡ length slots → length slots - p.top - 1 ≡ n - (p.top + 1)
          fewer same = omega arith

  -- ---- `16`
  -- an arm, at its own place
  at-arm : {X : Asked} {q : Context} {c : Cursor} {r : Evaluated} {words' slots' : List ℕ} → q ≡ moved_to p c p.used → EvalsExpr text index ends now words slots q r words' slots' →
      ((P : File) (cells : ℕ) (S : Scope) (N : Channels) (h : List Cell) (o : Out) → Stage text index ends now words p P cells S N h → X P cells S N h o → AskExpr text index ends slots (moved_to p c p.used) P cells S N h o) →
      Evals text index ends now words slots p X r words' slots'
  at-arm {X} {q} {c} {r} {words'} {slots'} e v ask = go (rw e at v)
    where
      go : EvalsExpr text index ends now words slots (moved_to p c p.used) r words' slots' → Evals text index ends now words slots p X r words' slots'
      go v = record { says = λ {P} {cells} {S} {N} {h} {o} st x. v.says (stage_at c st) (ask P cells S N h o st x); kept = v.kept; below = v.below }

  module _ {b : Bool} (test : Reads words p.used (λ h. truth (constant_in (cell_at h l))) b) {r : Evaluated} {words' slots' : List ℕ} where
    pub choice-second : b ≡ true → EvalsExpr text index ends now words slots p r words' slots' → EvalsChoice text index ends now words slots p l r words' slots'
    choice-second right v = at-arm {c = p.at} refl v (λ P cells S N h o st ask. record {
      expr = ask.second;
      stands = ask.stands;
      is = choose-first _ _ _ ask.is (sym (test.says h st.lies.held) ∙ right);
    })

    pub choice-third : {q : Context} {third : Cursor} → b ≡ false → third.at ≡ end_of ends (frame_place (frames_of index) p.line) p.at.at → q ≡ moved_to p third p.used → EvalsExpr text index ends now words slots q r words' slots' →
        EvalsChoice text index ends now words slots p l r words' slots'
    choice-third wrong w e v = at-arm e v (λ P cells S N h o st ask. record {
      expr = ask.third;
      stands = subst (λ m. Stands text index ends p.line S m ask.third) (sym (w ∙ end-told ask.end)) ask.stands₂;
      is = choose-second _ _ _ ask.is (sym (test.says h st.lies.held) ∙ wrong);
    })

  -- ---- `1C`
  module _ {k m : ℕ} (size : Reads words p.used (λ h. size_in (cell_at h l)) m) {r : Evaluated} {words' slots' : List ℕ} where
    pub fit-second : m ≤ k → EvalsBound text index ends now words slots p l r words' slots' → EvalsFit text index ends now words slots p k l r words' slots'
    fit-second small v = record {
      says = λ {P} {cells} {S} {N} {h} st ask. v.says st (record {
        second = ask.second;
        stands = ask.stands;
        is = choose-first _ _ _ ask.is (le-leb (size_in (cell_at h l)) k (subst (λ z. z ≤ k) (size.says h st.lies.held) small));
      });
      kept = v.kept;
      below = v.below;
    }

    pub fit-third : {q : Context} {third : Cursor} → k < m → third.at ≡ end_of ends (frame_place (frames_of index) p.line) p.at.at → q ≡ moved_to p third p.used → EvalsExpr text index ends now words slots q r words' slots' →
        EvalsFit text index ends now words slots p k l r words' slots'
    fit-third large w e v = at-arm e v (λ P cells S N h o st ask. record {
      expr = ask.third;
      stands = subst (λ m. Stands text index ends p.line S m ask.third) (sym (w ∙ end-told ask.end)) ask.stands₂;
      is = choose-second _ _ _ ask.is (lt-leb (size_in (cell_at h l)) k (subst (λ z. k < z) (size.says h st.lies.held) large));
    })
