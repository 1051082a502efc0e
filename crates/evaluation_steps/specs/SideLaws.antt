-- An operator's own step, return by return: both sides' cells are there; the left side decides; the right side is refused, or evaluated.
use Rattle.std.specs.Prelude.{Ok, Err}
use Rattle.language.specs.declared.refusals.Refusal.{Refusal}
use Rattle.new_cells.specs.declared.Value.{Value}
use Rattle.new_cells.specs.Steps.{Evaluated}
use Rattle.std.specs.Prelude.{ℕ, ◌-◌, ◌≤◌, ◌<◌, List, Bool, true, false, ◌≡◌, refl, length, take}
use Rattle.std.proofs.Math.Path.{sym, ap}
use Rattle.std.proofs.Common.{◌∙◌}
use Rattle.language.specs.Codes.{operator_and}
use Rattle.language.specs.Syntax.{File}
use Rattle.language.specs.Scope.{Scope}
use Rattle.language.specs.Format.{bit}
use Rattle.language.specs.Heap.{kbool, Cell, leaf, truth, apply_op, decides, cell_at, constant_in}
use Rattle.language.specs.Evaluator.{Out, bind_out, alloc, Channels, eval, run}
use Rattle.state_words.specs.Holds.{Reads}
use Rattle.new_cells.specs.Steps.{Agrees, Gives}
use Rattle.new_cells.specs.Asked.{MakesBool, Decides, Operates}
use Rattle.evaluation_steps.specs.declared.Context.{Context}
use Rattle.evaluation_steps.specs.Operands.{choose-first, choose-second, right_side}
use Rattle.evaluation_steps.specs.Promises.{Stage}
use Rattle.evaluation_steps.specs.Asks.{AskOperator, EvalsExpr, EvalsOperator}
use Rattle.evaluation_steps.specs.KeepLaws.{Moved, moved_by, kept_then, below-same, stage-moved}
use Rattle.evaluation_steps.specs.ExprLaws.{agrees-refused}
use Rattle.evaluation_steps.specs.ArgumentLaws.{valued, not-valued}

module _ (text index ends now words slots : List ℕ) (p : Context) (o l m : ℕ) where
  pub operator-both : {a b : ℕ} {r : Evaluated} {words' : List ℕ} → o < operator_and → a ≡ l → b ≡ m → Gives words p.used (Operates o a b) r words' → EvalsOperator text index ends now words slots p o l m r words' slots
  operator-both {r = r} {words' = words'} low first second g = go (rw (first, second) at g)
    where
      go : Gives words p.used (Operates o l m) r words' → EvalsOperator text index ends now words slots p o l m r words' slots
      go g = record {
        says = λ st ask. g.says st.lies (record { op = ask.op; code = ask.code; is = ask.both low });
        kept = g.kept;
        below = below-same p.top slots;
      }

  module _ (high : operator_and ≤ o) {a : ℕ} (first : a ≡ l) {b : Bool} (test : Reads words p.used (λ h. truth (constant_in (cell_at h a))) b) {d : Bool} (decided : Decides o b d) where
    -- whether the definition's left side decides
    module _ {P : File} {cells : ℕ} {S : Scope} {N : Channels} {h : List Cell} {out : Out} (st : Stage text index ends now words p P cells S N h) (ask : AskOperator text index ends slots p o l m P cells S N h out) where
      holds : b ≡ truth (constant_in (cell_at h l))
      holds = test.says h st.lies.held ∙ ap (λ c. truth (constant_in (cell_at h c))) first

      same : d ≡ decides ask.op (truth (constant_in (cell_at h l)))
      same = decided.says ask.op ask.code ∙ ap (decides ask.op) holds

    pub operator-decided : {w : ℕ} {r : Evaluated} {words' : List ℕ} → d ≡ true → w ≡ bit b → Gives words p.used (MakesBool w) r words' → EvalsOperator text index ends now words slots p o l m r words' slots
    unfolding right_side
    operator-decided sure e g = record {
      says = λ {P} {cells} {S} {N} {h} st ask. g.says st.lies (record {
        truth = b;
        spelled = sym e;
        is = choose-first _ _ _ (ask.left high) (sym (same st ask) ∙ sure) ∙ ap (λ v. alloc cells h (leaf (kbool v))) (sym (holds st ask));
      });
      kept = g.kept;
      below = below-same p.top slots;
    }

    module _ (no : d ≡ false) {x : Evaluated} {words₁ slots₁ : List ℕ} (v : EvalsExpr text index ends now words slots p x words₁ slots₁) where
      module _ {P : File} {cells : ℕ} {S : Scope} {N : Channels} {h : List Cell} {out : Out} (st : Stage text index ends now words p P cells S N h) (ask : AskOperator text index ends slots p o l m P cells S N h out) where
        right : Agrees P words₁ x (eval P (run P cells p.calls) cells N ask.second (take p.top slots) (length slots - p.top) h)
        right = v.says st (record { expr = ask.second; stands = ask.stands high; is = refl })

        split : out ≡ bind_out (eval P (run P cells p.calls) cells N ask.second (take p.top slots) (length slots - p.top) h) (λ j i. alloc cells i (leaf (apply_op ask.op (constant_in (cell_at i l)) (constant_in (cell_at i j)))))
        unfolding right_side
        split = choose-second _ _ _ (ask.left high) (sym (same st ask) ∙ no)

      pub operator-refused : {n : Refusal} {r : Evaluated} → x ≡ Err n → r ≡ x → EvalsOperator text index ends now words slots p o l m r words₁ slots₁
      unfolding bind_out
      operator-refused e q = rw q (record {
        says = λ {P} {cells} st ask.
            let u = not-valued (right st ask) e in
            agrees-refused u.numbered e (split st ask ∙ ap (λ (z : Out). bind_out z (λ j i. alloc cells i (leaf (apply_op ask.op (constant_in (cell_at i l)) (constant_in (cell_at i j)))))) u.is);
        kept = v.kept;
        below = v.below;
      })

      pub operator-done : {y : Value} {r : Evaluated} {words₂ : List ℕ} → x ≡ Ok y → Gives words₁ y.used (Operates o a y.cell) r words₂ → EvalsOperator text index ends now words slots p o l m r words₂ slots₁
      unfolding bind_out
      operator-done {y} {r} {words₂} e g = go (rw first at g)
        where
          moved : Moved words p.used words₁ y.used
          moved = moved_by v.kept e

          go : Gives words₁ y.used (Operates o l y.cell) r words₂ → EvalsOperator text index ends now words slots p o l m r words₂ slots₁
          go g = record {
            says = λ {P} {cells} st ask.
                let u = valued (right st ask) e in
                g.says (stage-moved st moved p.at u.held u.writable).lies (record {
                  op = ask.op;
                  code = ask.code;
                  is = split st ask ∙ ap (λ (z : Out). bind_out z (λ j i. alloc cells i (leaf (apply_op ask.op (constant_in (cell_at i l)) (constant_in (cell_at i j)))))) u.is;
                });
            kept = kept_then moved g.kept;
            below = v.below;
          }
