-- What a form makes of its operands' cells, return by return.
use Rattle.std.specs.Prelude.{Ok, Err}
use Rattle.language.specs.declared.refusals.Refusal.{Refusal}
use Rattle.new_cells.specs.Steps.{Evaluated}
use Rattle.std.specs.Prelude.{ℕ, ◌-◌, ◌≤◌, ◌<◌, false, get_or, take, ltb, leb}
use mathlib.Core.List.{List, [], ◌∷◌, ◌++◌}
use Rattle.std.proofs.Math.Path.{◌≡◌, refl, sym, ap, subst}
use Rattle.std.proofs.Common.{◌∙◌, arith, le-leb}
use Rattle.std.proofs.Math.ListN.{length}
use Rattle.std.proofs.lemmas.Bool.{lt-leb}
use Rattle.language.specs.Codes.{operator_and}
use Rattle.language.specs.Refusals.{environment_spent}
use Rattle.language.specs.Result.{choose}
use Rattle.language.specs.Syntax.{TypeDef, Expr, Exprs, enil, econs, File}
use Rattle.language.specs.Format.{op_code, expr_bytes, exprs_bytes, result_bytes}
use Rattle.language.specs.Scope.{Scope}
use Rattle.language.specs.Heap.{Cell, leaf, truth, apply_op, cell_at, constant_in, constructor_in, size_in, fields_in}
use Rattle.language.specs.Evaluator.{Out, value, needs, alloc, Channels, arity, parameter_count, eval, eval_branch, run}
use Rattle.theory.specs.Lists.{false-is-not-true}
use Rattle.text.specs.Places.{past}
use Rattle.encoding.specs.Spells.{Spells}
use Rattle.encoding.specs.FrameLines.{line_at}
use Rattle.encoding.specs.ExprLists.{expr_count, exprs-counted}
use Rattle.heads.specs.declared.Form.{Form}
use Rattle.heads.specs.declared.Form.TheVariants.{Let, If, Operator, Call, Construct, Case, Adjust, Fit}
use Rattle.heads.specs.Heads.{shown, has_parts}
use Rattle.heads.specs.HeadForms.{let-head, if-head, op-head, call-head, con-head, case-head, adj-head, fit-head}
use Rattle.heads.specs.PartLaws.{one-ends}
use Rattle.index.specs.Sections.{frames_of}
use Rattle.index.specs.Indexed.{frame_place}
use Rattle.state_words.specs.RowLaws.{row_at}
use Rattle.ends.specs.Ended.{EndAt}
use Rattle.new_cells.specs.Steps.{Gives}
use Rattle.new_cells.specs.Asked.{Constructs}
use Rattle.evaluation_steps.specs.declared.Context.{Context}
use Rattle.evaluation_steps.specs.Operands.{the_operands_of, choose-first, choose-second, right_side, finished}
use Rattle.evaluation_steps.specs.Promises.{Room, Stage, Stands, Asked, Evals, cells_in}
use Rattle.evaluation_steps.specs.Asks.{AskFinish, Finishes, EvalsBound, EvalsOperator, EvalsChoice, EvalsFit, EvalsBranch, EvalsBody}
use Rattle.evaluation_steps.specs.KeepLaws.{below-same}
use Rattle.evaluation_steps.specs.ExprLaws.{agrees-value, kept-is, kept-not}
use Rattle.evaluation_steps.specs.PartLaws.{let-ended, if-ended, op-ended, case-ended, fit-ended, left_alone, both-sides, first-end, first_ended, others-ended, ended-as, ended_at}

-- ---- at an equal place
stands_at : {text index ends : List ℕ} {line at m : ℕ} {S : Scope} {e : Expr} → at ≡ m → Stands text index ends line S m e → Stands text index ends line S at e
stands_at {text} {index} {ends} {line} {S = S} {e = e} q s = subst (λ m. Stands text index ends line S m e) (sym q) s

spelled_at : {A : Type 0} {bytes : A → List ℕ} {line : List ℕ} {at m : ℕ} {a : A} → at ≡ m → Spells bytes line m a → Spells bytes line at a
spelled_at {bytes = bytes} {line = line} {a = a} q s = subst (λ m. Spells bytes line m a) (sym q) s

module _ (text index ends now words slots : List ℕ) (p : Context) (row : List ℕ) (n : ℕ) where
  -- the form is known: what it is asked for, in its own words
  as-form : {form f : Form} {r : Evaluated} {words' slots' : List ℕ} → form ≡ f → Finishes text index ends now words slots p f row n r words' slots' → Finishes text index ends now words slots p form row n r words' slots'
  as-form {r = r} {words' = words'} {slots' = slots'} e v = rw e v

  -- a function of the cycle answers
  by_part : {form : Form} {X : Asked} {r : Evaluated} {words' slots' : List ℕ} → Evals text index ends now words slots p X r words' slots' →
      ((P : File) (cells : ℕ) (S : Scope) (N : Channels) (h : List Cell) (o : Out) → Stage text index ends now words p P cells S N h → AskFinish text index ends slots p form row n P cells S N h o → X P cells S N h o) →
      Finishes text index ends now words slots p form row n r words' slots'
  by_part v ask = record { says = λ {P} {cells} {S} {N} {h} {o} st x. v.says st (ask P cells S N h o st x); kept = v.kept; below = v.below }

  -- a new cell is made
  by-cell : {form : Form} {asked : File → ℕ → List Cell → Out → Type 0} {r : Evaluated} {words' : List ℕ} → Gives words p.used asked r words' →
      ((P : File) (cells : ℕ) (S : Scope) (N : Channels) (h : List Cell) (o : Out) → Stage text index ends now words p P cells S N h → AskFinish text index ends slots p form row n P cells S N h o → asked P cells h o) →
      Finishes text index ends now words slots p form row n r words' slots
  by-cell g ask = record { says = λ {P} {cells} {S} {N} {h} {o} st x. g.says st.lies (ask P cells S N h o st x); kept = g.kept; below = below-same p.top slots }

  module _ {form : Form} {P : File} {cells : ℕ} {S : Scope} {N : Channels} {h : List Cell} {o : Out} (ask : AskFinish text index ends slots p form row n P cells S N h o) where
    -- of the whole that is known
    is-finished : {whole : Expr} → ask.expr ≡ whole → o ≡ finished P (run P cells p.calls) cells N whole (take p.top slots) (length slots - p.top) (cells_in row n) h
    is-finished q = ask.is ∙ ap (λ (a : Expr). finished P (run P cells p.calls) cells N a (take p.top slots) (length slots - p.top) (cells_in row n) h) q

    counted : {es : Exprs} → the_operands_of ask.expr ≡ es → expr_count es ≡ n
    counted q = ap expr_count (sym q) ∙ ask.count

    behind-one : {a : Expr} → the_operands_of ask.expr ≡ econs a enil → (form ≡ Adjust → ⊥) → p.at.at ≡ past (line_at text p.line) ask.next.at (length (expr_bytes a))
    behind-one {a} q other =
        ask.behind other ∙ ap (λ (es : Exprs). past (line_at text p.line) ask.next.at (length (exprs_bytes es))) q ∙ one-ends (line_at text p.line) ask.next.at a

  -- the cell of an operand
  cell-at : (j : ℕ) → j < n → get_or (cells_in row n) j 0 ≡ get_or row j 0
  cell-at j less = row_at (λ i. get_or row i 0) n j less

  -- the first operand's cell, of a form that has one
  first_cell : {l : ℕ} → l ≡ get_or row 0 0 → 1 ≡ n → l ≡ get_or (cells_in row n) 0 0
  first_cell w one = w ∙ sym (cell-at 0 (omega arith))

  pub finish-adjust : {form : Form} {l : ℕ} {r : Evaluated} → Room words slots p → form ≡ Adjust → l ≡ get_or row 0 0 → r ≡ Ok (record { cell = l; used = p.used }) → Finishes text index ends now words slots p form row n r words slots
  unfolding finished the_operands_of expr_count
  finish-adjust {l = l} {r = r} room e w q = as-form e (record {
    says = λ {P} {cells} {S} {N} {h} st ask.
        let y = adj-head ask.heads ask.stands.spelled ask.stands.within refl in
        agrees-value st.lies q (is-finished ask y.is ∙ ap (λ m. value m h) (sym (first_cell w (counted ask (ap the_operands_of y.is)))));
    kept = kept-is room.board q;
    below = below-same p.top slots;
  })

  pub finish-operator : {form : Form} {o l m : ℕ} {r : Evaluated} {words' slots' : List ℕ} → form ≡ Operator o → l ≡ get_or row 0 0 → m ≡ get_or row 1 0 → EvalsOperator text index ends now words slots p o l m r words' slots' →
      Finishes text index ends now words slots p form row n r words' slots'
  unfolding finished expr_count
  finish-operator {o = o} {l = l} {m = m} e w x v = as-form e (by_part v (λ P cells S N h out st ask.
      let y = op-head ask.heads ask.stands.spelled ask.stands.within refl in
      let one : operator_and ≤ o → the_operands_of ask.expr ≡ econs y.first enil = λ high. ap the_operands_of y.is ∙ left_alone y.op _ _ (omega (arith, y.code)) in
      let two : o < operator_and → 2 ≡ n = λ low. counted ask (ap the_operands_of y.is ∙ both-sides y.op _ _ (omega (arith, y.code))) in
      record {
        op = y.op;
        code = y.code;
        second = y.second;
        stands = λ high. stands_at (behind-one ask (one high) (λ z. let x : ◌≡◌ {A = ℕ} 0 1 = cc in omega arith)) (record {
          levels = y.left;
          within = y.within₂;
          spelled = y.spelled₂;
          ended = first_ended (others-ended (ended_at (shown ask.heads refl).0.ends (op-ended (ended-as _ ask.stands y.is))));
        });
        left = λ high. choose-first _ _ _ (is-finished ask y.is) (le-leb operator_and (op_code y.op) (omega (arith, y.code))) ∙
            ap (λ a. right_side P (run P cells p.calls) cells N y.op y.second (take p.top slots) (length slots - p.top) a h) (sym (first_cell w (counted ask (one high))));
        both = λ low. choose-second _ _ _ (is-finished ask y.is) (lt-leb operator_and (op_code y.op) (omega (arith, y.code))) ∙
            ap (λ a. alloc cells h (leaf (apply_op y.op (constant_in (cell_at h a)) (constant_in (cell_at h (get_or (cells_in row n) 1 0)))))) (cell-at 0 (omega (arith, two low)) ∙ sym w) ∙
            ap (λ a. alloc cells h (leaf (apply_op y.op (constant_in (cell_at h l)) (constant_in (cell_at h a))))) (cell-at 1 (omega (arith, two low)) ∙ sym x);
      }))

  pub finish-construct : {form : Form} {t c : ℕ} {r : Evaluated} {words' : List ℕ} → form ≡ Construct t c → Gives words p.used (Constructs index row t c n) r words' → Finishes text index ends now words slots p form row n r words' slots
  unfolding finished the_operands_of
  finish-construct {t = t} {c = c} e g = as-form e (by-cell g (λ P cells S N h o st ask.
      let y = con-head ask.heads ask.stands.spelled ask.stands.within refl in
      record {
        ls = cells_in row n;
        applied = record {
          text = text;
          indexed = st.indexed;
          known = rw st.known.types at y.less₂;
          count = sym (counted ask (ap the_operands_of y.is)) ∙ exprs-counted y.within ∙ ap (λ (ts : List TypeDef). length (get_or (get_or ts t []) c [])) st.known.types;
          given = refl;
        };
        is = is-finished ask y.is;
      }))

  pub finish-call : {form : Form} {f : ℕ} {r : Evaluated} {words' slots' : List ℕ} → form ≡ Call f → EvalsBody text index ends now words slots p f row n r words' slots' → Finishes text index ends now words slots p form row n r words' slots'
  unfolding finished the_operands_of parameter_count
  finish-call {f = f} e v = as-form e (by_part v (λ P cells S N h o st ask.
      let y = call-head ask.heads ask.stands.spelled ask.stands.within refl in
      let takes = st.known.functions f y.less in
      let many : n ≡ length takes.function.parameters = sym (counted ask (ap the_operands_of y.is)) ∙ exprs-counted y.within ∙ takes.arity in
      let same : arity P f ≡ n = ap parameter_count takes.is ∙ sym many in
      record {
        function = takes.function;
        there = takes.is;
        count = many;
        is = is-finished ask y.is ∙ ap (λ k. run P cells p.calls f (cells_in row n) (length slots - p.top - k) h) same;
      }))

  pub finish-let : {form : Form} {l : ℕ} {r : Evaluated} {words' slots' : List ℕ} → form ≡ Let → l ≡ get_or row 0 0 → EvalsBound text index ends now words slots p l r words' slots' → Finishes text index ends now words slots p form row n r words' slots'
  unfolding finished the_operands_of expr_count
  finish-let {l = l} e w v = as-form e (by_part v (λ P cells S N h o st ask.
      let y = let-head ask.heads ask.stands.spelled ask.stands.within refl in
      let place = behind-one ask (ap the_operands_of y.is) (λ z. let x : ◌≡◌ {A = ℕ} 0 1 = cc in omega arith) in
      let ended = ended_at (shown ask.heads refl).ends (let-ended (ended-as _ ask.stands y.is)) in
      let cell = first_cell w (counted ask (ap the_operands_of y.is)) in
      record {
        second = y.second;
        stands = stands_at place (record { levels = y.left; within = y.within₂; spelled = y.spelled₂; ended = first_ended (others-ended ended) });
        is = is-finished ask y.is ∙ ap (λ a. needs (ltb 0 (length slots - p.top)) environment_spent (eval P (run P cells p.calls) cells N y.second (take p.top slots ++ (a ∷ [])) (length slots - p.top - 1) h)) (sym cell);
      }))

  pub finish-if : {form : Form} {l : ℕ} {r : Evaluated} {words' slots' : List ℕ} → form ≡ If → l ≡ get_or row 0 0 → EvalsChoice text index ends now words slots p l r words' slots' → Finishes text index ends now words slots p form row n r words' slots'
  unfolding finished the_operands_of expr_count
  finish-if {l = l} e w v = as-form e (by_part v (λ P cells S N h o st ask.
      let y = if-head ask.heads ask.stands.spelled ask.stands.within refl in
      let place = behind-one ask (ap the_operands_of y.is) (λ z. let x : ◌≡◌ {A = ℕ} 0 1 = cc in omega arith) in
      let ended = ended_at place (others-ended (ended_at (shown ask.heads refl).ends (if-ended (ended-as _ ask.stands y.is)))) in
      let cell = first_cell w (counted ask (ap the_operands_of y.is)) in
      record {
        second = y.second;
        third = y.third;
        stands = record { levels = y.left; within = y.within₂; spelled = spelled_at place y.spelled₂; ended = first_ended ended };
        end = first-end ended;
        stands₂ = record { levels = y.left; within = y.within₃; spelled = spelled_at (ap (λ m. past (line_at text p.line) m (length (expr_bytes y.second))) place) y.spelled₃; ended = first_ended (others-ended ended) };
        is = is-finished ask y.is ∙ ap (λ a. choose (truth (constant_in (cell_at h a))) (eval P (run P cells p.calls) cells N y.second (take p.top slots) (length slots - p.top) h) (eval P (run P cells p.calls) cells N y.third (take p.top slots) (length slots - p.top) h)) (sym cell);
      }))

  pub finish-fit : {form : Form} {k l : ℕ} {r : Evaluated} {words' slots' : List ℕ} → form ≡ Fit k → l ≡ get_or row 0 0 → EvalsFit text index ends now words slots p k l r words' slots' → Finishes text index ends now words slots p form row n r words' slots'
  unfolding finished the_operands_of expr_count
  finish-fit {k = k} {l = l} e w v = as-form e (by_part v (λ P cells S N h o st ask.
      let y = fit-head ask.heads ask.stands.spelled ask.stands.within refl in
      let place = behind-one ask (ap the_operands_of y.is) (λ z. let x : ◌≡◌ {A = ℕ} 0 1 = cc in omega arith) in
      let ended = ended_at place (others-ended (ended_at (shown ask.heads refl).0.ends (fit-ended (ended-as _ ask.stands y.is)))) in
      let cell = first_cell w (counted ask (ap the_operands_of y.is)) in
      record {
        second = y.second;
        third = y.third;
        stands = record { levels = y.left; within = y.within₂; spelled = spelled_at place y.spelled₂; ended = first_ended ended };
        end = first-end ended;
        stands₂ = record { levels = y.left; within = y.within₃; spelled = spelled_at (ap (λ m. past (line_at text p.line) m (length (expr_bytes y.second))) place) y.spelled₃; ended = first_ended (others-ended ended) };
        is = is-finished ask y.is ∙ ap (λ a. choose (leb (size_in (cell_at h a)) k)
            (needs (ltb 0 (length slots - p.top)) environment_spent (eval P (run P cells p.calls) cells N y.second (take p.top slots ++ (a ∷ [])) (length slots - p.top - 1) h))
            (eval P (run P cells p.calls) cells N y.third (take p.top slots) (length slots - p.top) h)) (sym cell);
      }))

  pub finish-case : {form : Form} {t l : ℕ} {r : Evaluated} {words' slots' : List ℕ} → form ≡ Case t → l ≡ get_or row 0 0 → EvalsBranch text index ends now words slots p t l r words' slots' → Finishes text index ends now words slots p form row n r words' slots'
  unfolding finished the_operands_of expr_count
  finish-case {t = t} {l = l} e w v = as-form e (by_part v (λ P cells S N h o st ask.
      let y = case-head ask.heads ask.stands.spelled ask.stands.within refl in
      let start = (shown ask.heads refl).0.ends in
      let place = behind-one ask (ap the_operands_of y.is) (λ z. let x : ◌≡◌ {A = ℕ} 0 1 = cc in omega arith) in
      let here : p.at.at ≡ past (line_at text p.line) (past (line_at text p.line) ask.at 2) (length (expr_bytes y.first)) = place ∙ ap (λ m. past (line_at text p.line) m (length (expr_bytes y.first))) start in
      let d = case-ended (ended-as _ ask.stands y.is) in
      let cell = first_cell w (counted ask (ap the_operands_of y.is)) in
      record {
        result = y.result;
        branches = y.branches;
        levels = y.left;
        less = y.less;
        end = subst (λ m. EndAt result_bytes ends (frame_place (frames_of index) p.line) (line_at text p.line) m y.result) (sym here) d.result;
        within = y.within₃;
        spelled = spelled_at (ap (λ m. past (line_at text p.line) m (length (result_bytes y.result))) place) y.spelled₃;
        ended = ended_at (ap (λ m. past (line_at text p.line) m (length (result_bytes y.result))) here) d.branches;
        is = is-finished ask y.is ∙ ap (λ a. eval_branch P (run P cells p.calls) cells N y.branches (constructor_in (cell_at h a)) (fields_in (cell_at h a)) (take p.top slots) (length slots - p.top) h) (sym cell);
      }))

  -- a form without parts has no operands
  pub finish-none : {form : Form} {k : Refusal} {r : Evaluated} → has_parts form ≡ false → r ≡ Err k → Finishes text index ends now words slots p form row n r words slots
  finish-none none q = record { says = λ st ask. false-is-not-true (sym none ∙ ask.compound); kept = kept-not q; below = below-same p.top slots }
