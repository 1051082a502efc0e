-- The branch of a cell's constructor, return by return.
use Rattle.std.specs.Prelude.{Err}
use Rattle.language.specs.declared.refusals.Refusal.{Refusal}
use Rattle.language.specs.declared.refusals.Refusal.TheVariants.{Unnamed, EnvironmentSpent}
use Rattle.new_cells.specs.Steps.{Evaluated, by_number}
use Prim.Native.Nat.{ℕ, zero, suc, ◌+◌, ◌-◌, ◌*◌, ◌%◌, ◌≤◌, ◌<◌}
use Rattle.std.specs.Prelude.{List, ◌++◌, ◌≡◌, refl, get_or, take, leb}
use Rattle.std.proofs.Common.{sym, ◌∙◌, arith, le-leb}
use Rattle.std.proofs.Math.Path.{ap, subst}
use Rattle.std.proofs.Math.ListN.{length, get_or-eq_default}
use Rattle.std.proofs.lemmas.Bool.{lt-leb}
use Rattle.language.specs.Limits.{byte_range}
use Rattle.language.specs.Refusals.{no_refusal, environment_spent}
use Rattle.language.specs.Syntax.{owns, Constructor, Expr, Exprs, enil, econs, File}
use Rattle.language.specs.Format.{expr_bytes, exprs_bytes, result_bytes}
use Rattle.language.specs.Scope.{Scope, wider}
use Rattle.language.specs.Within.{All, WithinBranches, wb_nil, wb_cons}
use Rattle.language.specs.Heap.{kbool, Cell, leaf, cell_at, constructor_in, fields_in}
use Rattle.language.specs.Evaluator.{Out, refused, needs, Body, Channels, eval, eval_branch, run}
use Rattle.theory.specs.Alls.{all_get_d}
use Rattle.theory.specs.Places.{below_or_not}
use Rattle.theory.specs.CellWords.{Writable, bool_writable}
use Rattle.text.specs.declared.Cursor.{Cursor}
use Rattle.text.specs.Places.{past}
use Rattle.encoding.specs.Spells.{Spells}
use Rattle.encoding.specs.FrameLines.{line_at}
use Rattle.encoding.specs.ExprLists.{expr_count, branches-counted, first-of-exprs}
use Rattle.heads.specs.ScopeShapes.{known-shapes}
use Rattle.index.specs.Tables.{type_words}
use Rattle.index.specs.Sections.{frames_of, types_of}
use Rattle.index.specs.Indexed.{frame_place}
use Rattle.state_words.specs.Holds.{ReadsConstructor, ReadsCount}
use Rattle.state_words.specs.ReadLaws.{few-fields}
use Rattle.ends.specs.Ended.{EndedAll, ds_cons}
use Rattle.ends.specs.EndOf.{end_of, end-told}
use Rattle.evaluation_steps.specs.declared.Context.{Context}
use Rattle.evaluation_steps.specs.Operands.{needs-met, needs-unmet}
use Rattle.evaluation_steps.specs.Contexts.{bound_to}
use Rattle.evaluation_steps.specs.Forms.{end_after}
use Rattle.evaluation_steps.specs.Promises.{Stage, Stands}
use Rattle.evaluation_steps.specs.Asks.{AskBranch, EvalsExpr, EvalsBranch}
use Rattle.evaluation_steps.specs.Slots.{Pushed, FieldOf, pushed-after, pushed-below, pushed_long, fields-are}
use Rattle.evaluation_steps.specs.KeepLaws.{below-same, below_then}
use Rattle.evaluation_steps.specs.ExprLaws.{agrees-refused, kept-not}
use Rattle.evaluation_steps.specs.ArmLaws.{stage-wider}

-- ---- every cell of the heap is one of the file's, that beyond it a Bool
cell-writable : {P : File} {h : List Cell} (l : ℕ) → All (Writable P) h → Writable P (cell_at h l)
cell-writable {P} {h} l w = below_or_not l (length h) (λ less. all_get_d w l (leaf (kbool _)) less) (λ beyond. subst (Writable P) (sym (get_or-eq_default h (leaf (kbool _)) beyond)) bool_writable)

-- ---- beyond the branches
branch-none : (P : File) (B : Body) (cells : ℕ) (N : Channels) (bs : Exprs) (c : ℕ) (ls E : List ℕ) (s : ℕ) (h : List Cell) → expr_count bs ≤ c → eval_branch P B cells N bs c ls E s h ≡ refused no_refusal
unfolding eval_branch expr_count
branch-none P B cells N enil c ls E s h beyond = refl
branch-none P B cells N (econs b bs) zero ls E s h beyond = absurd (omega arith)
branch-none P B cells N (econs b bs) (suc c) ls E s h beyond = branch-none P B cells N bs c ls E s h (omega arith)

-- the first end, and then so many more
end-first : (ends : List ℕ) (from at n : ℕ) → end_after ends from at (suc n) ≡ end_after ends from (end_of ends from at) n
unfolding end_after
end-first ends from at zero = refl
end-first ends from at (suc n) = ap (end_of ends from) (end-first ends from at n)

-- ---- the one at a number
record Chosen (text index ends : List ℕ) (line : ℕ) (P : File) (B : Body) (cells : ℕ) (N : Channels) (S : Scope) (at : ℕ) (bs : Exprs) (c : ℕ) : Type 0 where
  branch : Expr
  variables : ℕ
  sizes : ℕ
  stands : Stands text index ends line (wider variables sizes S) at branch
  is : (ls E : List ℕ) (s : ℕ) (h : List Cell) → eval_branch P B cells N bs c ls E s h ≡ needs (leb (length ls) s) environment_spent (eval P B cells N branch (E ++ ls) (s - length ls) h)

module _ (text index ends : List ℕ) (line : ℕ) (P : File) (B : Body) (cells : ℕ) (N : Channels) (S : Scope) (levels : ℕ) where
  chosen : {at : ℕ} {cs : List Constructor} {bs : Exprs} (c : ℕ) → WithinBranches levels S cs bs → Spells exprs_bytes (line_at text line) at bs → EndedAll ends (frame_place (frames_of index) line) (line_at text line) at bs → c < expr_count bs →
      Chosen text index ends line P B cells N S (end_after ends (frame_place (frames_of index) line) at c) bs c
  unfolding eval_branch expr_count end_after
  chosen c wb_nil s d less = absurd (omega arith)
  chosen zero (wb_cons {fs = fs} {b = b} w ws) s (ds_cons e d ds) less = record {
    branch = b;
    variables = length fs;
    sizes = owns fs;
    stands = record { levels = levels; within = w; spelled = (first-of-exprs s).spelled; ended = d };
    is = λ ls E k h. refl;
  }
  chosen {at} (suc c) (wb_cons {b = b} {bs = bs} w ws) s (ds_cons e d ds) less =
      let more = chosen {at = past (line_at text line) at (length (expr_bytes b))} c ws (first-of-exprs s).next ds (omega arith) in
      let place : end_after ends (frame_place (frames_of index) line) at (suc c) ≡ end_after ends (frame_place (frames_of index) line) (past (line_at text line) at (length (expr_bytes b))) c =
      end-first ends (frame_place (frames_of index) line) at c ∙ ap (λ m. end_after ends (frame_place (frames_of index) line) m c) (end-told e) in
      record {
        branch = more.branch;
        variables = more.variables;
        sizes = more.sizes;
        stands = subst (λ m. Stands text index ends line (wider more.variables more.sizes S) m more.branch) (sym place) more.stands;
        is = more.is;
      }

module _ (text index ends now words slots : List ℕ) (p : Context) (t l : ℕ) {c : ℕ} (which : ReadsConstructor words p.used l c) {m : ℕ} (count : (m ≡ get_or (types_of index) (type_words * t) 0 % byte_range) × (m < byte_range)) where
  -- there are as many branches as constructors
  counted : {P : File} {cells : ℕ} {S : Scope} {N : Channels} {h : List Cell} {o : Out} → Stage text index ends now words p P cells S N h → (ask : AskBranch text index ends slots p t l P cells S N h o) → expr_count ask.branches ≡ m
  counted st ask =
      let told = (known-shapes st.indexed st.known).each t ask.less in
      branches-counted ask.within ∙ omega (arith, count.0, told.constructors, told.few)

  pub branch-beyond : {r : Evaluated} → m ≤ c → r ≡ Err Unnamed → EvalsBranch text index ends now words slots p t l r words slots
  branch-beyond beyond q = record {
    says = λ {P} {cells} {S} {N} {h} st ask. agrees-refused by_number q (ask.is ∙ branch-none P (run P cells p.calls) cells N ask.branches (constructor_in (cell_at h l)) (fields_in (cell_at h l)) (take p.top slots) (length slots - p.top) h
        (omega (arith, beyond, counted st ask, which.says P h st.lies.held st.lies.writable)));
    kept = kept-not q;
    below = below-same p.top slots;
  }

  module _ (some : c < m) {n : ℕ} (fields : ReadsCount index words p.used l n) where
    module _ {P : File} {cells : ℕ} {S : Scope} {N : Channels} {h : List Cell} {o : Out} (st : Stage text index ends now words p P cells S N h) (ask : AskBranch text index ends slots p t l P cells S N h o) where
      is_c : c ≡ constructor_in (cell_at h l)
      is_c = which.says P h st.lies.held st.lies.writable

      is-n : n ≡ length (fields_in (cell_at h l))
      is-n = fields.says text P st.indexed h st.lies.held st.lies.writable

      one : Chosen text index ends p.line P (run P cells p.calls) cells N S (end_after ends (frame_place (frames_of index) p.line) (past (line_at text p.line) p.at.at (length (result_bytes ask.result))) c) ask.branches c
      one = chosen text index ends p.line P (run P cells p.calls) cells N S ask.levels c ask.within ask.spelled ask.ended (omega (arith, some, counted st ask))

      branched : o ≡ needs (leb (length (fields_in (cell_at h l))) (length slots - p.top)) environment_spent
          (eval P (run P cells p.calls) cells N one.branch (take p.top slots ++ fields_in (cell_at h l)) (length slots - p.top - length (fields_in (cell_at h l))) h)
      branched = ask.is ∙ ap (λ k. eval_branch P (run P cells p.calls) cells N ask.branches k (fields_in (cell_at h l)) (take p.top slots) (length slots - p.top) h) (sym is_c) ∙ one.is (fields_in (cell_at h l)) (take p.top slots) (length slots - p.top) h

    pub branch-full : {r : Evaluated} → length slots - p.top < n → r ≡ Err EnvironmentSpent → EvalsBranch text index ends now words slots p t l r words slots
    branch-full full q = record {
      says = λ {P} {cells} {S} {N} {h} st ask. agrees-refused by_number q (needs-unmet _ _ _ (branched st ask) (lt-leb (length (fields_in (cell_at h l))) (length slots - p.top) (omega (arith, full, is-n st ask))));
      kept = kept-not q;
      below = below-same p.top slots;
    }

    pub branch-done : {slots₁ : List ℕ} {first at : Cursor} {q : Context} {r : Evaluated} {words' slots₂ : List ℕ} → p.top ≤ length slots → n ≤ length slots - p.top → Pushed (FieldOf words p.used l) slots p.top n slots₁ →
        first.at ≡ end_of ends (frame_place (frames_of index) p.line) p.at.at → at.at ≡ end_after ends (frame_place (frames_of index) p.line) first.at c → q ≡ bound_to p at n →
        EvalsExpr text index ends now words slots₁ q r words' slots₂ → EvalsBranch text index ends now words slots p t l r words' slots₂
    branch-done {slots₁} {first} {at} {r = r} {words' = words'} {slots₂ = slots₂} top free pushed f a e v = go (rw e at v)
      where
        go : EvalsExpr text index ends now words slots₁ (bound_to p at n) r words' slots₂ → EvalsBranch text index ends now words slots p t l r words' slots₂
        go v = record {
          says = λ {P} {cells} {S} {N} {h} st ask.
              let b = one st ask in
              let count = is-n st ask in
              let row : pushed.row ≡ fields_in (cell_at h l) = fields-are pushed st.lies.held count (omega (arith, count, few-fields (cell-writable l st.lies.writable))) in
              let place : at.at ≡ end_after ends (frame_place (frames_of index) p.line) (past (line_at text p.line) p.at.at (length (result_bytes ask.result))) c =
              a ∙ ap (λ m. end_after ends (frame_place (frames_of index) p.line) m c) (f ∙ end-told ask.end) in
              let env : take (p.top + n) slots₁ ≡ take p.top slots ++ fields_in (cell_at h l) = pushed-after pushed (omega arith) ∙ ap (λ (x : List ℕ). take p.top slots ++ x) row in
              let left : length slots - p.top - length (fields_in (cell_at h l)) ≡ length slots₁ - (p.top + n) = omega (arith, count, pushed_long pushed) in
              v.says (stage-wider at n b.variables b.sizes st) (record {
                expr = b.branch;
                stands = subst (λ m. Stands text index ends p.line (wider b.variables b.sizes S) m b.branch) (sym place) b.stands;
                is = needs-met _ _ _ (branched st ask) (le-leb (length (fields_in (cell_at h l))) (length slots - p.top) (omega (arith, free, count))) ∙
                    ap (λ (E : List ℕ). eval P (run P cells p.calls) cells N b.branch E (length slots - p.top - length (fields_in (cell_at h l))) h) (sym env) ∙
                    ap (λ k. eval P (run P cells p.calls) cells N b.branch (take (p.top + n) slots₁) k h) left;
              });
          kept = v.kept;
          below = below_then (pushed-below pushed top) v.below (omega arith);
        }
