-- What each function of the cycle is asked for: an expression, an expression whose head was read, what a form makes of its operands' cells,
-- an arm, a branch, the body of a function.
use Rattle.new_cells.specs.Steps.{Evaluated}
use Rattle.std.specs.Prelude.{ℕ, ◌-◌, ◌≤◌, ◌<◌, List, [], ◌∷◌, ◌++◌, true, ◌≡◌, length, get_or, take, ltb, leb}
use Rattle.std.proofs.Math.Option.{some}
use Rattle.std.proofs.Math.ListN.{get_elem? as look}
use Rattle.language.specs.Codes.{operator_and}
use Rattle.language.specs.Refusals.{environment_spent}
use Rattle.language.specs.Result.{choose}
use Rattle.language.specs.Syntax.{ResultType, Op, Expr, Exprs, Function, File}
use Rattle.language.specs.Format.{op_code, expr_bytes, exprs_bytes, result_bytes}
use Rattle.language.specs.Scope.{Scope, wider}
use Rattle.language.specs.Within.{WithinBranches}
use Rattle.language.specs.Heap.{Cell, leaf, truth, apply_op, cell_at, constant_in, constructor_in, size_in, fields_in}
use Rattle.language.specs.Evaluator.{Out, needs, alloc, Channels, eval, eval_branch, run}
use Rattle.text.specs.declared.Cursor.{Cursor}
use Rattle.text.specs.Places.{past}
use Rattle.encoding.specs.Spells.{Spells}
use Rattle.encoding.specs.FrameLines.{line_at}
use Rattle.encoding.specs.ExprLists.{expr_count}
use Rattle.heads.specs.declared.Form.{Form}
use Rattle.heads.specs.declared.Form.TheVariants.{Adjust}
use Rattle.heads.specs.Heads.{Heads, has_parts}
use Rattle.index.specs.Sections.{frames_of}
use Rattle.index.specs.Indexed.{frame_place}
use Rattle.ends.specs.Ended.{EndAt, EndedAll}
use Rattle.evaluation_steps.specs.declared.Context.{Context}
use Rattle.evaluation_steps.specs.Operands.{the_operands_of, right_side, finished}
use Rattle.evaluation_steps.specs.Promises.{Stands, Evals, cells_in}

module _ (text index ends slots : List ℕ) (p : Context) where
  pub record AskExpr (P : File) (cells : ℕ) (S : Scope) (N : Channels) (h : List Cell) (o : Out) : Type 0 where
    pub expr : Expr
    pub stands : Stands text index ends p.line S p.at.at expr
    pub is : o ≡ eval P (run P cells p.calls) cells N expr (take p.top slots) (length slots - p.top) h

  -- the place is behind the head
  pub record AskForm (form : Form) (P : File) (cells : ℕ) (S : Scope) (N : Channels) (h : List Cell) (o : Out) : Type 0 where
    pub expr : Expr
    pub at : ℕ
    pub stands : Stands text index ends p.line S at expr
    pub heads : Heads (line_at text p.line) at (record { form = form; next = p.at })
    pub compound : has_parts form ≡ true
    pub is : o ≡ eval P (run P cells p.calls) cells N expr (take p.top slots) (length slots - p.top) h

  -- the place is behind the operands, whose cells are the first words of a row
  pub record AskFinish (form : Form) (row : List ℕ) (n : ℕ) (P : File) (cells : ℕ) (S : Scope) (N : Channels) (h : List Cell) (o : Out) : Type 0 where
    pub expr : Expr
    pub at : ℕ
    pub next : Cursor
    pub stands : Stands text index ends p.line S at expr
    pub heads : Heads (line_at text p.line) at (record { form = form; next = next })
    pub compound : has_parts form ≡ true
    pub count : expr_count (the_operands_of expr) ≡ n
    pub behind : (form ≡ Adjust → ⊥) → p.at.at ≡ past (line_at text p.line) next.at (length (exprs_bytes (the_operands_of expr)))
    pub is : o ≡ finished P (run P cells p.calls) cells N expr (take p.top slots) (length slots - p.top) (cells_in row n) h

  -- `15`, and the first arm of `1C`: an expression with the cell l bound
  pub record AskBound (l : ℕ) (P : File) (cells : ℕ) (S : Scope) (N : Channels) (h : List Cell) (o : Out) : Type 0 where
    pub second : Expr
    pub stands : Stands text index ends p.line (wider 1 0 S) p.at.at second
    pub is : o ≡ needs (ltb 0 (length slots - p.top)) environment_spent (eval P (run P cells p.calls) cells N second (take p.top slots ++ (l ∷ [])) (length slots - p.top - 1) h)

  -- `17`: of two sides' cells l and m, or of the left one's, where the right side stands at the place
  pub record AskOperator (o l m : ℕ) (P : File) (cells : ℕ) (S : Scope) (N : Channels) (h : List Cell) (out : Out) : Type 0 where
    pub op : Op
    pub code : op_code op ≡ o
    pub second : Expr
    pub stands : operator_and ≤ o → Stands text index ends p.line S p.at.at second
    pub left : operator_and ≤ o → out ≡ right_side P (run P cells p.calls) cells N op second (take p.top slots) (length slots - p.top) l h
    pub both : o < operator_and → out ≡ alloc cells h (leaf (apply_op op (constant_in (cell_at h l)) (constant_in (cell_at h m))))

  -- `16`: one of two arms
  pub record AskChoice (l : ℕ) (P : File) (cells : ℕ) (S : Scope) (N : Channels) (h : List Cell) (o : Out) : Type 0 where
    pub second : Expr
    pub third : Expr
    pub stands : Stands text index ends p.line S p.at.at second
    pub end : EndAt expr_bytes ends (frame_place (frames_of index) p.line) (line_at text p.line) p.at.at second
    pub stands₂ : Stands text index ends p.line S (past (line_at text p.line) p.at.at (length (expr_bytes second))) third
    pub is : o ≡ choose (truth (constant_in (cell_at h l))) (eval P (run P cells p.calls) cells N second (take p.top slots) (length slots - p.top) h) (eval P (run P cells p.calls) cells N third (take p.top slots) (length slots - p.top) h)

  -- `1C`: the first arm where the size is at most k
  pub record AskFit (k l : ℕ) (P : File) (cells : ℕ) (S : Scope) (N : Channels) (h : List Cell) (o : Out) : Type 0 where
    pub second : Expr
    pub third : Expr
    pub stands : Stands text index ends p.line (wider 1 0 S) p.at.at second
    pub end : EndAt expr_bytes ends (frame_place (frames_of index) p.line) (line_at text p.line) p.at.at second
    pub stands₂ : Stands text index ends p.line S (past (line_at text p.line) p.at.at (length (expr_bytes second))) third
    pub is : o ≡ choose (leb (size_in (cell_at h l)) k)
        (needs (ltb 0 (length slots - p.top)) environment_spent (eval P (run P cells p.calls) cells N second (take p.top slots ++ (l ∷ [])) (length slots - p.top - 1) h))
        (eval P (run P cells p.calls) cells N third (take p.top slots) (length slots - p.top) h)

  -- `1A`: the branch of the cell's constructor, behind the return type
  pub record AskBranch (t l : ℕ) (P : File) (cells : ℕ) (S : Scope) (N : Channels) (h : List Cell) (o : Out) : Type 0 where
    pub result : ResultType
    pub branches : Exprs
    pub levels : ℕ
    pub less : t < length S.types
    pub end : EndAt result_bytes ends (frame_place (frames_of index) p.line) (line_at text p.line) p.at.at result
    pub within : WithinBranches levels S (get_or S.types t []) branches
    pub spelled : Spells exprs_bytes (line_at text p.line) (past (line_at text p.line) p.at.at (length (result_bytes result))) branches
    pub ended : EndedAll ends (frame_place (frames_of index) p.line) (line_at text p.line) (past (line_at text p.line) p.at.at (length (result_bytes result))) branches
    pub is : o ≡ eval_branch P (run P cells p.calls) cells N branches (constructor_in (cell_at h l)) (fields_in (cell_at h l)) (take p.top slots) (length slots - p.top) h

  -- `18`: the body, at the first n words of a row
  pub record AskBody (f : ℕ) (row : List ℕ) (n : ℕ) (P : File) (cells : ℕ) (S : Scope) (N : Channels) (h : List Cell) (o : Out) : Type 0 where
    pub function : Function
    pub there : look P.functions f ≡ some function
    pub count : n ≡ length function.parameters
    pub is : o ≡ run P cells p.calls f (cells_in row n) (length slots - p.top - n) h

module _ (text index ends now words slots : List ℕ) (p : Context) where
  abbrev pub EvalsExpr : Evaluated → List ℕ → List ℕ → Type 0
  EvalsExpr r words' slots' = Evals text index ends now words slots p (AskExpr text index ends slots p) r words' slots'

  abbrev pub EvalsForm : Form → Evaluated → List ℕ → List ℕ → Type 0
  EvalsForm form r words' slots' = Evals text index ends now words slots p (AskForm text index ends slots p form) r words' slots'

  abbrev pub Finishes : Form → List ℕ → ℕ → Evaluated → List ℕ → List ℕ → Type 0
  Finishes form row n r words' slots' = Evals text index ends now words slots p (AskFinish text index ends slots p form row n) r words' slots'

  abbrev pub EvalsBound : ℕ → Evaluated → List ℕ → List ℕ → Type 0
  EvalsBound l r words' slots' = Evals text index ends now words slots p (AskBound text index ends slots p l) r words' slots'

  abbrev pub EvalsOperator : ℕ → ℕ → ℕ → Evaluated → List ℕ → List ℕ → Type 0
  EvalsOperator o l m r words' slots' = Evals text index ends now words slots p (AskOperator text index ends slots p o l m) r words' slots'

  abbrev pub EvalsChoice : ℕ → Evaluated → List ℕ → List ℕ → Type 0
  EvalsChoice l r words' slots' = Evals text index ends now words slots p (AskChoice text index ends slots p l) r words' slots'

  abbrev pub EvalsFit : ℕ → ℕ → Evaluated → List ℕ → List ℕ → Type 0
  EvalsFit k l r words' slots' = Evals text index ends now words slots p (AskFit text index ends slots p k l) r words' slots'

  abbrev pub EvalsBranch : ℕ → ℕ → Evaluated → List ℕ → List ℕ → Type 0
  EvalsBranch t l r words' slots' = Evals text index ends now words slots p (AskBranch text index ends slots p t l) r words' slots'

  abbrev pub EvalsBody : ℕ → List ℕ → ℕ → Evaluated → List ℕ → List ℕ → Type 0
  EvalsBody f row n r words' slots' = Evals text index ends now words slots p (AskBody text index ends slots p f row n) r words' slots'
