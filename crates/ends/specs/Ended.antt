-- Where the expressions of a line end, as a table over the places of the text has it: a word for each place at which an expression, the
-- size of an adj or the return type of a case starts. Ended is a notion of the proofs; document 01 has no word for it.
use Rattle.std.specs.Prelude.{ℕ, ◌+◌, List, Bool, ◌≡◌, length, get_or}
use Rattle.std.proofs.Math.Option.{some}
use Rattle.std.proofs.Math.ListN.{get_elem? as look}
use Rattle.language.specs.Syntax.{Size, ResultType, Op, Expr, ebool, eint, evar, enow, elast, elet, eif, eop, ecall, econ, ecase, eadj, efit, Exprs, enil, econs, Function, Node, File, initial_values}
use Rattle.language.specs.Format.{size_bytes, result_bytes, expr_bytes}
use Rattle.text.specs.Places.{past}
use Rattle.encoding.specs.FrameLines.{line_at}
use Rattle.index.specs.Sections.{frames_of, functions_of, channels_of}
use Rattle.index.specs.Indexed.{frame_place, body_at, initial_at, update_at, function_line, channel_line}

-- the word of a place of the line that starts at from
abbrev pub end_in : List ℕ → ℕ → ℕ → ℕ
end_in ends from at = get_or ends (from + at) 0

-- it is where what is spelled there ends
pub record EndAt {A : Type 0} (bytes : A → List ℕ) (ends : List ℕ) (from : ℕ) (line : List ℕ) (at : ℕ) (a : A) : Type 0 where
  pub is : end_in ends from at ≡ past line at (length (bytes a))

-- of every part of an expression that starts at a place; of every expression of a list, and its parts
mutual
  pub data Ended (ends : List ℕ) (from : ℕ) (line : List ℕ) : ℕ → Expr → Type 0 where
    d_bool : {at : ℕ} {b : Bool} → Ended ends from line at (ebool b)
    d_int : {at n : ℕ} → Ended ends from line at (eint n)
    d_var : {at v : ℕ} → Ended ends from line at (evar v)
    d_now : {at c : ℕ} → Ended ends from line at (enow c)
    d_last : {at c : ℕ} → Ended ends from line at (elast c)
    d_let : {at : ℕ} {a b : Expr} → EndedAll ends from line (past line at 1) (econs a (econs b enil)) → Ended ends from line at (elet a b)
    d_if : {at : ℕ} {a b d : Expr} → EndedAll ends from line (past line at 1) (econs a (econs b (econs d enil))) → Ended ends from line at (eif a b d)
    d_op : {at : ℕ} {o : Op} {a b : Expr} → EndedAll ends from line (past line at 2) (econs a (econs b enil)) → Ended ends from line at (eop o a b)
    d_call : {at f : ℕ} {es : Exprs} → EndedAll ends from line (past line at 2) es → Ended ends from line at (ecall f es)
    d_con : {at t c : ℕ} {es : Exprs} → EndedAll ends from line (past line at 3) es → Ended ends from line at (econ t c es)
    d_case : {at t : ℕ} {e : Expr} {r : ResultType} {bs : Exprs} → EndedAll ends from line (past line at 2) (econs e enil) → EndAt result_bytes ends from line (past line (past line at 2) (length (expr_bytes e))) r →
        EndedAll ends from line (past line (past line (past line at 2) (length (expr_bytes e))) (length (result_bytes r))) bs → Ended ends from line at (ecase t e r bs)
    d_adj : {at : ℕ} {k : Size} {e : Expr} → EndAt size_bytes ends from line (past line at 1) k → EndedAll ends from line (past line (past line at 1) (length (size_bytes k))) (econs e enil) → Ended ends from line at (eadj k e)
    d_fit : {at k : ℕ} {a b d : Expr} → EndedAll ends from line (past line at 2) (econs a (econs b (econs d enil))) → Ended ends from line at (efit k a b d)

  pub data EndedAll (ends : List ℕ) (from : ℕ) (line : List ℕ) : ℕ → Exprs → Type 0 where
    ds_nil : {at : ℕ} → EndedAll ends from line at enil
    ds_cons : {at : ℕ} {e : Expr} {es : Exprs} → EndAt expr_bytes ends from line at e → Ended ends from line at e → EndedAll ends from line (past line at (length (expr_bytes e))) es → EndedAll ends from line at (econs e es)

-- the table tells the expression that starts at a place of line i
abbrev pub LineEnded : List ℕ → List ℕ → ℕ → ℕ → Expr → List ℕ → Type 0
LineEnded text index i at e ends = Ended ends (frame_place (frames_of index) i) (line_at text i) at e

-- the bodies of a file; with them its updates, or its initial values
pub record BodiesTold (text index ends : List ℕ) (P : File) : Type 0 where
  pub each : (f : ℕ) {F : Function} → look P.functions f ≡ some F → LineEnded text index (function_line P f) (body_at (functions_of index) f) F.body ends

pub record UpdatesTold (text index ends : List ℕ) (P : File) : Type 0 where
  pub bodies : BodiesTold text index ends P
  pub each : (m : ℕ) {n : Node} → look P.nodes m ≡ some n → let c = length P.inputs + m in LineEnded text index (channel_line P c) (update_at (channels_of index) c) n.update ends

pub record InitialsTold (text index ends : List ℕ) (P : File) : Type 0 where
  pub bodies : BodiesTold text index ends P
  pub each : (c : ℕ) {e : Expr} → look (initial_values P) c ≡ some e → LineEnded text index (channel_line P c) (initial_at (channels_of index) c) e ends
