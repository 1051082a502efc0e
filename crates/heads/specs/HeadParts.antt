-- What is known of an expression whose head was read, a record for each form: its shape, where its parts are spelled, and that they
-- are within the limits with one level less. From what is spelled and the limits of the form.
use Rattle.std.specs.Prelude.{ℕ, suc, ◌<◌, List, [], Bool, true, ◌≡◌, refl, length, get_or}
use Rattle.std.proofs.Common.{sym, ap, ◌∙◌}
use Rattle.language.specs.Limits.{nesting_most, int_range}
use Rattle.language.specs.Syntax.{Size, ResultType, Op, Expr, ebool, eint, evar, enow, elast, elet, eif, eop, ecall, econ, ecase, eadj, efit, Exprs}
use Rattle.language.specs.Format.{bit, size_bytes, result_bytes, op_code, expr_bytes, exprs_bytes}
use Rattle.language.specs.Scope.{Scope, wider, room_in}
use Rattle.language.specs.Within.{Bound, WithinSize, WithinResult, WithinExpr, WithinExprs, WithinBranches, w_bool, w_int, w_var, w_now, w_last, w_let, w_if, w_op, w_call, w_con, w_case, w_adj, w_fit}
use Rattle.text.specs.Places.{past, byte_at}
use Rattle.encoding.specs.Spells.{Spells, IsLeaf}
use Rattle.encoding.specs.Forms.{IsBool, IsInt, OfTwo, OfThree, OfList, IsOp, IsCase, IsAdj}

-- next is where the first part starts, n the levels left, S the scope; left the levels left inside
pub record BoolHead (line : List ℕ) (at next n : ℕ) (S : Scope) (e : Expr) (b : ℕ) : Type 0 where
  pub value : Bool
  pub is : e ≡ ebool value
  pub byte : bit value ≡ b
  pub ends : next ≡ past line at (length (expr_bytes e))
  pub left : ℕ
  pub deep : n ≡ suc left
  pub room : room_in S ≡ true

pub record IntHead (line : List ℕ) (at next n : ℕ) (S : Scope) (e : Expr) (i : ℕ) : Type 0 where
  pub is : e ≡ eint i
  pub ends : next ≡ past line at (length (expr_bytes e))
  pub left : ℕ
  pub deep : n ≡ suc left
  pub room : room_in S ≡ true
  pub less : i < int_range

pub record VarHead (line : List ℕ) (at next n : ℕ) (S : Scope) (e : Expr) (v : ℕ) : Type 0 where
  pub is : e ≡ evar v
  pub ends : next ≡ past line at (length (expr_bytes e))
  pub left : ℕ
  pub deep : n ≡ suc left
  pub room : room_in S ≡ true
  pub less : v < S.variables

-- `13` and `14`: x c is the expression that names channel c
pub record ChannelHead (x : ℕ → Expr) (line : List ℕ) (at next n : ℕ) (S : Scope) (e : Expr) (c : ℕ) : Type 0 where
  pub is : e ≡ x c
  pub ends : next ≡ past line at (length (expr_bytes e))
  pub left : ℕ
  pub deep : n ≡ suc left
  pub room : room_in S ≡ true
  pub less : c < S.channels

pub record LetHead (line : List ℕ) (at next n : ℕ) (S : Scope) (e : Expr) : Type 0 where
  pub first : Expr
  pub second : Expr
  pub is : e ≡ elet first second
  pub spelled : Spells expr_bytes line next first
  pub spelled₂ : Spells expr_bytes line (past line next (length (expr_bytes first))) second
  pub long : past line at (length (expr_bytes (elet first second))) ≡ past line (past line next (length (expr_bytes first))) (length (expr_bytes second))
  pub left : ℕ
  pub deep : n ≡ suc left
  pub room : room_in S ≡ true
  pub within : WithinExpr left S first
  pub within₂ : WithinExpr left (wider 1 0 S) second

pub record IfHead (line : List ℕ) (at next n : ℕ) (S : Scope) (e : Expr) : Type 0 where
  pub first : Expr
  pub second : Expr
  pub third : Expr
  pub is : e ≡ eif first second third
  pub spelled : Spells expr_bytes line next first
  pub spelled₂ : Spells expr_bytes line (past line next (length (expr_bytes first))) second
  pub spelled₃ : Spells expr_bytes line (past line (past line next (length (expr_bytes first))) (length (expr_bytes second))) third
  pub long : past line at (length (expr_bytes (eif first second third))) ≡ past line (past line (past line next (length (expr_bytes first))) (length (expr_bytes second))) (length (expr_bytes third))
  pub left : ℕ
  pub deep : n ≡ suc left
  pub room : room_in S ≡ true
  pub within : WithinExpr left S first
  pub within₂ : WithinExpr left S second
  pub within₃ : WithinExpr left S third

pub record OpHead (line : List ℕ) (at next n : ℕ) (S : Scope) (e : Expr) (o : ℕ) : Type 0 where
  pub op : Op
  pub code : op_code op ≡ o
  pub first : Expr
  pub second : Expr
  pub is : e ≡ eop op first second
  pub spelled : Spells expr_bytes line next first
  pub spelled₂ : Spells expr_bytes line (past line next (length (expr_bytes first))) second
  pub long : past line at (length (expr_bytes (eop op first second))) ≡ past line (past line next (length (expr_bytes first))) (length (expr_bytes second))
  pub left : ℕ
  pub deep : n ≡ suc left
  pub room : room_in S ≡ true
  pub within : WithinExpr left S first
  pub within₂ : WithinExpr left S second

pub record CallHead (line : List ℕ) (at next n : ℕ) (S : Scope) (e : Expr) (f : ℕ) : Type 0 where
  pub list : Exprs
  pub is : e ≡ ecall f list
  pub spelled : Spells exprs_bytes line next list
  pub long : past line at (length (expr_bytes (ecall f list))) ≡ past line next (length (exprs_bytes list))
  pub left : ℕ
  pub deep : n ≡ suc left
  pub room : room_in S ≡ true
  pub less : f < length S.arities
  pub within : WithinExprs left S (get_or S.arities f 0) list

pub record ConHead (line : List ℕ) (at next n : ℕ) (S : Scope) (e : Expr) (t c : ℕ) : Type 0 where
  pub list : Exprs
  pub is : e ≡ econ t c list
  pub spelled : Spells exprs_bytes line next list
  pub long : past line at (length (expr_bytes (econ t c list))) ≡ past line next (length (exprs_bytes list))
  pub left : ℕ
  pub deep : n ≡ suc left
  pub room : room_in S ≡ true
  pub less : t < length S.types
  pub less₂ : c < length (get_or S.types t [])
  pub within : WithinExprs left S (length (get_or (get_or S.types t []) c [])) list

pub record CaseHead (line : List ℕ) (at next n : ℕ) (S : Scope) (e : Expr) (t : ℕ) : Type 0 where
  pub first : Expr
  pub result : ResultType
  pub branches : Exprs
  pub is : e ≡ ecase t first result branches
  pub spelled : Spells expr_bytes line next first
  pub spelled₂ : Spells result_bytes line (past line next (length (expr_bytes first))) result
  pub spelled₃ : Spells exprs_bytes line (past line (past line next (length (expr_bytes first))) (length (result_bytes result))) branches
  pub long : past line at (length (expr_bytes (ecase t first result branches))) ≡ past line (past line (past line next (length (expr_bytes first))) (length (result_bytes result))) (length (exprs_bytes branches))
  pub left : ℕ
  pub deep : n ≡ suc left
  pub room : room_in S ≡ true
  pub less : t < length S.types
  pub within : WithinExpr left S first
  pub within₂ : WithinResult (length S.types) S.sizes result
  pub within₃ : WithinBranches left S (get_or S.types t []) branches

pub record AdjHead (line : List ℕ) (at next n : ℕ) (S : Scope) (e : Expr) : Type 0 where
  pub size : Size
  pub first : Expr
  pub is : e ≡ eadj size first
  pub spelled : Spells size_bytes line next size
  pub spelled₂ : Spells expr_bytes line (past line next (length (size_bytes size))) first
  pub long : past line at (length (expr_bytes (eadj size first))) ≡ past line (past line next (length (size_bytes size))) (length (expr_bytes first))
  pub left : ℕ
  pub deep : n ≡ suc left
  pub room : room_in S ≡ true
  pub within : WithinSize S.sizes nesting_most size
  pub within₂ : WithinExpr left S first

pub record FitHead (line : List ℕ) (at next n : ℕ) (S : Scope) (e : Expr) (k : ℕ) : Type 0 where
  pub first : Expr
  pub second : Expr
  pub third : Expr
  pub is : e ≡ efit k first second third
  pub spelled : Spells expr_bytes line next first
  pub spelled₂ : Spells expr_bytes line (past line next (length (expr_bytes first))) second
  pub spelled₃ : Spells expr_bytes line (past line (past line next (length (expr_bytes first))) (length (expr_bytes second))) third
  pub long : past line at (length (expr_bytes (efit k first second third))) ≡ past line (past line (past line next (length (expr_bytes first))) (length (expr_bytes second))) (length (expr_bytes third))
  pub left : ℕ
  pub deep : n ≡ suc left
  pub room : room_in S ≡ true
  pub bound : Bound k
  pub within : WithinExpr left S first
  pub within₂ : WithinExpr left (wider 1 0 S) second
  pub within₃ : WithinExpr left S third

-- ---- from what is spelled, and the limits of that form
ends_at : {k : ℕ} {e leaf : Expr} (line : List ℕ) (at : ℕ) → e ≡ leaf → length (expr_bytes leaf) ≡ k → past line at k ≡ past line at (length (expr_bytes e))
ends_at line at is long = ap (past line at) (sym long) ∙ ap (λ (a : Expr). past line at (length (expr_bytes a))) (sym is)

pub bool-made : {line : List ℕ} {at n : ℕ} {S : Scope} {e : Expr} (i : IsBool line at e) → WithinExpr n S (ebool i.value) → BoolHead line at (past line at 2) n S e (byte_at line (past line at 1))
bool-made i (w_bool {n = m} room) = record { value = i.value; is = i.is; byte = sym i.byte; ends = ends_at _ _ i.is i.long; left = m; deep = refl; room = room }

pub int-made : {line : List ℕ} {at n : ℕ} {S : Scope} {e : Expr} (i : IsInt line at e) → WithinExpr n S (eint i.value) → IntHead line at (past line at 5) n S e i.value
int-made i (w_int {n = m} room less) = record { is = i.is; ends = ends_at _ _ i.is i.long; left = m; deep = refl; room = room; less = less }

pub var-made : {line : List ℕ} {at n v : ℕ} {S : Scope} {e : Expr} → IsLeaf expr_bytes 2 e (evar v) → WithinExpr n S (evar v) → VarHead line at (past line at 2) n S e v
var-made i (w_var {n = m} room less) = record { is = i.is; ends = ends_at _ _ i.is i.long; left = m; deep = refl; room = room; less = less }

pub now-made : {line : List ℕ} {at n c : ℕ} {S : Scope} {e : Expr} → IsLeaf expr_bytes 2 e (enow c) → WithinExpr n S (enow c) → ChannelHead enow line at (past line at 2) n S e c
now-made i (w_now {n = m} room less) = record { is = i.is; ends = ends_at _ _ i.is i.long; left = m; deep = refl; room = room; less = less }

pub last_made : {line : List ℕ} {at n c : ℕ} {S : Scope} {e : Expr} → IsLeaf expr_bytes 2 e (elast c) → WithinExpr n S (elast c) → ChannelHead elast line at (past line at 2) n S e c
last_made i (w_last {n = m} room less) = record { is = i.is; ends = ends_at _ _ i.is i.long; left = m; deep = refl; room = room; less = less }

pub let-made : {line : List ℕ} {at n : ℕ} {S : Scope} {e : Expr} (i : OfTwo elet 1 line at e) → WithinExpr n S (elet i.first i.second) → LetHead line at (past line at 1) n S e
let-made i (w_let {n = m} room a b) = record {
  first = i.first;
  second = i.second;
  is = i.is;
  spelled = i.spelled;
  spelled₂ = i.next;
  long = i.ends;
  left = m;
  deep = refl;
  room = room;
  within = a;
  within₂ = b;
}

pub if-made : {line : List ℕ} {at n : ℕ} {S : Scope} {e : Expr} (i : OfThree eif 1 line at e) → WithinExpr n S (eif i.first i.second i.third) → IfHead line at (past line at 1) n S e
if-made i (w_if {n = m} room a b d) = record {
  first = i.first;
  second = i.second;
  third = i.third;
  is = i.is;
  spelled = i.spelled;
  spelled₂ = i.next;
  spelled₃ = i.last;
  long = i.ends;
  left = m;
  deep = refl;
  room = room;
  within = a;
  within₂ = b;
  within₃ = d;
}

pub op-made : {line : List ℕ} {at n : ℕ} {S : Scope} {e : Expr} (i : IsOp line at e) → WithinExpr n S (eop i.op i.of.first i.of.second) → OpHead line at (past line at 2) n S e (byte_at line (past line at 1))
op-made i (w_op {n = m} room a b) = record {
  op = i.op;
  code = sym i.byte;
  first = i.of.first;
  second = i.of.second;
  is = i.of.is;
  spelled = i.of.spelled;
  spelled₂ = i.of.next;
  long = i.of.ends;
  left = m;
  deep = refl;
  room = room;
  within = a;
  within₂ = b;
}

pub call-made : {line : List ℕ} {at n f : ℕ} {S : Scope} {e : Expr} (i : OfList (ecall f) 2 line at e) → WithinExpr n S (ecall f i.list) → CallHead line at (past line at 2) n S e f
call-made i (w_call {n = m} room less es) = record {
  list = i.list;
  is = i.is;
  spelled = i.spelled;
  long = i.ends;
  left = m;
  deep = refl;
  room = room;
  less = less;
  within = es;
}

pub con-made : {line : List ℕ} {at n t c : ℕ} {S : Scope} {e : Expr} (i : OfList (econ t c) 3 line at e) → WithinExpr n S (econ t c i.list) → ConHead line at (past line at 3) n S e t c
con-made i (w_con {n = m} room less less₂ es) = record {
  list = i.list;
  is = i.is;
  spelled = i.spelled;
  long = i.ends;
  left = m;
  deep = refl;
  room = room;
  less = less;
  less₂ = less₂;
  within = es;
}

pub case-made : {line : List ℕ} {at n : ℕ} {S : Scope} {e : Expr} (i : IsCase line at e) → WithinExpr n S (ecase (byte_at line (past line at 1)) i.first i.result i.branches) →
    CaseHead line at (past line at 2) n S e (byte_at line (past line at 1))
case-made i (w_case {n = m} room less a r bs) = record {
  first = i.first;
  result = i.result;
  branches = i.branches;
  is = i.is;
  spelled = i.spelled;
  spelled₂ = i.next;
  spelled₃ = i.last;
  long = i.ends;
  left = m;
  deep = refl;
  room = room;
  less = less;
  within = a;
  within₂ = r;
  within₃ = bs;
}

pub adj-made : {line : List ℕ} {at n : ℕ} {S : Scope} {e : Expr} (i : IsAdj line at e) → WithinExpr n S (eadj i.size i.first) → AdjHead line at (past line at 1) n S e
adj-made i (w_adj {n = m} room k a) = record {
  size = i.size;
  first = i.first;
  is = i.is;
  spelled = i.spelled;
  spelled₂ = i.next;
  long = i.ends;
  left = m;
  deep = refl;
  room = room;
  within = k;
  within₂ = a;
}

pub fit-made : {line : List ℕ} {at n k : ℕ} {S : Scope} {e : Expr} (i : OfThree (efit k) 2 line at e) → WithinExpr n S (efit k i.first i.second i.third) → FitHead line at (past line at 2) n S e k
fit-made i (w_fit {n = m} room bound a b d) = record {
  first = i.first;
  second = i.second;
  third = i.third;
  is = i.is;
  spelled = i.spelled;
  spelled₂ = i.next;
  spelled₃ = i.last;
  long = i.ends;
  left = m;
  deep = refl;
  room = room;
  bound = bound;
  within = a;
  within₂ = b;
  within₃ = d;
}
