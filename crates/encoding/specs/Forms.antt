-- The thirteen forms of expressions, each with what is known of one that is spelled at a place, and by the code of the form.
use Rattle.std.specs.Prelude.{ℕ, ◌+◌, ◌*◌, ◌%◌, ◌^◌, List, Bool, ◌≡◌, length}
use Rattle.language.specs.Limits.{int_range}
use Rattle.language.specs.Syntax.{Size, ResultType, Op, Expr, ebool, eint, evar, enow, elast, elet, eif, eop, ecall, econ, ecase, eadj, efit, Exprs}
use Rattle.language.specs.Format.{bit, int_bytes, size_bytes, result_bytes, op_code, expr_bytes, exprs_bytes}
use Rattle.text.specs.Places.{past, byte_at}
use Rattle.encoding.specs.Spells.{Spells, IsLeaf}

-- ---- the forms; e is what is spelled at the place
pub record IsBool (line : List ℕ) (at : ℕ) (e : Expr) : Type 0 where
  pub value : Bool
  pub is : e ≡ ebool value
  pub byte : byte_at line (past line at 1) ≡ bit value
  pub long : length (expr_bytes (ebool value)) ≡ 2

-- the number of four bytes, high byte first
abbrev pub four_at : List ℕ → ℕ → ℕ
four_at line at = byte_at line at * 2 ^ 24 + byte_at line (past line at 1) * 2 ^ 16 + byte_at line (past line at 2) * 2 ^ 8 + byte_at line (past line at 3)

pub record IsInt (line : List ℕ) (at : ℕ) (e : Expr) : Type 0 where
  pub value : ℕ
  pub is : e ≡ eint value
  pub spelled : Spells int_bytes line (past line at 1) value
  pub four : four_at line (past line at 1) ≡ value % int_range
  pub long : length (expr_bytes (eint value)) ≡ 5

-- make of two expressions behind k bytes
pub record OfTwo (make : Expr → Expr → Expr) (k : ℕ) (line : List ℕ) (at : ℕ) (e : Expr) : Type 0 where
  pub first : Expr
  pub second : Expr
  pub is : e ≡ make first second
  pub spelled : Spells expr_bytes line (past line at k) first
  pub next : Spells expr_bytes line (past line (past line at k) (length (expr_bytes first))) second
  pub ends : past line at (length (expr_bytes (make first second))) ≡ past line (past line (past line at k) (length (expr_bytes first))) (length (expr_bytes second))

-- make of three expressions behind k bytes
pub record OfThree (make : Expr → Expr → Expr → Expr) (k : ℕ) (line : List ℕ) (at : ℕ) (e : Expr) : Type 0 where
  pub first : Expr
  pub second : Expr
  pub third : Expr
  pub is : e ≡ make first second third
  pub spelled : Spells expr_bytes line (past line at k) first
  pub next : Spells expr_bytes line (past line (past line at k) (length (expr_bytes first))) second
  pub last : Spells expr_bytes line (past line (past line (past line at k) (length (expr_bytes first))) (length (expr_bytes second))) third
  pub ends : past line at (length (expr_bytes (make first second third))) ≡ past line (past line (past line (past line at k) (length (expr_bytes first))) (length (expr_bytes second))) (length (expr_bytes third))

-- make of a list of expressions behind k bytes
pub record OfList (make : Exprs → Expr) (k : ℕ) (line : List ℕ) (at : ℕ) (e : Expr) : Type 0 where
  pub list : Exprs
  pub is : e ≡ make list
  pub spelled : Spells exprs_bytes line (past line at k) list
  pub ends : past line at (length (expr_bytes (make list))) ≡ past line (past line at k) (length (exprs_bytes list))

pub record IsOp (line : List ℕ) (at : ℕ) (e : Expr) : Type 0 where
  pub op : Op
  pub byte : byte_at line (past line at 1) ≡ op_code op
  pub of : OfTwo (eop op) 2 line at e

pub record IsCase (line : List ℕ) (at : ℕ) (e : Expr) : Type 0 where
  pub first : Expr
  pub result : ResultType
  pub branches : Exprs
  pub is : e ≡ ecase (byte_at line (past line at 1)) first result branches
  pub spelled : Spells expr_bytes line (past line at 2) first
  pub next : Spells result_bytes line (past line (past line at 2) (length (expr_bytes first))) result
  pub last : Spells exprs_bytes line (past line (past line (past line at 2) (length (expr_bytes first))) (length (result_bytes result))) branches
  pub ends : past line at (length (expr_bytes (ecase (byte_at line (past line at 1)) first result branches))) ≡ past line (past line (past line (past line at 2) (length (expr_bytes first))) (length (result_bytes result))) (length (exprs_bytes branches))

pub record IsAdj (line : List ℕ) (at : ℕ) (e : Expr) : Type 0 where
  pub size : Size
  pub first : Expr
  pub is : e ≡ eadj size first
  pub spelled : Spells size_bytes line (past line at 1) size
  pub next : Spells expr_bytes line (past line (past line at 1) (length (size_bytes size))) first
  pub ends : past line at (length (expr_bytes (eadj size first))) ≡ past line (past line (past line at 1) (length (size_bytes size))) (length (expr_bytes first))

-- ---- by the code of the form
pub data FormCoded (line : List ℕ) (at : ℕ) (e : Expr) : ℕ → Type 0 where
  bool_coded : IsBool line at e → FormCoded line at e 0x10
  int_coded : IsInt line at e → FormCoded line at e 0x11
  var_coded : IsLeaf expr_bytes 2 e (evar (byte_at line (past line at 1))) → FormCoded line at e 0x12
  now_coded : IsLeaf expr_bytes 2 e (enow (byte_at line (past line at 1))) → FormCoded line at e 0x13
  last_coded : IsLeaf expr_bytes 2 e (elast (byte_at line (past line at 1))) → FormCoded line at e 0x14
  let_coded : OfTwo elet 1 line at e → FormCoded line at e 0x15
  if_coded : OfThree eif 1 line at e → FormCoded line at e 0x16
  op_coded : IsOp line at e → FormCoded line at e 0x17
  call_coded : OfList (ecall (byte_at line (past line at 1))) 2 line at e → FormCoded line at e 0x18
  con_coded : OfList (econ (byte_at line (past line at 1)) (byte_at line (past line at 2))) 3 line at e → FormCoded line at e 0x19
  case_coded : IsCase line at e → FormCoded line at e 0x1A
  adj_coded : IsAdj line at e → FormCoded line at e 0x1B
  fit_coded : OfThree (efit (byte_at line (past line at 1))) 2 line at e → FormCoded line at e 0x1C
