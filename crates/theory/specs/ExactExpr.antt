-- The reader of expressions is exact, by induction on the levels left.
use Prim.Native.Nat.{ℕ, zero, suc}
use mathlib.Core.List.{List, [], ◌∷◌, ◌++◌, append_assoc}
use Rattle.std.specs.Prelude.{true, false, ◌≡◌, length, get_or}
use Rattle.std.proofs.Math.Path.{refl}
use Rattle.language.specs.Refusals.{outside_limits}
use Rattle.language.specs.Result.{choose}
use Rattle.language.specs.Syntax.{Constructor, owns, Expr, ebool, eint, evar, enow, elast, elet, eif, eop, ecall, econ, ecase, eadj, efit, Exprs, enil, econs}
use Rattle.language.specs.Format.{size_bytes, result_bytes, expr_bytes, exprs_bytes}
use Rattle.language.specs.Scope.{Scope, wider, room_in}
use Rattle.language.specs.Within.{WithinExpr, w_bool, w_int, w_var, w_now, w_last, w_let, w_if, w_op, w_call, w_con, w_case, w_adj, w_fit}
use Rattle.language.specs.Within.{WithinExprs, ws_nil, ws_cons, WithinBranches, wb_nil, wb_cons}
use Rattle.language.specs.Parser.{got, and_then, from_option, must, byte, decode, code, code_in}
use Rattle.language.specs.ReadExpr.{Form, bool_form, int_form, var_form, now_form, last_form, let_form, if_form, op_form, call_form, con_form, case_form}
use Rattle.language.specs.ReadExpr.{adj_form, fit_form, forms, exprs, branches, expr_behind, expr_at}
use Rattle.theory.specs.Exact.{Behind, Exact, append-three, next, done, refused}
use Rattle.theory.specs.ExactParts.{one, index-exact, entry, no_entry, coded_in}
use Rattle.theory.specs.ExactTypes.{bound-exact, size_exact, result-exact}
use Rattle.theory.specs.ExactLeaves.{bool-exact, op-exact, int-exact}

-- ---- lists of expressions and forms, where expressions one level further in are read exactly
module _ (n : ℕ) (inner : (S : Scope) → Exact (expr_at n S) expr_bytes (WithinExpr n S)) where
  exprs-back : (S : Scope) (m : ℕ) (es : Exprs) (rest : List ℕ) → WithinExprs n S m es → exprs (expr_at n S) m (exprs_bytes es ++ rest) ≡ got es rest
  unfolding exprs exprs_bytes and_then
  exprs-back S zero enil rest ws_nil = refl
  exprs-back S (suc m) (econs e es) rest (ws_cons w ws) = rw (append_assoc (expr_bytes e) (exprs_bytes es) rest, (inner S).back e _ w, exprs-back S m es rest ws)
  exprs-back S zero (econs e es) rest x'' = elim x'' [ ]
  exprs-back S (suc m) enil rest x3 = elim x3 [ ]

  exprs-forth : (S : Scope) (m : ℕ) → Behind exprs_bytes (WithinExprs n S m) [] (exprs (expr_at n S) m)
  unfolding exprs exprs_bytes
  exprs-forth S zero = done ws_nil refl
  exprs-forth S (suc m) = next (inner S).forth λ e u. next (exprs-forth S m) λ es v. done (ws_cons u v) refl

  branches-back : (S : Scope) (cs : List Constructor) (bs : Exprs) (rest : List ℕ) → WithinBranches n S cs bs → branches (expr_at n) S cs (exprs_bytes bs ++ rest) ≡ got bs rest
  unfolding branches exprs_bytes and_then
  branches-back S [] enil rest wb_nil = refl
  branches-back S (fs ∷ cs) (econs b bs) rest (wb_cons w ws) = rw (append_assoc (expr_bytes b) (exprs_bytes bs) rest, (inner (wider (length fs) (owns fs) S)).back b _ w, branches-back S cs bs rest ws)
  branches-back S [] (econs b bs) rest x'' = elim x'' [ ]
  branches-back S (fs ∷ cs) enil rest x3 = elim x3 [ ]

  branches-forth : (S : Scope) (cs : List Constructor) → Behind exprs_bytes (WithinBranches n S cs) [] (branches (expr_at n) S cs)
  unfolding branches exprs_bytes
  branches-forth S [] = done wb_nil refl
  branches-forth S (fs ∷ cs) = next (inner (wider (length fs) (owns fs) S)).forth λ b u. next (branches-forth S cs) λ bs v. done (wb_cons u v) refl

  -- ---- the forms
  module _ (S : Scope) where
    form-back : (e : Expr) (rest : List ℕ) → WithinExpr (suc n) S e → expr_at (suc n) S (expr_bytes e ++ rest) ≡ got e rest
    unfolding expr_at code_in code byte and_then decode choose from_option must expr_behind expr_bytes
    form-back (ebool b) rest (w_bool room) = rw (room, bool-exact.back b rest tt)
    form-back (eint i) rest (w_int room w) = rw (room, int-exact.back i rest w)
    form-back (evar v) rest (w_var room w) = rw (room, (index-exact S.variables).back v rest w)
    form-back (enow c) rest (w_now room w) = rw (room, (index-exact S.channels).back c rest w)
    form-back (elast c) rest (w_last room w) = rw (room, (index-exact S.channels).back c rest w)
    form-back (elet a b) rest (w_let room u v) = rw (room, append_assoc (expr_bytes a) (expr_bytes b) rest, (inner S).back a _ u, (inner (wider 1 0 S)).back b rest v)
    form-back (eif a b d) rest (w_if room u v w) = rw (room, append-three (expr_bytes a) (expr_bytes b) (expr_bytes d) rest, (inner S).back a _ u, (inner S).back b _ v, (inner S).back d rest w)
    form-back (eop o a b) rest (w_op room u v) = rw (room, append_assoc (expr_bytes a) (expr_bytes b) rest, op-exact.back o _ tt, (inner S).back a _ u, (inner S).back b rest v)
    form-back (ecall f es) rest (w_call room w ws) = rw (room, (index-exact (length S.arities)).back f _ w, exprs-back S _ es rest ws)
    form-back (econ t c es) rest (w_con room i j ws) = rw (room, (index-exact (length S.types)).back t _ i, (index-exact (length (get_or S.types t []))).back c _ j, exprs-back S _ es rest ws)
    form-back (ecase t e ρ bs) rest (w_case room i w v ws) =
        rw (
          room,
          append-three (expr_bytes e) (result_bytes ρ) (exprs_bytes bs) rest,
          (index-exact (length S.types)).back t _ i,
          (inner S).back e _ w,
          (result-exact (length S.types) S.sizes).back ρ _ v,
          branches-back S _ bs rest ws,
        )
    form-back (eadj s e) rest (w_adj room u v) = rw (room, append_assoc (size_bytes s) (expr_bytes e) rest, (size_exact S.sizes).back s _ u, (inner S).back e rest v)
    form-back (efit k a b d) rest (w_fit room i u v w) =
        rw (room, append-three (expr_bytes a) (expr_bytes b) (expr_bytes d) rest, bound-exact.back k _ i, (inner S).back a _ u, (inner (wider 1 0 S)).back b _ v, (inner S).back d rest w)

    -- what stands behind the code b of a form is read as it must be
    abbrev Reading : ℕ → Form → Type 0
    Reading b form = room_in S ≡ true → Behind expr_bytes (WithinExpr (suc n) S) (one b) (expr_behind (expr_at n) S form)

    bool-forth : Reading 0x10 bool_form
    unfolding expr_behind expr_bytes
    bool-forth room = next bool-exact.forth λ b u. done (w_bool room) refl

    int-forth : Reading 0x11 int_form
    unfolding expr_behind expr_bytes
    int-forth room = next int-exact.forth λ i u. done (w_int room u) refl

    var-forth : Reading 0x12 var_form
    unfolding expr_behind expr_bytes
    var-forth room = next (index-exact S.variables).forth λ v u. done (w_var room u) refl

    now-forth : Reading 0x13 now_form
    unfolding expr_behind expr_bytes
    now-forth room = next (index-exact S.channels).forth λ c u. done (w_now room u) refl

    last-forth : Reading 0x14 last_form
    unfolding expr_behind expr_bytes
    last-forth room = next (index-exact S.channels).forth λ c u. done (w_last room u) refl

    let-forth : Reading 0x15 let_form
    unfolding expr_behind expr_bytes
    let-forth room = next (inner S).forth λ a u. next (inner (wider 1 0 S)).forth λ b v. done (w_let room u v) refl

    if-forth : Reading 0x16 if_form
    unfolding expr_behind expr_bytes
    if-forth room = next (inner S).forth λ a u. next (inner S).forth λ b v. next (inner S).forth λ d w. done (w_if room u v w) (simp append_assoc)

    op-forth : Reading 0x17 op_form
    unfolding expr_behind expr_bytes
    op-forth room = next op-exact.forth λ o t. next (inner S).forth λ a u. next (inner S).forth λ b v. done (w_op room u v) refl

    call-forth : Reading 0x18 call_form
    unfolding expr_behind expr_bytes
    call-forth room = next (index-exact (length S.arities)).forth λ f u. next (exprs-forth S (get_or S.arities f 0)) λ es v. done (w_call room u v) refl

    con-forth : Reading 0x19 con_form
    unfolding expr_behind expr_bytes
    con-forth room =
        next (index-exact (length S.types)).forth λ t u.
        next (index-exact (length (get_or S.types t []))).forth λ c v.
        next (exprs-forth S (length (get_or (get_or S.types t []) c []))) λ es w. done (w_con room u v w) refl

    case-forth : Reading 0x1A case_form
    unfolding expr_behind expr_bytes
    case-forth room =
        next (index-exact (length S.types)).forth λ t u.
        next (inner S).forth λ e v.
        next (result-exact (length S.types) S.sizes).forth λ ρ w.
        next (branches-forth S (get_or S.types t [])) λ bs x. done (w_case room u v w x) (simp append_assoc)

    adj-forth : Reading 0x1B adj_form
    unfolding expr_behind expr_bytes
    adj-forth room = next (size_exact S.sizes).forth λ s u. next (inner S).forth λ e v. done (w_adj room u v) refl

    fit-forth : Reading 0x1C fit_form
    unfolding expr_behind expr_bytes
    fit-forth room =
        next bound-exact.forth λ k t. next (inner S).forth λ a u. next (inner (wider 1 0 S)).forth λ b v. next (inner S).forth λ d w. done (w_fit room t u v w) (simp append_assoc)

    form-forth : Behind expr_bytes (WithinExpr (suc n) S) [] (expr_at (suc n) S)
    unfolding expr_at
    form-forth =
        coded_in (room_in S) (entry bool-forth (entry int-forth (entry var-forth (entry now-forth (entry last-forth (entry let-forth (entry if-forth (entry op-forth (
        entry call-forth (entry con-forth (entry case-forth (entry adj-forth (entry fit-forth no_entry)))))))))))))

pub expr-exact : (n : ℕ) (S : Scope) → Exact (expr_at n S) expr_bytes (WithinExpr n S)
unfolding expr_at
expr-exact zero S = record { back = λ e rest w. elim w [ ]; forth = refused (code_in false 0x10 forms) outside_limits }
expr-exact (suc n) S = record { back = form-back n (expr-exact n) S; forth = form-forth n (expr-exact n) S }
