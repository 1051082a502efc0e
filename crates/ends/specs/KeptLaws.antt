-- What the table tells of an expression depends only on the words of the places inside it: it holds of every table that has the same ones.
use Rattle.std.specs.Prelude.{ℕ, suc, ◌+◌, ◌≤◌, ◌<◌, List, ◌≡◌, refl, length}
use Rattle.std.proofs.Common.{sym, ap, ◌∙◌, subst, arith}
use Rattle.language.specs.Syntax.{Size, ResultType, Expr, ecase, eadj, Exprs, enil, econs}
use Rattle.language.specs.Format.{size_bytes, result_bytes, expr_bytes, exprs_bytes}
use Rattle.text.specs.Places.{past, bytes_left, past-past, past-least, left-past}
use Rattle.ends.specs.Ended.{end_in, EndAt, Ended, d_bool, d_int, d_var, d_now, d_last, d_let, d_if, d_op, d_call, d_con, d_case, d_adj, d_fit, EndedAll, ds_nil, ds_cons}
use Rattle.ends.specs.Walks.{EndedHere}
use Rattle.ends.specs.Lengths.{size-some, result-some, expr-some, more-long, one-long, let-long, if-long, op-long, call_long, con-long, case-long, adj-long, fit-long}

-- bytes that the line has lead to a later place
pub past-beyond : (line : List ℕ) (at n : ℕ) → 0 < n → n ≤ bytes_left line at → at < past line at n
past-beyond line at n some fits = not-here (past-least line at n) (λ same. omega (arith, some, fits, left-past line at n, ap (bytes_left line) same))
  where
    not-here : {a b : ℕ} → a ≤ b → (b ≡ a → ⊥) → a < b
    not-here {a} {b} le other = omega (arith, le, other)

-- fewer bytes lead no further
pub past-ordered : (line : List ℕ) (at m n k : ℕ) → n ≡ m + k → past line at m ≤ past line at n
past-ordered line at m n k is = omega (arith, past-past line at m k, ap (past line at) is, past-least line (past line at m) k)

-- two tables have the same words from one place of a line up to another
pub record Same (ends ends' : List ℕ) (from low high : ℕ) : Type 0 where
  pub word : (p : ℕ) → low ≤ p → p < high → end_in ends' from p ≡ end_in ends from p

pub same-inside : {ends ends' : List ℕ} {from low high : ℕ} (low' high' : ℕ) → low ≤ low' → high' ≤ high → Same ends ends' from low high → Same ends ends' from low' high'
same-inside low' high' le on same = record { word = λ p l h. same.word p (omega (arith, le, l)) (omega (arith, on, h)) }

pub end_kept : {A : Type 0} {bytes : A → List ℕ} {ends ends' line : List ℕ} {from at : ℕ} {a : A} → end_in ends' from at ≡ end_in ends from at → EndAt bytes ends from line at a → EndAt bytes ends' from line at a
end_kept q told = record { is = q ∙ told.is }

module _ (ends ends' : List ℕ) (from : ℕ) (line : List ℕ) where
  -- the line has n bytes from a place on, and both tables have the same words for them; for those behind the first
  pub record Both (at n : ℕ) : Type 0 where
    pub fits : n ≤ bytes_left line at
    pub same : Same ends ends' from at (past line at n)

  pub record Inside (at n : ℕ) : Type 0 where
    pub fits : n ≤ bytes_left line at
    pub same : Same ends ends' from (suc at) (past line at n)

  -- behind a head of k bytes the next m, where l follow; and all that are left
  behind : (at n k m l : ℕ) → 0 < k → n ≡ k + (m + l) → Inside at n → Both (past line at k) m
  behind at n k m l some is h =
      let first : at < past line at k = past-beyond line at k some (omega (arith, h.fits, is)) in
      let last : past line (past line at k) m ≤ past line at n = omega (arith, past-past line at k m, past-ordered line at (k + m) n l (omega (arith, is))) in
      record { fits = omega (arith, h.fits, left-past line at k, is); same = same-inside (past line at k) (past line (past line at k) m) (omega (arith, first)) last h.same }

  all-behind : (at n k m : ℕ) → 0 < k → n ≡ k + m → Inside at n → Both (past line at k) m
  all-behind at n k m some is h = behind at n k m 0 some (omega (arith, is)) h

  -- of n bytes the first m, and the l behind them
  front : (at n m l : ℕ) → n ≡ m + l → Both at n → Both at m
  front at n m l is h = record { fits = omega (arith, h.fits, is); same = same-inside at (past line at m) (omega arith) (past-ordered line at m n l is) h.same }

  back : (at n m l : ℕ) → n ≡ m + l → Both at n → Both (past line at m) l
  back at n m l is h = record {
    fits = omega (arith, h.fits, left-past line at m, is);
    same = same-inside (past line at m) (past line (past line at m) l) (past-least line at m) (omega (arith, past-past line at m l, ap (past line at) is)) h.same;
  }

  inner : (at n : ℕ) → Both at n → Inside at n
  inner at n h = record { fits = h.fits; same = same-inside (suc at) (past line at n) (omega arith) (omega arith) h.same }

  here : {A : Type 0} {bytes : A → List ℕ} {at : ℕ} {a : A} → 0 < length (bytes a) → Both at (length (bytes a)) → EndAt bytes ends from line at a → EndAt bytes ends' from line at a
  here {bytes} {at} {a} some h told = end_kept (h.same.word at (omega arith) (past-beyond line at (length (bytes a)) some h.fits)) told

  -- ---- the case and the adj
  module _ (at t : ℕ) (e : Expr) (r : ResultType) (bs : Exprs) (h : Inside at (length (expr_bytes (ecase t e r bs)))) where
    case-behind : Both (past line at 2) (length (expr_bytes e) + (length (result_bytes r) + length (exprs_bytes bs)))
    case-behind = all-behind at _ 2 _ (omega arith) (case-long t e r bs) h

    case-subject : Both (past line at 2) (length (exprs_bytes (econs e enil)))
    case-subject = subst (Both (past line at 2)) (sym (one-long e)) (front (past line at 2) _ (length (expr_bytes e)) _ refl case-behind)

    case-others : Both (past line (past line at 2) (length (expr_bytes e))) (length (result_bytes r) + length (exprs_bytes bs))
    case-others = back (past line at 2) _ (length (expr_bytes e)) _ refl case-behind

    case-result : Both (past line (past line at 2) (length (expr_bytes e))) (length (result_bytes r))
    case-result = front _ _ (length (result_bytes r)) _ refl case-others

    case-branches : Both (past line (past line (past line at 2) (length (expr_bytes e))) (length (result_bytes r))) (length (exprs_bytes bs))
    case-branches = back _ _ (length (result_bytes r)) _ refl case-others

  module _ (at : ℕ) (k : Size) (e : Expr) (h : Inside at (length (expr_bytes (eadj k e)))) where
    adj-behind : Both (past line at 1) (length (size_bytes k) + length (expr_bytes e))
    adj-behind = all-behind at _ 1 _ (omega arith) (adj-long k e) h

    adj-size : Both (past line at 1) (length (size_bytes k))
    adj-size = front _ _ (length (size_bytes k)) _ refl adj-behind

    adj-part : Both (past line (past line at 1) (length (size_bytes k))) (length (exprs_bytes (econs e enil)))
    adj-part = subst (Both (past line (past line at 1) (length (size_bytes k)))) (sym (one-long e)) (back _ _ (length (size_bytes k)) _ refl adj-behind)

  -- ---- an expression, by the places behind its own; a list
  mutual
    pub ended-kept : {at : ℕ} {e : Expr} → Ended ends from line at e → Inside at (length (expr_bytes e)) → Ended ends' from line at e
    ended-kept d_bool h = d_bool
    ended-kept d_int h = d_int
    ended-kept d_var h = d_var
    ended-kept d_now h = d_now
    ended-kept d_last h = d_last
    ended-kept (d_let {at} {a} {b} x) h = d_let (all-kept x (all-behind at _ 1 _ (omega arith) (let-long a b) h))
    ended-kept (d_if {at} {a} {b} {d} x) h = d_if (all-kept x (all-behind at _ 1 _ (omega arith) (if-long a b d) h))
    ended-kept (d_op {at} {o} {a} {b} x) h = d_op (all-kept x (all-behind at _ 2 _ (omega arith) (op-long o a b) h))
    ended-kept (d_call {at} {f} {es} x) h = d_call (all-kept x (all-behind at _ 2 _ (omega arith) (call_long f es) h))
    ended-kept (d_con {at} {t} {c} {es} x) h = d_con (all-kept x (all-behind at _ 3 _ (omega arith) (con-long t c es) h))
    ended-kept (d_case {at} {t} {e} {r} {bs} x y z) h = d_case (all-kept x (case-subject at t e r bs h)) (here (result-some r) (case-result at t e r bs h) y) (all-kept z (case-branches at t e r bs h))
    ended-kept (d_adj {at} {k} {e} x y) h = d_adj (here (size-some k) (adj-size at k e h) x) (all-kept y (adj-part at k e h))
    ended-kept (d_fit {at} {k} {a} {b} {d} x) h = d_fit (all-kept x (all-behind at _ 2 _ (omega arith) (fit-long k a b d) h))

    pub all-kept : {at : ℕ} {es : Exprs} → EndedAll ends from line at es → Both at (length (exprs_bytes es)) → EndedAll ends' from line at es
    all-kept ds_nil h = ds_nil
    all-kept (ds_cons {at} {e} {es} x y z) h =
        let first = front at _ (length (expr_bytes e)) _ (more-long e es) h in
        ds_cons (here (expr-some e) first x) (ended-kept y (inner at _ first)) (all-kept z (back at _ (length (expr_bytes e)) _ (more-long e es) h))

  pub here-kept : {at : ℕ} {e : Expr} → EndedHere from line at e ends → Both at (length (expr_bytes e)) → EndedHere from line at e ends'
  here-kept {at} {e} x h = record { end = here (expr-some e) h x.end; parts = ended-kept x.parts (inner at _ h) }

  -- ---- what stands before the parts that end a case, and an adj
  pub case-kept : (at : ℕ) (e : Expr) (r : ResultType) → Both at (length (expr_bytes e) + length (result_bytes r)) → EndedAll ends from line at (econs e enil) × EndAt result_bytes ends from line (past line at (length (expr_bytes e))) r →
      EndedAll ends' from line at (econs e enil) × EndAt result_bytes ends' from line (past line at (length (expr_bytes e))) r
  case-kept at e r h x = (all-kept x.0 (subst (Both at) (sym (one-long e)) (front at _ (length (expr_bytes e)) _ refl h)), here (result-some r) (back at _ (length (expr_bytes e)) _ refl h) x.1)

  pub size-kept : {at : ℕ} {k : Size} → Both at (length (size_bytes k)) → EndAt size_bytes ends from line at k → EndAt size_bytes ends' from line at k
  size-kept {k} h x = here (size-some k) h x
