-- Expressions by their first byte: the byte there is the code of the form that is spelled, and each form by its code.
use Rattle.std.specs.Prelude.{ℕ, ◌≤◌, List, [], ◌∷◌, ◌++◌, ◌≡◌, length}
use Rattle.std.proofs.Math.Path.{refl, sym, subst, subst₂}
use Rattle.std.proofs.Common.{ap, ◌∙◌, arith}
use Rattle.language.specs.Syntax.{Size, ResultType, Expr, ebool, eint, evar, enow, elast, elet, eif, eop, ecall, econ, ecase, eadj, efit, Exprs}
use Rattle.language.specs.Format.{int_bytes, size_bytes, result_bytes, op_code, expr_bytes, exprs_bytes}
use Rattle.text.specs.Places.{past, byte_at, past-append}
use Rattle.encoding.specs.Spells.{Spells, IsLeaf, spells-byte, spells-first, spells-next, SpellsTwo, SpellsThree, ends-behind, two-behind, three-behind}
use Rattle.encoding.specs.Forms.{IsBool, IsInt, OfTwo, OfThree, OfList, IsOp, IsCase, IsAdj}
use Rattle.encoding.specs.Forms.{FormCoded, bool_coded, int_coded, var_coded, now_coded, last_coded, let_coded, if_coded, op_coded, call_coded, con_coded, case_coded, adj_coded, fit_coded}
use Rattle.encoding.specs.IntSpells.{int-four}

-- ---- the byte at the place is the code of the form
module _ {line : List ℕ} {at : ℕ} where
  int-spells : {n : ℕ} → Spells expr_bytes line at (eint n) → IsInt line at (eint n)
  unfolding expr_bytes int_bytes
  int-spells {n} s = let there : Spells int_bytes line (past line at 1) n = spells-next s (0x11 ∷ []) refl in record { value = n; is = refl; spelled = there; four = int-four there; long = refl }

  of_two : {a b : Expr} (make : Expr → Expr → Expr) (head : List ℕ) → expr_bytes (make a b) ≡ head ++ (expr_bytes a ++ expr_bytes b) →
      Spells expr_bytes line at (make a b) → OfTwo make (length head) line at (make a b)
  of_two {a} {b} make head e s =
      let two : SpellsTwo expr_bytes expr_bytes line (past line at (length head)) a b = two-behind head e s in
      record { first = a; second = b; is = refl; spelled = two.spelled; next = two.next; ends = ends-behind line at head (expr_bytes a ++ expr_bytes b) e ∙ two.ends }

  of_three : {a b d : Expr} (make : Expr → Expr → Expr → Expr) (head : List ℕ) → expr_bytes (make a b d) ≡ head ++ (expr_bytes a ++ (expr_bytes b ++ expr_bytes d)) →
      Spells expr_bytes line at (make a b d) → OfThree make (length head) line at (make a b d)
  of_three {a} {b} {d} make head e s =
      let three : SpellsThree expr_bytes expr_bytes expr_bytes line (past line at (length head)) a b d = three-behind head e s in
      record {
        first = a;
        second = b;
        third = d;
        is = refl;
        spelled = three.spelled;
        next = three.next;
        last = three.last;
        ends = ends-behind line at head (expr_bytes a ++ (expr_bytes b ++ expr_bytes d)) e ∙ three.ends;
      }

  of-list : {es : Exprs} (make : Exprs → Expr) (head : List ℕ) → expr_bytes (make es) ≡ head ++ exprs_bytes es → Spells expr_bytes line at (make es) → OfList make (length head) line at (make es)
  of-list {es} make head e s = record { list = es; is = refl; spelled = spells-next s head e; ends = ends-behind line at head (exprs_bytes es) e }

  call-spells : {f : ℕ} {es : Exprs} → Spells expr_bytes line at (ecall f es) → OfList (ecall (byte_at line (past line at 1))) 2 line at (ecall f es)
  unfolding expr_bytes
  call-spells {f} {es} s = subst (λ n. OfList (ecall n) 2 line at (ecall f es)) (sym (spells-byte s 1 (omega arith))) (of-list (ecall f) (0x18 ∷ f ∷ []) refl s)

  con-spells : {t c : ℕ} {es : Exprs} → Spells expr_bytes line at (econ t c es) → OfList (econ (byte_at line (past line at 1)) (byte_at line (past line at 2))) 3 line at (econ t c es)
  unfolding expr_bytes
  con-spells {t} {c} {es} s =
      subst₂ (λ n m. OfList (econ n m) 3 line at (econ t c es)) (sym (spells-byte s 1 (omega arith))) (sym (spells-byte s 2 (omega arith))) (of-list (econ t c) (0x19 ∷ t ∷ c ∷ []) refl s)

  fit-spells : {k : ℕ} {a b d : Expr} → Spells expr_bytes line at (efit k a b d) → OfThree (efit (byte_at line (past line at 1))) 2 line at (efit k a b d)
  unfolding expr_bytes
  fit-spells {k} {a} {b} {d} s = subst (λ n. OfThree (efit n) 2 line at (efit k a b d)) (sym (spells-byte s 1 (omega arith))) (of_three (efit k) (0x1C ∷ k ∷ []) refl s)

  case-spells : {t : ℕ} {e : Expr} {r : ResultType} {bs : Exprs} → Spells expr_bytes line at (ecase t e r bs) → IsCase line at (ecase t e r bs)
  unfolding expr_bytes
  case-spells {t} {e} {r} {bs} s =
      let three : SpellsThree expr_bytes result_bytes exprs_bytes line (past line at 2) e r bs = three-behind (0x1A ∷ t ∷ []) refl s in
      record {
        first = e;
        result = r;
        branches = bs;
        is = sym (ap (λ n. ecase n e r bs) (spells-byte s 1 (omega arith)));
        spelled = three.spelled;
        next = three.next;
        last = three.last;
        ends = past-append line at (0x1A ∷ t ∷ []) (expr_bytes e ++ (result_bytes r ++ exprs_bytes bs)) ∙ three.ends;
      }

  adj-spells : {k : Size} {e : Expr} → Spells expr_bytes line at (eadj k e) → IsAdj line at (eadj k e)
  unfolding expr_bytes
  adj-spells {k} {e} s =
      let two : SpellsTwo size_bytes expr_bytes line (past line at 1) k e = two-behind (0x1B ∷ []) refl s in
      record { size = k; first = e; is = refl; spelled = two.spelled; next = two.next; ends = past-append line at (0x1B ∷ []) (size_bytes k ++ expr_bytes e) ∙ two.ends }

  pub form-of-byte : {e : Expr} → Spells expr_bytes line at e → FormCoded line at e (byte_at line at)
  unfolding expr_bytes
  form-of-byte {e = ebool b} s = rw (spells-first s (omega arith)) (bool_coded (record { value = b; is = refl; byte = spells-byte s 1 (omega arith); long = refl }))
  form-of-byte {e = eint n} s = rw (spells-first s (omega arith)) (int_coded (int-spells s))
  form-of-byte {e = evar v} s = rw (spells-first s (omega arith)) (var_coded (record { is = sym (ap evar (spells-byte s 1 (omega arith))); long = refl }))
  form-of-byte {e = enow c} s = rw (spells-first s (omega arith)) (now_coded (record { is = sym (ap enow (spells-byte s 1 (omega arith))); long = refl }))
  form-of-byte {e = elast c} s = rw (spells-first s (omega arith)) (last_coded (record { is = sym (ap elast (spells-byte s 1 (omega arith))); long = refl }))
  form-of-byte {e = elet a b} s = rw (spells-first s (omega arith)) (let_coded (of_two elet (0x15 ∷ []) refl s))
  form-of-byte {e = eif a b d} s = rw (spells-first s (omega arith)) (if_coded (of_three eif (0x16 ∷ []) refl s))
  form-of-byte {e = eop o a b} s = rw (spells-first s (omega arith)) (op_coded (record { op = o; byte = spells-byte s 1 (omega arith); of = of_two (eop o) (0x17 ∷ op_code o ∷ []) refl s }))
  form-of-byte {e = ecall f es} s = rw (spells-first s (omega arith)) (call_coded (call-spells s))
  form-of-byte {e = econ t c es} s = rw (spells-first s (omega arith)) (con_coded (con-spells s))
  form-of-byte {e = ecase t e r bs} s = rw (spells-first s (omega arith)) (case_coded (case-spells s))
  form-of-byte {e = eadj k e} s = rw (spells-first s (omega arith)) (adj_coded (adj-spells s))
  form-of-byte {e = efit k a b d} s = rw (spells-first s (omega arith)) (fit_coded (fit-spells s))

-- ---- each form by its code
module _ {line : List ℕ} {at : ℕ} {e : Expr} (s : Spells expr_bytes line at e) where
  pub bool-spelled : byte_at line at ≡ 0x10 → IsBool line at e
  bool-spelled q = elim (rw q at (form-of-byte s)) [ bool_coded i ↦ i ]

  pub int-spelled : byte_at line at ≡ 0x11 → IsInt line at e
  int-spelled q = elim (rw q at (form-of-byte s)) [ int_coded i ↦ i ]

  pub var-spelled : byte_at line at ≡ 0x12 → IsLeaf expr_bytes 2 e (evar (byte_at line (past line at 1)))
  var-spelled q = elim (rw q at (form-of-byte s)) [ var_coded i ↦ i ]

  pub now-spelled : byte_at line at ≡ 0x13 → IsLeaf expr_bytes 2 e (enow (byte_at line (past line at 1)))
  now-spelled q = elim (rw q at (form-of-byte s)) [ now_coded i ↦ i ]

  pub last-spelled : byte_at line at ≡ 0x14 → IsLeaf expr_bytes 2 e (elast (byte_at line (past line at 1)))
  last-spelled q = elim (rw q at (form-of-byte s)) [ last_coded i ↦ i ]

  pub let-spelled : byte_at line at ≡ 0x15 → OfTwo elet 1 line at e
  let-spelled q = elim (rw q at (form-of-byte s)) [ let_coded i ↦ i ]

  pub if-spelled : byte_at line at ≡ 0x16 → OfThree eif 1 line at e
  if-spelled q = elim (rw q at (form-of-byte s)) [ if_coded i ↦ i ]

  pub op-spelled : byte_at line at ≡ 0x17 → IsOp line at e
  op-spelled q = elim (rw q at (form-of-byte s)) [ op_coded i ↦ i ]

  pub call-spelled : byte_at line at ≡ 0x18 → OfList (ecall (byte_at line (past line at 1))) 2 line at e
  call-spelled q = elim (rw q at (form-of-byte s)) [ call_coded i ↦ i ]

  pub con-spelled : byte_at line at ≡ 0x19 → OfList (econ (byte_at line (past line at 1)) (byte_at line (past line at 2))) 3 line at e
  con-spelled q = elim (rw q at (form-of-byte s)) [ con_coded i ↦ i ]

  pub case-spelled : byte_at line at ≡ 0x1A → IsCase line at e
  case-spelled q = elim (rw q at (form-of-byte s)) [ case_coded i ↦ i ]

  pub adj-spelled : byte_at line at ≡ 0x1B → IsAdj line at e
  adj-spelled q = elim (rw q at (form-of-byte s)) [ adj_coded i ↦ i ]

  pub fit-spelled : byte_at line at ≡ 0x1C → OfThree (efit (byte_at line (past line at 1))) 2 line at e
  fit-spelled q = elim (rw q at (form-of-byte s)) [ fit_coded i ↦ i ]

  -- no other byte starts an expression
  pub code-within : (0x10 ≤ byte_at line at) × (byte_at line at ≤ 0x1C)
  code-within = go (form-of-byte s)
    where
      go : {code : ℕ} → FormCoded line at e code → (0x10 ≤ code) × (code ≤ 0x1C)
      go (bool_coded i) = omega arith
      go (int_coded i) = omega arith
      go (var_coded i) = omega arith
      go (now_coded i) = omega arith
      go (last_coded i) = omega arith
      go (let_coded i) = omega arith
      go (if_coded i) = omega arith
      go (op_coded i) = omega arith
      go (call_coded i) = omega arith
      go (con_coded i) = omega arith
      go (case_coded i) = omega arith
      go (adj_coded i) = omega arith
      go (fit_coded i) = omega arith
