-- Where the rules meet a refusal, the evaluator refuses with its number, one of 20 to 23, with no hypothesis on file or expression. So the
-- rules meet at most one, and none where they derive a value.
use Rattle.std.specs.Prelude.{ℕ, zero, ◌≤◌, ◌<◌, List, [], false, ◌≡◌, length, leb}
use Rattle.std.proofs.Common.{sym, ◌∙◌, arith, lt-ltb, le-ltb, le-leb}
use Rattle.std.proofs.lemmas.Bool.{lt-leb}
use Rattle.language.specs.Limits.{size_most}
use Rattle.language.specs.Refusals.{heap_spent, stack_spent, value_too_large}
use Rattle.language.specs.Result.{choose}
use Rattle.language.specs.Syntax.{fbool, fint, own, other, Constructor, Expr, Exprs, File, constructors_of}
use Rattle.language.specs.Sizes.{sum}
use Rattle.language.specs.Heap.{Cell, truth, cell_at, constant_in, constructor_in, size_in, fields_in, fields_within_of}
use Rattle.language.specs.Evaluator.{refused, refused_all_of, bind_out, bind_outs, first, rest, needs, alloc, Channels, eval, evals, run}
use Rattle.language.specs.Meets.{FieldAbove, above, above_later, Meets, MeetsIn, m_bool, m_int, m_let_bound, m_let_slot, m_let_body, m_if, m_if_then, m_if_else, m_op_left, m_op_decided, m_op_right, m_op_cell, m_call_slots, m_call_argument, m_call_stack, m_call_body, m_ctor_field, m_ctor_above, m_ctor_size, m_ctor_cell, m_case, m_case_slots, m_case_branch, m_adj, m_fit, m_fit_slot, m_fit_success, m_fit_fail, ms_first, ms_later}
use Rattle.language.specs.Rules.{Runs}
use Rattle.theory.specs.Lists.{look-get_d, both_true, both-never, both-fails}
use Rattle.theory.specs.Heaps.{cell-at}
use Rattle.theory.specs.RulesGive.{arity-is, slots-free, slots-left, run_enters, branch-at, sizes-sum, sizes-within, runs-eval, runs-evals, runs-not-refused}

no_cell : {cap : ℕ} (h : List Cell) (c : Cell) → cap ≤ length h → alloc cap h c ≡ refused heap_spent
unfolding alloc needs
no_cell {cap} h c le = rw (le-ltb (length h) cap le)

no_call : (P : File) (cap : ℕ) {u : ℕ} (f : ℕ) (ls : List ℕ) (s : ℕ) (h : List Cell) → u < 1 → run P cap u f ls s h ≡ refused stack_spent
unfolding run
no_call P cap {u} f ls s h few = let z : u ≡ zero = omega arith in rw z

above-not-within : {h : List Cell} {fs : Constructor} {ls : List ℕ} → FieldAbove h fs ls → fields_within_of h fs ls ≡ false
unfolding fields_within_of size_in
above-not-within {h} (above {l} {k} {j} e less) = rw (cell-at h l e) (both-fails _ (lt-leb k j less))
above-not-within (above_later {f = fbool} a) = above-not-within a
above-not-within (above_later {f = fint} a) = above-not-within a
above-not-within (above_later {f = own} a) = above-not-within a
above-not-within {h} (above_later {l} {f = other u j} a) = both-never (leb (size_in (cell_at h l)) j) (above-not-within a)

module _ (P : File) (cap : ℕ) where
  mutual
    unfolding eval bind_out bind_outs first rest needs choose truth constant_in constructor_in size_in fields_in

    pub meets-eval : {N : Channels} {u s n : ℕ} {E : List ℕ} {h : List Cell} {e : Expr} → Meets P cap N u s E h e n → eval P (run P cap u) cap N e E s h ≡ refused n
    meets-eval (m_bool {h} full) = no_cell h _ full
    meets-eval (m_int {h} full) = no_cell h _ full
    meets-eval (m_let_bound m) = rw (meets-eval m)
    meets-eval (m_let_slot {s} p few) = rw (runs-eval P cap p, lt-leb 1 s few)
    meets-eval (m_let_body {r} p z m) = rw (runs-eval P cap p, slots-free 1 r z, slots-left 1 z) (meets-eval m)
    meets-eval (m_if m) = rw (meets-eval m)
    meets-eval (m_if_then {k} {i} p e m) = rw (runs-eval P cap p, cell-at i k e) (meets-eval m)
    meets-eval (m_if_else {k} {i} p e m) = rw (runs-eval P cap p, cell-at i k e) (meets-eval m)
    meets-eval (m_op_left m) = rw (meets-eval m)
    meets-eval (m_op_decided {j} {i} p c z full) = rw (runs-eval P cap p, cell-at i j c, z) (no_cell i _ full)
    meets-eval (m_op_right {j} {i} p c z m) = rw (runs-eval P cap p, cell-at i j c, z, meets-eval m)
    meets-eval (m_op_cell {j} {i} {f} p c z q full) = rw (runs-eval P cap p, cell-at i j c, z, runs-eval P cap q) (no_cell f _ full)
    meets-eval (m_call_slots {s} {f} {F} e few) = rw (arity-is P f e, lt-leb (length F.parameters) s few)
    meets-eval (m_call_argument {r} {f} {F} e z m) = rw (arity-is P f e, slots-free (length F.parameters) r z, slots-left (length F.parameters) z, meets-evals m)
    meets-eval (m_call_stack {r} {f} {ls} {i} {F} e z ps none) =
        rw (arity-is P f e, slots-free (length F.parameters) r z, slots-left (length F.parameters) z, runs-evals P cap ps) (no_call P cap f ls r i none)
    meets-eval (m_call_body {v} {r} {f} {ls} {i} {F} e z ps long w m) =
        rw (arity-is P f e, slots-free (length F.parameters) r z, slots-left (length F.parameters) z, runs-evals P cap ps, run_enters P cap v f ls r i w e) (meets-eval m)
    meets-eval (m_ctor_field m) = rw (meets-evals m)
    meets-eval (m_ctor_above {t} {c} ps e a) = rw (runs-evals P cap ps, look-get_d (constructors_of P t) c [] e, both-never _ (above-not-within a))
    meets-eval (m_ctor_size {t} {c} {ks} ps e z large) = rw (runs-evals P cap ps, look-get_d (constructors_of P t) c [] e, sizes-sum z, both-fails _ (le-ltb (sum ks) size_most large))
    meets-eval (m_ctor_cell {t} {c} {ks} {i} ps e z small full) =
        rw (runs-evals P cap ps, look-get_d (constructors_of P t) c [] e, sizes-sum z, both_true (lt-ltb (sum ks) size_most small) (sizes-within z)) (no_cell i _ full)
    meets-eval (m_case m) = rw (meets-eval m)
    meets-eval (m_case_slots {N} {u} {s} {c} {k} {E} {ls} {i} {bs} {fs} p e f n b few) =
        rw (runs-eval P cap p, cell-at i k e, branch-at P (run P cap u) cap N bs c ls E s i b, n, lt-leb (length fs) s few)
    meets-eval (m_case_branch {N} {u} {s} {r} {c} {k} {E} {ls} {i} {bs} {fs} p e f n b z m) =
        rw (runs-eval P cap p, cell-at i k e, branch-at P (run P cap u) cap N bs c ls E s i b, n, slots-free (length fs) r z, slots-left (length fs) z) (meets-eval m)
    meets-eval (m_adj m) = meets-eval m
    meets-eval (m_fit m) = rw (meets-eval m)
    meets-eval (m_fit_slot {s} {m} {j} {k} {i} p e le few) = rw (runs-eval P cap p, cell-at i k e, le-leb j m le, lt-leb 1 s few)
    meets-eval (m_fit_success {r} {m} {j} {k} {i} p e le z q) = rw (runs-eval P cap p, cell-at i k e, le-leb j m le, slots-free 1 r z, slots-left 1 z) (meets-eval q)
    meets-eval (m_fit_fail {m} {j} {k} {i} p e less q) = rw (runs-eval P cap p, cell-at i k e, lt-leb j m less) (meets-eval q)

    meets-evals : {N : Channels} {u s n : ℕ} {E : List ℕ} {h : List Cell} {es : Exprs} → MeetsIn P cap N u s E h es n → evals P (run P cap u) cap N es E s h ≡ refused_all_of n
    meets-evals (ms_first m) = rw (meets-eval m)
    meets-evals (ms_later p m) = rw (runs-eval P cap p, meets-evals m)

-- "run: 20, 21, 22 heap, environment, stack spent; 23 value too large"
pub record RunRefusal (n : ℕ) : Type 0 where
  pub least : heap_spent ≤ n
  pub most : n ≤ value_too_large

module _ {P : File} {cap : ℕ} where
  mutual
    pub meets-numbered : {N : Channels} {u s n : ℕ} {E : List ℕ} {h : List Cell} {e : Expr} → Meets P cap N u s E h e n → RunRefusal n
    meets-numbered (m_bool full) = omega arith
    meets-numbered (m_int full) = omega arith
    meets-numbered (m_let_bound m) = meets-numbered m
    meets-numbered (m_let_slot p few) = omega arith
    meets-numbered (m_let_body p z m) = meets-numbered m
    meets-numbered (m_if m) = meets-numbered m
    meets-numbered (m_if_then p e m) = meets-numbered m
    meets-numbered (m_if_else p e m) = meets-numbered m
    meets-numbered (m_op_left m) = meets-numbered m
    meets-numbered (m_op_decided p c z full) = omega arith
    meets-numbered (m_op_right p c z m) = meets-numbered m
    meets-numbered (m_op_cell p c z q full) = omega arith
    meets-numbered (m_call_slots e few) = omega arith
    meets-numbered (m_call_argument e z m) = meets-in-numbered m
    meets-numbered (m_call_stack e z ps none) = omega arith
    meets-numbered (m_call_body e z ps long w m) = meets-numbered m
    meets-numbered (m_ctor_field m) = meets-in-numbered m
    meets-numbered (m_ctor_above ps e a) = omega arith
    meets-numbered (m_ctor_size ps e z large) = omega arith
    meets-numbered (m_ctor_cell ps e z small full) = omega arith
    meets-numbered (m_case m) = meets-numbered m
    meets-numbered (m_case_slots p e f n b few) = omega arith
    meets-numbered (m_case_branch p e f n b z m) = meets-numbered m
    meets-numbered (m_adj m) = meets-numbered m
    meets-numbered (m_fit m) = meets-numbered m
    meets-numbered (m_fit_slot p e le few) = omega arith
    meets-numbered (m_fit_success p e le z m) = meets-numbered m
    meets-numbered (m_fit_fail p e less m) = meets-numbered m

    meets-in-numbered : {N : Channels} {u s n : ℕ} {E : List ℕ} {h : List Cell} {es : Exprs} → MeetsIn P cap N u s E h es n → RunRefusal n
    meets-in-numbered (ms_first m) = meets-numbered m
    meets-in-numbered (ms_later p m) = meets-in-numbered m

module _ {P : File} {cap : ℕ} {N : Channels} {u s : ℕ} {E : List ℕ} {h : List Cell} {e : Expr} where
  pub meets-unique : {m n : ℕ} → Meets P cap N u s E h e m → Meets P cap N u s E h e n → m ≡ n
  meets-unique p q = let z = sym (meets-eval P cap p) ∙ meets-eval P cap q in cc

  pub meets-runs-not : {n l : ℕ} {g : List Cell} → Meets P cap N u s E h e n → Runs P cap N u s E h e l g → ⊥
  meets-runs-not m r = runs-not-refused r (meets-eval P cap m)
