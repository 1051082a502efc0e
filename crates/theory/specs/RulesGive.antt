-- What the evaluation rules derive, the evaluator gives, with no hypothesis on file or expression. So the rules derive at most
-- one value, and none where the evaluator refuses.
use Rattle.std.specs.Prelude.{ℕ, zero, suc, ◌+◌, ◌-◌, List, [], ◌++◌, true, ◌≡◌, refl, length, leb}
use Rattle.std.proofs.Math.Option.{some}
use Rattle.std.proofs.Common.{sym, ◌∙◌, arith, lt-ltb, le-leb}
use Rattle.std.proofs.Math.ListN.{get_elem? as look}
use Rattle.std.proofs.lemmas.Bool.{lt-leb}
use Rattle.language.specs.Limits.{size_most}
use Rattle.language.specs.Result.{choose}
use Rattle.language.specs.Syntax.{Constructor, Expr, Exprs, enil, econs, look_expr, Function, File, constructors_of}
use Rattle.language.specs.Sizes.{sum}
use Rattle.language.specs.Heap.{Cell, truth, constant_in, constructor_in, size_in, fields_in, own_sum, fields_within_of}
use Rattle.language.specs.Evaluator.{value, refused, values, bind_out, bind_outs, first, rest, needs, alloc, Channels, no_channels, Body, parameter_count, arity, eval, evals, eval_branch, enter_body, run}
use Rattle.language.specs.Rules.{New, FieldSizes, z_none, z_bool, z_int, z_own, z_other, Runs, RunsAll, e_bool, e_int, e_var, e_node, e_atlast, e_let, e_if_then, e_if_else, e_op, e_op_decided, e_call, e_ctor, e_case, e_adj, e_fit_success, e_fit_fail, es_nil, es_cons}
use Rattle.theory.specs.Lists.{look-get_d, none-is-not-some, both_true}
use Rattle.theory.specs.Heaps.{cell-at}

pub value-refused : {l n : ℕ} {g : List Cell} → value l g ≡ refused n → ⊥
value-refused e = let z : ◌≡◌ {A = ℕ} 0 1 = cc in omega arith

pub arity-is : (P : File) (f : ℕ) {F : Function} → look P.functions f ≡ some F → arity P f ≡ length F.parameters
unfolding parameter_count
arity-is P f e = rw e

new-alloc : {cap l : ℕ} {h g : List Cell} {c : Cell} → New cap h c l g → alloc cap h c ≡ value l g
unfolding alloc needs
new-alloc {cap} {h} w = rw (w.at, w.is, lt-ltb (length h) cap w.free)

-- slots taken, as the rules say it and as the evaluator tests it
pub slots-free : {s : ℕ} (m r : ℕ) → s ≡ m + r → leb m s ≡ true
slots-free {s} m r e = le-leb m s (omega arith)

pub slots-left : {s r : ℕ} (m : ℕ) → s ≡ m + r → s - m ≡ r
slots-left m e = omega arith

-- a call with one left enters the body
pub run_enters : (P : File) (cap : ℕ) {u : ℕ} (v f : ℕ) {F : Function} (ls : List ℕ) (s : ℕ) (h : List Cell) → u ≡ 1 + v → look P.functions f ≡ some F →
    run P cap u f ls s h ≡ eval P (run P cap v) cap no_channels F.body ls s h
unfolding run enter_body
run_enters P cap {u} v f ls s h w e = let z : u ≡ suc v = omega arith in rw (z, e)

pub branch-at : (P : File) (B : Body) (cap : ℕ) (N : Channels) (bs : Exprs) (c : ℕ) {b : Expr} (ls E : List ℕ) (s : ℕ) (h : List Cell) → look_expr bs c ≡ some b →
    eval_branch P B cap N bs c ls E s h ≡ needs (leb (length ls) s) 21 (eval P B cap N b (E ++ ls) (s - length ls) h)
unfolding eval look_expr
branch-at P B cap N enil c ls E s h e = none-is-not-some e
branch-at P B cap N (econs a bs) zero {b} ls E s h e = let z : a ≡ b = cc in rw z
branch-at P B cap N (econs a bs) (suc c) ls E s h e = branch-at P B cap N bs c ls E s h e

-- the sizes that the rules read are those that the evaluator sums and tests
pub sizes-sum : {h : List Cell} {fs : Constructor} {ls ks : List ℕ} → FieldSizes h fs ls ks → own_sum h fs ls ≡ sum ks
unfolding own_sum sum size_in
sizes-sum z_none = refl
sizes-sum (z_bool z) = sizes-sum z
sizes-sum (z_int z) = sizes-sum z
sizes-sum {h} (z_own {l} e z) = rw (cell-at h l e, sizes-sum z)
sizes-sum (z_other e le z) = sizes-sum z

pub sizes-within : {h : List Cell} {fs : Constructor} {ls ks : List ℕ} → FieldSizes h fs ls ks → fields_within_of h fs ls ≡ true
unfolding fields_within_of size_in
sizes-within z_none = refl
sizes-within (z_bool z) = sizes-within z
sizes-within (z_int z) = sizes-within z
sizes-within (z_own e z) = sizes-within z
sizes-within {h} (z_other {l} {k} {j} e le z) = rw (cell-at h l e) (both_true (le-leb k j le) (sizes-within z))

module _ (P : File) (cap : ℕ) where
  mutual
    unfolding eval bind_out bind_outs first rest needs choose truth constant_in constructor_in size_in fields_in

    pub runs-eval : {N : Channels} {u s l : ℕ} {E : List ℕ} {h g : List Cell} {e : Expr} → Runs P cap N u s E h e l g → eval P (run P cap u) cap N e E s h ≡ value l g
    runs-eval (e_bool w) = new-alloc w
    runs-eval (e_int w) = new-alloc w
    runs-eval (e_var {v} {E} e) = rw (look-get_d E v 0 e)
    runs-eval (e_node {N} {c} e) = rw (look-get_d N.now c 0 e)
    runs-eval (e_atlast {N} {c} e) = rw (look-get_d N.last c 0 e)
    runs-eval (e_let {r} p z q) = rw (runs-eval p, slots-free 1 r z, slots-left 1 z) (runs-eval q)
    runs-eval (e_if_then {k} {i} p e q) = rw (runs-eval p, cell-at i k e) (runs-eval q)
    runs-eval (e_if_else {k} {i} p e q) = rw (runs-eval p, cell-at i k e) (runs-eval q)
    runs-eval (e_op {j} {k} {i} {f} p c z q d e x y w) = rw (runs-eval p, cell-at i j c, z, runs-eval q, cell-at f j d, cell-at f k e) (new-alloc w)
    runs-eval (e_op_decided {j} {i} p c z w) = rw (runs-eval p, cell-at i j c, z) (new-alloc w)
    runs-eval (e_call {v} {r} {f} {ls} {i} {F} e z ps n w q) =
        rw (arity-is P f e, slots-free (length F.parameters) r z, slots-left (length F.parameters) z, runs-evals ps, run_enters P cap v f ls r i w e) (runs-eval q)
    runs-eval (e_ctor {t} {c} {ls} {ks} {i} {fs} ps e z small w) =
        rw (runs-evals ps, look-get_d (constructors_of P t) c [] e, sizes-sum z, both_true (lt-ltb (sum ks) size_most small) (sizes-within z)) (new-alloc w)
    runs-eval (e_case {N} {u} {s} {r} {c} {k} {E} {ls} {i} {bs} {fs} p e f n b z q) =
        rw (runs-eval p, cell-at i k e, branch-at P (run P cap u) cap N bs c ls E s i b, n, slots-free (length fs) r z, slots-left (length fs) z) (runs-eval q)
    runs-eval (e_adj p) = runs-eval p
    runs-eval (e_fit_success {r} {m} {n} {k} {i} p e le z q) = rw (runs-eval p, cell-at i k e, le-leb n m le, slots-free 1 r z, slots-left 1 z) (runs-eval q)
    runs-eval (e_fit_fail {m} {n} {k} {i} p e less q) = rw (runs-eval p, cell-at i k e, lt-leb n m less) (runs-eval q)

    pub runs-evals : {N : Channels} {u s : ℕ} {E ls : List ℕ} {h g : List Cell} {es : Exprs} → RunsAll P cap N u s E h es ls g → evals P (run P cap u) cap N es E s h ≡ values ls g
    runs-evals es_nil = refl
    runs-evals (es_cons p ps) = rw (runs-eval p, runs-evals ps)

module _ {P : File} {cap : ℕ} {N : Channels} {u s : ℕ} {E : List ℕ} {h : List Cell} {e : Expr} where
  pub runs-unique : {k l : ℕ} {f g : List Cell} → Runs P cap N u s E h e k f → Runs P cap N u s E h e l g → (k ≡ l) × (f ≡ g)
  runs-unique p q = let z = sym (runs-eval P cap p) ∙ runs-eval P cap q in ((cc), (cc))

  pub runs-not-refused : {n l : ℕ} {g : List Cell} → Runs P cap N u s E h e l g → eval P (run P cap u) cap N e E s h ≡ refused n → ⊥
  runs-not-refused p z = value-refused (sym (runs-eval P cap p) ∙ z)
