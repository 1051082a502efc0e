-- Lists of expressions: none, or a first one and the others, by how many there are; and the one at a number.
use Rattle.std.specs.Prelude.{ℕ, zero, suc, ◌+◌, ◌<◌, List, ◌++◌, ◌≡◌, refl, length}
use Rattle.std.proofs.Common.{append_assoc, sym, ap, ◌∙◌, arith}
use Rattle.std.proofs.Math.Option.{some}
use Rattle.language.specs.Syntax.{Constructor, Expr, Exprs, enil, econs, look_expr}
use Rattle.language.specs.Format.{expr_bytes, exprs_bytes}
use Rattle.language.specs.Scope.{Scope}
use Rattle.language.specs.Within.{WithinExprs, ws_nil, ws_cons, WithinBranches, wb_nil, wb_cons}
use Rattle.theory.specs.Lists.{none-is-not-some}
use Rattle.text.specs.Places.{past}
use Rattle.encoding.specs.Spells.{Spells, IsLeaf, SpellsTwo, SpellsThree, two_here, three-here}

unfoldable pub expr_count : Exprs → ℕ
expr_count enil = 0
expr_count (econs e es) = suc (expr_count es)

-- ---- the count is what the limits say
pub exprs-counted : {n m : ℕ} {S : Scope} {es : Exprs} → WithinExprs n S m es → expr_count es ≡ m
unfolding expr_count
exprs-counted ws_nil = refl
exprs-counted (ws_cons w ws) = ap suc (exprs-counted ws)

pub branches-counted : {n : ℕ} {S : Scope} {cs : List Constructor} {bs : Exprs} → WithinBranches n S cs bs → expr_count bs ≡ length cs
unfolding expr_count
branches-counted wb_nil = refl
branches-counted (wb_cons w ws) = ap suc (branches-counted ws)

-- ---- none, or more
pub none-spelled : {es : Exprs} → expr_count es ≡ 0 → IsLeaf exprs_bytes 0 es enil
unfolding expr_count exprs_bytes
none-spelled {es = enil} z = record { is = refl; long = refl }
none-spelled {es = econs e es} z = absurd (omega arith)

pub record IsMore (line : List ℕ) (at : ℕ) (es : Exprs) : Type 0 where
  pub first : Expr
  pub others : Exprs
  pub is : es ≡ econs first others
  pub fewer : expr_count es ≡ suc (expr_count others)
  pub spelled : Spells expr_bytes line at first
  pub next : Spells exprs_bytes line (past line at (length (expr_bytes first))) others
  pub ends : past line at (length (exprs_bytes (econs first others))) ≡ past line (past line at (length (expr_bytes first))) (length (exprs_bytes others))

pub first-of-exprs : {line : List ℕ} {at : ℕ} {e : Expr} {es : Exprs} → Spells exprs_bytes line at (econs e es) → SpellsTwo expr_bytes exprs_bytes line at e es
unfolding exprs_bytes
first-of-exprs s = two_here refl s

pub more-spelled : {line : List ℕ} {at : ℕ} {es : Exprs} → Spells exprs_bytes line at es → 0 < expr_count es → IsMore line at es
unfolding expr_count exprs_bytes
more-spelled {es = enil} s more = absurd (omega arith)
more-spelled {es = econs e es} s more =
    let two = first-of-exprs s in
    record { first = e; others = es; is = refl; fewer = refl; spelled = two.spelled; next = two.next; ends = two.ends }

-- ---- the one at a number, the first so many before it and the others behind it
unfoldable pub first_exprs : ℕ → Exprs → Exprs
first_exprs zero es = enil
first_exprs (suc i) enil = enil
first_exprs (suc i) (econs e es) = econs e (first_exprs i es)

unfoldable pub other_exprs : ℕ → Exprs → Exprs
other_exprs zero es = es
other_exprs (suc i) enil = enil
other_exprs (suc i) (econs e es) = other_exprs i es

pub record Among (line : List ℕ) (at : ℕ) (es : Exprs) (i : ℕ) (e : Expr) : Type 0 where
  pub before : Spells exprs_bytes line at (first_exprs i es)
  pub spelled : Spells expr_bytes line (past line at (length (exprs_bytes (first_exprs i es)))) e
  pub next : Spells exprs_bytes line (past line (past line at (length (exprs_bytes (first_exprs i es)))) (length (expr_bytes e))) (other_exprs (suc i) es)
  pub ends : past line at (length (exprs_bytes es)) ≡ past line (past line (past line at (length (exprs_bytes (first_exprs i es)))) (length (expr_bytes e))) (length (exprs_bytes (other_exprs (suc i) es)))
  pub count_before : expr_count (first_exprs i es) ≡ i
  pub count_behind : suc (i + expr_count (other_exprs (suc i) es)) ≡ expr_count es

bytes-parted : (es : Exprs) (i : ℕ) {e : Expr} → look_expr es i ≡ some e → exprs_bytes es ≡ exprs_bytes (first_exprs i es) ++ (expr_bytes e ++ exprs_bytes (other_exprs (suc i) es))
unfolding look_expr exprs_bytes first_exprs other_exprs
bytes-parted enil i e = none-is-not-some e
bytes-parted (econs f es) zero {e} p = let same : f ≡ e = cc in rw same
bytes-parted (econs f es) (suc i) {e} p = rw (bytes-parted es i p) (sym (append_assoc (expr_bytes f) (exprs_bytes (first_exprs i es)) (expr_bytes e ++ exprs_bytes (other_exprs (suc i) es))))

count-before : (es : Exprs) (i : ℕ) {e : Expr} → look_expr es i ≡ some e → expr_count (first_exprs i es) ≡ i
unfolding look_expr expr_count first_exprs
count-before enil i p = none-is-not-some p
count-before (econs f es) zero p = refl
count-before (econs f es) (suc i) p = ap suc (count-before es i p)

count-behind : (es : Exprs) (i : ℕ) {e : Expr} → look_expr es i ≡ some e → suc (i + expr_count (other_exprs (suc i) es)) ≡ expr_count es
unfolding look_expr expr_count other_exprs
count-behind enil i p = none-is-not-some p
count-behind (econs f es) zero p = omega arith
count-behind (econs f es) (suc i) p = omega (arith, count-behind es i p)

pub among-spelled : {line : List ℕ} {at : ℕ} {es : Exprs} (i : ℕ) {e : Expr} → Spells exprs_bytes line at es → look_expr es i ≡ some e → Among line at es i e
among-spelled {line} {at} {es} i {e} s p =
    let three : SpellsThree exprs_bytes expr_bytes exprs_bytes line at (first_exprs i es) e (other_exprs (suc i) es) = three-here (bytes-parted es i p) s in
    record {
      before = three.spelled;
      spelled = three.next;
      next = three.last;
      ends = ap (λ (l : List ℕ). past line at (length l)) (bytes-parted es i p) ∙ three.ends;
      count_before = count-before es i p;
      count_behind = count-behind es i p;
    }
