-- What the table tells of an expression before the parts that end it: of the subject and the return type of a case, of the size of an adj.
use Rattle.std.specs.Prelude.{ℕ, ◌+◌, ◌≤◌, ◌<◌, List, ◌≡◌, length}
use Rattle.std.proofs.Common.{ap, ◌∙◌, subst, arith}
use Rattle.language.specs.Limits.{text_most}
use Rattle.language.specs.Syntax.{Size, ResultType, Expr, ebool, eint, evar, enow, elast, elet, eif, eop, ecall, econ, ecase, eadj, efit, Exprs, enil, econs}
use Rattle.language.specs.Format.{size_bytes, result_bytes, expr_bytes}
use Rattle.text.specs.declared.Cursor.{Cursor}
use Rattle.text.specs.Places.{past, bytes_left, past-past, past-least, place-most, left-past}
use Rattle.encoding.specs.Spells.{Spells, spells-left, spells-within}
use Rattle.heads.specs.Parted.{last_parts, parts_place}
use Rattle.ends.specs.declared.walk.Passed.{Passed}
use Rattle.ends.specs.Ended.{EndAt, Ended, d_bool, d_int, d_var, d_now, d_last, d_let, d_if, d_op, d_call, d_con, d_case, d_adj, d_fit, EndedAll, ds_nil, ds_cons}
use Rattle.ends.specs.Lengths.{size-some, result-some, case-long, adj-long}
use Rattle.ends.specs.Walks.{Kept, Noted, EndedHere, WalkedOver}
use Rattle.ends.specs.KeptLaws.{past-beyond, Same, same-inside, Both, here-kept, case-kept, size-kept}

abbrev pub Before : List ℕ → ℕ → List ℕ → ℕ → Expr → Type 0
Before ends from line at (ebool b) = Unit
Before ends from line at (eint n) = Unit
Before ends from line at (evar v) = Unit
Before ends from line at (enow c) = Unit
Before ends from line at (elast c) = Unit
Before ends from line at (elet a b) = Unit
Before ends from line at (eif a b d) = Unit
Before ends from line at (eop o a b) = Unit
Before ends from line at (ecall f es) = Unit
Before ends from line at (econ t c es) = Unit
Before ends from line at (ecase t e r bs) = EndedAll ends from line (past line at 2) (econs e enil) × EndAt result_bytes ends from line (past line (past line at 2) (length (expr_bytes e))) r
Before ends from line at (eadj k e) = EndAt size_bytes ends from line (past line at 1) k
Before ends from line at (efit k a b d) = Unit

-- with the parts that end it, it is the whole
pub ended-made : {ends : List ℕ} {from : ℕ} {line : List ℕ} {at : ℕ} (e : Expr) → Before ends from line at e → EndedAll ends from line (parts_place line at e) (last_parts e) → Ended ends from line at e
ended-made (ebool b) x y = d_bool
ended-made (eint n) x y = d_int
ended-made (evar v) x y = d_var
ended-made (enow c) x y = d_now
ended-made (elast c) x y = d_last
ended-made (elet a b) x y = d_let y
ended-made (eif a b d) x y = d_if y
ended-made (eop o a b) x y = d_op y
ended-made (ecall f es) x y = d_call y
ended-made (econ t c es) x y = d_con y
ended-made (ecase t e r bs) x y = d_case x.0 x.1 y
ended-made (eadj k e) x y = d_adj x y
ended-made (efit k a b d) x y = d_fit y

-- the parts start no earlier than the expression
pub parts-later : (line : List ℕ) (at : ℕ) (e : Expr) → at ≤ parts_place line at e
parts-later line at (ebool b) = past-least line at _
parts-later line at (eint n) = past-least line at _
parts-later line at (evar v) = past-least line at _
parts-later line at (enow c) = past-least line at _
parts-later line at (elast c) = past-least line at _
parts-later line at (elet a b) = past-least line at _
parts-later line at (eif a b d) = past-least line at _
parts-later line at (eop o a b) = past-least line at _
parts-later line at (ecall f es) = past-least line at _
parts-later line at (econ t c es) = past-least line at _
parts-later line at (ecase t e r bs) =
    omega (arith, past-least line at 2, past-least line (past line at 2) (length (expr_bytes e)), past-least line (past line (past line at 2) (length (expr_bytes e))) (length (result_bytes r)))
parts-later line at (eadj k e) = omega (arith, past-least line at 1, past-least line (past line at 1) (length (size_bytes k)))
parts-later line at (efit k a b d) = past-least line at _

-- ---- another table with the same words up to the parts
module _ {ends ends' : List ℕ} {from : ℕ} (line : List ℕ) (at : ℕ) where
  case-both : (t : ℕ) (e : Expr) (r : ResultType) (bs : Exprs) → length (expr_bytes (ecase t e r bs)) ≤ bytes_left line at → Same ends ends' from at (parts_place line at (ecase t e r bs)) →
      Both ends ends' from line (past line at 2) (length (expr_bytes e) + length (result_bytes r))
  case-both t e r bs fits same = record {
    fits = omega (arith, fits, case-long t e r bs, left-past line at 2);
    same = same-inside (past line at 2) _ (past-least line at 2) (omega (arith, past-past line (past line at 2) (length (expr_bytes e)) (length (result_bytes r)))) same;
  }

  adj-both : (k : Size) (e : Expr) → length (expr_bytes (eadj k e)) ≤ bytes_left line at → Same ends ends' from at (parts_place line at (eadj k e)) → Both ends ends' from line (past line at 1) (length (size_bytes k))
  adj-both k e fits same = record { fits = omega (arith, fits, adj-long k e, left-past line at 1); same = same-inside (past line at 1) _ (past-least line at 1) (omega arith) same }

  pub before-kept : (e : Expr) → length (expr_bytes e) ≤ bytes_left line at → Same ends ends' from at (parts_place line at e) → Before ends from line at e → Before ends' from line at e
  before-kept (ebool b) fits same x = tt
  before-kept (eint n) fits same x = tt
  before-kept (evar v) fits same x = tt
  before-kept (enow c) fits same x = tt
  before-kept (elast c) fits same x = tt
  before-kept (elet a b) fits same x = tt
  before-kept (eif a b d) fits same x = tt
  before-kept (eop o a b) fits same x = tt
  before-kept (ecall f es) fits same x = tt
  before-kept (econ t c es) fits same x = tt
  before-kept (ecase t e r bs) fits same x = case-kept ends ends' from line (past line at 2) e r (case-both t e r bs fits same) x
  before-kept (eadj k e) fits same x = size-kept ends ends' from line (adj-both k e fits same) x
  before-kept (efit k a b d) fits same x = tt

-- ---- a word noted: what it tells, and what it keeps
pub noted-end : {A : Type 0} {bytes : A → List ℕ} {ends ends' line : List ℕ} {from at end : ℕ} {a : A} → Noted from at end ends ends' → length ends ≡ text_most → from + length line ≤ text_most → 0 < length (bytes a) →
    Spells bytes line at a → end ≡ past line at (length (bytes a)) → EndAt bytes ends' from line at a
noted-end {bytes} {line} {from} {at} {end} {a} n long room some s q =
    let most : past line at (length (bytes a)) ≤ length line = place-most line (spells-within s) in
    let later : at < past line at (length (bytes a)) = past-beyond line at (length (bytes a)) some (spells-left s) in
    record { is = n.is (omega (arith, long, room, most, later)) (omega (arith, q, room, most)) ∙ q }

pub noted-before : {ends ends' : List ℕ} {from at end low : ℕ} → Noted from at end ends ends' → Same ends ends' from low at
noted-before {from} {at} n = record { word = λ p l h. n.others (from + p) (λ same. omega (arith, h, same)) }

-- no word changed but of what stands before the parts, which the table tells
pub record Began (line : List ℕ) (from at : ℕ) (e : Expr) (ends ends' : List ℕ) : Type 0 where
  pub told : Before ends' from line at e
  pub kept : Kept (from + at) (from + parts_place line at e) ends ends'

-- ---- a case: its subject was walked over, and where the return type ends was noted
module _ {line ends walked ends' : List ℕ} {from at next : ℕ} {subject : Passed} {first : Cursor} where
  pub case-began : (t : ℕ) {e : Expr} {r : ResultType} (bs : Exprs) → next ≡ past line at 2 → Spells expr_bytes line next e → Spells result_bytes line (past line next (length (expr_bytes e))) r → from + length line ≤ text_most →
      WalkedOver line from next e ends walked subject → first.at ≡ past line (past line next (length (expr_bytes e))) (length (result_bytes r)) → length walked ≡ text_most →
      Noted from subject.behind.at first.at walked ends' → Began line from at (ecase t e r bs) ends ends'
  case-began t {e} {r} bs q s s₂ room w stops long n =
      let place : subject.behind.at ≡ past line next (length (expr_bytes e)) = w.stops in
      let noted : Noted from (past line next (length (expr_bytes e))) first.at walked ends' = subst (λ m. Noted from m first.at walked ends') place n in
      let told : EndedHere from line next e ends' = here-kept walked ends' from line w.told (record { fits = spells-left s; same = noted-before noted }) in
      let type : EndAt result_bytes ends' from line (past line next (length (expr_bytes e))) r = noted-end noted long room (result-some r) s₂ stops in
      let later : at ≤ next = omega (arith, q, past-least line at 2) in
      let ends : past line next (length (expr_bytes e)) < first.at = omega (arith, stops, past-beyond line (past line next (length (expr_bytes e))) (length (result_bytes r)) (result-some r) (spells-left s₂)) in
      let whole : first.at ≡ parts_place line at (ecase t e r bs) = stops ∙ ap (λ (m : ℕ). past line (past line m (length (expr_bytes e))) (length (result_bytes r))) q in
      let onward : next ≤ past line next (length (expr_bytes e)) = past-least line next (length (expr_bytes e)) in
      record {
        told = subst (λ (m : ℕ). EndedAll ends' from line m (econs e enil) × EndAt result_bytes ends' from line (past line m (length (expr_bytes e))) r) q (ds_cons told.end told.parts ds_nil, type);
        kept = record {
          before = λ i less. noted.others i (λ same. omega (arith, less, same, later, onward)) ∙ w.kept.before i (omega (arith, less, later));
          behind = λ i le. noted.others i (λ same. omega (arith, le, same, ends, whole)) ∙ w.kept.behind i (omega (arith, le, ends, whole));
        };
      }

-- ---- an adj: where its size ends was noted
module _ {line ends ends' : List ℕ} {from at next : ℕ} {first : Cursor} where
  pub adj-began : {k : Size} (e : Expr) → next ≡ past line at 1 → Spells size_bytes line next k → from + length line ≤ text_most → first.at ≡ past line next (length (size_bytes k)) → length ends ≡ text_most →
      Noted from next first.at ends ends' → Began line from at (eadj k e) ends ends'
  adj-began {k} e q s room stops long n =
      let size : EndAt size_bytes ends' from line next k = noted-end n long room (size-some k) s stops in
      let later : at ≤ next = omega (arith, q, past-least line at 1) in
      let ends : next < parts_place line at (eadj k e) = omega (arith, past-beyond line next (length (size_bytes k)) (size-some k) (spells-left s), ap (λ (m : ℕ). past line m (length (size_bytes k))) q) in
      record {
        told = subst (λ (m : ℕ). EndAt size_bytes ends' from line m k) q size;
        kept = record { before = λ i less. n.others i (λ same. omega (arith, less, same, later)); behind = λ i le. n.others i (λ same. omega (arith, le, same, ends)) };
      }
