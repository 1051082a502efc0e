-- Skipping an expression and a list, return by return: what the calls so far promise, the function promises.
use Rattle.language.specs.declared.refusals.Refusal.{Refusal}
use Rattle.std.specs.Prelude.{Ok, Err}
use Rattle.std.specs.Result.{result_unwrap_or}
use Rattle.std.specs.Prelude.{ℕ, zero, suc, ◌-◌, List, ◌≡◌, refl, length}
use Rattle.std.proofs.Common.{sym, ap, ◌∙◌, subst}
use Rattle.language.specs.Limits.{types_most, size_variables_most, nesting_most}
use Rattle.language.specs.Syntax.{Expr, Exprs, enil, econs}
use Rattle.language.specs.Format.{expr_bytes, exprs_bytes, size_bytes, result_bytes}
use Rattle.language.specs.Scope.{Scope}
use Rattle.language.specs.Within.{WithinSize, WithinResult, WithinExpr}
use Rattle.language.specs.Parser.{Parser}
use Rattle.theory.specs.Exact.{Exact}
use Rattle.theory.specs.Places.{one_less}
use Rattle.text.specs.declared.Cursor.{Cursor}
use Rattle.text.specs.Bytes.{Step, bytes_from, past, forget, Passes}
use Rattle.encoding.specs.Spells.{Spells}
use Rattle.encoding.specs.ExprLists.{first-of-exprs}
use Rattle.encoding.specs.CursorSpells.{passed_over}
use Rattle.heads.specs.declared.Form.TheVariants.{Case, Adjust}
use Rattle.heads.specs.declared.Head.{Head}
use Rattle.heads.specs.Heads.{Heads}
use Rattle.heads.specs.Skips.{Skippable, no_more, one_more, Skips, SkipsAll, Over, parts_of}
use Rattle.heads.specs.PartLaws.{none-ends, more-ends}
use Rattle.heads.specs.SkipHeads.{next-at, next-there}
use Rattle.heads.specs.Parted.{Parted, parted, adj-parted, case-parted}

-- ---- a step over what is spelled
module _ {A : Type 0} {p : Parser A} {bytes : A → List ℕ} {W : A → Type 0} (exact : Exact p bytes W) {line : List ℕ} {at : ℕ} {x : Step} (v : Passes line at x (forget (p (bytes_from line at)))) where
  over-next : {d : Cursor} → x ≡ Ok d → Over bytes W line at d
  over-next q = record { says = λ a w s. next-at (passed_over exact s w x v) q }

  over-stop : {m : Refusal} {r : Cursor} → x ≡ Err m → Over bytes W line at r
  over-stop q = record { says = λ a w s. absurd (next-there (passed_over exact s w x v) q) }

pub over-step : {A : Type 0} {p : Parser A} {bytes : A → List ℕ} {W : A → Type 0} (exact : Exact p bytes W) {line : List ℕ} {at : ℕ} (x : Step) → Passes line at x (forget (p (bytes_from line at))) →
    (c : Cursor) {r : Cursor} → r ≡ result_unwrap_or x c → Over bytes W line at r
over-step exact (Ok d) v c q = rw q (over-next exact v refl)
over-step exact (Err m) v c q = over-stop exact v refl

-- ---- levels
pub no-level : {S : Scope} {e : Expr} → WithinExpr zero S e → ⊥
no-level w = elim w [ ]

module _ (line types functions : List ℕ) (c : Cursor) (levels : ℕ) where
  -- ---- an expression
  pub skip-none : {r : Cursor} → levels ≡ 0 → Skips line types functions c levels r
  skip-none q = record { says = λ S e h w s. absurd (no-level (subst (λ m. WithinExpr m S e) q w)) }

  module _ {head : Head} (d : Heads line c.at head) (some : levels ≡ 0 → ⊥) {n : ℕ} (count : n ≡ parts_of types functions head.form) {first r : Cursor} (a : SkipsAll line types functions first (levels - 1) n r) where
    less-deep : {S : Scope} {e : Expr} → WithinExpr levels S e → WithinExpr (suc (levels - 1)) S e
    less-deep {S} {e} w = subst (λ m. WithinExpr m S e) (one_less levels some) w

    parts-skipped : {e : Expr} → Parted line types functions c.at (levels - 1) e first.at n → r.at ≡ past line c.at (length (expr_bytes e))
    parts-skipped p = a.says p.parts p.skippable p.spelled ∙ sym p.long

    pub skip-parts : first ≡ head.next → ((t : ℕ) → head.form ≡ Case t → ⊥) → (head.form ≡ Adjust → ⊥) → Skips line types functions c levels r
    skip-parts start no_case no_adjust = record { says = λ S e h w s. parts-skipped (rw (start, count) (parted d h (less-deep w) s head.form refl no_case no_adjust)) }

    module _ {behind : Cursor} (start : first ≡ behind) where
      pub skip-adjust : head.form ≡ Adjust → Over size_bytes (WithinSize size_variables_most nesting_most) line head.next.at behind → Skips line types functions c levels r
      skip-adjust q o = record { says = λ S e h w s. parts-skipped (rw (start, count, q) (adj-parted d h (less-deep w) s q o)) }

      pub skip-case : {t : ℕ} {result : Cursor} → head.form ≡ Case t → Skips line types functions head.next (levels - 1) result → Over result_bytes (WithinResult types_most size_variables_most) line result.at behind →
          Skips line types functions c levels r
      skip-case q u o = record { says = λ S e h w s. parts-skipped (rw (start, count, q) (case-parted d h (less-deep w) s q u o)) }

  -- ---- several
  pub several-none : {n : ℕ} → n ≡ 0 → SkipsAll line types functions c levels n c
  several-none q = record { says = λ es w s. none es (subst (λ m. Skippable types functions levels m es) q w) }
    where
      none : (es : Exprs) → Skippable types functions levels 0 es → c.at ≡ past line c.at (length (exprs_bytes es))
      none enil no_more = sym (none-ends line c.at)
      none (econs _ _) x3 = elim x3 [ ]

  pub several-done : {n : ℕ} {d r : Cursor} → (n ≡ 0 → ⊥) → Skips line types functions c levels d → SkipsAll line types functions d levels (n - 1) r → SkipsAll line types functions c levels n r
  several-done {n} {d} {r} some u a = record { says = λ es w s. more es (subst (λ m. Skippable types functions levels m es) (one_less n some) w) s }
    where
      more : (es : Exprs) → Skippable types functions levels (suc (n - 1)) es → Spells exprs_bytes line c.at es → r.at ≡ past line c.at (length (exprs_bytes es))
      more (econs e es) (one_more {S} h w ws) s =
          let two = first-of-exprs s in
          let place : d.at ≡ past line c.at (length (expr_bytes e)) = u.says S e h w two.spelled in
          a.says es ws (subst (λ m. Spells exprs_bytes line m es) (sym place) two.next) ∙ ap (λ (a : ℕ). past line a (length (exprs_bytes es))) place ∙ sym (more-ends line c.at e es)
      more enil x'' s = elim x'' [ ]
