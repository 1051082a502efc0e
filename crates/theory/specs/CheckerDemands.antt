-- Demand 2 of `check` and `start`, for all input. The conditions of the places exclude one another, so a number is at a place exactly
-- where its condition holds.
use Rattle.std.specs.Prelude.{ℕ, ◌≤◌, List, Bool, true, false, ◌≡◌, refl}
use Rattle.std.proofs.Common.{sym, ◌∙◌, subst, arith}
use Rattle.language.specs.Result.{both}
use Rattle.language.specs.Refusals.{text_too_long, no_base_constructor, types_disagree, size_outside, too_many_instances, not_lent}
use Rattle.language.specs.Syntax.{File}
use Rattle.language.specs.PlainTyping.{WellPlain}
use Rattle.language.specs.Order.{Acyclic}
use Rattle.language.specs.Estimate.{Estimate}
use Rattle.language.specs.Machine.{Board, board_allowed, Record, answer, check_file, verdict_of, list_lent, check, buffers_lent, start}
use Rattle.language.specs.Acceptance.{Derived, TextOf, CheckerDemand}
use Rattle.theory.specs.Lists.{false-is-not-true, both_left}
use Rattle.theory.specs.ReaderExact.{one-file}
use Rattle.theory.specs.CheckExact.{short-least, short-most, accepted-derived, derived-accepted, short-derived, derived-short, order-derived, derived-order, many-needed, many-refused}
use Rattle.theory.specs.CheckPlaces.{Placed, at_text, at_types, at_order, at_lending, at_sizes, at_board, at_end, placed}

one_plain : {t : List ℕ} {P Q : File} → TextOf P t → TextOf Q t → WellPlain P → WellPlain Q
one_plain p q plain = subst WellPlain (one-file p q) plain

one-acyclic : {t : List ℕ} {P Q : File} → TextOf P t → TextOf Q t → Acyclic P → Acyclic Q
one-acyclic p q acyclic = subst Acyclic (one-file p q) acyclic

both-lent : {lent : Bool} {X : Type 0} → lent ≡ false → lent ≡ true → X
both-lent e f = false-is-not-true (sym e ∙ f)

module _ {t : List ℕ} {lent : Bool} {b : Board} where
  -- ---- from the number to the condition
  number-text : {n : ℕ} → Placed t lent b n → text_too_long ≤ n → n ≤ no_base_constructor → (P : File) → TextOf P t → ⊥
  number-text (at_text f least most) l m = f
  number-text (at_types is not) l m = absurd (omega arith)
  number-text (at_order is plain not) l m = absurd (omega arith)
  number-text (at_lending is plain acyclic e) l m = absurd (omega arith)
  number-text (at_sizes is plain acyclic given not least most) l m = absurd (omega arith)
  number-text (at_board d given short) l m = absurd (omega (arith, short-least short))
  number-text (at_end a) l m = absurd (omega arith)

  number-types : {n : ℕ} → Placed t lent b n → n ≡ types_disagree → (P : File) × TextOf P t × (WellPlain P → ⊥)
  number-types (at_text f least most) e = absurd (omega arith)
  number-types (at_types {P} is not) e = (P, is, not)
  number-types (at_order is plain not) e = absurd (omega arith)
  number-types (at_lending is plain acyclic l) e = absurd (omega arith)
  number-types (at_sizes is plain acyclic given not least most) e = absurd (omega arith)
  number-types (at_board d given short) e = absurd (omega (arith, short-least short))
  number-types (at_end a) e = absurd (omega arith)

  number-lending : {n : ℕ} → Placed t lent b n → n ≡ not_lent → (P : File) × TextOf P t × WellPlain P × Acyclic P × (lent ≡ false)
  number-lending (at_text f least most) e = absurd (omega arith)
  number-lending (at_types is not) e = absurd (omega arith)
  number-lending (at_order is plain not) e = absurd (omega arith)
  number-lending (at_lending {P} is plain acyclic l) e = (P, is, plain, acyclic, l)
  number-lending (at_sizes is plain acyclic given not least most) e = absurd (omega arith)
  number-lending (at_board d given short) e = absurd (omega (arith, short-most short))
  number-lending (at_end a) e = absurd (omega arith)

  number-sizes : {n : ℕ} → Placed t lent b n → size_outside ≤ n → n ≤ too_many_instances → (P : File) × TextOf P t × WellPlain P × Acyclic P × (lent ≡ true) × ((x : Estimate) → Derived t x → ⊥)
  number-sizes (at_text f least most) l m = absurd (omega arith)
  number-sizes (at_types is not) l m = absurd (omega arith)
  number-sizes (at_order is plain not) l m = absurd (omega arith)
  number-sizes (at_lending is plain acyclic e) l m = absurd (omega arith)
  number-sizes (at_sizes {P} is plain acyclic given not least most) l m = (P, is, plain, acyclic, given, not)
  number-sizes (at_board d given short) l m = absurd (omega (arith, short-least short))
  number-sizes (at_end a) l m = absurd (omega arith)

  -- ---- from the condition to the number
  text-number : {n : ℕ} → Placed t lent b n → ((P : File) → TextOf P t → ⊥) → (text_too_long ≤ n) × (n ≤ no_base_constructor)
  text-number (at_text f least most) g = (least, most)
  text-number (at_types {P} is not) g = absurd (g P is)
  text-number (at_order {P} is plain not) g = absurd (g P is)
  text-number (at_lending {P} is plain acyclic e) g = absurd (g P is)
  text-number (at_sizes {P} is plain acyclic given not least most) g = absurd (g P is)
  text-number (at_board d given short) g = absurd (g d.file d.is)
  text-number (at_end a) g = absurd (g a.derived.file a.derived.is)

  types-number : {n : ℕ} {P : File} → Placed t lent b n → TextOf P t → (WellPlain P → ⊥) → n ≡ types_disagree
  types-number {P} (at_text f least most) is g = absurd (f P is)
  types-number (at_types it not) is g = refl
  types-number (at_order it plain not) is g = absurd (g (one_plain it is plain))
  types-number (at_lending it plain acyclic e) is g = absurd (g (one_plain it is plain))
  types-number (at_sizes it plain acyclic given not least most) is g = absurd (g (one_plain it is plain))
  types-number (at_board d given short) is g = absurd (g (one_plain d.is is d.plain))
  types-number (at_end a) is g = absurd (g (one_plain a.derived.is is a.derived.plain))

  lending-number : {n : ℕ} {P : File} → Placed t lent b n → TextOf P t → WellPlain P → Acyclic P → lent ≡ false → n ≡ not_lent
  lending-number {P} (at_text f least most) is plain acyclic l = absurd (f P is)
  lending-number (at_types it not) is plain acyclic l = absurd (not (one_plain is it plain))
  lending-number (at_order it fine not) is plain acyclic l = absurd (not (one-acyclic is it acyclic))
  lending-number (at_lending it fine right e) is plain acyclic l = refl
  lending-number (at_sizes it fine right given not least most) is plain acyclic l = both-lent l given
  lending-number (at_board d given short) is plain acyclic l = both-lent l given
  lending-number (at_end a) is plain acyclic l = both-lent l a.given

  sizes-number : {n : ℕ} {P : File} → Placed t lent b n → TextOf P t → WellPlain P → Acyclic P → lent ≡ true → ((x : Estimate) → Derived t x → ⊥) → (size_outside ≤ n) × (n ≤ too_many_instances)
  sizes-number {P} (at_text f least most) is plain acyclic l g = absurd (f P is)
  sizes-number (at_types it not) is plain acyclic l g = absurd (not (one_plain is it plain))
  sizes-number (at_order it fine not) is plain acyclic l g = absurd (not (one-acyclic is it acyclic))
  sizes-number (at_lending it fine right e) is plain acyclic l g = both-lent e l
  sizes-number (at_sizes it fine right given not least most) is plain acyclic l g = (least, most)
  sizes-number (at_board {x} d given short) is plain acyclic l g = absurd (g x d)
  sizes-number (at_end {x} a) is plain acyclic l g = absurd (g x a.derived)

-- ---- demand 2 of the two calls
checker-demand : (t : List ℕ) (lent : Bool) (b : Board) → (lent ≡ true → board_allowed b ≡ true) → CheckerDemand t lent b (answer (verdict_of b (check_file t lent)))
checker-demand t lent b asks = let p = placed t lent b asks in record {
  text = ((λ r. number-text p r.0 r.1), text-number p);
  types = (number-types p, λ c. types-number p c.1 c.2);
  order = λ frame. (order-derived t lent b asks frame, derived-order t lent b asks frame);
  lending = (number-lending p, λ c. lending-number p c.1 c.2 c.3 c.4);
  sizes = ((λ r. number-sizes p r.0 r.1), λ c. sizes-number p c.1 c.2 c.3 c.4 c.5);
  many = λ is plain acyclic w. (many-needed t lent b asks is plain acyclic w, λ m. many-refused t lent b asks is plain acyclic w m.0 m.1);
  short = λ c least most. (short-derived t lent b asks c least most, derived-short t lent b asks c);
  accepts = λ x. (accepted-derived t lent b asks x, derived-accepted t lent b asks x);
}

pub check-demand : (t : List ℕ) (b : Board) (list : List Record) → CheckerDemand t (list_lent b list) b (check t b list).answer
unfolding check list_lent
check-demand t b list = checker-demand t (list_lent b list) b (λ e. both_left _ _ e)

-- "Start does the same with 18 also for its other buffers' lengths"
pub start-demand : (t : List ℕ) (b : Board) (list : List Record) (state scratch slots : List ℕ) →
    CheckerDemand t (both (list_lent b list) (buffers_lent b state scratch slots)) b (start t b list state scratch slots).answer
unfolding start list_lent
start-demand t b list state scratch slots = checker-demand t (both (list_lent b list) (buffers_lent b state scratch slots)) b (λ e. both_left _ _ (both_left _ _ e))
