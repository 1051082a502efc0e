-- What is known where an expression stands goes on: to the parts of a form, behind a part that was checked, under one more variable.
use Rattle.std.specs.Prelude.{ℕ, suc, ◌≤◌, List, [], ◌∷◌, ◌++◌, true, ◌≡◌, length, set}
use Rattle.std.proofs.lemmas.List.{map-append}
use Rattle.std.proofs.Common.{sym, ap, ◌∙◌, arith, add-zero, add-one, length-append, take-suc-set, leb-true}
use Rattle.language.specs.Limits.{variables_most, size_variables_most}
use Rattle.language.specs.Syntax.{Ty, Expr, File}
use Rattle.language.specs.Scope.{Scope, wider, room_in}
use Rattle.language.specs.Format.{expr_bytes}
use Rattle.language.specs.Within.{WithinExpr, w_bool, w_int, w_var, w_now, w_last, w_let, w_if, w_op, w_call, w_con, w_case, w_adj, w_fit}
use Rattle.language.specs.Typing.{Place as Stand}
use Rattle.language.specs.Checker.{Instance}
use Rattle.theory.specs.Alls.{all_snoc}
use Rattle.theory.specs.Lists.{both_left, both_right}
use Rattle.text.specs.declared.Cursor.{Cursor}
use Rattle.text.specs.Bytes.{declared_word}
use Rattle.text.specs.Places.{past}
use Rattle.encoding.specs.Spells.{Spells}
use Rattle.encoding.specs.Known.{wider-known}
use Rattle.size_steps.specs.declared.Site.{Site}
use Rattle.size_steps.specs.Sites.{Bounded, moved_on_of, down_to, widened_by, Kept, site-kept, site-moved, site-down}
use Rattle.size_steps.specs.Agreement.{Holds}
use Rattle.size_laws.specs.Promises.{Lent, Buffers, buffers, Here, ExprPart, FormPart}

-- ---- the limits of a scope
pub room_of : {n : ℕ} {S : Scope} {e : Expr} → WithinExpr n S e → room_in S ≡ true
room_of (w_bool room) = room
room_of (w_int room less) = room
room_of (w_var room less) = room
room_of (w_now room less) = room
room_of (w_last room less) = room
room_of (w_let room a b) = room
room_of (w_if room a b d) = room
room_of (w_op room a b) = room
room_of (w_call room less es) = room
room_of (w_con room less few es) = room
room_of (w_case room less e r bs) = room
room_of (w_adj room s e) = room
room_of (w_fit room k a b d) = room

pub record Fits (S : Scope) : Type 0 where
  pub variables : S.variables ≤ variables_most
  pub sizes : S.sizes ≤ size_variables_most

pub fits-of : {n : ℕ} {S : Scope} {e : Expr} → WithinExpr n S e → Fits S
unfolding room_in
fits-of w = let room = room_of w in record { variables = leb-true _ _ (both_left _ _ room); sizes = leb-true _ _ (both_right _ _ room) }

pub suc-same : {m n : ℕ} → suc m ≡ suc n → m ≡ n
suc-same e = omega (arith, e)

-- ---- a part by where it is spelled
pub part_at : {line : List ℕ} {S : Scope} {e : Expr} (p : Site) {at n : ℕ} → Spells expr_bytes line at e → WithinExpr n S e → p.place.at.at ≡ at → p.place.levels ≡ n → ExprPart line p S (past line at (length (expr_bytes e))) e
part_at {line} {e = e} p s w here levels = record { spelled = rw here s; within = rw levels w; ends = ap (λ (i : ℕ). past line i (length (expr_bytes e))) (sym here) }

-- where the parts of a form end
pub ends_at : {Head : List ℕ → ℕ → ℕ → ℕ → Scope → Expr → Type 0} {line : List ℕ} {p : Site} {S : Scope} {end next : ℕ} {e f : Expr} (part : FormPart Head line p S end e) → e ≡ f → past line part.from (length (expr_bytes f)) ≡ next → end ≡ next
ends_at {line = line} part is long = part.ends ∙ ap (λ (z : Expr). past line part.from (length (expr_bytes z))) is ∙ long

-- ---- one level down
pub here-down : {t : Lent} {b : Buffers} {p : Site} {P : File} {S : Scope} {q : Stand} {Γ : List Ty} {Δ : List ℕ} {L : List Instance} {left : ℕ} → Here t b p P S q Γ Δ L left → (at : Cursor) → Here t b (down_to p at) P S q Γ Δ L left
here-down h at = record { indexed = h.indexed; site = site-down h.site at; holds = h.holds; deep = h.deep }

-- ---- behind a part that was checked
pub here-moved : {t : Lent} {b b' : Buffers} {p : Site} {P : File} {S : Scope} {q : Stand} {Γ : List Ty} {Δ : List ℕ} {L M : List Instance} {left used : ℕ} → Here t b p P S q Γ Δ L left → (at : Cursor) →
    Kept p b.scope b.sizes b'.scope b'.sizes → Holds P b'.list used M → p.used ≤ used → Here t b' (moved_on_of p at used) P S q Γ Δ M left
here-moved {used} h at k m le = record {
  indexed = h.indexed;
  site = site-moved (site-kept h.site k) at used;
  holds = m;
  deep = omega (arith, h.deep, h.holds.count, m.count, le);
}

-- ---- under one more variable
pub here-bound : {t : Lent} {b : Buffers} {p : Site} {P : File} {S : Scope} {q : Stand} {Γ : List Ty} {Δ : List ℕ} {L : List Instance} {left : ℕ} {τ : Ty} {word : ℕ} → Here t b p P S q Γ Δ L left →
    variables_most ≤ length b.scope → Fits (wider 1 0 S) → Bounded τ → word ≡ declared_word τ →
    Here t (buffers b.list (set b.scope p.place.variables word) b.sizes) (widened_by p 1 0) P (wider 1 0 S) q (Γ ++ (τ ∷ [])) Δ L left
unfolding wider
here-bound {b} {p} {Γ} {Δ} {τ} {word} h room fits small is = let s = h.site in record {
  indexed = h.indexed;
  site = record {
    known = wider-known 1 0 s.known;
    channels = s.channels;
    frame = s.frame;
    line = s.line;
    around = s.around;
    variables = omega (arith, length-append Γ (τ ∷ []), s.variables);
    variables_in = omega (arith, length-append Γ (τ ∷ []), s.variables_in);
    types = rw (add-one, take-suc-set b.scope p.place.variables word (omega (arith, room, fits.variables, s.variables, s.variables_in)), s.types, is) (sym (map-append declared_word Γ (τ ∷ [])));
    small = all_snoc s.small small;
    size_count = omega (arith, s.size_count);
    sizes_in = omega (arith, s.sizes_in);
    sizes_are = rw (add-zero p.sizes) s.sizes_are;
  };
  holds = h.holds;
  deep = h.deep;
}
