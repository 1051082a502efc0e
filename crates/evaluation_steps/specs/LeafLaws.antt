-- What each return gives of the functions that evaluate nothing.
use Rattle.std.specs.Prelude.{ℕ, ◌+◌, ◌-◌, ◌≤◌, List, ◌≡◌, refl, get_or, take}
use Rattle.std.proofs.Common.{sym, ap, ◌∙◌, subst, arith, add-one, length-take}
use Rattle.std.proofs.Math.ListN.{get_or-eq_default}
use Rattle.text.specs.declared.Cursor.{Cursor}
use Rattle.heads.specs.Places.{line_behind_types}
use Rattle.index.specs.Sections.{functions_of}
use Rattle.index.specs.Indexed.{body_at}
use Rattle.ends.specs.EndOf.{end_of}
use Rattle.evaluation_steps.specs.declared.Context.{Context}
use Rattle.evaluation_steps.specs.Contexts.{body_context}
use Rattle.evaluation_steps.specs.Slots.{Pushed}
use Rattle.evaluation_steps.specs.Forms.{end_after}

-- ---- branch_at
pub end-after-none : (ends : List ℕ) (from at : ℕ) → at ≡ end_after ends from at 0
unfolding end_after
end-after-none ends from at = refl

pub end-after-more : (ends : List ℕ) (from first i : ℕ) {at next : ℕ} → at ≡ end_after ends from first i → next ≡ end_of ends from at → next ≡ end_after ends from first (i + 1)
unfolding end_after
end-after-more ends from first i e q = rw add-one (q ∙ ap (end_of ends from) e)

pub end-after-all : (ends : List ℕ) (from first : ℕ) {at i c : ℕ} → i ≤ c → at ≡ end_after ends from first i → c ≤ i → at ≡ end_after ends from first c
end-after-all ends from first {i} {c} le e ge =
    let all : i ≡ c = omega arith in
    e ∙ ap (end_after ends from first) all

-- ---- variable
pub slot-beyond : (slots : List ℕ) {top v : ℕ} → top ≤ v → 0 ≡ get_or (take top slots) v 0
slot-beyond slots {top} {v} le = sym (get_or-eq_default (take top slots) 0 {n = v} (omega (arith, length-take top slots)))

-- ---- push, push_fields
pub pushed-all : {asked : ℕ → ℕ → Type 0} {slots slots' : List ℕ} {top i n : ℕ} → i ≤ n → Pushed asked slots top i slots' → n ≤ i → Pushed asked slots top n slots'
pushed-all {asked} {slots} {slots'} {top} {i} {n} le q ge =
    let all : i ≡ n = omega arith in
    subst (λ m. Pushed asked slots top m slots') all q

-- ---- body_context
pub body-found : (index : List ℕ) (p : Context) (f n : ℕ) {at : Cursor} {line : ℕ} → at.at ≡ body_at (functions_of index) f → line ≡ line_behind_types index f →
    ◌≡◌ {A = Context} (record { at = at; line = line; top = n; used = p.used; calls = p.calls - 1 }) (body_context index p f n)
body-found index p f n start behind = λ i. record { at = record { at = start i }; line = behind i; top = n; used = p.used; calls = p.calls - 1 }
