-- Parts that are checked in turn: what one gives by where it is spelled, and what is known behind it.
use Rattle.language.specs.declared.refusals.Refusal.{Refusal}
use Rattle.std.specs.Prelude.{Ok}
use Rattle.size_steps.specs.Outcomes.{Sizing, Refused}
use Rattle.std.specs.Prelude.{ℕ, ◌+◌, ◌≤◌, List, ◌≡◌, length, take, set}
use Rattle.std.proofs.Common.{sym, ap, ◌∙◌, subst, arith}
use Rattle.language.specs.Syntax.{Ty, Expr, File}
use Rattle.language.specs.Scope.{Scope}
use Rattle.language.specs.Format.{expr_bytes}
use Rattle.language.specs.Within.{WithinExpr}
use Rattle.language.specs.Typing.{Place as Stand, frame_at}
use Rattle.language.specs.Checker.{Instance, Sized, sized}
use Rattle.text.specs.Places.{past}
use Rattle.encoding.specs.Spells.{Spells}
use Rattle.encoding.specs.FrameLines.{line_at}
use Rattle.size_steps.specs.declared.Site.{Site}
use Rattle.size_steps.specs.declared.Checked.{Checked}
use Rattle.size_steps.specs.Sites.{moved_on_of, widened_by, Kept, kept_then, kept-moved, kept_under, kept_set}
use Rattle.size_steps.specs.Agreement.{Table, Agrees, itself, CheckedAs, Grows, grown, grows-to, grows_same}
use Rattle.size_laws.specs.Promises.{Lent, Buffers, buffers, Here, entering, Sizes, ExprPart}
use Rattle.size_laws.specs.HereLaws.{part_at, here-moved}

-- the promise at a place by another name
pub sizes-at : {t : Lent} {b b' : Buffers} {p m : Site} {x : Sizing} → m ≡ p → Sizes ExprPart t b m x b' → Sizes ExprPart t b p x b'
sizes-at {t} {b} {b'} {x} is v = subst (λ z. Sizes ExprPart t b z x b') is v

-- ---- a part by where it is spelled
pub part-agrees : {t : Lent} {b b' : Buffers} {p : Site} {x : Sizing} → Sizes ExprPart t b p x b' → {P : File} {S : Scope} {q : Stand} {Γ : List Ty} {Δ : List ℕ} {L : List Instance} {left : ℕ} → Here t b p P S q Γ Δ L left →
    {e : Expr} {at n : ℕ} → Spells expr_bytes (line_at t.text p.place.line) at e → WithinExpr n S e → p.place.at.at ≡ at → p.place.levels ≡ n → Agrees P itself (past (line_at t.text p.place.line) at (length (expr_bytes e))) b'.list x (sized P (entering P left) e q Γ Δ L)
part-agrees {p} v {P} {S} {q} {Γ} {Δ} {L} {left} h {e} s w here levels = v.says P S q Γ Δ L left h _ e (part_at p s w here levels)

-- ---- behind the parts that were checked, the last of which gave k
pub record Behind (p : Site) (b b' : Buffers) (k : Checked) : Type 0 where
  pub kept : Kept p b.scope b.sizes b'.scope b'.sizes
  pub more : p.used ≤ k.used

pub behind-first : {t : Lent} {b b' : Buffers} {p : Site} {x : Sizing} {k : Checked} → Sizes ExprPart t b p x b' → x ≡ Ok k → Behind p b b' k
behind-first v d = record { kept = v.kept; more = grows-to v.grows d }

module _ {t : Lent} {b b₁ b₂ : Buffers} {p : Site} {a : Checked} {y : Sizing} (f : Behind p b b₁ a) (u : Sizes ExprPart t b₁ (moved_on_of p a.next a.used) y b₂) where
  pub next-kept : Kept p b.scope b.sizes b₂.scope b₂.sizes
  next-kept = kept_then f.kept (kept-moved u.kept)

  pub next_grows : Grows p.used y
  next_grows = grows_same f.more u.grows

  pub behind-next : {k : Checked} → y ≡ Ok k → Behind p b b₂ k
  behind-next d = record { kept = next-kept; more = grows-to next_grows d }

pub here-behind : {t : Lent} {b b' : Buffers} {p : Site} {k : Checked} {P : File} {S : Scope} {q : Stand} {Γ : List Ty} {Δ : List ℕ} {L : List Instance} {left next : ℕ} {x : Sized} → Here t b p P S q Γ Δ L left →
    Behind p b b' k → CheckedAs P next b'.list k x → Here t b' (moved_on_of p k.next k.used) P S q Γ Δ x.list left
here-behind {k} h f c = here-moved h k.next f.kept c.holds f.more

-- ---- under a variable that was bound behind them
abbrev pub bound_in : Buffers → Site → ℕ → Buffers
bound_in b p word = buffers b.list (set b.scope p.place.variables word) b.sizes

abbrev pub bound_at : Site → Checked → Site
bound_at p k = widened_by (moved_on_of p k.next k.used) 1 0

pub bound-at : (p : Site) (k : Checked) {m o : Site} → m ≡ moved_on_of p k.next k.used → o ≡ widened_by m 1 0 → o ≡ bound_at p k
bound-at p k moved wide = wide ∙ ap (λ z. widened_by z 1 0) moved

module _ {t : Lent} {b b₁ b₂ : Buffers} {p : Site} {a : Checked} {y : Sizing} (word : ℕ) (f : Behind p b b₁ a) (u : Sizes ExprPart t (bound_in b₁ p word) (bound_at p a) y b₂) where
  pub under-kept : Kept p b.scope b.sizes b₂.scope b₂.sizes
  under-kept = kept_then f.kept (kept_then (kept_set word) (kept-moved (kept_under 1 0 u.kept)))

  pub under_grows : Grows p.used y
  under_grows = grows_same f.more u.grows

  pub behind-under : {k : Checked} → y ≡ Ok k → Behind p b b₂ k
  behind-under d = record { kept = under-kept; more = grows-to under_grows d }

-- ---- the sizes in scope are the first of the sizes held
pub sizes-scope : {t : Lent} {b : Buffers} {p : Site} {P : File} {S : Scope} {q : Stand} {Γ : List Ty} {Δ : List ℕ} {L : List Instance} {left : ℕ} → Here t b p P S q Γ Δ L left → take S.sizes b.sizes ≡ Δ
sizes-scope {b} {p} {S} h = let same : S.sizes ≡ p.sizes = h.site.sizes_in ∙ sym h.site.size_count in ap (λ n. take n b.sizes) same ∙ h.site.sizes_are

-- ---- a refusal in the frame of the place
pub in_frame : {t : Lent} {b : Buffers} {p : Site} {P : File} {S : Scope} {q : Stand} {Γ : List Ty} {Δ : List ℕ} {L : List Instance} {left : ℕ} (n : Refusal) → Here t b p P S q Γ Δ L left → ◌≡◌ {A = Sizing} (Refused n (p.place.line + 1)) (Refused n (frame_at P q))
in_frame {p} {P} {q} n h = let same : p.place.line + 1 ≡ frame_at P q = omega (arith, h.site.frame) in ap (λ frame. Refused n frame) same

-- the scope as it was written
pub put_is : {Part : List ℕ → Site → Scope → ℕ → Expr → Type 0} {t : Lent} {list : Table} {scope sizes scope' : List ℕ} {o : Site} {y : Sizing} {b : Buffers} → scope' ≡ scope → Sizes Part t (buffers list scope' sizes) o y b → Sizes Part t (buffers list scope sizes) o y b
put_is {Part} {t} {list} {sizes} {o} {y} {b} e u = subst (λ l. Sizes Part t (buffers list l sizes) o y b) e u

-- ---- an answer that has gone on
pub grown-is : {used : ℕ} {r : Sizing} {k : Checked} → r ≡ Ok k → used ≤ k.used → Grows used r
grown-is {k} is le = rw is (grown {k = k} le)
