-- What each return of an expression gives: no level left, a leaf, or what its form gives behind its head; and a form by its number.
use Rattle.language.specs.declared.refusals.RefusalAt.{RefusalAt}
use Rattle.std.specs.Prelude.{Err}
use Rattle.size_steps.specs.Outcomes.{Sizing}
use Rattle.std.specs.Prelude.{ℕ, suc, ◌-◌, ◌<◌, List, Bool, true, false, ◌≡◌, refl}
use Rattle.std.proofs.Math.Path.{sym}
use Rattle.std.proofs.Common.{ap, ◌∙◌, subst, arith}
use Rattle.language.specs.Syntax.{Expr, enow, File, Ty}
use Rattle.language.specs.Scope.{Scope}
use Rattle.language.specs.Within.{WithinExpr, w_bool, w_int, w_var, w_now, w_last, w_let, w_if, w_op, w_call, w_con, w_case, w_adj, w_fit}
use Rattle.language.specs.Typing.{Place as Stand}
use Rattle.language.specs.Estimate.{nothing, one_cell}
use Rattle.language.specs.Checker.{Instance, Enter, sized}
use Rattle.theory.specs.Lists.{false-is-not-true}
use Rattle.text.specs.declared.Cursor.{Cursor}
use Rattle.encoding.specs.FrameLines.{line_at}
use Rattle.index.specs.Indexed.{frame_part}
use Rattle.index.specs.FramePartLaws.{part-is-line}
use Rattle.estimate.specs.declared.Estimate.{Estimate}
use Rattle.estimate.specs.Stands.{Makes}
use Rattle.heads.specs.declared.Form.{Form}
use Rattle.heads.specs.declared.Form.TheVariants.{Bool as BoolForm, Int, Variable, Now, Last, Let, If, Operator, Call, Construct, Case, Adjust, Fit, Missing}
use Rattle.heads.specs.declared.Head.{Head}
use Rattle.heads.specs.Heads.{Heads, shown, has_parts}
use Rattle.heads.specs.HeadForms.{LetHead, IfHead, OpHead, CallHead, ConHead, CaseHead, AdjHead, FitHead, no-missing, bool-head, int-head, var-head, NamesChannel, now_named, last_named, channel-head, let-head, if-head, op-head, call-head, con-head, case-head, adj-head, fit-head}
use Rattle.sizes.specs.declared.SizedType.{SizedType}
use Rattle.sizes.specs.declared.SizedType.TheVariants.{Bool as BoolIs, Int as IntIs}
use Rattle.index.specs.Sections.{frames_of}
use Rattle.size_steps.specs.declared.Site.{Site}
use Rattle.size_steps.specs.Sites.{bounded_bool, bounded_int, bounded-small, down_to, kept-all}
use Rattle.size_steps.specs.Agreement.{agrees, Grows, grown, not_grown, before_6, from-before}
use Rattle.size_laws.specs.Promises.{Lent, Buffers, Here, Sizes, ExprPart, FormPart}
use Rattle.size_laws.specs.Parts.{Part, LetPart, IfPart, OpPart, CallPart, ConPart, CasePart, AdjPart, FitPart, CompoundPart}
use Rattle.size_steps.specs.Leaves.{leaf_of, Typed, ChannelTyped, Operands}
use Rattle.size_laws.specs.HereLaws.{here-down}
use Rattle.size_laws.specs.TypesTold.{variable-told, channel-bounded, channel-typed}

-- ---- leaves; Missing is none, and has no parts
abbrev pub is_leaf : Form → Bool
is_leaf (BoolForm v) = true
is_leaf (Int v) = true
is_leaf (Variable v) = true
is_leaf (Now c) = true
is_leaf (Last c) = true
is_leaf Let = false
is_leaf If = false
is_leaf (Operator o) = false
is_leaf (Call f) = false
is_leaf (Construct y c) = false
is_leaf (Case y) = false
is_leaf Adjust = false
is_leaf (Fit n) = false
is_leaf Missing = false

-- ---- an expression takes a level
pub some_level : {n : ℕ} {S : Scope} {e : Expr} → WithinExpr n S e → 0 < n
some_level (w_bool room) = omega arith
some_level (w_int room less) = omega arith
some_level (w_var room less) = omega arith
some_level (w_now room less) = omega arith
some_level (w_last room less) = omega arith
some_level (w_let room a b) = omega arith
some_level (w_if room a b d) = omega arith
some_level (w_op room a b) = omega arith
some_level (w_call room less es) = omega arith
some_level (w_con room less few es) = omega arith
some_level (w_case room less e r bs) = omega arith
some_level (w_adj room s e) = omega arith
some_level (w_fit room k a b d) = omega arith

pub expr-deep : {t : Lent} {b : Buffers} {p : Site} {why : RefusalAt} → p.place.levels ≡ 0 → Sizes ExprPart t b p (Err why) b
expr-deep none = record {
  says = λ P S q Γ Δ L left h end e part. absurd (omega (arith, none, some_level part.within));
  grows = not_grown;
  kept = kept-all;
}

-- ---- a leaf, which ends behind its head
module _ {x : Sizing} {ty : SizedType} {numbers : Estimate} {r : Site} (p : Site) (next : Cursor) (down : r ≡ down_to p next) (is : x ≡ leaf_of ty numbers r) where
  leaf-is : x ≡ leaf_of ty numbers (down_to p next)
  leaf-is = is ∙ ap (leaf_of ty numbers) down

  leaf-grows : Grows p.used x
  leaf-grows = rw leaf-is (grown {k = record { ty = ty; numbers = numbers; next = next; used = p.used }} (omega arith))

-- ---- the parts of a form, as they stand behind its head
form-part : {p : Site} {next : Cursor} {l : List ℕ} {S : Scope} {end : ℕ} {e : Expr} (Of : List ℕ → ℕ → ℕ → ℕ → Scope → Expr → Type 0) → ExprPart l p S end e → Of l p.place.at.at next.at p.place.levels S e → FormPart Of l (down_to p next) S end e
form-part {p} {next} {l} {S} {e} Of part of = record {
  from = p.place.at.at;
  head = let deep : p.place.levels ≡ suc (p.place.levels - 1) = omega (arith, some_level part.within) in subst (λ n. Of l p.place.at.at next.at n S e) deep of;
  ends = part.ends;
}

-- ---- `14` is sized as `13`
sized-alike : (P : File) (enter : Enter) (q : Stand) (Γ : List Ty) (Δ : List ℕ) (L : List Instance) {form : Form} {c : ℕ} {y : ℕ → Expr} → NamesChannel form c y → sized P enter (y c) q Γ Δ L ≡ sized P enter (enow c) q Γ Δ L
unfolding sized
sized-alike P enter q Γ Δ L (now_named is) = refl
sized-alike P enter q Γ Δ L (last_named is) = refl

-- ---- the head that was read of the line of the place; r the place behind it
module _ {t : Lent} {b : Buffers} {p : Site} {line : List ℕ} {h : Head} (cut : line ≡ frame_part t.text (frames_of t.index) p.place.line) (read : Heads line p.place.at.at h) {r : Site} (down : r ≡ down_to p h.next) where
  read_here : {P : File} {S : Scope} {q : Stand} {Γ : List Ty} {Δ : List ℕ} {L : List Instance} {left : ℕ} → Here t b p P S q Γ Δ L left → Heads (line_at t.text p.place.line) p.place.at.at h
  read_here k = subst (λ l. Heads l p.place.at.at h) (part-is-line k.indexed p.place.line k.site.line cut) read

  -- ---- leaves
  pub expr-bool : {x : Sizing} {numbers : Estimate} {v : ℕ} → h.form ≡ BoolForm v → x ≡ leaf_of BoolIs numbers r → Makes one_cell numbers → Sizes ExprPart t b p x b
  unfolding sized
  expr-bool form is cell = record {
    says = λ P S q Γ Δ L left k end e part. let i = bool-head (read_here k) part.spelled part.within form in
        rw i.is (agrees (leaf-is p h.next down is) (record { type = refl; small = bounded_bool; numbers = cell.says; ends = i.ends ∙ sym part.ends; holds = k.holds }));
    grows = leaf-grows p h.next down is;
    kept = kept-all;
  }

  pub expr-int : {x : Sizing} {numbers : Estimate} {v : ℕ} → h.form ≡ Int v → x ≡ leaf_of IntIs numbers r → Makes one_cell numbers → Sizes ExprPart t b p x b
  unfolding sized
  expr-int form is cell = record {
    says = λ P S q Γ Δ L left k end e part. let i = int-head (read_here k) part.spelled part.within form in
        rw i.is (agrees (leaf-is p h.next down is) (record { type = refl; small = bounded_int; numbers = cell.says; ends = i.ends ∙ sym part.ends; holds = k.holds }));
    grows = leaf-grows p h.next down is;
    kept = kept-all;
  }

  pub expr-variable : {x : Sizing} {ty : SizedType} {numbers : Estimate} {v : ℕ} → h.form ≡ Variable v → Typed b.scope v ty → x ≡ leaf_of ty numbers r → Makes nothing numbers → Sizes ExprPart t b p x b
  unfolding sized
  expr-variable {v} form type is none = record {
    says = λ P S q Γ Δ L left k end e part. let i = var-head (read_here k) part.spelled part.within form in
        rw i.is (from-before _ _ _ before_6 (λ τ at. let told = variable-told k.site v at in
        agrees (leaf-is p h.next down is) (record { type = type.says τ (bounded-small told.small) told.is; small = told.small; numbers = none.says; ends = i.ends ∙ sym part.ends; holds = k.holds })));
    grows = leaf-grows p h.next down is;
    kept = kept-all;
  }

  pub expr-channel : {x : Sizing} {ty : SizedType} {numbers : Estimate} {c : ℕ} {y : ℕ → Expr} → NamesChannel h.form c y → ChannelTyped t.index c ty → x ≡ leaf_of ty numbers r → Makes nothing numbers → Sizes ExprPart t b p x b
  unfolding sized
  expr-channel {c} form type is none = record {
    says = λ P S q Γ Δ L left k end e part. let i = channel-head (read_here k) part.spelled part.within form in
        rw (i.is, sized-alike P _ q Γ Δ L form) (from-before _ _ _ before_6 (λ τ at. let named = k.site.channels c τ at in
        agrees (leaf-is p h.next down is) (record { type = channel-typed {t = t} k.indexed c named type; small = channel-bounded {t = t} k.indexed c named; numbers = none.says; ends = i.ends ∙ sym part.ends; holds = k.holds })));
    grows = leaf-grows p h.next down is;
    kept = kept-all;
  }

  -- ---- a form whose parts stand behind the head
  arm : {x : Sizing} {b' : Buffers} (Of : Part) → ((S : Scope) (end : ℕ) (e : Expr) → Heads (line_at t.text p.place.line) p.place.at.at h → ExprPart (line_at t.text p.place.line) p S end e → Of (line_at t.text p.place.line) (down_to p h.next) S end e) →
      Sizes Of t b r x b' → Sizes ExprPart t b p x b'
  arm {x} {b'} Of to v = let u : Sizes Of t b (down_to p h.next) x b' = subst (λ z. Sizes Of t b z x b') down v in record {
    says = λ P S q Γ Δ L left k end e part. u.says P S q Γ Δ L left (here-down k h.next) end e (to S end e (read_here k) part);
    grows = u.grows;
    kept = record { variables = u.kept.variables; sizes_too = u.kept.sizes_too };
  }

  module _ {x : Sizing} {b' : Buffers} where
    pub expr-let : h.form ≡ Let → Sizes LetPart t b r x b' → Sizes ExprPart t b p x b'
    expr-let form v = arm LetPart (λ S end e there part. form-part LetHead part (let-head there part.spelled part.within form)) v

    pub expr-if : h.form ≡ If → Sizes IfPart t b r x b' → Sizes ExprPart t b p x b'
    expr-if form v = arm IfPart (λ S end e there part. form-part IfHead part (if-head there part.spelled part.within form)) v

    pub expr-op : {o : ℕ} → h.form ≡ Operator o → Sizes (OpPart o) t b r x b' → Sizes ExprPart t b p x b'
    expr-op {o} form v = arm (OpPart o) (λ S end e there part. form-part (λ line from at m S e. OpHead line from at m S e o) part (op-head there part.spelled part.within form)) v

    pub expr-call : {f : ℕ} → h.form ≡ Call f → Sizes (CallPart f) t b r x b' → Sizes ExprPart t b p x b'
    expr-call {f} form v = arm (CallPart f) (λ S end e there part. form-part (λ line from at m S e. CallHead line from at m S e f) part (call-head there part.spelled part.within form)) v

    pub expr-con : {y c : ℕ} → h.form ≡ Construct y c → Sizes (ConPart y c) t b r x b' → Sizes ExprPart t b p x b'
    expr-con {y} {c} form v = arm (ConPart y c) (λ S end e there part. form-part (λ line from at m S e. ConHead line from at m S e y c) part (con-head there part.spelled part.within form)) v

    pub expr-case : {y : ℕ} → h.form ≡ Case y → Sizes (CasePart y) t b r x b' → Sizes ExprPart t b p x b'
    expr-case {y} form v = arm (CasePart y) (λ S end e there part. form-part (λ line from at m S e. CaseHead line from at m S e y) part (case-head there part.spelled part.within form)) v

    pub expr-adj : h.form ≡ Adjust → Sizes AdjPart t b r x b' → Sizes ExprPart t b p x b'
    expr-adj form v = arm AdjPart (λ S end e there part. form-part AdjHead part (adj-head there part.spelled part.within form)) v

    pub expr-fit : {n : ℕ} → h.form ≡ Fit n → Sizes (FitPart n) t b r x b' → Sizes ExprPart t b p x b'
    expr-fit {n} form v = arm (FitPart n) (λ S end e there part. form-part (λ line from at m S e. FitHead line from at m S e n) part (fit-head there part.spelled part.within form)) v

    -- no form was read: nothing is spelled there
    pub expr-missing : h.form ≡ Missing → Sizes (CompoundPart Missing) t b r x b' → Sizes ExprPart t b p x b'
    expr-missing form v = arm (CompoundPart Missing) (λ S end e there part. no-missing there part.spelled form) v

    -- any form with parts
    pub expr-compound : (form : Form) → h.form ≡ form → is_leaf form ≡ false → Sizes (CompoundPart form) t b r x b' → Sizes ExprPart t b p x b'
    expr-compound (BoolForm n) is parts v = false-is-not-true (sym parts)
    expr-compound (Int n) is parts v = false-is-not-true (sym parts)
    expr-compound (Variable n) is parts v = false-is-not-true (sym parts)
    expr-compound (Now c) is parts v = false-is-not-true (sym parts)
    expr-compound (Last c) is parts v = false-is-not-true (sym parts)
    expr-compound Let is parts v = expr-let is v
    expr-compound If is parts v = expr-if is v
    expr-compound (Operator o) is parts v = expr-op is v
    expr-compound (Call f) is parts v = expr-call is v
    expr-compound (Construct y c) is parts v = expr-con is v
    expr-compound (Case y) is parts v = expr-case is v
    expr-compound Adjust is parts v = expr-adj is v
    expr-compound (Fit n) is parts v = expr-fit is v
    expr-compound Missing is parts v = expr-missing is v

-- ---- a form by its number: what the function for that form gives, or nothing where there are no parts
pub compound-is : {t : Lent} {b b' : Buffers} {p : Site} {x : Sizing} {form f : Form} → form ≡ f → Sizes (CompoundPart f) t b p x b' → Sizes (CompoundPart form) t b p x b'
compound-is {t} {b} {b'} {p} {x} is v = subst (λ z. Sizes (CompoundPart z) t b p x b') (sym is) v

module _ (line : List ℕ) (p : Site) (S : Scope) (end : ℕ) (e : Expr) where
  no-parts : (form : Form) → has_parts form ≡ false → CompoundPart form line p S end e → ⊥
  no-parts (BoolForm v) none part = part
  no-parts (Int v) none part = part
  no-parts (Variable v) none part = part
  no-parts (Now c) none part = part
  no-parts (Last c) none part = part
  no-parts Missing none part = part
  no-parts Let none part = false-is-not-true (sym none)
  no-parts If none part = false-is-not-true (sym none)
  no-parts (Operator o) none part = false-is-not-true (sym none)
  no-parts (Call f) none part = false-is-not-true (sym none)
  no-parts (Construct y c) none part = false-is-not-true (sym none)
  no-parts (Case y) none part = false-is-not-true (sym none)
  no-parts Adjust none part = false-is-not-true (sym none)
  no-parts (Fit n) none part = false-is-not-true (sym none)

pub compound-none : {t : Lent} {b : Buffers} {p : Site} {why : RefusalAt} (form : Form) → has_parts form ≡ false → Sizes (CompoundPart form) t b p (Err why) b
compound-none form none = record {
  says = λ P S q Γ Δ L left h end e part. absurd (no-parts _ _ _ _ _ form none part);
  grows = not_grown;
  kept = kept-all;
}

-- ---- operands of one byte
pub operands_of : {line : List ℕ} {at : ℕ} {h : Head} → Heads line at h → (form : Form) → h.form ≡ form → Operands form
operands_of r (Call f) is = (shown r is).1.small
operands_of r (Construct t c) is = ((shown r is).1.0.small, (shown r is).1.1.small)
operands_of r (Case t) is = (shown r is).1.small
operands_of r (Fit k) is = (shown r is).1.small
operands_of r (BoolForm b) is = tt
operands_of r (Int n) is = tt
operands_of r (Variable v) is = tt
operands_of r (Now c) is = tt
operands_of r (Last c) is = tt
operands_of r Let is = tt
operands_of r If is = tt
operands_of r (Operator o) is = tt
operands_of r Adjust is = tt
operands_of r Missing is = tt
