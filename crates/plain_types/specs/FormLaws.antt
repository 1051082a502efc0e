-- The forms whose parts are single expressions, return by return: what the calls so far promise, the function promises.
use Rattle.std.specs.Prelude.{Some, None}
use Rattle.language.specs.declared.refusals.Refusal.{Refusal}
use Rattle.std.specs.Prelude.{Ok, Err}
use Rattle.std.specs.Prelude.{ℕ, ◌+◌, ◌≤◌, List, [], ◌∷◌, ◌++◌, true, false, ◌≡◌, refl, length, set}
use Rattle.std.proofs.Math.Option.{Option, none}
use Rattle.std.proofs.Common.{sym, ap, ap₂, ◌∙◌, subst, arith}
use Rattle.language.specs.Limits.{variables_most, size_variables_most, nesting_most}
use Rattle.language.specs.Result.{when}
use Rattle.language.specs.Syntax.{Plain, pbool, Expr, File}
use Rattle.language.specs.Format.{size_bytes}
use Rattle.language.specs.Scope.{Scope, wider}
use Rattle.language.specs.Within.{WithinPlain, WithinExpr}
use Rattle.language.specs.ReadExpr.{size_at}
use Rattle.language.specs.Layout.{tag_step}
use Rattle.language.specs.PlainTypes.{same_plain, is_plain, is_named, operand_type, op_type, plain_of}
use Rattle.theory.specs.Lists.{both-never}
use Rattle.theory.specs.PlainTypesAgree.{same-plain}
use Rattle.text.specs.declared.Cursor.{Cursor}
use Rattle.text.specs.Bytes.{Step, bytes_from, forget, plain_word, Passes}
use Rattle.text.specs.Places.{past}
use Rattle.encoding.specs.Spells.{Spells}
use Rattle.encoding.specs.FrameLines.{line_at}
use Rattle.heads.specs.SkipHeads.{next-at, next-there}
use Rattle.index.specs.Sections.{frames_of}
use Rattle.index.specs.Indexed.{frame_part}
use Rattle.plain_types.specs.declared.words.PlainType.{PlainType}
use Rattle.plain_types.specs.declared.words.PlainType.TheVariants.{Bool as BoolIs}
use Rattle.plain_types.specs.declared.words.Typed.{Typed}
use Rattle.heads.specs.declared.places.Place.{Place}
use Rattle.plain_types.specs.Words.{WordOf, operand_of, outcome_of}
use Rattle.plain_types.specs.Agrees.{Typing, meaning, TypeFound, typed, untyped, agrees-as, Holds, holds, fails, wrong, answered, chain-some, chain-none, chain-never, when_true, when_false, both_first, both-not}
use Rattle.heads.specs.Places.{moved_to, wider_by}
use Rattle.plain_types.specs.Asks.{Kept, Stage, Part, AskExpr, AskWant, AskOp, AskAdj, TypesExpr, TypesWant, TypesLet, TypesIf, TypesOp, TypesAdj, TypesFit}
use Rattle.plain_types.specs.WordLaws.{operand-is, outcome-is}
use Rattle.plain_types.specs.EnterLaws.{room-variables, kept_same, kept_then, kept-below, kept_put, stage-kept, stage-bound}
use Rattle.plain_types.specs.ReadLaws.{size-passed}
use Rattle.plain_types.specs.PlainLaws.{is-wanted, not-wanted, none-wanted, plain-let, plain-if, plain_op, plain-adj, plain-fit}

pub part_at : {line : List ℕ} {levels at at' end : ℕ} {S : Scope} {e : Expr} → at' ≡ at → Part line levels S at e end → Part line levels S at' e end
part_at {line} {levels} {end} {S} {e} q p = subst (λ m. Part line levels S m e end) (sym q) p

wider-variables : (n s : ℕ) (S : Scope) → (wider n s S).variables ≡ S.variables + n
unfolding wider
wider-variables n s S = refl

-- the variables of a part's scope are not too many
pub few-variables : {text index scope : List ℕ} {line variables : ℕ} {P : File} {C : List Plain} {S : Scope} {Γ : List Plain} → Stage text index scope line variables P C S Γ →
    (n s : ℕ) {levels : ℕ} {e : Expr} → WithinExpr levels (wider n s S) e → variables + n ≤ variables_most
few-variables {S} st n s w = omega (arith, room-variables w, wider-variables n s S, st.in_scope)

module _ {text : List ℕ} {p : Place} {P : File} {C : List Plain} {S : Scope} {Γ : List Plain} {end : ℕ} where
  pub ask-expr : {e : Expr} → Part (line_at text p.line) p.levels S p.at.at e end → AskExpr text p P C S Γ (plain_of P C e Γ) end
  ask-expr {e} q = record { expr = e; part = q; is = refl }

  pub ask-want : {e : Expr} {kind : PlainType} (τ : Plain) → meaning kind ≡ τ → Part (line_at text p.line) p.levels S p.at.at e end → AskWant text p kind P C S Γ (when (is_plain τ (plain_of P C e Γ)) τ) end
  ask-want {e} τ w q = record { expr = e; part = q; type = τ; wanted = w; is = refl }

-- ---- what a call found, at the place p
module _ {text index scope scope₁ : List ℕ} {p : Place} {x : Typing} where
  module _ (v : TypesExpr text index scope p x scope₁) {P : File} {C : List Plain} {S : Scope} {Γ : List Plain} {e : Expr} {end : ℕ}
      (st : Stage text index scope p.line p.variables P C S Γ) (q : Part (line_at text p.line) p.levels S p.at.at e end) where
    pub found : {k : Typed} → x ≡ Some k → TypeFound k end (plain_of P C e Γ)
    found d = typed (v.says st (ask-expr q)) d

    pub missed : x ≡ None → plain_of P C e Γ ≡ none
    missed d = untyped (v.says st (ask-expr q)) d

  module _ {kind : PlainType} (v : TypesWant text index scope p kind x scope₁) {P : File} {C : List Plain} {S : Scope} {Γ : List Plain} {e : Expr} {end : ℕ}
      (st : Stage text index scope p.line p.variables P C S Γ) (q : Part (line_at text p.line) p.levels S p.at.at e end) (τ : Plain) (w : meaning kind ≡ τ) where
    pub met : {k : Typed} → x ≡ Some k → Holds k end (is_plain τ (plain_of P C e Γ)) τ
    met d = holds (is_plain τ (plain_of P C e Γ)) τ (v.says st (ask-want τ w q)) d

    pub unmet : x ≡ None → is_plain τ (plain_of P C e Γ) ≡ false
    unmet d = fails (is_plain τ (plain_of P C e Γ)) τ (v.says st (ask-want τ w q)) d

module _ (text index scope : List ℕ) (p : Place) where
  -- ---- an expression of the type wanted
  module _ (kind : PlainType) {x : Typing} {scope₁ : List ℕ} (v : TypesExpr text index scope p x scope₁) where
    pub want-wrong : x ≡ None → TypesWant text index scope p kind None scope₁
    want-wrong d = record { says = λ st ask. wrong (ask.is ∙ when_false ask.type (none-wanted ask.type (missed v st ask.part d))); kept = v.kept }

    pub want-other : {k : Typed} → x ≡ Some k → same_plain (meaning k.of) (meaning kind) ≡ false → TypesWant text index scope p kind None scope₁
    want-other d s = record {
      says = λ st ask. let t = found v st ask.part d in wrong (ask.is ∙ when_false ask.type (not-wanted ask.type t.is (ap₂ same_plain (sym t.kind) (sym ask.wanted) ∙ s)));
      kept = v.kept;
    }

    pub want-done : {k : Typed} → x ≡ Some k → same_plain (meaning k.of) (meaning kind) ≡ true → TypesWant text index scope p kind (Some k) scope₁
    want-done {k} d s = record {
      says = λ st ask. let t = found v st ask.part d in answered refl (same-plain (meaning k.of) (meaning kind) s ∙ ask.wanted) t.place (ask.is ∙ when_true ask.type (is-wanted ask.type t.is (ap₂ same_plain (sym t.kind) (sym ask.wanted) ∙ s)));
      kept = v.kept;
    }

  -- ---- `15`
  module _ {x : Typing} {scope₁ : List ℕ} (v : TypesExpr text index scope p x scope₁) where
    pub let-wrong : x ≡ None → TypesLet text index scope p None scope₁
    let-wrong d = record { says = λ {P} {C} {S} {Γ} st ask. wrong (ask.is ∙ plain-let P C Γ ask.first ask.second ∙ chain-none _ (missed v st ask.part d)); kept = v.kept }

    module _ {k : Typed} (d : x ≡ Some k) {word : ℕ} (a : WordOf k.of word) {scope₂ : List ℕ} (put : scope₂ ≡ set scope₁ p.variables word) where
      bound-kept : {scope₃ : List ℕ} → Kept (p.variables + 1) scope₂ scope₃ → Kept p.variables scope scope₃
      bound-kept u = kept_then v.kept (kept_then (rw put (kept_put p.variables scope₁ p.variables word (omega arith))) (kept-below p.variables (omega arith) u))

      bound-stage : {P : File} {C : List Plain} {S : Scope} {Γ : List Plain} → Stage text index scope p.line p.variables P C S Γ → (σ : Plain) → meaning k.of ≡ σ →
          p.variables + 1 ≤ variables_most → Stage text index scope₂ p.line (p.variables + 1) P C (wider 1 0 S) (Γ ++ (σ ∷ []))
      bound-stage st σ w few = rw put (stage-bound (stage-kept st v.kept) σ (a.is ∙ ap plain_word w) (subst (WithinPlain tag_step) w a.small) few)

      pub let-done : {r : Typing} {scope₃ : List ℕ} → TypesExpr text index scope₂ (wider_by 1 p k.next) r scope₃ → TypesLet text index scope p r scope₃
      let-done u = record {
        says = λ {P} {C} {S} {Γ} st ask.
            let t = found v st ask.part d in
            agrees-as (ask.is ∙ plain-let P C Γ ask.first ask.second ∙ chain-some _ t.is)
            (u.says (bound-stage st t.type t.kind (few-variables st 1 0 ask.part₂.within)) (ask-expr (part_at t.place ask.part₂)));
        kept = bound-kept u.kept;
      }

      -- ---- `1C`, behind its first part
      module _ (is-named : is_named (meaning k.of) ≡ true) {y : Typing} {scope₃ : List ℕ} (u : TypesExpr text index scope₂ (wider_by 1 p k.next) y scope₃) where
        pub fit_none : y ≡ None → TypesFit text index scope p None scope₃
        fit_none o = record {
          says = λ {P} {C} {S} {Γ} st ask.
              let t = found v st ask.part d in
              wrong (ask.is ∙ plain-fit P C Γ ask.size ask.first ask.second ask.third ∙ chain-some _ t.is
              ∙ chain-none _ (missed u (bound-stage st t.type t.kind (few-variables st 1 0 ask.part₂.within)) (part_at t.place ask.part₂) o));
          kept = bound-kept u.kept;
        }

        pub fit-done : {j : Typed} {r : Typing} {scope₄ : List ℕ} → y ≡ Some j → TypesWant text index scope₃ (moved_to p j.next) j.of r scope₄ → TypesFit text index scope p r scope₄
        fit-done {j} o w = record {
          says = λ {P} {C} {S} {Γ} st ask.
              let t = found v st ask.part d in
              let t₂ = found u (bound-stage st t.type t.kind (few-variables st 1 0 ask.part₂.within)) (part_at t.place ask.part₂) o in
              let named : is_named t.type ≡ true = ap is_named (sym t.kind) ∙ is-named in
              agrees-as (ask.is ∙ plain-fit P C Γ ask.size ask.first ask.second ask.third ∙ chain-some _ t.is ∙ chain-some _ t₂.is ∙ ap (λ b. when b t₂.type) (both_first named))
              (w.says {o = when (is_plain t₂.type (plain_of P C ask.third Γ)) t₂.type} (stage-kept st (bound-kept u.kept)) (ask-want t₂.type t₂.kind (part_at t₂.place ask.part₃)));
          kept = kept_then (bound-kept u.kept) w.kept;
        }

    pub fit-wrong : x ≡ None → TypesFit text index scope p None scope₁
    fit-wrong d = record { says = λ {P} {C} {S} {Γ} st ask. wrong (ask.is ∙ plain-fit P C Γ ask.size ask.first ask.second ask.third ∙ chain-none _ (missed v st ask.part d)); kept = v.kept }

    pub fit-unnamed : {k : Typed} → x ≡ Some k → is_named (meaning k.of) ≡ false → TypesFit text index scope p None scope₁
    fit-unnamed d h = record {
      says = λ {P} {C} {S} {Γ} st ask.
          let t = found v st ask.part d in
          let unnamed : is_named t.type ≡ false = ap is_named (sym t.kind) ∙ h in
          wrong (ask.is ∙ plain-fit P C Γ ask.size ask.first ask.second ask.third ∙ chain-some _ t.is
          ∙ chain-never _ _ (λ τ. when_false τ (both-not (is_plain τ (plain_of P C ask.third Γ)) unnamed)));
      kept = v.kept;
    }

  -- ---- `16`
  module _ {x : Typing} {scope₁ : List ℕ} (v : TypesWant text index scope p BoolIs x scope₁) where
    pub if-wrong : x ≡ None → TypesIf text index scope p None scope₁
    if-wrong d = record {
      says = λ {P} {C} {S} {Γ} st ask. wrong (ask.is ∙ plain-if P C Γ ask.first ask.second ask.third
          ∙ chain-never _ _ (λ τ. when_false τ (both-not (is_plain τ (plain_of P C ask.third Γ)) (unmet v st ask.part pbool refl d))));
      kept = v.kept;
    }

    module _ {k : Typed} (d : x ≡ Some k) {y : Typing} {scope₂ : List ℕ} (u : TypesExpr text index scope₁ (moved_to p k.next) y scope₂) where
      pub if_none : y ≡ None → TypesIf text index scope p None scope₂
      if_none o = record {
        says = λ {P} {C} {S} {Γ} st ask.
            let h = met v st ask.part pbool refl d in
            wrong (ask.is ∙ plain-if P C Γ ask.first ask.second ask.third ∙ chain-none _ (missed u (stage-kept st v.kept) (part_at h.place ask.part₂) o));
        kept = kept_then v.kept u.kept;
      }

      pub if-done : {j : Typed} {r : Typing} {scope₃ : List ℕ} → y ≡ Some j → TypesWant text index scope₂ (moved_to p j.next) j.of r scope₃ → TypesIf text index scope p r scope₃
      if-done {j} o w = record {
        says = λ {P} {C} {S} {Γ} st ask.
            let h = met v st ask.part pbool refl d in
            let t = found u (stage-kept st v.kept) (part_at h.place ask.part₂) o in
            agrees-as (ask.is ∙ plain-if P C Γ ask.first ask.second ask.third ∙ chain-some _ t.is ∙ ap (λ b. when b t.type) (both_first h.is))
            (w.says (stage-kept st (kept_then v.kept u.kept)) (ask-want t.type t.kind (part_at t.place ask.part₃)));
        kept = kept_then (kept_then v.kept u.kept) w.kept;
      }

  -- ---- `17`
  module _ {code : ℕ} {kind : PlainType} (is : kind ≡ operand_of code) {x : Typing} {scope₁ : List ℕ} (v : TypesWant text index scope p kind x scope₁) where
    operand-kind : {P : File} {C : List Plain} {S : Scope} {Γ : List Plain} {o : Option Plain} {end : ℕ} (ask : AskOp text p code P C S Γ o end) → meaning kind ≡ operand_type ask.op
    operand-kind ask = ap meaning is ∙ ap (λ o. meaning (operand_of o)) (sym ask.coded) ∙ operand-is ask.op

    pub op-wrong : x ≡ None → TypesOp text index scope p code None scope₁
    op-wrong d = record {
      says = λ {P} {C} {S} {Γ} st ask. wrong (ask.is ∙ plain_op P C Γ ask.op ask.first ask.second
          ∙ when_false (op_type ask.op) (both-not (is_plain (operand_type ask.op) (plain_of P C ask.second Γ)) (unmet v st ask.part (operand_type ask.op) (operand-kind ask) d)));
      kept = v.kept;
    }

    module _ {k : Typed} (d : x ≡ Some k) {y : Typing} {scope₂ : List ℕ} (u : TypesWant text index scope₁ (moved_to p k.next) kind y scope₂) where
      pub op-none : y ≡ None → TypesOp text index scope p code None scope₂
      op-none e = record {
        says = λ {P} {C} {S} {Γ} st ask.
            let τ = operand_type ask.op in
            let h = met v st ask.part τ (operand-kind ask) d in
            wrong (ask.is ∙ plain_op P C Γ ask.op ask.first ask.second
            ∙ when_false (op_type ask.op) (both-never (is_plain τ (plain_of P C ask.first Γ)) (unmet u (stage-kept st v.kept) (part_at h.place ask.part₂) τ (operand-kind ask) e)));
        kept = kept_then v.kept u.kept;
      }

      pub op-done : {j : Typed} {given : PlainType} {r : Typing} → y ≡ Some j → given ≡ outcome_of code → r ≡ Some (record { of = given; next = j.next }) → TypesOp text index scope p code r scope₂
      op-done e g q = record {
        says = λ {P} {C} {S} {Γ} st ask.
            let τ = operand_type ask.op in
            let h = met v st ask.part τ (operand-kind ask) d in
            let h₂ = met u (stage-kept st v.kept) (part_at h.place ask.part₂) τ (operand-kind ask) e in
            answered q (ap meaning g ∙ ap (λ o₁. meaning (outcome_of o₁)) (sym ask.coded) ∙ outcome-is ask.op) h₂.place
            (ask.is ∙ plain_op P C Γ ask.op ask.first ask.second ∙ when_true (op_type ask.op) (both_first h.is ∙ h₂.is));
        kept = kept_then v.kept u.kept;
      }

  -- ---- `1B`
  module _ {line : List ℕ} (part : line ≡ frame_part text (frames_of index) p.line) {z : Step} (a : Passes line p.at.at z (forget (size_at nesting_most size_variables_most (bytes_from line p.at.at)))) where
    size-behind : {P : File} {C : List Plain} {S : Scope} {Γ : List Plain} {o : Option Plain} {end : ℕ} → Stage text index scope p.line p.variables P C S Γ → (ask : AskAdj text p P C S Γ o end) →
        z ≡ Ok (record { at = past (line_at text p.line) p.at.at (length (size_bytes ask.size)) })
    size-behind st ask =
        let is : line ≡ line_at text p.line = part ∙ (st.indexed.each_frame p.line st.less).line in
        subst (λ l. z ≡ Ok (record { at = past l p.at.at (length (size_bytes ask.size)) })) is (size-passed ask.few ask.within (subst (λ l. Spells size_bytes l p.at.at ask.size) (sym is) ask.spelled) a)

    pub adj-stops : {m : Refusal} → z ≡ Err m → TypesAdj text index scope p None scope
    adj-stops q = record { says = λ st ask. absurd (next-there (size-behind st ask) q); kept = kept_same }

    module _ {c : Cursor} (q : z ≡ Ok c) {x : Typing} {scope₁ : List ℕ} (v : TypesExpr text index scope (moved_to p c) x scope₁) where
      pub adj-wrong : x ≡ None → TypesAdj text index scope p None scope₁
      adj-wrong d = record {
        says = λ {P} {C} {S} {Γ} st ask. wrong (ask.is ∙ plain-adj P C Γ ask.size ask.first ∙ chain-none _ (missed v st (part_at (next-at (size-behind st ask) q) ask.part) d));
        kept = v.kept;
      }

      pub adj-unnamed : {k : Typed} → x ≡ Some k → is_named (meaning k.of) ≡ false → TypesAdj text index scope p None scope₁
      adj-unnamed d h = record {
        says = λ {P} {C} {S} {Γ} st ask.
            let t = found v st (part_at (next-at (size-behind st ask) q) ask.part) d in
            wrong (ask.is ∙ plain-adj P C Γ ask.size ask.first ∙ chain-some _ t.is ∙ when_false t.type (ap is_named (sym t.kind) ∙ h));
        kept = v.kept;
      }

      pub adj-done : {k : Typed} → x ≡ Some k → is_named (meaning k.of) ≡ true → TypesAdj text index scope p (Some k) scope₁
      adj-done d h = record {
        says = λ {P} {C} {S} {Γ} st ask.
            let t = found v st (part_at (next-at (size-behind st ask) q) ask.part) d in
            answered refl t.kind t.place (ask.is ∙ plain-adj P C Γ ask.size ask.first ∙ chain-some _ t.is ∙ when_true t.type (ap is_named (sym t.kind) ∙ h));
        kept = v.kept;
      }
