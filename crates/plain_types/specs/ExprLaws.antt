-- An expression by its form: what the function of the form promises of the parts, expr promises of the expression.
use Rattle.std.specs.Prelude.{Some}
use Rattle.std.specs.Prelude.{ℕ, suc, ◌-◌, ◌<◌, List, [], map, ◌≡◌, refl, length, get_or, take}
use Rattle.std.proofs.Common.{sym, ap, ◌∙◌, subst, arith, get_or-take}
use Rattle.language.specs.Syntax.{Plain, pbool, Expr, File}
use Rattle.language.specs.Format.{expr_bytes}
use Rattle.language.specs.Scope.{Scope}
use Rattle.language.specs.Within.{WithinExpr, WithinExprs, WithinBranches}
use Rattle.language.specs.PlainTypes.{plain_of}
use Rattle.theory.specs.Alls.{all_get_d}
use Rattle.theory.specs.Lists.{look-get_d, look-map}
use Rattle.theory.specs.Places.{look_at}
use Rattle.text.specs.Bytes.{plain_word}
use Rattle.text.specs.Places.{past}
use Rattle.encoding.specs.Spells.{Spells}
use Rattle.encoding.specs.FrameLines.{line_at}
use Rattle.heads.specs.declared.Form.TheVariants.{Bool as BoolForm, Int, Variable, Let, If, Operator, Call, Construct, Case, Adjust, Fit, Missing}
use Rattle.heads.specs.declared.Head.{Head}
use Rattle.heads.specs.Heads.{Heads}
use Rattle.heads.specs.HeadForms.{no-missing, bool-head, int-head, var-head, NamesChannel, channel-head, let-head, if-head, op-head, call-head, con-head, case-head, adj-head, fit-head}
use Rattle.index.specs.Sections.{frames_of, channels_of}
use Rattle.index.specs.Indexed.{declared_at, frame_part}
use Rattle.plain_types.specs.declared.words.PlainType.{PlainType}
use Rattle.plain_types.specs.declared.words.PlainType.TheVariants.{Bool as BoolIs, Int as IntIs}
use Rattle.heads.specs.declared.places.Place.{Place}
use Rattle.plain_types.specs.Words.{type_at}
use Rattle.plain_types.specs.Agrees.{Typing, meaning, answered}
use Rattle.heads.specs.Places.{inside_of}
use Rattle.plain_types.specs.Asks.{Stage, Part, part-ends, TypesExpr, TypesLet, TypesIf, TypesOp, TypesCall, TypesCon, TypesCase, TypesAdj, TypesFit}
use Rattle.plain_types.specs.WordLaws.{plain_at}
use Rattle.plain_types.specs.EnterLaws.{no-level, less-deep, room-sizes, kept_same}
use Rattle.plain_types.specs.PlainLaws.{plain-bool, plain_int, plain-var, plain-channel}

-- a word of a scope is that of the variable's type
scope-word : (scope : List ℕ) (variables : ℕ) (Γ : List Plain) (v : ℕ) → take variables scope ≡ map plain_word Γ → v < variables → v < length Γ → get_or scope v 0 ≡ plain_word (get_or Γ v pbool)
scope-word scope variables Γ v e less less₂ =
    sym (get_or-take variables scope v 0 less) ∙ ap (λ (l : List ℕ). get_or l v 0) e ∙ look-get_d (map plain_word Γ) v 0 (look-map plain_word Γ v (look_at Γ v pbool less₂))

module _ (text index scope : List ℕ) (p : Place) where
  pub expr-cut : {r : Typing} → p.levels ≡ 0 → TypesExpr text index scope p r scope
  expr-cut z = record { says = λ {P} {C} {S} st ask. absurd (no-level (subst (λ m. WithinExpr m S ask.expr) z ask.part.within)); kept = kept_same }

  module _ {line : List ℕ} (part : line ≡ frame_part text (frames_of index) p.line) {h : Head} (heads : Heads line p.at.at h) where
    module _ {P : File} {C : List Plain} {S : Scope} {Γ : List Plain} (st : Stage text index scope p.line p.variables P C S Γ) where
      heads-in : Heads (line_at text p.line) p.at.at h
      heads-in = subst (λ l. Heads l p.at.at h) (part ∙ (st.indexed.each_frame p.line st.less).line) heads

    -- a part has a level less
    part_of : {left at end : ℕ} {S : Scope} {e : Expr} → p.levels ≡ suc left → WithinExpr left S e → Spells expr_bytes (line_at text p.line) at e → past (line_at text p.line) at (length (expr_bytes e)) ≡ end → Part (line_at text p.line) (p.levels - 1) S at e end
    part_of {S} {e} deep w s q = record { within = subst (λ m. WithinExpr m S e) (less-deep deep) w; spelled = s; ends = q }

    pub expr-missing : {r : Typing} → h.form ≡ Missing → TypesExpr text index scope p r scope
    expr-missing q = record { says = λ st ask. absurd (no-missing (heads-in st) ask.part.spelled q); kept = kept_same }

    -- ---- leaves
    pub expr-bool : {b : ℕ} {r : Typing} → h.form ≡ BoolForm b → r ≡ Some (record { of = BoolIs; next = h.next }) → TypesExpr text index scope p r scope
    expr-bool q e = record {
      says = λ {P} {C} {S} {Γ} st ask.
          let i = bool-head (heads-in st) ask.part.spelled ask.part.within q in
          answered e refl (i.ends ∙ ask.part.ends) (ask.is ∙ ap (λ a. plain_of P C a Γ) i.is ∙ plain-bool P C Γ i.value);
      kept = kept_same;
    }

    pub expr-int : {b : ℕ} {r : Typing} → h.form ≡ Int b → r ≡ Some (record { of = IntIs; next = h.next }) → TypesExpr text index scope p r scope
    expr-int {b} q e = record {
      says = λ {P} {C} {S} {Γ} st ask.
          let i = int-head (heads-in st) ask.part.spelled ask.part.within q in
          answered e refl (i.ends ∙ ask.part.ends) (ask.is ∙ ap (λ a. plain_of P C a Γ) i.is ∙ plain_int P C Γ b);
      kept = kept_same;
    }

    pub expr-var : {v word : ℕ} {of : PlainType} {r : Typing} → h.form ≡ Variable v → word ≡ get_or scope v 0 → of ≡ type_at word → r ≡ Some (record { of = of; next = h.next }) → TypesExpr text index scope p r scope
    expr-var {v} q w k e = record {
      says = λ {P} {C} {S} {Γ} st ask.
          let i = var-head (heads-in st) ask.part.spelled ask.part.within q in
          let less : v < p.variables = omega (arith, i.less, st.in_scope) in
          let less₂ : v < length Γ = omega (arith, less, st.long) in
          answered e (ap meaning k ∙ ap (λ a. meaning (type_at a)) (w ∙ scope-word scope p.variables Γ v st.words less less₂) ∙ plain_at (all_get_d st.small v pbool less₂)) (i.ends ∙ ask.part.ends)
          (ask.is ∙ ap (λ a. plain_of P C a Γ) i.is ∙ plain-var P C Γ v ∙ look_at Γ v pbool less₂);
      kept = kept_same;
    }

    pub expr-channel : {c : ℕ} {x : ℕ → Expr} {r : Typing} → NamesChannel h.form c x → r ≡ Some (record { of = type_at (declared_at (channels_of index) c); next = h.next }) → TypesExpr text index scope p r scope
    expr-channel {c} q e = record {
      says = λ {P} {C} {S} {Γ} st ask.
          let i = channel-head (heads-in st) ask.part.spelled ask.part.within q in
          let less : c < length C = omega (arith, i.less, st.channels) in
          answered e (st.channel c less) (i.ends ∙ ask.part.ends) (ask.is ∙ ap (λ a. plain_of P C a Γ) i.is ∙ plain-channel P C Γ q ∙ look_at C c pbool less);
      kept = kept_same;
    }

    -- ---- forms with parts
    module _ {r : Typing} {scope₁ : List ℕ} where
      pub expr-let : h.form ≡ Let → TypesLet text index scope (inside_of p h.next) r scope₁ → TypesExpr text index scope p r scope₁
      expr-let q v = record {
        says = λ {P} {C} {S} {Γ} st ask.
            let i = let-head (heads-in st) ask.part.spelled ask.part.within q in
            v.says st (record {
              first = i.first;
              second = i.second;
              middle = past (line_at text p.line) h.next.at (length (expr_bytes i.first));
              part = part_of i.deep i.within i.spelled refl;
              part₂ = part_of i.deep i.within₂ i.spelled₂ (part-ends ask.part i.is i.long);
              is = ask.is ∙ ap (λ a. plain_of P C a Γ) i.is;
            });
        kept = v.kept;
      }

      pub expr-if : h.form ≡ If → TypesIf text index scope (inside_of p h.next) r scope₁ → TypesExpr text index scope p r scope₁
      expr-if q v = record {
        says = λ {P} {C} {S} {Γ} st ask.
            let i = if-head (heads-in st) ask.part.spelled ask.part.within q in
            v.says st (record {
              first = i.first;
              second = i.second;
              third = i.third;
              middle = past (line_at text p.line) h.next.at (length (expr_bytes i.first));
              middle₂ = past (line_at text p.line) (past (line_at text p.line) h.next.at (length (expr_bytes i.first))) (length (expr_bytes i.second));
              part = part_of i.deep i.within i.spelled refl;
              part₂ = part_of i.deep i.within₂ i.spelled₂ refl;
              part₃ = part_of i.deep i.within₃ i.spelled₃ (part-ends ask.part i.is i.long);
              is = ask.is ∙ ap (λ a. plain_of P C a Γ) i.is;
            });
        kept = v.kept;
      }

      pub expr-op : {o : ℕ} → h.form ≡ Operator o → TypesOp text index scope (inside_of p h.next) o r scope₁ → TypesExpr text index scope p r scope₁
      expr-op q v = record {
        says = λ {P} {C} {S} {Γ} st ask.
            let i = op-head (heads-in st) ask.part.spelled ask.part.within q in
            v.says st (record {
              op = i.op;
              coded = i.code;
              first = i.first;
              second = i.second;
              middle = past (line_at text p.line) h.next.at (length (expr_bytes i.first));
              part = part_of i.deep i.within i.spelled refl;
              part₂ = part_of i.deep i.within₂ i.spelled₂ (part-ends ask.part i.is i.long);
              is = ask.is ∙ ap (λ a. plain_of P C a Γ) i.is;
            });
        kept = v.kept;
      }

      pub expr-call : {f : ℕ} → h.form ≡ Call f → TypesCall text index scope (inside_of p h.next) f r scope₁ → TypesExpr text index scope p r scope₁
      expr-call {f} q v = record {
        says = λ {P} {C} {S} {Γ} st ask.
            let i = call-head (heads-in st) ask.part.spelled ask.part.within q in
            v.says st (record {
              list = i.list;
              less = i.less;
              within = subst (λ m. WithinExprs m S (get_or S.arities f 0) i.list) (less-deep i.deep) i.within;
              spelled = i.spelled;
              ends = part-ends ask.part i.is i.long;
              is = ask.is ∙ ap (λ a. plain_of P C a Γ) i.is;
            });
        kept = v.kept;
      }

      pub expr-con : {t c : ℕ} → h.form ≡ Construct t c → TypesCon text index scope (inside_of p h.next) t c r scope₁ → TypesExpr text index scope p r scope₁
      expr-con {t} {c} q v = record {
        says = λ {P} {C} {S} {Γ} st ask.
            let i = con-head (heads-in st) ask.part.spelled ask.part.within q in
            v.says st (record {
              list = i.list;
              less = i.less;
              less₂ = i.less₂;
              within = subst (λ m. WithinExprs m S (length (get_or (get_or S.types t []) c [])) i.list) (less-deep i.deep) i.within;
              spelled = i.spelled;
              ends = part-ends ask.part i.is i.long;
              is = ask.is ∙ ap (λ a. plain_of P C a Γ) i.is;
            });
        kept = v.kept;
      }

      pub expr-case : {t : ℕ} → h.form ≡ Case t → TypesCase text index scope (inside_of p h.next) t r scope₁ → TypesExpr text index scope p r scope₁
      expr-case {t} q v = record {
        says = λ {P} {C} {S} {Γ} st ask.
            let i = case-head (heads-in st) ask.part.spelled ask.part.within q in
            v.says st (record {
              first = i.first;
              result = i.result;
              branches = i.branches;
              middle = past (line_at text p.line) h.next.at (length (expr_bytes i.first));
              part = part_of i.deep i.within i.spelled refl;
              less = i.less;
              few = room-sizes S i.room;
              within = i.within₂;
              spelled = i.spelled₂;
              within₂ = subst (λ m. WithinBranches m S (get_or S.types t []) i.branches) (less-deep i.deep) i.within₃;
              spelled₂ = i.spelled₃;
              ends = part-ends ask.part i.is i.long;
              is = ask.is ∙ ap (λ a. plain_of P C a Γ) i.is;
            });
        kept = v.kept;
      }

      pub expr-adj : h.form ≡ Adjust → TypesAdj text index scope (inside_of p h.next) r scope₁ → TypesExpr text index scope p r scope₁
      expr-adj q v = record {
        says = λ {P} {C} {S} {Γ} st ask.
            let i = adj-head (heads-in st) ask.part.spelled ask.part.within q in
            v.says st (record {
              size = i.size;
              first = i.first;
              few = room-sizes S i.room;
              within = i.within;
              spelled = i.spelled;
              part = part_of i.deep i.within₂ i.spelled₂ (part-ends ask.part i.is i.long);
              is = ask.is ∙ ap (λ a. plain_of P C a Γ) i.is;
            });
        kept = v.kept;
      }

      pub expr-fit : {k : ℕ} → h.form ≡ Fit k → TypesFit text index scope (inside_of p h.next) r scope₁ → TypesExpr text index scope p r scope₁
      expr-fit {k} q v = record {
        says = λ {P} {C} {S} {Γ} st ask.
            let i = fit-head (heads-in st) ask.part.spelled ask.part.within q in
            v.says st (record {
              size = k;
              first = i.first;
              second = i.second;
              third = i.third;
              middle = past (line_at text p.line) h.next.at (length (expr_bytes i.first));
              middle₂ = past (line_at text p.line) (past (line_at text p.line) h.next.at (length (expr_bytes i.first))) (length (expr_bytes i.second));
              part = part_of i.deep i.within i.spelled refl;
              part₂ = part_of i.deep i.within₂ i.spelled₂ refl;
              part₃ = part_of i.deep i.within₃ i.spelled₃ (part-ends ask.part i.is i.long);
              is = ask.is ∙ ap (λ a. plain_of P C a Γ) i.is;
            });
        kept = v.kept;
      }
