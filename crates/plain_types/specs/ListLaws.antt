-- Arguments and fields one after the other, calls and constructors, return by return.
use Rattle.std.specs.Prelude.{Some, None}
use Rattle.std.specs.Prelude.{ℕ, zero, suc, ◌+◌, ◌-◌, ◌*◌, ◌%◌, ◌≤◌, ◌<◌, List, [], ◌∷◌, map, true, ◌≡◌, refl, length, get_or}
use Rattle.std.proofs.Math.Option.{Option, some}
use Rattle.std.proofs.Common.{sym, ap₂, ◌∙◌, arith, zero-add, add-zero}
use Rattle.std.proofs.Math.Path.{ap, subst}
use Rattle.std.proofs.lemmas.List.{length-map}
use Rattle.std.proofs.Math.ListN.{get_elem? as look}
use Rattle.language.specs.Limits.{byte_range}
use Rattle.language.specs.Result.{both, when}
use Rattle.language.specs.Syntax.{Field, TypeDef, Plain, pbool, pnamed, Expr, Exprs, enil, econs, Function, File, constructors_of}
use Rattle.language.specs.Format.{expr_bytes, exprs_bytes}
use Rattle.language.specs.Scope.{Scope}
use Rattle.language.specs.Within.{All, all_nil, all_cons, WithinField, WithinPlain, WithinExpr, WithinExprs, ws_nil, ws_cons}
use Rattle.language.specs.Layout.{tag_step}
use Rattle.language.specs.PlainTypes.{plain_field, plain_fields, plain_result, is_plain, are_plain, plain_of, plains_of}
use Rattle.theory.specs.Alls.{all_map, all-to-map, all_get_d, all-at}
use Rattle.theory.specs.Places.{look_at}
use Rattle.text.specs.Bytes.{field_word}
use Rattle.index.specs.Tables.{type_words, constructor_words, function_words}
use Rattle.text.specs.Places.{past}
use Rattle.encoding.specs.Spells.{Spells}
use Rattle.encoding.specs.ExprLists.{first-of-exprs}
use Rattle.encoding.specs.FrameLines.{line_at}
use Rattle.encoding.specs.WithinParts.{type-within, function-within}
use Rattle.heads.specs.SkipHeads.{count_same}
use Rattle.heads.specs.PartLaws.{none-ends, more-ends}
use Rattle.index.specs.Sections.{types_of, functions_of}
use Rattle.index.specs.Indexed.{Indexed}
use Rattle.plain_types.specs.declared.words.PlainType.{PlainType}
use Rattle.plain_types.specs.declared.words.Typed.{Typed}
use Rattle.plain_types.specs.declared.words.Want.TheVariants.{Parameters, Fields}
use Rattle.heads.specs.declared.places.Place.{Place}
use Rattle.plain_types.specs.declared.series.Series.{Series}
use Rattle.plain_types.specs.Words.{named_type, type_at, own_or_other, wanted_type, Returns}
use Rattle.plain_types.specs.Agrees.{Typing, meaning, agrees-as, wrong, answered, chain-some, when_true, when_false, both_first, both-not}
use Rattle.heads.specs.Places.{moved_to}
use Rattle.plain_types.specs.Asks.{Part, list-ends, AskSeveral, TypesWant, TypesCall, TypesCon, TypesSeveral}
use Rattle.plain_types.specs.WordLaws.{plain_at, named-is, plain-fewer, field_plain, field-small}
use Rattle.plain_types.specs.EnterLaws.{word_at, kept_same, kept_then, stage-kept}
use Rattle.plain_types.specs.PlainLaws.{are-none, are-more, plain-call, plain-con}
use Rattle.plain_types.specs.FormLaws.{met, unmet}

-- ---- fields of a constructor of a type
fields-types : {types : ℕ} (t : ℕ) {fs : List Field} → t < tag_step → types ≤ tag_step → All (WithinField types) fs → (j : ℕ) → j < length fs → meaning (own_or_other t (get_or (map field_word fs) j 0)) ≡ get_or (plain_fields t fs) j pbool
fields-types t small few all_nil j less = absurd (omega (arith, less))
fields-types t small few (all_cons w ws) zero less = field_plain t small few w
fields-types t small few (all_cons w ws) (suc j) less = fields-types t small few ws j (omega (arith, less))

module _ {text index : List ℕ} {P : File} (h : Indexed text index P) (t c : ℕ) (less : t < length P.types) (less₂ : c < length (constructors_of P t)) where
  abbrev pub fields_at : List Field
  fields_at = get_or (constructors_of P t) c []

  pub small-type : t < tag_step
  small-type = omega (arith, less, h.within.few_types)

  pub field-count : {n : ℕ} → (n ≡ get_or (types_of index) (type_words * t + 1 + constructor_words * c) 0 % byte_range) × (n < byte_range) → n ≡ length fields_at
  field-count k = let tells = (h.each_type t less).tells in count_same k (tells.fields c less₂) (omega (arith, tells.few_fields c less₂))

  fields_within : All (WithinField t) fields_at
  fields_within = (all-at (type-within h.within t less).constructors c (look_at (constructors_of P t) c [] less₂)).fields

  pub fields-small : All (WithinPlain tag_step) (plain_fields t fields_at)
  fields-small = all-to-map (plain_field t) (all_map (λ f w. field-small t small-type (omega (arith, small-type)) w) fields_within)

  pub fields-wanted : (j : ℕ) → j < length fields_at → meaning (wanted_type index (Fields t c) j) ≡ get_or (plain_fields t fields_at) j pbool
  unfolding wanted_type
  fields-wanted j there =
      ap (λ w. meaning (own_or_other t w)) ((h.each_type t less).fields c less₂ j there) ∙ fields-types t small-type (omega (arith, small-type)) fields_within j there

-- ---- the parameters of a function
pub parameters-small : {text index : List ℕ} {P : File} (h : Indexed text index P) (f : ℕ) {F : Function} → look P.functions f ≡ some F → (j : ℕ) → j < length F.parameters → WithinPlain tag_step (get_or F.parameters j pbool)
parameters-small h f e j less = plain-fewer (omega (arith, h.within.few_types)) (all_get_d (function-within h.within f e).parameters j pbool less)

-- ---- the first of several and the others
record More (levels : ℕ) (S : Scope) (τs : List Plain) (es : Exprs) : Type 0 where
  type : Plain
  types : List Plain
  expr : Expr
  exprs : Exprs
  wants : τs ≡ type ∷ types
  list : es ≡ econs expr exprs
  within : WithinExpr levels S expr
  others : WithinExprs levels S (length types) exprs

more_of : {levels : ℕ} {S : Scope} (τs : List Plain) (es : Exprs) → WithinExprs levels S (length τs) es → (length τs ≡ 0 → ⊥) → More levels S τs es
more_of [] es w h = absurd (h refl)
more_of (τ ∷ τs) (econs e es) (ws_cons w ws) h = record { type = τ; types = τs; expr = e; exprs = es; wants = refl; list = refl; within = w; others = ws }
more_of {levels = levels} {S = S} (τ ∷ τs) enil w h = elim w [ ]

record Nothing (τs : List Plain) (es : Exprs) : Type 0 where
  wants : τs ≡ []
  list : es ≡ enil

none_of : {levels : ℕ} {S : Scope} (τs : List Plain) (es : Exprs) → WithinExprs levels S (length τs) es → length τs ≡ 0 → Nothing τs es
none_of [] enil ws_nil e = record { wants = refl; list = refl }
none_of (τ ∷ τs) es w e = absurd (omega (arith, e))
none_of {levels = levels} {S = S} [] (econs _ _) w e = elim w [ ]

module _ (text index scope : List ℕ) (p : Place) (s : Series) where
  pub several-none : {r : Typing} → s.count ≡ 0 → r ≡ Some (record { of = s.answer; next = p.at }) → TypesSeveral text index scope p s r scope
  several-none z q = record {
    says = λ {P} {C} {S} {Γ} st ask.
        let n = none_of ask.wants ask.list ask.within (sym ask.counted ∙ z) in
        let all : are_plain ask.wants (plains_of P C ask.list Γ) ≡ true = rw (n.wants, n.list) (are-none P C Γ) in
        answered q ask.answered (list-ends (line_at text p.line) p.at.at n.list (none-ends (line_at text p.line) p.at.at) ask.ends) (ask.is ∙ when_true ask.answer all);
    kept = kept_same;
  }

  module _ (some_left : s.count ≡ 0 → ⊥) {one : PlainType} (wanted : one ≡ wanted_type index s.of s.first) {x : Typing} {scope₁ : List ℕ} (v : TypesWant text index scope p one x scope₁) where
    first_of : {P : File} {C : List Plain} {S : Scope} {Γ : List Plain} {o : Option Plain} {end : ℕ} (ask : AskSeveral text p index s P C S Γ o end) → More p.levels S ask.wants ask.list
    first_of ask = more_of ask.wants ask.list ask.within (λ z. some_left (ask.counted ∙ z))

    module _ {P : File} {C : List Plain} {S : Scope} {Γ : List Plain} {o : Option Plain} {end : ℕ} (ask : AskSeveral text p index s P C S Γ o end) where
      abbrev m : More p.levels S ask.wants ask.list
      m = first_of ask

      first_part : Part (line_at text p.line) p.levels S p.at.at m.expr (past (line_at text p.line) p.at.at (length (expr_bytes m.expr)))
      first_part = record { within = m.within; spelled = (first-of-exprs (subst (Spells exprs_bytes (line_at text p.line) p.at.at) m.list ask.spelled)).spelled; ends = refl }

      first-type : meaning one ≡ m.type
      first-type = ap meaning wanted ∙ sym (ap (λ i. meaning (wanted_type index s.of i)) (add-zero s.first)) ∙ ask.each 0 (rw m.wants (omega arith)) ∙ ap (λ (τs : List Plain). get_or τs 0 pbool) m.wants

      all_fit : are_plain ask.wants (plains_of P C ask.list Γ) ≡ both (is_plain m.type (plain_of P C m.expr Γ)) (are_plain m.types (plains_of P C m.exprs Γ))
      all_fit = ap₂ (λ (τs : List Plain) (es : Exprs). are_plain τs (plains_of P C es Γ)) m.wants m.list ∙ are-more P C Γ m.type m.types m.expr m.exprs

    pub several-wrong : x ≡ None → TypesSeveral text index scope p s None scope₁
    several-wrong d = record {
      says = λ {P} {C} {S} {Γ} st ask.
          let f = first_of ask in
          wrong (ask.is ∙ when_false ask.answer (all_fit ask ∙ both-not (are_plain f.types (plains_of P C f.exprs Γ)) (unmet v st (first_part ask) f.type (first-type ask) d)));
      kept = v.kept;
    }

    pub several-more : {k : Typed} {r : Typing} {scope₂ : List ℕ} → x ≡ Some k → TypesSeveral text index scope₁ (moved_to p k.next) (record { of = s.of; first = s.first + 1; count = s.count - 1; answer = s.answer }) r scope₂ →
        TypesSeveral text index scope p s r scope₂
    several-more {k} d u = record {
      says = λ {P} {C} {S} {Γ} {o} {end} st ask.
          let f = first_of ask in
          let h = met v st (first_part ask) f.type (first-type ask) d in
          let long : length ask.wants ≡ suc (length f.types) = ap length f.wants in
          let spelled = subst (Spells exprs_bytes (line_at text p.line) p.at.at) f.list ask.spelled in
          agrees-as (ask.is ∙ ap (λ b. when b ask.answer) (all_fit ask ∙ both_first h.is))
          (u.says (stage-kept st v.kept) (record {
            list = f.exprs;
            wants = f.types;
            answer = ask.answer;
            counted = omega (arith, ask.counted, long);
            each = λ j less.
                ap (λ i. meaning (wanted_type index s.of i)) (let e : s.first + 1 + j ≡ s.first + suc j = omega arith in e)
                ∙ ask.each (suc j) (omega (arith, long, less)) ∙ ap (λ (τs : List Plain). get_or τs (suc j) pbool) f.wants;
            answered = ask.answered;
            within = f.others;
            spelled = subst (λ m. Spells exprs_bytes (line_at text p.line) m f.exprs) (sym h.place) (first-of-exprs spelled).next;
            ends = ap (λ (a : ℕ). past (line_at text p.line) a (length (exprs_bytes f.exprs))) h.place ∙ list-ends (line_at text p.line) p.at.at f.list (more-ends (line_at text p.line) p.at.at f.expr f.exprs) ask.ends;
            is = refl;
          }));
      kept = kept_then v.kept u.kept;
    }

module _ (text index scope : List ℕ) (p : Place) where
  -- ---- `18`
  pub call-done : {f n : ℕ} {kind : PlainType} {r : Typing} {scope₁ : List ℕ} → Returns text index f kind → (n ≡ get_or (functions_of index) (function_words * f) 0 % byte_range) × (n < byte_range) →
      TypesSeveral text index scope p (record { of = Parameters f; first = 0; count = n; answer = kind }) r scope₁ → TypesCall text index scope p f r scope₁
  unfolding wanted_type
  call-done {f} {n} ret k u = record {
    says = λ {P} {C} {S} {Γ} st ask.
        let takes = st.known.functions f ask.less in
        let F = takes.function in
        let told = (st.indexed.each_function f takes.is).tells in
        agrees-as (ask.is ∙ plain-call P C Γ f ask.list ∙ chain-some _ takes.is)
        (u.says st (record {
          list = ask.list;
          wants = F.parameters;
          answer = plain_result F.result;
          counted = count_same k told.count (omega (arith, told.few));
          each = λ j less. rw (zero-add j) (ap (λ w. meaning (type_at w)) (told.each j less ∙ word_at F.parameters j) ∙ plain_at (parameters-small st.indexed f takes.is j less));
          answered = ret.says st.indexed takes.is;
          within = subst (λ m. WithinExprs p.levels S m ask.list) takes.arity ask.within;
          spelled = ask.spelled;
          ends = ask.ends;
          is = refl;
        }));
    kept = u.kept;
  }

  -- ---- `19`
  pub con-done : {t c n : ℕ} {kind : PlainType} {r : Typing} {scope₁ : List ℕ} → kind ≡ named_type t → (n ≡ get_or (types_of index) (type_words * t + 1 + constructor_words * c) 0 % byte_range) × (n < byte_range) →
      TypesSeveral text index scope p (record { of = Fields t c; first = 0; count = n; answer = kind }) r scope₁ → TypesCon text index scope p t c r scope₁
  con-done {t} {c} w k u = record {
    says = λ {P} {C} {S} {Γ} st ask.
        let same = st.known.types in
        let less : t < length P.types = rw same at ask.less in
        let less₂ : c < length (constructors_of P t) = rw same at ask.less₂ in
        let fs = get_or (constructors_of P t) c [] in
        let long : length (plain_fields t fs) ≡ length fs = length-map fs (plain_field t) in
        agrees-as (ask.is ∙ plain-con P C Γ t c ask.list ∙ chain-some _ (look_at (constructors_of P t) c [] less₂))
        (u.says st (record {
          list = ask.list;
          wants = plain_fields t fs;
          answer = pnamed t;
          counted = field-count st.indexed t c less less₂ k ∙ sym long;
          each = λ j there. rw (zero-add j) (fields-wanted st.indexed t c less less₂ j (omega (arith, long, there)));
          answered = ap meaning w ∙ named-is t (small-type st.indexed t c less less₂);
          within = subst (λ m. WithinExprs p.levels S m ask.list) (sym long) (subst (λ (ts : List TypeDef). WithinExprs p.levels S (length (get_or (get_or ts t []) c [])) ask.list) same ask.within);
          spelled = ask.spelled;
          ends = ask.ends;
          is = refl;
        }));
    kept = u.kept;
  }
