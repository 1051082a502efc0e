-- Branches one after the other and cases, return by return.
use Rattle.std.specs.Prelude.{Some, None}
use Rattle.std.specs.Prelude.{ℕ, ◌+◌, ◌-◌, ◌*◌, ◌%◌, ◌<◌, ◌≡◌, refl, length, get_or, drop}
use mathlib.Core.List.{List, [], ◌∷◌, ◌++◌, head-eq_of_cons-eq, tail-eq_of_cons-eq}
use Rattle.std.proofs.Math.Option.{Option, some}
use Rattle.std.proofs.Common.{sym, ap, ap₂, ◌∙◌, subst, arith, add-one, length-drop, drop-cons}
use Rattle.std.proofs.lemmas.List.{length-map}
use Rattle.language.specs.Limits.{byte_range}
use Rattle.language.specs.Result.{both, when}
use Rattle.language.specs.Syntax.{Constructor, TypeDef, owns, Plain, pbool, pnamed, Expr, Exprs, enil, econs, File, constructors_of}
use Rattle.language.specs.Format.{result_bytes, expr_bytes, exprs_bytes}
use Rattle.language.specs.Scope.{Scope, wider}
use Rattle.language.specs.Within.{All, WithinPlain, WithinExpr, WithinBranches, wb_nil, wb_cons}
use Rattle.language.specs.Layout.{tag_step}
use Rattle.language.specs.PlainTypes.{plain_field, plain_fields, plain_result, is_plain, plain_of, plain_branches}
use Rattle.index.specs.Tables.{type_words, constructor_words}
use Rattle.text.specs.Places.{past}
use Rattle.encoding.specs.Spells.{Spells}
use Rattle.encoding.specs.ExprLists.{first-of-exprs}
use Rattle.encoding.specs.FrameLines.{line_at}
use Rattle.heads.specs.SkipHeads.{count_same}
use Rattle.heads.specs.PartLaws.{none-ends, more-ends}
use Rattle.index.specs.Sections.{frames_of, types_of}
use Rattle.index.specs.Indexed.{frame_part}
use Rattle.plain_types.specs.declared.words.PlainType.{PlainType}
use Rattle.plain_types.specs.declared.words.Typed.{Typed}
use Rattle.plain_types.specs.declared.words.Want.TheVariants.{Fields}
use Rattle.heads.specs.declared.places.Place.{Place}
use Rattle.plain_types.specs.declared.series.BranchSeries.{BranchSeries}
use Rattle.plain_types.specs.Words.{named_type, wanted_type, entered, ReadsResult}
use Rattle.plain_types.specs.Agrees.{Typing, meaning, Agrees, typed-is, typed-there, agrees-as, wrong, answered, when_true, when_false, both_first, both-not}
use Rattle.heads.specs.Places.{moved_to, wider_by}
use Rattle.plain_types.specs.Asks.{Kept, Stage, Part, list-ends, AskCase, AskBranches, TypesWant, TypesCase, TypesBranches}
use Rattle.plain_types.specs.WordLaws.{named-is}
use Rattle.plain_types.specs.EnterLaws.{kept_same, kept_then, kept-below, entered-kept, stage-kept, stage-entered}
use Rattle.plain_types.specs.PlainLaws.{branches-none, branches-more, plain-case}
use Rattle.plain_types.specs.FormLaws.{few-variables, met, unmet}
use Rattle.plain_types.specs.ListLaws.{field-count, fields-small, fields-wanted}

-- ---- the first of the branches and the others
record MoreBranches (levels : ℕ) (S : Scope) (cs : List Constructor) (bs : Exprs) : Type 0 where
  fields : Constructor
  constructors : List Constructor
  branch : Expr
  branches : Exprs
  those : cs ≡ fields ∷ constructors
  list : bs ≡ econs branch branches
  within : WithinExpr levels (wider (length fields) (owns fields) S) branch
  others : WithinBranches levels S constructors branches

more-branches : {levels : ℕ} {S : Scope} (cs : List Constructor) (bs : Exprs) → WithinBranches levels S cs bs → (length cs ≡ 0 → ⊥) → MoreBranches levels S cs bs
more-branches [] bs w h = absurd (h refl)
more-branches (fs ∷ cs) (econs b bs) (wb_cons w ws) h = record { fields = fs; constructors = cs; branch = b; branches = bs; those = refl; list = refl; within = w; others = ws }
more-branches {levels = levels} {S = S} (fs ∷ cs) enil w h = elim w [ ]

record NoBranch (cs : List Constructor) (bs : Exprs) : Type 0 where
  those : cs ≡ []
  list : bs ≡ enil

no-branch : {levels : ℕ} {S : Scope} (cs : List Constructor) (bs : Exprs) → WithinBranches levels S cs bs → length cs ≡ 0 → NoBranch cs bs
no-branch [] enil wb_nil e = record { those = refl; list = refl }
no-branch (fs ∷ cs) bs w e = absurd (omega (arith, e))
no-branch {levels = levels} {S = S} [] (econs _ _) w e = elim w [ ]

-- the first of those from a number on
dropped-less : {A : Type 0} (l : List A) (i : ℕ) {x : A} {xs : List A} → drop i l ≡ x ∷ xs → i < length l
dropped-less l i e = omega (arith, length-drop i l, ap length e)

dropped-first : {A : Type 0} (l : List A) (i : ℕ) (d : A) {x : A} {xs : List A} → drop i l ≡ x ∷ xs → (get_or l i d ≡ x) × (drop (i + 1) l ≡ xs)
dropped-first l i d e = let same = sym (drop-cons l i d (dropped-less l i e)) ∙ e in (head-eq_of_cons-eq same, rw (add-one i) (tail-eq_of_cons-eq same))

module _ (text index scope : List ℕ) (p : Place) (s : BranchSeries) where
  pub branches-all : {r : Typing} → s.count ≡ 0 → r ≡ Some (record { of = s.answer; next = p.at }) → TypesBranches text index scope p s r scope
  branches-all z q = record {
    says = λ {P} {C} {S} {Γ} st ask.
        let n = no-branch ask.constructors ask.list ask.within (sym ask.counted ∙ z) in
        let all = ap₂ (λ (bs : Exprs) (cs : List Constructor). plain_branches P C bs cs s.of ask.answer Γ) n.list n.those ∙ branches-none P C Γ s.of ask.answer in
        answered q ask.answered (list-ends (line_at text p.line) p.at.at n.list (none-ends (line_at text p.line) p.at.at) ask.ends) (ask.is ∙ when_true ask.answer all);
    kept = kept_same;
  }

  module _ (some_left : s.count ≡ 0 → ⊥) {n : ℕ} (k : (n ≡ get_or (types_of index) (type_words * s.of + 1 + constructor_words * s.first) 0 % byte_range) × (n < byte_range)) {scope₁ : List ℕ} (enter : scope₁ ≡ entered index (Fields s.of s.first) scope p.variables n)
      {x : Typing} {scope₂ : List ℕ} (v : TypesWant text index scope₁ (wider_by n p p.at) s.answer x scope₂) where
    branch_kept : Kept p.variables scope scope₂
    branch_kept = kept_then (rw enter (entered-kept index (Fields s.of s.first) scope p.variables n)) (kept-below p.variables (omega arith) v.kept)

    module _ {P : File} {C : List Plain} {S : Scope} {Γ : List Plain} {o : Option Plain} {end : ℕ} (st : Stage text index scope p.line p.variables P C S Γ) (ask : AskBranches text p s P C S Γ o end) where
      abbrev b : MoreBranches p.levels S ask.constructors ask.list
      b = more-branches ask.constructors ask.list ask.within (λ z. some_left (ask.counted ∙ z))

      here : drop s.first (constructors_of P s.of) ≡ b.fields ∷ b.constructors
      here = ask.those ∙ b.those

      less₂ : s.first < length (constructors_of P s.of)
      less₂ = dropped-less (constructors_of P s.of) s.first here

      first_is : get_or (constructors_of P s.of) s.first [] ≡ b.fields
      first_is = (dropped-first (constructors_of P s.of) s.first [] here).0

      field-number : n ≡ length b.fields
      field-number = field-count st.indexed s.of s.first ask.less less₂ k ∙ ap length first_is

      branch-within : WithinExpr p.levels (wider n (owns b.fields) S) b.branch
      branch-within = subst (λ m. WithinExpr p.levels (wider m (owns b.fields) S) b.branch) (sym field-number) b.within

      branch-stage : Stage text index scope₁ p.line (p.variables + n) P C (wider n (owns b.fields) S) (Γ ++ plain_fields s.of b.fields)
      branch-stage = rw enter (stage-entered st (Fields s.of s.first) n (owns b.fields) (plain_fields s.of b.fields) (length-map b.fields (plain_field s.of) ∙ sym field-number) small each (few-variables st n (owns b.fields) branch-within))
        where
          small : All (WithinPlain tag_step) (plain_fields s.of b.fields)
          small = subst (λ (fs : Constructor). All (WithinPlain tag_step) (plain_fields s.of fs)) first_is (fields-small st.indexed s.of s.first ask.less less₂)

          each : (j : ℕ) → j < n → meaning (wanted_type index (Fields s.of s.first) j) ≡ get_or (plain_fields s.of b.fields) j pbool
          each j there =
              fields-wanted st.indexed s.of s.first ask.less less₂ j (omega (arith, there, field-number, ap length first_is))
              ∙ ap (λ (fs : Constructor). get_or (plain_fields s.of fs) j pbool) first_is

      branch-part : Part (line_at text p.line) p.levels (wider n (owns b.fields) S) p.at.at b.branch (past (line_at text p.line) p.at.at (length (expr_bytes b.branch)))
      branch-part = record { within = branch-within; spelled = (first-of-exprs (subst (Spells exprs_bytes (line_at text p.line) p.at.at) b.list ask.spelled)).spelled; ends = refl }

      all-branches : plain_branches P C ask.list ask.constructors s.of ask.answer Γ ≡
          both (is_plain ask.answer (plain_of P C b.branch (Γ ++ plain_fields s.of b.fields))) (plain_branches P C b.branches b.constructors s.of ask.answer Γ)
      all-branches = ap₂ (λ (bs : Exprs) (cs : List Constructor). plain_branches P C bs cs s.of ask.answer Γ) b.list b.those ∙ branches-more P C Γ b.branch b.branches b.fields b.constructors s.of ask.answer

    pub branches-wrong : x ≡ None → TypesBranches text index scope p s None scope₂
    branches-wrong d = record {
      says = λ {P} {C} {S} {Γ} st ask.
          let m = b st ask in
          wrong (ask.is ∙ when_false ask.answer (all-branches st ask
          ∙ both-not (plain_branches P C m.branches m.constructors s.of ask.answer Γ) (unmet v (branch-stage st ask) (branch-part st ask) ask.answer ask.answered d)));
      kept = branch_kept;
    }

    pub branches-next : {j : Typed} {r : Typing} {scope₃ : List ℕ} → x ≡ Some j → TypesBranches text index scope₂ (moved_to p j.next) (record { of = s.of; first = s.first + 1; count = s.count - 1; answer = s.answer }) r scope₃ →
        TypesBranches text index scope p s r scope₃
    branches-next {j} d u = record {
      says = λ {P} {C} {S} {Γ} st ask.
          let m = b st ask in
          let h = met v (branch-stage st ask) (branch-part st ask) ask.answer ask.answered d in
          let spelled = subst (Spells exprs_bytes (line_at text p.line) p.at.at) m.list ask.spelled in
          agrees-as (ask.is ∙ ap (λ t. when t ask.answer) (all-branches st ask ∙ both_first h.is))
          (u.says (stage-kept st branch_kept) (record {
            list = m.branches;
            constructors = m.constructors;
            answer = ask.answer;
            less = ask.less;
            those = (dropped-first (constructors_of P s.of) s.first [] (here st ask)).1;
            counted = omega (arith, ask.counted, ap length m.those);
            answered = ask.answered;
            within = m.others;
            spelled = subst (λ i. Spells exprs_bytes (line_at text p.line) i m.branches) (sym h.place) (first-of-exprs spelled).next;
            ends = ap (λ (a : ℕ). past (line_at text p.line) a (length (exprs_bytes m.branches))) h.place ∙ list-ends (line_at text p.line) p.at.at m.list (more-ends (line_at text p.line) p.at.at m.branch m.branches) ask.ends;
            is = refl;
          }));
      kept = kept_then branch_kept u.kept;
    }

-- ---- `1A`
module _ (text index scope : List ℕ) (p : Place) {t : ℕ} {subject : PlainType} (is : subject ≡ named_type t) {x : Typing} {scope₁ : List ℕ} (v : TypesWant text index scope p subject x scope₁) where
  module _ {P : File} {C : List Plain} {S : Scope} {Γ : List Plain} {o : Option Plain} {end : ℕ} (st : Stage text index scope p.line p.variables P C S Γ) (ask : AskCase text p t P C S Γ o end) where
    case-less : t < length P.types
    case-less = rw st.known.types at ask.less

    subject-type : meaning subject ≡ pnamed t
    subject-type = ap meaning is ∙ named-is t (omega (arith, case-less, st.indexed.within.few_types))

  pub case-wrong : x ≡ None → TypesCase text index scope p t None scope₁
  case-wrong d = record {
    says = λ {P} {C} {S} {Γ} st ask. wrong (ask.is ∙ plain-case P C Γ t ask.first ask.result ask.branches
        ∙ when_false (plain_result ask.result) (both-not (plain_branches P C ask.branches (constructors_of P t) t (plain_result ask.result) Γ) (unmet v st ask.part (pnamed t) (subject-type st ask) d)));
    kept = v.kept;
  }

  module _ {k : Typed} (d : x ≡ Some k) {line : List ℕ} (part : line ≡ frame_part text (frames_of index) p.line) {y : Typing} (w : ReadsResult line k.next y) where
    result-read : {P : File} {C : List Plain} {S : Scope} {Γ : List Plain} {o : Option Plain} {end : ℕ} → Stage text index scope p.line p.variables P C S Γ → (ask : AskCase text p t P C S Γ o end) →
        Agrees y (past (line_at text p.line) k.next.at (length (result_bytes ask.result))) (some (plain_result ask.result))
    result-read st ask =
        let h = met v st ask.part (pnamed t) (subject-type st ask) d in
        let is : line ≡ line_at text p.line = part ∙ (st.indexed.each_frame p.line st.less).line in
        subst (λ l. Agrees y (past l k.next.at (length (result_bytes ask.result))) (some (plain_result ask.result))) is
        (w.says (omega (arith, st.indexed.within.few_types, ap length st.known.types)) ask.few ask.within
        (subst (λ m. Spells result_bytes line m ask.result) (sym h.place) (subst (λ l. Spells result_bytes l ask.middle ask.result) (sym is) ask.spelled)))

    pub case-none : y ≡ None → TypesCase text index scope p t None scope₁
    case-none e = record { says = λ st ask. absurd (typed-there (result-read st ask) e); kept = v.kept }

    pub case-done : {j : Typed} {n : ℕ} {r : Typing} {scope₂ : List ℕ} → y ≡ Some j → (n ≡ get_or (types_of index) (type_words * t) 0 % byte_range) × (n < byte_range) →
        TypesBranches text index scope₁ (moved_to p j.next) (record { of = t; first = 0; count = n; answer = j.of }) r scope₂ → TypesCase text index scope p t r scope₂
    case-done {j} {n} e c u = record {
      says = λ {P} {C} {S} {Γ} st ask.
          let h = met v st ask.part (pnamed t) (subject-type st ask) d in
          let found = typed-is (result-read st ask) e in
          let told = (st.indexed.each_type t (case-less st ask)).tells in
          let place : j.next.at ≡ past (line_at text p.line) ask.middle (length (result_bytes ask.result)) = found.1 ∙ ap (λ (a : ℕ). past (line_at text p.line) a (length (result_bytes ask.result))) h.place in
          agrees-as (ask.is ∙ plain-case P C Γ t ask.first ask.result ask.branches ∙ ap (λ a. when a (plain_result ask.result)) (both_first h.is))
          (u.says (stage-kept st v.kept) (record {
            list = ask.branches;
            constructors = constructors_of P t;
            answer = plain_result ask.result;
            less = case-less st ask;
            those = refl;
            counted = count_same c told.constructors (omega (arith, told.few));
            answered = found.0;
            within = subst (λ (ts : List TypeDef). WithinBranches p.levels S (get_or ts t []) ask.branches) st.known.types ask.within₂;
            spelled = subst (λ m. Spells exprs_bytes (line_at text p.line) m ask.branches) (sym place) ask.spelled₂;
            ends = ap (λ (a : ℕ). past (line_at text p.line) a (length (exprs_bytes ask.branches))) place ∙ ask.ends;
            is = refl;
          }));
      kept = kept_then v.kept u.kept;
    }
