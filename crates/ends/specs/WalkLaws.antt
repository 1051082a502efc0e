-- Noting the ends of an expression and of a list, return by return: what the calls so far promise, the function promises.
use Rattle.std.specs.Prelude.{ℕ, suc, ◌+◌, ◌-◌, ◌≤◌, ◌<◌, List, [], ◌∷◌, ◌≡◌, refl, length, get_or, set}
use Rattle.std.proofs.Common.{sym, ap, ◌∙◌, subst, subst₂, arith, get_or-set_same, get_or-set_other}
use Rattle.std.specs.Int.Bits.{bit_or}
use denote.Enum.Declared.{tag_of, declared}
use Rattle.language.specs.Limits.{text_most, types_most, size_variables_most, nesting_most}
use Rattle.language.specs.Syntax.{Expr, ecase, eadj, Exprs, enil, econs}
use Rattle.language.specs.Order.{all_readings}
use Rattle.language.specs.Format.{expr_bytes, exprs_bytes, size_bytes, result_bytes}
use Rattle.language.specs.Scope.{Scope}
use Rattle.language.specs.Within.{WithinSize, WithinResult, WithinExpr}
use Rattle.theory.specs.Places.{one_less}
use Rattle.text.specs.declared.Cursor.{Cursor}
use Rattle.text.specs.Places.{past, past-least}
use Rattle.encoding.specs.Spells.{Spells, spells-left}
use Rattle.encoding.specs.ExprLists.{first-of-exprs}
use Rattle.heads.specs.declared.Form.{Form}
use Rattle.heads.specs.declared.Form.TheVariants.{Bool as BoolForm, Int, Variable, Now, Last, Let, If, Operator, Call, Construct, Case, Adjust, Fit, Missing}
use Rattle.heads.specs.declared.Head.{Head}
use Rattle.heads.specs.contracts.Form.{enum}
use Rattle.heads.specs.Heads.{Heads, shown}
use Rattle.heads.specs.HeadForms.{no-missing, bool-head, int-head, var-head, channel-head, now_named, last_named, let-head, if-head, op-head, call-head, con-head, case-head, adj-head, fit-head}
use Rattle.heads.specs.Skips.{Shapes, Skippable, no_more, one_more, Skips, parts_of}
use Rattle.heads.specs.PartLaws.{adj-parts, case-subject, case-result, none-ends, more-ends}
use Rattle.heads.specs.SkipLaws.{no-level}
use Rattle.heads.specs.Parted.{last_parts, parts_place, Parted, parted, adj-parted, case-parted}
use Rattle.ends.specs.declared.walk.Passed.{Passed}
use Rattle.ends.specs.Gathered.{Gathers, gathers-none, gathers-whole, named_before, Joins, joins-nil, joins-cons}
use Rattle.ends.specs.Ended.{EndedAll, ds_nil, ds_cons}
use Rattle.ends.specs.Lengths.{expr-some}
use Rattle.ends.specs.Walks.{Noted, NotedOver, Reached, EndedHere, WalkedOver, WalkedBehind, Walks, WalksAll, WalksOn}
use Rattle.ends.specs.KeptLaws.{past-beyond, ended-kept, here-kept}
use Rattle.ends.specs.Begins.{Before, ended-made, parts-later, before-kept, noted-end, Began, case-began, adj-began}

-- ---- a word stored, and none
module _ {from at end : ℕ} {ends : List ℕ} where
  pub note-stored : from + at < length ends → Noted from at end ends (set ends (from + at) end)
  note-stored less = record { is = λ _ _. get_or-set_same ends (from + at) end 0 less; others = λ i other. get_or-set_other ends (from + at) i end 0 other }

  pub note-large : text_most < end → Noted from at end ends ends
  note-large less = record { is = λ _ le. absurd (omega (arith, less, le)); others = λ i other. refl }

  pub note-beyond : length ends ≤ from + at → Noted from at end ends ends
  note-beyond le = record { is = λ less _. absurd (omega (arith, less, le)); others = λ i other. refl }

-- ---- the expression from its parts: what stands before those that end it, these, and its own word
module _ {line types functions t₀ t₁ t₂ t₃ : List ℕ} {from at levels n : ℕ} {e : Expr} {first r : Passed} (s : Spells expr_bytes line at e) (room : from + length line ≤ text_most) (p : Parted line types functions at levels e first.behind.at n)
    (b : Began line from at e t₀ t₁) (g : Gathers (named_before e) first.readings) (a : WalksAll line types functions from first levels n t₁ t₂ r) (long : length t₂ ≡ text_most) (k : Noted from at r.behind.at t₂ t₃) where
  parts-walked : WalkedBehind line from first p.parts t₁ t₂ r
  parts-walked = a.says p.parts p.skippable p.spelled room

  stops : r.behind.at ≡ past line at (length (expr_bytes e))
  stops = parts-walked.stops ∙ sym p.long

  before-told : Before t₂ from line at e
  before-told = before-kept line at e (spells-left s) (record { word = λ q low high. parts-walked.kept.before (from + q) (omega (arith, high, p.starts)) }) b.told

  parts-told : EndedAll t₂ from line (parts_place line at e) (last_parts e)
  parts-told = subst₂ (λ (m : ℕ) (es : Exprs). EndedAll t₂ from line m es) p.starts p.are parts-walked.told

  last-later : first.behind.at ≤ past line at (length (expr_bytes e))
  last-later = omega (arith, p.long, past-least line first.behind.at (length (exprs_bytes p.parts)))

  pub whole-walked : WalkedOver line from at e t₀ t₃ r
  whole-walked = record {
    stops = stops;
    told = record {
      end = noted-end k long room (expr-some e) s stops;
      parts = ended-kept t₂ t₃ from line (ended-made e before-told parts-told) (record { fits = spells-left s; same = record { word = λ q low high. k.others (from + q) (λ same. omega (arith, low, same)) } });
    };
    read = gathers-whole e g (subst (λ (es : Exprs). Joins (all_readings es) first.readings r.readings) p.are parts-walked.read);
    kept = record {
      before = λ i less. k.others i (λ same. omega (arith, less, same)) ∙ parts-walked.kept.before i (omega (arith, less, p.starts, parts-later line at e)) ∙ b.kept.before i less;
      behind = λ i le. k.others i (λ same. omega (arith, le, same, past-beyond line at (length (expr_bytes e)) (expr-some e) (spells-left s)))
          ∙ parts-walked.kept.behind i (omega (arith, le, p.long)) ∙ b.kept.behind i (omega (arith, le, last-later, p.starts));
    };
  }

-- ---- the forms with nothing before their parts
module _ {line : List ℕ} {at levels : ℕ} {S : Scope} {e : Expr} {r : Head} (d : Heads line at r) (w : WithinExpr levels S e) (s : Spells expr_bytes line at e) (ends : List ℕ) (from : ℕ) where
  is-nothing : {a : Expr} → e ≡ a → Before ends from line at a → Before ends from line at e
  is-nothing q x = subst (Before ends from line at) (sym q) x

  nothing-before : (f : Form) → r.form ≡ f → ((t : ℕ) → f ≡ Case t → ⊥) → (f ≡ Adjust → ⊥) → Before ends from line at e
  nothing-before (BoolForm b) q c a = is-nothing (bool-head d s w q).is tt
  nothing-before (Int n) q c a = is-nothing (int-head d s w q).is tt
  nothing-before (Variable v) q c a = is-nothing (var-head d s w q).is tt
  nothing-before (Now k) q c a = is-nothing (channel-head d s w (now_named q)).is tt
  nothing-before (Last k) q c a = is-nothing (channel-head d s w (last_named q)).is tt
  nothing-before Let q c a = is-nothing (let-head d s w q).is tt
  nothing-before If q c a = is-nothing (if-head d s w q).is tt
  nothing-before (Operator o) q c a = is-nothing (op-head d s w q).is tt
  nothing-before (Call f) q c a = is-nothing (call-head d s w q).is tt
  nothing-before (Construct t k) q c a = is-nothing (con-head d s w q).is tt
  nothing-before (Case t) q c a = absurd (c t refl)
  nothing-before Adjust q c a = absurd (a refl)
  nothing-before (Fit k) q c a = is-nothing (fit-head d s w q).is tt
  nothing-before Missing q c a = absurd (no-missing d s q)

  pub nothing-began : {ends₀ : List ℕ} → ends ≡ ends₀ → ((t : ℕ) → r.form ≡ Case t → ⊥) → (r.form ≡ Adjust → ⊥) → Began line from at e ends₀ ends
  nothing-began q c a = record { told = nothing-before r.form refl c a; kept = record { before = λ i less. ap (λ (l : List ℕ). get_or l i 0) q; behind = λ i le. ap (λ (l : List ℕ). get_or l i 0) q } }

-- ---- what is named before the parts
module _ {line : List ℕ} {at levels : ℕ} {S : Scope} {e : Expr} {r : Head} (d : Heads line at r) (w : WithinExpr levels S e) (s : Spells expr_bytes line at e) where
  as-named : {a : Expr} {word : ℕ} → e ≡ a → Gathers (named_before a) word → Gathers (named_before e) word
  as-named {word} q g = subst (λ (x : Expr). Gathers (named_before x) word) (sym q) g

  nothing-named : (f : Form) → r.form ≡ f → ((k : ℕ) → f ≡ Now k → ⊥) → ((t : ℕ) → f ≡ Case t → ⊥) → Gathers (named_before e) 0
  nothing-named (BoolForm b) q n c = as-named (bool-head d s w q).is gathers-none
  nothing-named (Int i) q n c = as-named (int-head d s w q).is gathers-none
  nothing-named (Variable v) q n c = as-named (var-head d s w q).is gathers-none
  nothing-named (Now k) q n c = absurd (n k refl)
  nothing-named (Last k) q n c = as-named (channel-head d s w (last_named q)).is gathers-none
  nothing-named Let q n c = as-named (let-head d s w q).is gathers-none
  nothing-named If q n c = as-named (if-head d s w q).is gathers-none
  nothing-named (Operator o) q n c = as-named (op-head d s w q).is gathers-none
  nothing-named (Call f) q n c = as-named (call-head d s w q).is gathers-none
  nothing-named (Construct t k) q n c = as-named (con-head d s w q).is gathers-none
  nothing-named (Case t) q n c = absurd (c t refl)
  nothing-named Adjust q n c = as-named (adj-head d s w q).is gathers-none
  nothing-named (Fit k) q n c = as-named (fit-head d s w q).is gathers-none
  nothing-named Missing q n c = absurd (no-missing d s q)

  one-named : {k word : ℕ} → r.form ≡ Now k → Gathers (k ∷ []) word → Gathers (named_before e) word
  one-named q g = as-named (channel-head d s w (now_named q)).is g

-- ---- an expression
less-deep : {levels : ℕ} {S : Scope} {e : Expr} → (levels ≡ 0 → ⊥) → WithinExpr levels S e → WithinExpr (suc (levels - 1)) S e
less-deep {levels} {S} {e} some w = subst (λ m. WithinExpr m S e) (one_less levels some) w

-- the forms of the last arm, by their tags
abbrev tag : Form → ℕ
tag f = tag_of (declared enum) f

module _ (line types functions : List ℕ) (from : ℕ) (c : Cursor) (levels : ℕ) where
  pub walk_none : {ends ends' : List ℕ} {r : Passed} → levels ≡ 0 → Walks line types functions from c levels ends ends' r
  walk_none q = record { says = λ S e h w s room. absurd (no-level (subst (λ m. WithinExpr m S e) q w)) }

  module _ {head : Head} (d : Heads line c.at head) (some : levels ≡ 0 → ⊥) {n : ℕ} (count : n ≡ parts_of types functions head.form) {first r : Passed} {t₀ t₁ t₂ t₃ : List ℕ}
      (a : WalksAll line types functions from first (levels - 1) n t₁ t₂ r) (long : length t₂ ≡ text_most) (k : Noted from c.at r.behind.at t₂ t₃) where
    -- the forms whose parts start at once
    at_once : {before : Passed} {word : ℕ} → t₁ ≡ t₀ → first ≡ before → Reached head.next word before → ((t : ℕ) → head.form ≡ Case t → ⊥) → (head.form ≡ Adjust → ⊥) →
        ((S : Scope) (e : Expr) → WithinExpr levels S e → Spells expr_bytes line c.at e → Gathers (named_before e) word) → Walks line types functions from c levels t₀ t₃ r
    at_once same is start no_case no_adjust named = record {
      says = λ S e h w s room.
          whole-walked s room (rw (is, start.place, count) (parted d h (less-deep some w) s head.form refl no_case no_adjust)) (nothing-began d w s t₁ from same no_case no_adjust) (rw (is, start.read) (named S e w s)) a long k;
    }

    pub walk-parts : {before : Passed} → t₁ ≡ t₀ → first ≡ before → Reached head.next 0 before → ((i : ℕ) → head.form ≡ Now i → ⊥) → ((t : ℕ) → head.form ≡ Case t → ⊥) → (head.form ≡ Adjust → ⊥) →
        Walks line types functions from c levels t₀ t₃ r
    walk-parts same is start no_now no_case no_adjust = at_once same is start no_case no_adjust (λ S e w s. nothing-named d w s head.form refl no_now no_case)

    pub walk-now : {before : Passed} {i word : ℕ} → t₁ ≡ t₀ → first ≡ before → Reached head.next word before → head.form ≡ Now i → Gathers (i ∷ []) word → Walks line types functions from c levels t₀ t₃ r
    walk-now same is start q g = at_once same is start (λ t other. omega (arith, ap tag (sym q ∙ other))) (λ other. omega (arith, ap tag (sym q ∙ other))) (λ S e w s. one-named d w s q g)

    module _ {behind : Cursor} {before : Passed} (is : first ≡ before) where
      pub walk-adjust : {noted : List ℕ} → Reached behind 0 before → t₁ ≡ noted → head.form ≡ Adjust → NotedOver size_bytes (WithinSize size_variables_most nesting_most) line from head.next.at t₀ noted behind →
          Walks line types functions from c levels t₀ t₃ r
      walk-adjust {noted} start same q m = record { says = says }
        where
          says : (S : Scope) (e : Expr) → Shapes types functions S → WithinExpr levels S e → Spells expr_bytes line c.at e → from + length line ≤ text_most → WalkedOver line from c.at e t₀ t₃ r
          says S e h w s room =
              let i = adj-head d s (less-deep some w) q in
              let within = subst (WithinExpr (suc (levels - 1)) S) i.is (less-deep some w) in
              let place : behind.at ≡ past line head.next.at (length (size_bytes i.size)) = m.over.says i.size (adj-parts h within).0 i.spelled in
              let began : Began line from c.at (eadj i.size i.first) t₀ noted = adj-began i.first (shown d q).ends i.spelled room place m.long m.noted in
              let named : Gathers (named_before e) first.readings = as-named d w s i.is (rw (is, start.read) gathers-none) in
              whole-walked s room (rw (is, start.place, count, q) (adj-parted d h (less-deep some w) s q m.over)) (subst₂ (λ (x : Expr) (t : List ℕ). Began line from c.at x t₀ t) (sym i.is) (sym same) began) named a long k

      pub walk-case : {t : ℕ} {subject : Passed} {walked noted : List ℕ} → Reached behind subject.readings before → t₁ ≡ noted → head.form ≡ Case t → Walks line types functions from head.next (levels - 1) t₀ walked subject →
          NotedOver result_bytes (WithinResult types_most size_variables_most) line from subject.behind.at walked noted behind → Walks line types functions from c levels t₀ t₃ r
      walk-case {t} {subject} {walked} {noted} start same q u m = record { says = says }
        where
          says : (S : Scope) (e : Expr) → Shapes types functions S → WithinExpr levels S e → Spells expr_bytes line c.at e → from + length line ≤ text_most → WalkedOver line from c.at e t₀ t₃ r
          says S e h w s room =
              let i = case-head d s (less-deep some w) q in
              let within = subst (WithinExpr (suc (levels - 1)) S) i.is (less-deep some w) in
              let skips : Skips line types functions head.next (levels - 1) subject.behind = record { says = λ S e h w s. (u.says S e h w s room).stops } in
              let over = u.says S i.first h (case-subject h within) i.spelled room in
              let place : behind.at ≡ past line subject.behind.at (length (result_bytes i.result)) = m.over.says i.result (case-result h within) (subst (λ m. Spells result_bytes line m i.result) (sym over.stops) i.spelled₂) in
              let whole : behind.at ≡ past line (past line head.next.at (length (expr_bytes i.first))) (length (result_bytes i.result)) = place ∙ ap (λ (m : ℕ). past line m (length (result_bytes i.result))) over.stops in
              let began : Began line from c.at (ecase t i.first i.result i.branches) t₀ noted = case-began t i.branches (shown d q).0.ends i.spelled i.spelled₂ room over whole m.long m.noted in
              let named : Gathers (named_before e) first.readings = as-named d w s i.is (rw (is, start.read) over.read) in
              whole-walked s room (rw (is, start.place, count, q) (case-parted d h (less-deep some w) s q skips m.over)) (subst₂ (λ (x : Expr) (t : List ℕ). Began line from c.at x t₀ t) (sym i.is) (sym same) began) named a long k

-- ---- several
module _ (line types functions : List ℕ) (from : ℕ) (d : Passed) (levels : ℕ) where
  pub several-none : {n : ℕ} (ends : List ℕ) → n ≡ 0 → WalksAll line types functions from d levels n ends ends d
  several-none ends q = record { says = λ es w s room. none es (subst (λ m. Skippable types functions levels m es) q w) }
    where
      none : (es : Exprs) → Skippable types functions levels 0 es → WalkedBehind line from d es ends ends d
      none enil no_more = record { stops = sym (none-ends line d.behind.at); told = ds_nil; read = joins-nil d.readings; kept = record { before = λ i less. refl; behind = λ i le. refl } }
      none (econs _ _) x3 = elim x3 [ ]

  module _ {n : ℕ} {first next r : Passed} {t₀ t₁ t₂ : List ℕ} (on : Reached first.behind (bit_or d.readings first.readings) next) where
    pub several-done : (n ≡ 0 → ⊥) → Walks line types functions from d.behind levels t₀ t₁ first → WalksAll line types functions from next levels (n - 1) t₁ t₂ r → WalksAll line types functions from d levels n t₀ t₂ r
    several-done some u a = record { says = λ es w s room. more es (subst (λ m. Skippable types functions levels m es) (one_less n some) w) s room }
      where
        more : (es : Exprs) → Skippable types functions levels (suc (n - 1)) es → Spells exprs_bytes line d.behind.at es → from + length line ≤ text_most → WalkedBehind line from d es t₀ t₂ r
        more (econs e es) (one_more {S} h w ws) s room =
            let two = first-of-exprs s in
            let one = u.says S e h w two.spelled room in
            let stops : next.behind.at ≡ past line d.behind.at (length (expr_bytes e)) = ap (λ (x : Cursor). x.at) on.place ∙ one.stops in
            let others = a.says es ws (subst (λ m. Spells exprs_bytes line m es) (sym stops) two.next) room in
            let ends : past line d.behind.at (length (exprs_bytes (econs e es))) ≡ past line next.behind.at (length (exprs_bytes es)) = more-ends line d.behind.at e es ∙ ap (λ (m : ℕ). past line m (length (exprs_bytes es))) (sym stops) in
            let here : EndedHere from line d.behind.at e t₂ = here-kept t₁ t₂ from line one.told (record { fits = spells-left two.spelled; same = record { word = λ q low high. others.kept.before (from + q) (omega (arith, high, stops)) } }) in
            record {
              stops = others.stops ∙ sym ends;
              told = ds_cons here.end here.parts (subst (λ (m : ℕ). EndedAll t₂ from line m es) stops others.told);
              read = joins-cons e es one.read (subst (λ (x : ℕ). Joins (all_readings es) x r.readings) on.read others.read);
              kept = record {
                before = λ i less. others.kept.before i (omega (arith, less, stops, past-least line d.behind.at (length (expr_bytes e)))) ∙ one.kept.before i less;
                behind = λ i le. others.kept.behind i (omega (arith, le, ends)) ∙ one.kept.behind i (omega (arith, le, ends, stops, past-least line next.behind.at (length (exprs_bytes es))));
              };
            }
        more enil x3 s room = elim x3 [ ]

-- ---- the loop over the parts
module _ {line types functions : List ℕ} {from : ℕ} where
  pub on-start : {levels : ℕ} {ends : List ℕ} (c : Passed) (n : ℕ) → WalksOn line types functions from c levels n ends c (n - 0) ends
  on-start {levels} {ends} c n = record { rest = λ {t} {r} a. subst (λ (m : ℕ). WalksAll line types functions from c levels m ends t r) (none-less n) a }
    where
      none-less : (m : ℕ) → m - 0 ≡ m
      none-less m = omega arith

  module _ {c d : Passed} {levels n i : ℕ} {ends ends' : List ℕ} where
    pub on-more : {first next : Passed} {ends'' : List ℕ} → i < n → WalksOn line types functions from c levels n ends d (n - i) ends' → Walks line types functions from d.behind levels ends' ends'' first →
        Reached first.behind (bit_or d.readings first.readings) next → WalksOn line types functions from c levels n ends next (n - (i + 1)) ends''
    on-more {next} {ends''} less on u joined = record {
      rest = λ {t} {r} a. on.rest (several-done line types functions from d levels joined (λ q. omega (arith, q, less)) u (subst (λ (m : ℕ). WalksAll line types functions from next levels m ends'' t r) (one_fewer less) a));
    }
      where
        one_fewer : i < n → n - (i + 1) ≡ n - i - 1
        one_fewer h = omega arith

    pub on-end : n ≤ i → WalksOn line types functions from c levels n ends d (n - i) ends' → WalksAll line types functions from c levels n ends ends' d
    on-end le on = on.rest (several-none line types functions from d levels ends' (omega (arith, le)))
