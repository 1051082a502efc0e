-- What each return gives of the functions that work on no expression.
use Rattle.language.specs.declared.refusals.Refusal.TheVariants.{SizeOutside, SizesDisagree, ConditionFails, MeasureNotLess}
use Rattle.std.specs.Prelude.{Ok, Some, None, Option as Maybe}
use Rattle.size_steps.specs.Outcomes.{Refused}
use Rattle.std.specs.Prelude.{ℕ, ◌+◌, ◌≤◌, ◌<◌, Bool, false, ◌≡◌, take}
use mathlib.Core.List.{List, map}
use mathlib.Core.Bool.{◌&&◌}
use Rattle.std.proofs.Math.Bool.{true}
use Rattle.std.proofs.Math.Option.{some}
use Rattle.std.proofs.Math.Path.{refl}
use Rattle.std.proofs.Common.{sym, ap, ◌∙◌, subst, arith, add-one}
use Rattle.std.proofs.Math.ListN.{length, get_elem? as look}
use Rattle.std.proofs.Math.Dec.{eqb, ltb}
use borrow.Author.Tests.{lt-ltb, le-ltb, eq-eqb, ne_eqb, eqb-true, eqb-false}
use Rattle.language.specs.Limits.{byte_range, size_most}
use Rattle.language.specs.Result.{both, choose}
use Rattle.language.specs.Syntax.{Constructor, Op, oadd, osub, omul, oeq, olt, ole, oand, oor, tnamed, Function, File, constructors_of, function_frame}
use Rattle.language.specs.Format.{op_code, result_bytes}
use Rattle.language.specs.Scope.{named_count}
use Rattle.language.specs.PlainTypes.{op_type}
use Rattle.language.specs.Sizes.{type_at, conditions_hold, sum, summed_measure, own_sizes, same_type}
use Rattle.language.specs.Estimate.{after, one_cell}
use Rattle.language.specs.Typing.{Place as Stand, outside, inside, frame_at, falls, base_type}
use Rattle.language.specs.Checker.{Sizeds}
use Rattle.theory.specs.Alls.{all_map}
use Rattle.theory.specs.Lists.{look-less}
use Rattle.text.specs.declared.Cursor.{Cursor}
use Rattle.text.specs.Bytes.{declared_word}
use Rattle.text.specs.Places.{past}
use Rattle.encoding.specs.FrameLines.{line_at}
use Rattle.index.specs.Indexed.{frame_part, result_at, conditions_at, measure_at, function_line, Indexed}
use Rattle.encoding.specs.WithinParts.{function-within}
use Rattle.estimate.specs.declared.Estimate.{Estimate}
use Rattle.estimate.specs.Stands.{Combines, Makes as Made}
use Rattle.sizes.specs.declared.SizedType.{SizedType}
use Rattle.sizes.specs.contracts.SizedTypePartialEq.TheImpl as derived
use Rattle.sizes.specs.declared.SizedType.TheVariants.{Bool as BoolIs, Int as IntIs, Named}
use Rattle.sizes.specs.declared.TypeAt.{TypeAt}
use Rattle.sizes.specs.Promises.{meaning, Hold, SumsMeasure, AgreesType, TypeGiven}
use Rattle.sizes.specs.Prefixes.{type-in-scope, conditions-in-scope, measure-in-scope}
use Rattle.sizes.specs.TypeLaws.{type-given, type-not-given, type-within}
use Rattle.type_rows.specs.Rows.{ToldRow, OwnSum, FieldsAgree}
use Rattle.type_rows.specs.ToldLaws.{told-fields}
use Rattle.index.specs.Sections.{frames_of, types_of, functions_of}
use Rattle.heads.specs.Places.{line_behind_types, function-line}
use Rattle.size_steps.specs.declared.Site.{Site}
use Rattle.size_steps.specs.declared.Counted.{Counted}
use Rattle.size_steps.specs.Sites.{bounded_named, bounded-small, one-byte-bounded, Around, around_none, around_one}
use Rattle.size_steps.specs.Agreement.{Table, CountedAs, agrees, grown, not_grown, need-holds, need-fails}
use Rattle.size_steps.specs.Leaves.{OperatorType, calls_itself, Falls, ready, no_condition, no_fall, no_size, entry_of, no_entry, SizesFor, Prepares, MayCall, Makes}

-- ---- is_type: the derived test of two types
and-both : (a b : Bool) → (a && b) ≡ both a b
unfolding both
and-both true b = refl
and-both false b = refl

pub types-tested : (x y : SizedType) → (derived.ghosts).eq x y ≡ same_type (meaning x) (meaning y)
unfolding same_type both
types-tested BoolIs BoolIs = refl
types-tested BoolIs IntIs = refl
types-tested BoolIs (Named u j) = refl
types-tested IntIs BoolIs = refl
types-tested IntIs IntIs = refl
types-tested IntIs (Named u j) = refl
types-tested (Named t k) BoolIs = refl
types-tested (Named t k) IntIs = refl
types-tested (Named t k) (Named u j) = and-both (eqb t u) (eqb k j)

-- ---- operator_type
pub operator-int : {o : ℕ} → o ≤ 2 → OperatorType o IntIs
unfolding op_type base_type
operator-int {o} le = record { says = go }
  where
    go : (op : Op) → op_code op ≡ o → meaning IntIs ≡ base_type (op_type op)
    go oadd e = refl
    go osub e = refl
    go omul e = refl
    go oeq e = absurd (omega (arith, e, le))
    go olt e = absurd (omega (arith, e, le))
    go ole e = absurd (omega (arith, e, le))
    go oand e = absurd (omega (arith, e, le))
    go oor e = absurd (omega (arith, e, le))

pub operator-bool : {o : ℕ} → 2 < o → OperatorType o BoolIs
unfolding op_type base_type
operator-bool {o} less = record { says = go }
  where
    go : (op : Op) → op_code op ≡ o → meaning BoolIs ≡ base_type (op_type op)
    go oadd e = absurd (omega (arith, e, less))
    go osub e = absurd (omega (arith, e, less))
    go omul e = absurd (omega (arith, e, less))
    go oeq e = refl
    go olt e = refl
    go ole e = refl
    go oand e = refl
    go oor e = refl

-- ---- falls: whether it is a self-call, then whether the measure is smaller
module _ {index : List ℕ} {p : Site} {f w : ℕ} {b : Bool} (test : b ≡ calls_itself index p f) where
  pub falls-other : b ≡ false → Falls index p f w true
  unfolding falls choose
  falls-other other = record { says = go }
    where
      go : (text : List ℕ) (P : File) (q : Stand) → Indexed text index P → f < length P.functions → Around P p.place.line p.measure q → true ≡ falls q f w
      go text P (outside frame C) i less (around_none e) = refl
      go text P (inside g v) i less (around_one e m) = rw (ne_eqb g f (λ same. eqb-false p.place.line (line_behind_types index f) (sym test ∙ other) (omega (arith, e, same, function-line i less)))) refl

  pub falls-self : b ≡ true → Falls index p f w (ltb w p.measure)
  unfolding falls choose
  falls-self self = record { says = go }
    where
      go : (text : List ℕ) (P : File) (q : Stand) → Indexed text index P → f < length P.functions → Around P p.place.line p.measure q → ltb w p.measure ≡ falls q f w
      go text P (outside frame C) i less (around_none e) = absurd (omega (arith, e, less, function-line i less, eqb-true p.place.line (line_behind_types index f) (sym test ∙ self)))
      go text P (inside g v) i less (around_one e m) = rw (eq-eqb g f (omega (arith, e, function-line i less, eqb-true p.place.line (line_behind_types index f) (sym test ∙ self))), m) refl

-- ---- may_call, where it is no self-call
pub may-call-other : {text index sizes : List ℕ} {p : Site} {f : ℕ} {b : Bool} → b ≡ calls_itself index p f → b ≡ false → MayCall text index sizes p f true
may-call-other {text} {p = p} {f = f} test other = record { says = λ P q F ks i around is s. (falls-other {p = p} {w = summed_measure F.measure ks} test other).says text P q i (look-less P.functions f is) around }

-- ---- prepare: what is read of the function that is called
module _ (text index sizes : List ℕ) {line : List ℕ} (p : Site) (f : ℕ) {called : ℕ} (number : called ≡ line_behind_types index f) (at : line ≡ frame_part text (frames_of index) called) where
  module _ {P : File} {F : Function} {ks : List ℕ} (i : Indexed text index P) (is : look P.functions f ≡ some F) (s : SizesFor F ks sizes) where
    line-is : line ≡ line_at text (function_line P f)
    line-is = at ∙ ap (frame_part text (frames_of index)) (number ∙ function-line i (look-less P.functions f is)) ∙ (i.each_frame (function_line P f) (omega (arith, look-less P.functions f is))).line

    sizes-are : take (named_count F.parameters) sizes ≡ ks
    sizes-are = ap (λ k. take k sizes) (sym s.named) ∙ s.front

    conditions-are : {c : Cursor} {r : Bool} → c.at ≡ conditions_at (functions_of index) f → Hold line c sizes r → r ≡ conditions_hold ks F.conditions
    conditions-are {c} {r} here h =
        let g = i.each_function f is in
        let w = function-within i.within f is in
        (subst (λ l. Hold l c sizes r) line-is h).says (named_count F.parameters) F.conditions (rw here g.condition_count) w.conditions (rw here g.conditions)
        ∙ sym (conditions-in-scope sizes w.conditions) ∙ ap (λ l. conditions_hold l F.conditions) sizes-are

    measure-is : {c : Cursor} {r : ℕ} → c.at ≡ measure_at (functions_of index) f → SumsMeasure line c sizes r → r ≡ summed_measure F.measure ks
    measure-is {c} {r} here h =
        let g = i.each_function f is in
        let w = function-within i.within f is in
        (subst (λ l. SumsMeasure l c sizes r) line-is h).says F.measure (rw here g.measure_count) (rw here g.measure)
        ∙ sym (measure-in-scope sizes w.measure) ∙ ap (summed_measure F.measure) sizes-are

    type-is-at : {c : Cursor} {r : Maybe TypeAt} → c.at ≡ result_at (functions_of index) f → TypeGiven line c sizes r → AgreesType (type_at ks F.result) (past (line_at text (function_line P f)) c.at (length (result_bytes F.result))) r
    type-is-at {c} {r} here h =
        let g = i.each_function f is in
        let w = function-within i.within f is in
        subst (λ o. AgreesType o (past (line_at text (function_line P f)) c.at (length (result_bytes F.result))) r) (sym (type-in-scope sizes w.result) ∙ ap (λ l. type_at l F.result) sizes-are)
        ((subst (λ l. TypeGiven l c sizes r) line-is h).says (length P.types) (named_count F.parameters) F.result w.result (rw here g.result))

  pub may-call-self : {b : Bool} {c : Cursor} {w : ℕ} → b ≡ calls_itself index p f → b ≡ true → c.at ≡ measure_at (functions_of index) f → SumsMeasure line c sizes w → MayCall text index sizes p f (ltb w p.measure)
  may-call-self {w = w} test self here g = record {
    says = λ P q F ks i around is s. (falls-self {p = p} {w = w} test self).says text P q i (look-less P.functions f is) around ∙ ap (falls q f) (measure-is i is s here g);
  }

  module _ {c : Cursor} {holds : Bool} (here : c.at ≡ conditions_at (functions_of index) f) (h : Hold line c sizes holds) where
    pub prepare-no-condition : {n m : ℕ} → holds ≡ false → Prepares text index sizes p f n m (Refused ConditionFails (p.place.line + 1))
    prepare-no-condition fails = record {
      says = λ P q F ks i around is s. no_condition (ap (Refused ConditionFails) (add-one p.place.line)) (sym (conditions-are i is s here h) ∙ fails);
      of = no_entry;
    }

    module _ {c₂ : Cursor} {w : ℕ} {down : Bool} (true-holds : holds ≡ true) (here₂ : c₂.at ≡ measure_at (functions_of index) f) (g : SumsMeasure line c₂ sizes w) (d : Falls index p f w down) where
      module _ {P : File} {F : Function} {ks : List ℕ} (i : Indexed text index P) (is : look P.functions f ≡ some F) (s : SizesFor F ks sizes) where
        holds-there : conditions_hold ks F.conditions ≡ true
        holds-there = sym (conditions-are i is s here h) ∙ true-holds

        falls-there : {q : Stand} {b : Bool} → Around P p.place.line p.measure q → down ≡ b → falls q f (summed_measure F.measure ks) ≡ b
        falls-there {q} around e = ap (falls q f) (sym (measure-is i is s here₂ g)) ∙ sym (d.says text _ q i (look-less P.functions f is) around) ∙ e

      pub prepare-no-fall : {n m : ℕ} → down ≡ false → Prepares text index sizes p f n m (Refused MeasureNotLess (p.place.line + 1))
      prepare-no-fall fails = record {
        says = λ P q F ks i around is s. no_fall (ap (Refused MeasureNotLess) (add-one p.place.line)) (holds-there i is s) (falls-there i is s around fails);
        of = no_entry;
      }

      module _ {c₃ : Cursor} {x : Maybe TypeAt} (goes : down ≡ true) (here₃ : c₃.at ≡ result_at (functions_of index) f) (t : TypeGiven line c₃ sizes x) where
        pub prepare-no-size : {n m : ℕ} → x ≡ None → Prepares text index sizes p f n m (Refused SizeOutside (called + 1))
        prepare-no-size e = record {
          says = λ P q F ks i around is s. no_size (ap (Refused SizeOutside) (let same : called + 1 ≡ function_frame P f = omega (arith, number, function-line i (look-less P.functions f is)) in same)) (holds-there i is s) (falls-there i is s around goes) (type-not-given e (type-is-at i is s here₃ t));
          of = no_entry;
        }

        pub prepare-ready : {n m : ℕ} {y : TypeAt} → x ≡ Some y → Prepares text index sizes p f n m (Ok (record { function = f; measure = w; ty = y.ty; variables = n; sizes = m }))
        prepare-ready e = record {
          says = λ P q F ks i around is s.
              ready refl (holds-there i is s) (falls-there i is s around goes) (type-given e (type-is-at i is s here₃ t)).0 refl (measure-is i is s here₂ g) refl refl;
          of = entry_of refl refl refl (one-byte-bounded (type-within e t.bound));
        }

-- ---- made
told-row : {row : List ℕ} {table : Table} {a : Counted} {P : File} {next : ℕ} {x : Sizeds} (fs : Constructor) → length x.types ≡ length fs → CountedAs P next table row a x → ToldRow row (length fs) x.types
told-row {row} {x} fs long k = record {
  words = subst (λ n. take n row ≡ map declared_word x.types) long k.types;
  long = long;
  small = all_map (λ τ. bounded-small) k.small;
}

sum_is : (index : List ℕ) {row : List ℕ} {a : Counted} {t c size : ℕ} → OwnSum (types_of index) row t c size → {text : List ℕ} {table : Table} {P : File} {next : ℕ} {x : Sizeds} (fs : Constructor) →
    Indexed text index P → t < length P.types → look (constructors_of P t) c ≡ some fs → length x.types ≡ length fs → CountedAs P next table row a x → size ≡ sum (own_sizes fs x.types)
sum_is index {t = t} {c = c} o {x = x} fs i less is long k = o.says fs x.types (told-fields i t c less is) (told-row fs long k)

module _ (index : List ℕ) {row : List ℕ} {p : Site} {a : Counted} {t c size : ℕ} (o : OwnSum (types_of index) row t c size) where
  pub made-too-large : size_most ≤ size → Makes index row p a t c (Refused SizeOutside (p.place.line + 1))
  made-too-large large = record {
    says = λ text P q fs next table x i at less is long k.
        need-fails _ (le-ltb _ size_most (subst (λ n. size_most ≤ n) (sum_is index o fs i less is long k) large)) (ap (Refused SizeOutside) (add-one p.place.line ∙ sym at));
    grows = not_grown;
  }

  module _ {r : Bool} (fits : size < size_most) (g : FieldsAgree (types_of index) row t c r) where
    pub made-differs : r ≡ false → Makes index row p a t c (Refused SizesDisagree (p.place.line + 1))
    made-differs e = record {
      says = λ text P q fs next table x i at less is long k.
          need-holds 10 (frame_at P q) (lt-ltb _ size_most (subst (λ n. n < size_most) (sum_is index o fs i less is long k) fits))
          (need-fails _ (sym (g.says fs x.types (told-fields i t c less is) (told-row fs long k)) ∙ e) (ap (Refused SizesDisagree) (add-one p.place.line ∙ sym at)));
      grows = not_grown;
    }

    pub made-done : {one numbers : Estimate} → r ≡ true → t < byte_range → Made one_cell one → Combines after a.numbers one numbers →
        Makes index row p a t c (Ok (record { ty = Named t (size + 1); numbers = numbers; next = a.next; used = a.used }))
    made-done {numbers} e small one all = record {
      says = λ text P q fs next table x i at less is long k.
          let whole = sum_is index o fs i less is long k in
          need-holds 10 (frame_at P q) (lt-ltb _ size_most (subst (λ n. n < size_most) whole fits))
          (need-holds 11 (frame_at P q) (sym (g.says fs x.types (told-fields i t c less is) (told-row fs long k)) ∙ e)
          (agrees refl (record {
            type = ap (tnamed t) (let same : size + 1 ≡ 1 + sum (own_sizes fs x.types) = omega (arith, whole) in same);
            small = bounded_named small (omega (arith, whole, fits));
            numbers = all.says _ _ k.numbers one.says;
            ends = k.ends;
            holds = k.holds;
          })));
      grows = grown {k = record { ty = Named t (size + 1); numbers = numbers; next = a.next; used = a.used }} (omega arith);
    }
