-- Reading a result type and a size that are spelled at a place, return by return; the line of a frame, and what a parameter or a field wants.
use Rattle.std.specs.Prelude.{Some, None}
use Rattle.language.specs.declared.refusals.Refusal.{Refusal}
use Rattle.std.specs.Prelude.{Ok, Err}
use Rattle.std.specs.Prelude.{ℕ, ◌+◌, ◌*◌, ◌≤◌, ◌<◌, List, [], ◌∷◌, ◌≡◌, refl, length, get_or}
use Rattle.std.proofs.Math.Option.{some}
use Rattle.std.proofs.Common.{sym, ◌∙◌, subst, subst₂, arith}
use Rattle.std.proofs.Math.Path.{ap}
use Rattle.std.proofs.Math.ListN.{get_elem? as look}
use Rattle.language.specs.Limits.{byte_range, size_variables_most, nesting_most}
use Rattle.language.specs.Result.{choose}
use Rattle.language.specs.Syntax.{Plain, pbool, pint, pnamed, Size, ResultType, rbool, rint, rnamed, Function, File}
use Rattle.language.specs.Format.{size_bytes, result_bytes}
use Rattle.language.specs.Scope.{named_count}
use Rattle.language.specs.Within.{WithinSize, WithinResult, w_rnamed}
use Rattle.language.specs.Parser.{byte}
use Rattle.language.specs.ReadExpr.{size_at}
use Rattle.language.specs.Layout.{tag_step}
use Rattle.language.specs.PlainTypes.{plain_result}
use Rattle.theory.specs.Lists.{look-less}
use Rattle.theory.specs.ExactTypes.{size_exact}
use Rattle.text.specs.declared.Cursor.{Cursor}
use Rattle.text.specs.declared.Found.{Found}
use Rattle.text.specs.Bytes.{Number, Step, bytes_from, past, bytes_left, byte_at, forget, ReadsNumber, Passes, Below}
use Rattle.index.specs.Tables.{function_words}
use Rattle.text.specs.Places.{past-past, left-past}
use Rattle.encoding.specs.Spells.{Spells, spells-left}
use Rattle.encoding.specs.TypeInversions.{ResultCoded, rbool_coded, rint_coded, rnamed_coded, IsNamedResult, result-of-byte}
use Rattle.encoding.specs.FrameLines.{line_at}
use Rattle.encoding.specs.CursorSpells.{passed_over}
use Rattle.heads.specs.SkipHeads.{byte-found, byte-there, next-at, next-there}
use Rattle.heads.specs.PartLaws.{size-wider}
use Rattle.encoding.specs.WithinParts.{function-within}
use Rattle.index.specs.Sections.{frames_of, types_of, functions_of}
use Rattle.index.specs.Indexed.{field_at, result_at, frame_part, function_line, Indexed}
use Rattle.plain_types.specs.declared.words.PlainType.{PlainType}
use Rattle.plain_types.specs.declared.words.Typed.{Typed}
use Rattle.plain_types.specs.declared.words.Want.{Want}
use Rattle.plain_types.specs.declared.words.Want.TheVariants.{Parameters, Fields}
use Rattle.plain_types.specs.Agrees.{Typing, meaning, Agrees, answered, typed-is, typed-there}
use Rattle.heads.specs.Places.{line_behind_types}
use Rattle.plain_types.specs.Words.{named_type, type_at, own_or_other, wanted_type, ReadsResult, Returns}
use Rattle.plain_types.specs.WordLaws.{named-is, own_is, other-is}

-- ---- what is wanted
pub wanted-parameter : (index : List ℕ) (want : Want) (j : ℕ) {f word : ℕ} {r : PlainType} → want ≡ Parameters f → word ≡ get_or (functions_of index) (function_words * f + 1 + j) 0 → r ≡ type_at word → r ≡ wanted_type index want j
unfolding wanted_type
wanted-parameter index want j e q p = rw e (p ∙ ap type_at q)

module _ (index : List ℕ) (want : Want) (j : ℕ) {t c word : ℕ} {r : PlainType} (e : want ≡ Fields t c) (q : word ≡ field_at (types_of index) t c j) where
  pub wanted-own : word ≡ 2 → r ≡ named_type t → r ≡ wanted_type index want j
  unfolding wanted_type
  wanted-own own p = rw e (p ∙ own_is t word own ∙ ap (own_or_other t) q)

  pub wanted-other : (word ≡ 2 → ⊥) → r ≡ type_at word → r ≡ wanted_type index want j
  unfolding wanted_type
  wanted-other other p = rw e (p ∙ other-is t word other ∙ ap (own_or_other t) q)

-- ---- a size that is spelled is passed over
module _ {line : List ℕ} {at vars : ℕ} {s : Size} {x : Step} (few : vars ≤ size_variables_most) (w : WithinSize vars nesting_most s) (spelled : Spells size_bytes line at s)
    (v : Passes line at x (forget (size_at nesting_most size_variables_most (bytes_from line at)))) where
  pub size-passed : x ≡ Ok (record { at = past line at (length (size_bytes s)) })
  size-passed = passed_over (size_exact size_variables_most) spelled (size-wider few w) x v

-- ---- a result type
some_result : (ρ : ResultType) → 0 < length (result_bytes ρ)
unfolding result_bytes
some_result rbool = omega arith
some_result rint = omega arith
some_result (rnamed t s) = omega arith

leaf-result : {line : List ℕ} {at b : ℕ} {ρ : ResultType} → ResultCoded line at ρ b → b < 2 → (meaning (type_at b) ≡ plain_result ρ) × (length (result_bytes ρ) ≡ 1)
unfolding plain_result choose
leaf-result (rbool_coded i) h = (ap plain_result (sym i.is), ap (λ (ρ : ResultType). length (result_bytes ρ)) i.is ∙ i.long)
leaf-result (rint_coded i) h = (ap plain_result (sym i.is), ap (λ (ρ : ResultType). length (result_bytes ρ)) i.is ∙ i.long)
leaf-result (rnamed_coded i) h = absurd (omega (arith, h))

named-result : {line : List ℕ} {at b : ℕ} {ρ : ResultType} → ResultCoded line at ρ b → 2 ≤ b → IsNamedResult line at ρ
named-result (rbool_coded i) h = absurd (omega (arith, h))
named-result (rint_coded i) h = absurd (omega (arith, h))
named-result (rnamed_coded i) h = i

named-long : {t : ℕ} {s : Size} {ρ : ResultType} → ρ ≡ rnamed t s → 1 < length (result_bytes ρ)
unfolding result_bytes
named-long e = omega (arith, ap (λ (ρ : ResultType). length (result_bytes ρ)) e)

named-within : {types vars t : ℕ} {s : Size} → WithinResult types vars (rnamed t s) → (t < types) × WithinSize vars nesting_most s
named-within (w_rnamed l w) = (l, w)

plain-named : {t : ℕ} {s : Size} {ρ : ResultType} → ρ ≡ rnamed t s → pnamed t ≡ plain_result ρ
unfolding plain_result
plain-named q = rw q

module _ (line : List ℕ) (c : Cursor) {x : Number} (v : ReadsNumber line c.at x (byte (bytes_from line c.at)) × Below byte_range x) where
  pub result-stops : {m : Refusal} → x ≡ Err m → ReadsResult line c None
  result-stops q = record { says = λ {types} {vars} {ρ} small few w s. absurd (byte-there (omega (arith, spells-left s, some_result ρ)) v q) }

  module _ {f : Found} (q : x ≡ Ok f) where
    coded : {ρ : ResultType} → Spells result_bytes line c.at ρ → ResultCoded line c.at ρ f.value
    coded {ρ} s = subst (ResultCoded line c.at ρ) (sym (byte-found (omega (arith, spells-left s, some_result ρ)) v q).0) (result-of-byte s)

    second : {ρ : ResultType} → Spells result_bytes line c.at ρ → f.next.at ≡ past line c.at 1
    second {ρ} s = (byte-found (omega (arith, spells-left s, some_result ρ)) v q).1

    pub result-leaf : {of : PlainType} {r : Typing} → f.value < 2 → of ≡ type_at f.value → r ≡ Some (record { of = of; next = f.next }) → ReadsResult line c r
    result-leaf less e o = record { says = λ {types} {vars} {ρ} small few w s. let l = leaf-result (coded s) less in answered o (ap meaning e ∙ l.0) (second s ∙ ap (past line c.at) (sym l.1)) refl }

    module _ (more : 2 ≤ f.value) {y : Number} (u : ReadsNumber line f.next.at y (byte (bytes_from line f.next.at)) × Below byte_range y) where
      here : {ρ : ResultType} → Spells result_bytes line c.at ρ → 0 < bytes_left line f.next.at
      here s = omega (arith, ap (bytes_left line) (second s), left-past line c.at 1, spells-left s, named-long (named-result (coded s) more).is)

      pub result-cut : {m : Refusal} → y ≡ Err m → ReadsResult line c None
      result-cut p = record { says = λ small few w s. absurd (byte-there (here s) u p) }

      module _ {g : Found} (p : y ≡ Ok g) {z : Step} (a : Passes line g.next.at z (forget (size_at nesting_most size_variables_most (bytes_from line g.next.at)))) where
        third : {ρ : ResultType} → Spells result_bytes line c.at ρ → g.next.at ≡ past line c.at 2
        third s = (byte-found (here s) u p).1 ∙ ap (λ (m : ℕ). past line m 1) (second s) ∙ past-past line c.at 1 1

        behind : {types vars : ℕ} {ρ : ResultType} → vars ≤ size_variables_most → WithinResult types vars ρ → (s : Spells result_bytes line c.at ρ) → z ≡ Ok (record { at = past line g.next.at (length (size_bytes (named-result (coded s) more).size)) })
        behind {types} {vars} {ρ} few w s =
            let i = named-result (coded s) more in
            size-passed few (named-within (subst (WithinResult types vars) i.is w)).1 (subst (λ m. Spells size_bytes line m i.size) (sym (third s)) i.spelled) a

        pub result-open : {m : Refusal} → z ≡ Err m → ReadsResult line c None
        result-open o = record { says = λ small few w s. absurd (next-there (behind few w s) o) }

        pub result-named : {d : Cursor} {of : PlainType} {r : Typing} → z ≡ Ok d → of ≡ named_type g.value → r ≡ Some (record { of = of; next = d }) → ReadsResult line c r
        result-named o e a₂ = record {
          says = λ {types} {vars} {ρ} small few w s.
              let i = named-result (coded s) more in
              let t = byte_at line (past line c.at 1) in
              let value : g.value ≡ t = (byte-found (here s) u p).0 ∙ ap (byte_at line) (second s) in
              let less : t < tag_step = omega (arith, small, (named-within (subst (WithinResult types vars) i.is w)).0) in
              answered a₂ (ap meaning e ∙ ap (λ n. meaning (named_type n)) value ∙ named-is t less ∙ plain-named i.is)
              (next-at (behind few w s) o ∙ ap (λ (m : ℕ). past line m (length (size_bytes i.size))) (third s) ∙ sym (ap (λ (r : ResultType). past line c.at (length (result_bytes r))) i.is ∙ i.ends)) refl;
        }

-- ---- the result type of a function, in its line
named-few : (ps : List Plain) → named_count ps ≤ length ps
unfolding named_count
named-few [] = omega arith
named-few (pbool ∷ ps) = omega (arith, named-few ps)
named-few (pint ∷ ps) = omega (arith, named-few ps)
named-few (pnamed t ∷ ps) = omega (arith, named-few ps)

module _ (text index : List ℕ) (f : ℕ) {line : List ℕ} {i : ℕ} {c : Cursor} {x : Typing} (number : i ≡ line_behind_types index f) (part : line ≡ frame_part text (frames_of index) i) (place : c.at ≡ result_at (functions_of index) f) (v : ReadsResult line c x) where
  read_result : {P : File} {F : Function} → Indexed text index P → look P.functions f ≡ some F →
      Agrees x (past line c.at (length (result_bytes F.result))) (some (plain_result F.result))
  read_result {P} {F} h e =
      let less = look-less P.functions f e in
      let w = h.within in
      let number' : i ≡ function_line P f = omega (arith, number, h.counted.type_count, less, w.few_functions) in
      let is : line ≡ line_at text (function_line P f) = part ∙ ap (frame_part text (frames_of index)) number' ∙ (h.each_frame (function_line P f) (omega (arith, less))).line in
      let r = function-within w f e in
      v.says (omega (arith, w.few_types)) (omega (arith, r.few_parameters, named-few F.parameters)) r.result (subst₂ (λ l at. Spells result_bytes l at F.result) (sym is) (sym place) (h.each_function f e).result)

  pub returned-none : {r : PlainType} → x ≡ None → Returns text index f r
  returned-none q = record { says = λ h e. absurd (typed-there (read_result h e) q) }

  pub returned-is : {k : Typed} → x ≡ Some k → Returns text index f k.of
  returned-is q = record { says = λ h e. (typed-is (read_result h e) q).0 }

-- ---- a channel's type
pub channel-is : {word declared : ℕ} {of : PlainType} {next : Cursor} → word ≡ declared → of ≡ type_at word → ◌≡◌ {A = Typing} (Some (record { of = of; next = next })) (Some (record { of = type_at declared; next = next }))
channel-is e q = rw (q ∙ ap type_at e)
