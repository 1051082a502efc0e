-- Function frames: what the reads of the parts promise, a function's frame promises.
use Rattle.language.specs.declared.refusals.Refusal.{Refusal}
use Rattle.std.specs.Prelude.{Ok, Err}
use Rattle.std.specs.Prelude.{ℕ, zero, suc, ◌+◌, ◌*◌, ◌%◌, ◌≤◌, ◌<◌, List, [], ◌∷◌, ◌++◌, ◌≡◌, refl, get_or, set}
use Rattle.std.proofs.Common.{sym, ap, ◌∙◌, arith}
use Rattle.std.proofs.Math.Path.{subst}
use Rattle.std.proofs.Math.ListN.{length, length-map, length-append, get_or-append}
use Rattle.std.proofs.lemmas.List.{get_or_at}
use Rattle.language.specs.Limits.{byte_range, functions_most, parameters_most, conditions_most, measures_most, nesting_most}
use Rattle.language.specs.Syntax.{Plain, ResultType, Condition, Expr, Function, File}
use Rattle.language.specs.Format.{spell_all, plain_bytes, result_bytes, condition_bytes}
use Rattle.language.specs.Layout.{padded}
use Rattle.language.specs.Scope.{named_count, arities_of, body_scope}
use Rattle.language.specs.Parser.{Read, got, Parser, and_then, index as index_read, counted}
use Rattle.language.specs.ReadExpr.{plain, result, expr_at}
use Rattle.language.specs.Reader.{condition, function}
use Rattle.theory.specs.ExactParts.{one, index-exact, counted-exact}
use Rattle.theory.specs.ExactTypes.{plain-exact, result-exact}
use Rattle.theory.specs.ExactFrames.{conditions-exact}
use Rattle.text.specs.declared.Cursor.{Cursor}
use Rattle.text.specs.Bytes.{Step, bytes_from, past, IsPlace, forget, Passes}
use Rattle.text.specs.Places.{past-past, past-append}
use Rattle.text.specs.StepLaws.{ends-within, Gives, pass-got, pass-bad, pass-moved, passes-behind, pass-stops-pass, forget-then}
use Rattle.index.specs.Lined.{lined-length, functions_in}
use Rattle.index.specs.Tables.{function_words, function_entry, function_table}
use Rattle.encoding.specs.FrameParts.{result_place, conditions_place, measure_place, body_place}
use Rattle.index.specs.Sections.{types_from, functions_from, type_table_words, function_table_words, functions_of}
use Rattle.index.specs.SectionLaws.{Outside, outside-then, kept-before}
use Rattle.index.specs.Enters.{Enters, parameters_entry, Named, TellsType, TellsParameters}
use Rattle.index.specs.FunctionTable.{head_words, ParametersRead, parameters-read, places-added}
use Rattle.index.specs.ParserLaws.{bad-is-not-got}
use Rattle.expression_reader.specs.declared.Names.{Names}
use Rattle.expression_reader.specs.Follows.{Tells, Follows}
use Rattle.index.specs.declared.Counts.{Counts}
use Rattle.reader.specs.Held.{Held, Fits, PlaceWord, ReadsFunction}
use Rattle.reader.specs.Frames.{kind_end}
use Rattle.reader.specs.Places.{place-behind}
use Rattle.reader.specs.Channels.{few-arities, told-arity, tells-types, then-got, last-got, place_is}

abbrev pub inside_names : Counts → ℕ → ℕ → Names
inside_names n variables sizes = record { variables = variables; sizes = sizes; channels = 0; types = n.types; functions = n.functions + 1 }

-- ---- what is left to read behind each part of a function
abbrev behind_measure : File → List Plain → ResultType → List Condition → List ℕ → Parser Function
behind_measure P ps r cs m bs = and_then (expr_at nesting_most (body_scope P.types P.functions ps) bs) (λ e rest. got (record { parameters = ps; result = r; conditions = cs; measure = m; body = e }) rest)

abbrev behind_conditions : File → List Plain → ResultType → List Condition → Parser Function
behind_conditions P ps r cs bs = and_then (counted 0 measures_most (index_read (named_count ps)) bs) (λ m. behind_measure P ps r cs m)

abbrev behind_result : File → List Plain → ResultType → Parser Function
behind_result P ps r bs = and_then (counted 0 conditions_most (condition (named_count ps)) bs) (λ cs. behind_conditions P ps r cs)

abbrev behind_parameters : File → List Plain → Parser Function
behind_parameters P ps bs = and_then (result (length P.types) (named_count ps) bs) (λ r. behind_result P ps r)

function-is : (P : File) (bs : List ℕ) → function P bs ≡ and_then (counted 0 parameters_most (plain (length P.types)) bs) (λ ps. behind_parameters P ps)
unfolding function
function-is P bs = refl

pub passes-as : {line : List ℕ} {at : ℕ} {r : Step} {y z : Read (Unit {0})} → z ≡ y → Passes line at r y → Passes line at r z
passes-as p u = record { is = u.is ∙ sym p; on = u.on }

-- ---- the scope of a body, told by the index with the parameters of the function itself
small : (a b : ℕ) → a ≡ b → b ≤ parameters_most → a % byte_range ≡ b
small a b e h = omega arith

data Last (f n : ℕ) : Type 0 where
  before : f < n → Last f n
  here : f ≡ n → Last f n

last_or : (f n : ℕ) → f < n + 1 → Last f n
last_or zero zero h = here refl
last_or zero (suc n) h = before (omega arith)
last_or (suc f) zero h = absurd (omega arith)
last_or (suc f) (suc n) h = by (last_or f n (omega arith))
  where
    by : Last f n → Last (suc f) (suc n)
    by (before k) = before (omega arith)
    by (here k) = here (ap suc k)

module _ {lines : ℕ → List ℕ} {index index₁ : List ℕ} {n : Counts} {P : File} (held : Held lines index n P) (o : Outside functions_from function_table_words index index₁) {ps : List Plain} where
  tells-inside : {variables sizes : ℕ} → n.functions < functions_most → functions_of index₁ ≡ padded (functions_most * function_words) (spell_all function_entry (functions_in lines P) ++ parameters_entry ps) → TellsParameters (functions_of index₁) n.functions ps →
      length ps ≡ variables → named_count ps ≡ sizes → Tells index₁ (inside_names n variables sizes) (body_scope P.types P.functions ps)
  unfolding body_scope
  tells-inside few tb told v z = record {
    variables = v;
    sizes = z;
    channels = refl;
    type_count = held.counted.type_count;
    function_count = length-append (arities_of P.functions) (length ps ∷ []) ∙ omega (arith, length-map P.functions (λ (F : Function). length F.parameters), held.counted.function_count);
    each = λ t h. subst (λ types. TellsType types t (get_or P.types t [])) (sym (kept-before o types_from type_table_words (omega arith))) (tells-types held t h);
    arities = λ f h. by f (last_or f n.functions h);
    few = λ f h. most f (last_or f n.functions h);
  }
    where
      long : length (arities_of P.functions) ≡ n.functions
      long = length-map P.functions (λ (F : Function). length F.parameters) ∙ held.counted.function_count

      arity-of : (f : ℕ) → Last f n.functions → ℕ
      arity-of f (before h) = get_or (arities_of P.functions) f 0
      arity-of f (here e) = length ps

      arity-is : (f : ℕ) (l : Last f n.functions) → get_or (arities_of P.functions ++ (length ps ∷ [])) f 0 ≡ arity-of f l
      arity-is f (before h) = get_or-append (arities_of P.functions) (length ps ∷ []) 0 f (omega (arith, long))
      arity-is f (here e) = get_or_at (arities_of P.functions) (length ps) [] 0 f (long ∙ sym e)

      by : (f : ℕ) → Last f n.functions → get_or (functions_of index₁) (function_words * f) 0 ≡ get_or (arities_of P.functions ++ (length ps ∷ [])) f 0
      by f (before h) =
          let less : f < length P.functions = omega (arith, held.counted.function_count) in
          told-arity held f (parameters_entry ps) less tb ∙ sym (arity-is f (before h))
      by f (here e) = ap (λ i. get_or (functions_of index₁) (function_words * i) 0) e ∙ told.count ∙ sym (arity-is f (here e))

      most : (f : ℕ) → Last f n.functions → get_or (arities_of P.functions ++ (length ps ∷ [])) f 0 ≤ parameters_most
      most f (before h) = omega (arith, arity-is f (before h), few-arities held f (omega (arith, held.counted.function_count)))
      most f (here e) = omega (arith, arity-is f (here e), told.few)

-- ---- the places, each from the one before it
ones-long : (l : List ℕ) → length (spell_all one l) ≡ length l
unfolding spell_all
ones-long [] = refl
ones-long (i ∷ l) = ap suc (ones-long l)

record PlacesAre (line : List ℕ) (F : Function) (c d m b : ℕ) : Type 0 where
  result : c ≡ result_place line F
  conditions : d ≡ conditions_place line F
  measure : m ≡ measure_place line F
  body : b ≡ body_place line F

places-are : (line : List ℕ) (F : Function) {c d m b : ℕ} → c ≡ past line (kind_end line) (length (length F.parameters ∷ spell_all plain_bytes F.parameters)) → d ≡ past line c (length (result_bytes F.result)) →
    m ≡ past line d (length (length F.conditions ∷ spell_all condition_bytes F.conditions)) → b ≡ past line m (length (length F.measure ∷ spell_all one F.measure)) → PlacesAre line F c d m b
places-are line F {c} {d} {m} {b} at₁ at₂ at₃ at₄ =
    let result : c ≡ result_place line F = at₁ ∙ past-append line (kind_end line) (length F.parameters ∷ []) (spell_all plain_bytes F.parameters) ∙ ap (λ (a : ℕ). past line a (length (spell_all plain_bytes F.parameters))) (past-past line 0 1 1) in
    let conditions : d ≡ conditions_place line F = at₂ ∙ ap (λ (a : ℕ). past line a (length (result_bytes F.result))) result in
    let measure : m ≡ measure_place line F = at₃ ∙ ap (λ (a : ℕ). past line a (length (length F.conditions ∷ spell_all condition_bytes F.conditions))) conditions ∙ past-append line (conditions_place line F) (length F.conditions ∷ []) (spell_all condition_bytes F.conditions) in
    let body : b ≡ body_place line F = at₄ ∙ ap (λ (a : ℕ). past line a (length (length F.measure ∷ spell_all one F.measure))) measure ∙ past-append line (measure_place line F) (length F.measure ∷ []) (spell_all one F.measure) ∙ ap (past line (past line (measure_place line F) 1)) (ones-long F.measure) in
    record { result = result; conditions = conditions; measure = measure; body = body }

-- ---- the frame, part by part
module _ (line index : List ℕ) (n : Counts) {start : Cursor} (begun : start.at ≡ kind_end line) {w : Step} {index₁ : List ℕ} (entered : Enters parameters_entry line start.at (function_words * n.functions) (functions_of index) w (functions_of index₁) (counted 0 parameters_most (plain n.types) (bytes_from line start.at)) × Outside functions_from function_table_words index index₁) where
  v : Enters parameters_entry line (kind_end line) (function_words * n.functions) (functions_of index) w (functions_of index₁) (counted 0 parameters_most (plain n.types) (bytes_from line (kind_end line))) × Outside functions_from function_table_words index index₁
  v = rw begun at entered

  -- where the frame is refused, nothing is said of the function's entry
  function-stops : {r : Step} {k : Refusal} → r ≡ Err k → ((lines : ℕ → List ℕ) (P : File) → Held lines index n P → n.functions < functions_most → Passes line (kind_end line) r (forget (function P (bytes_from line (kind_end line))))) → ReadsFunction line index n r index₁
  function-stops e says = record {
    says = λ lines P held few. says lines P held few;
    enters = λ lines P held few F rest h. bad-is-not-got (sym (pass-bad (says lines P held few) e) ∙ h);
    outside = v.1;
  }

  parameters-pass : {lines : ℕ → List ℕ} {P : File} → Held lines index n P → Passes line (kind_end line) w (forget (counted 0 parameters_most (plain (length P.types)) (bytes_from line (kind_end line))))
  parameters-pass {P = P} held = passes-as (ap (λ t. forget (counted 0 parameters_most (plain t) (bytes_from line (kind_end line)))) held.counted.type_count) v.0.passes

  pub function-no-parameters : {k : Refusal} → w ≡ Err k → ReadsFunction line index n w index₁
  function-no-parameters e = function-stops e λ lines P held few. passes-as (ap forget (function-is P (bytes_from line (kind_end line)))) (pass-stops-pass _ _ (parameters-pass held) e)

  module _ {c : Cursor} (e : w ≡ Ok c) {vars : ℕ} (named : Named (functions_of index₁) n.functions vars) where
    module _ {lines : ℕ → List ℕ} {P : File} (held : Held lines index n P) (few : n.functions < functions_most) where
      head : ParametersRead n.types (functions_in lines P) n.functions (bytes_from line (kind_end line)) (bytes_from line c.at) (functions_of index₁)
      head = parameters-read n.types (functions_in lines P) v.0 (lined-length lines (length P.types) P.functions ∙ held.counted.function_count) few held.functions_are e

      sizes-are : named_count head.list ≡ vars
      sizes-are = sym (named.says head.list head.tells)

      parameters-are : counted 0 parameters_most (plain (length P.types)) (bytes_from line (kind_end line)) ≡ got head.list (bytes_from line c.at)
      parameters-are = ap (λ t. counted 0 parameters_most (plain t) (bytes_from line (kind_end line))) held.counted.type_count ∙ head.read

      to-result : function P (bytes_from line (kind_end line)) ≡ behind_parameters P head.list (bytes_from line c.at)
      to-result = function-is P (bytes_from line (kind_end line)) ∙ then-got _ parameters-are

      from-parameters : {r : Step} → Passes line c.at r (forget (behind_parameters P head.list (bytes_from line c.at))) → Passes line (kind_end line) r (forget (function P (bytes_from line (kind_end line))))
      from-parameters u = passes-behind (pass-moved v.0.passes e) (ap forget to-result) u

    module _ {x : Step} (p : Passes line c.at x (forget (result n.types vars (bytes_from line c.at)))) where
      result-passes : {lines : ℕ → List ℕ} {P : File} (held : Held lines index n P) (few : n.functions < functions_most) → Passes line c.at x (forget (result (length P.types) (named_count (head held few).list) (bytes_from line c.at)))
      result-passes held few = passes-as (ap (λ t. forget (result t (named_count (head held few).list) (bytes_from line c.at))) held.counted.type_count ∙ ap (λ z. forget (result n.types z (bytes_from line c.at))) (sizes-are held few)) p

      pub function-no-result : {k : Refusal} → x ≡ Err k → ReadsFunction line index n x index₁
      function-no-result h = function-stops h λ lines P held few. from-parameters held few (pass-stops-pass _ _ (result-passes held few) h)

      module _ {d : Cursor} (e₂ : x ≡ Ok d) where
        module _ {lines : ℕ → List ℕ} {P : File} (held : Held lines index n P) (few : n.functions < functions_most) where
          the_result : Gives (result (length P.types) (named_count (head held few).list) (bytes_from line c.at)) (bytes_from line d.at)
          the_result = pass-got (result-passes held few) e₂

          from-result : {r : Step} → Passes line d.at r (forget (behind_result P (head held few).list the_result.value (bytes_from line d.at))) → Passes line (kind_end line) r (forget (function P (bytes_from line (kind_end line))))
          from-result u = from-parameters held few (passes-behind (pass-moved p e₂) (ap forget (then-got _ the_result.is)) u)

        module _ {y : Step} (q : Passes line d.at y (forget (counted 0 conditions_most (condition vars) (bytes_from line d.at)))) where
          conditions-pass : {lines : ℕ → List ℕ} {P : File} (held : Held lines index n P) (few : n.functions < functions_most) → Passes line d.at y (forget (counted 0 conditions_most (condition (named_count (head held few).list)) (bytes_from line d.at)))
          conditions-pass held few = passes-as (ap (λ z. forget (counted 0 conditions_most (condition z) (bytes_from line d.at))) (sizes-are held few)) q

          pub function-no-conditions : {k : Refusal} → y ≡ Err k → ReadsFunction line index n y index₁
          function-no-conditions h = function-stops h λ lines P held few. from-result held few (pass-stops-pass _ _ (conditions-pass held few) h)

          module _ {m : Cursor} (e₃ : y ≡ Ok m) where
            module _ {lines : ℕ → List ℕ} {P : File} (held : Held lines index n P) (few : n.functions < functions_most) where
              the-conditions : Gives (counted 0 conditions_most (condition (named_count (head held few).list)) (bytes_from line d.at)) (bytes_from line m.at)
              the-conditions = pass-got (conditions-pass held few) e₃

              from-conditions : {r : Step} → Passes line m.at r (forget (behind_conditions P (head held few).list (the_result held few).value the-conditions.value (bytes_from line m.at))) → Passes line (kind_end line) r (forget (function P (bytes_from line (kind_end line))))
              from-conditions u = from-result held few (passes-behind (pass-moved q e₃) (ap forget (then-got _ the-conditions.is)) u)

            module _ {z : Step} (s : Passes line m.at z (forget (counted 0 measures_most (index_read vars) (bytes_from line m.at)))) where
              measure-passes : {lines : ℕ → List ℕ} {P : File} (held : Held lines index n P) (few : n.functions < functions_most) → Passes line m.at z (forget (counted 0 measures_most (index_read (named_count (head held few).list)) (bytes_from line m.at)))
              measure-passes held few = passes-as (ap (λ i. forget (counted 0 measures_most (index_read i) (bytes_from line m.at))) (sizes-are held few)) s

              pub function-no-measure : {k : Refusal} → z ≡ Err k → ReadsFunction line index n z index₁
              function-no-measure h = function-stops h λ lines P held few. from-conditions held few (pass-stops-pass _ _ (measure-passes held few) h)

              module _ {b : Cursor} (e₄ : z ≡ Ok b) where
                module _ {lines : ℕ → List ℕ} {P : File} (held : Held lines index n P) (few : n.functions < functions_most) where
                  the-measure : Gives (counted 0 measures_most (index_read (named_count (head held few).list)) (bytes_from line m.at)) (bytes_from line b.at)
                  the-measure = pass-got (measure-passes held few) e₄

                  from-measure : {r : Step} → Passes line b.at r (forget (behind_measure P (head held few).list (the_result held few).value (the-conditions held few).value the-measure.value (bytes_from line b.at))) → Passes line (kind_end line) r (forget (function P (bytes_from line (kind_end line))))
                  from-measure u = from-conditions held few (passes-behind (pass-moved s e₄) (ap forget (then-got _ the-measure.is)) u)

                  to-body : function P (bytes_from line (kind_end line)) ≡ behind_measure P (head held few).list (the_result held few).value (the-conditions held few).value the-measure.value (bytes_from line b.at)
                  to-body = to-result held few ∙ then-got _ (the_result held few).is ∙ then-got _ (the-conditions held few).is ∙ then-got _ the-measure.is

                  scope-told : {variables : ℕ} → variables ≡ get_or (functions_of index₁) (function_words * n.functions) 0 % byte_range → Tells index₁ (inside_names n variables vars) (body_scope P.types P.functions (head held few).list)
                  scope-told a = tells-inside held v.1 few (head held few).table (head held few).tells (sym (a ∙ small _ _ (head held few).tells.count (head held few).tells.few)) (sizes-are held few)

                pub function-no-body : {variables : ℕ} {r : Step} {k : Refusal} → variables ≡ get_or (functions_of index₁) (function_words * n.functions) 0 % byte_range → Follows line index₁ b (inside_names n variables vars) r (expr_at nesting_most) → r ≡ Err k → ReadsFunction line index n r index₁
                function-no-body a u h = function-stops h λ lines P held few. from-measure held few (passes-as (forget-then _ _) (u.says (body_scope P.types P.functions (head held few).list) (scope-told held few a) (ends-within (pass-moved s e₄))))

                pub function-read : {index' : List ℕ} {variables i₁ i₂ i₃ i₄ : ℕ} {r : Step} → Fits line n → variables ≡ get_or (functions_of index₁) (function_words * n.functions) 0 % byte_range → Follows line index₁ b (inside_names n variables vars) r (expr_at nesting_most) →
                    PlaceWord c.at i₁ → PlaceWord d.at i₂ → PlaceWord m.at i₃ → PlaceWord b.at i₄ →
                    (functions_of index' ≡ set (set (set (set (functions_of index₁) (function_words * n.functions + head_words) i₁) (function_words * n.functions + head_words + 1) i₂) (function_words * n.functions + head_words + 2) i₃) (function_words * n.functions + head_words + 3) i₄)
                    × Outside functions_from function_table_words index₁ index' → ReadsFunction line index n r index'
                function-read {index'} {i₁ = i₁} {i₂} {i₃} {i₄} {r} fits a u p₁ p₂ p₃ p₄ wrote = record {
                  says = λ lines P held few. from-measure held few (passes-as (forget-then _ _) (u.says (body_scope P.types P.functions (head held few).list) (scope-told held few a) within₄));
                  enters = λ lines P held few F rest h.
                      let made = last-got (λ (t : Expr). record { parameters = (head held few).list; result = (the_result held few).value; conditions = (the-conditions held few).value; measure = (the-measure held few).value; body = t }) _ (sym (to-body held few) ∙ h) in (
                        written held few made.value ∙ ap (λ (G : Function). function_table (functions_in lines P ++ (record { line = line; part = G } ∷ []))) (sym made.made),
                        omega (arith, ap (λ G. length G.parameters) made.made, (head held few).tells.few),
                      );
                  outside = outside-then v.1 wrote.1;
                }
                  where
                    within₁ : IsPlace line c.at
                    within₁ = ends-within (pass-moved v.0.passes e)

                    within₂ : IsPlace line d.at
                    within₂ = ends-within (pass-moved p e₂)

                    within₃ : IsPlace line m.at
                    within₃ = ends-within (pass-moved q e₃)

                    within₄ : IsPlace line b.at
                    within₄ = ends-within (pass-moved s e₄)

                    the-function : {lines : ℕ → List ℕ} {P : File} → Held lines index n P → n.functions < functions_most → Expr → Function
                    the-function held few t = record { parameters = (head held few).list; result = (the_result held few).value; conditions = (the-conditions held few).value; measure = (the-measure held few).value; body = t }

                    written : {lines : ℕ → List ℕ} {P : File} (held : Held lines index n P) (few : n.functions < functions_most) → (t : Expr) → functions_of index' ≡ function_table (functions_in lines P ++ (record { line = line; part = the-function held few t } ∷ []))
                    written {lines} {P} held few t =
                        let F = the-function held few t in
                        let at₁ = place-behind (counted-exact (plain-exact n.types) 0 parameters_most) (pass-moved v.0.passes e) (head held few).read in
                        let at₂ = place-behind (result-exact (length P.types) (named_count (head held few).list)) (pass-moved p e₂) (the_result held few).is in
                        let at₃ = place-behind (conditions-exact (named_count (head held few).list)) (pass-moved q e₃) (the-conditions held few).is in
                        let at₄ = place-behind (counted-exact (index-exact (named_count (head held few).list)) 0 measures_most) (pass-moved s e₄) (the-measure held few).is in
                        let places = places-are line F at₁ at₂ at₃ at₄ in
                        let at = function_words * n.functions + head_words in
                        let table₁ = set (functions_of index₁) at i₁ in
                        let table₂ = set table₁ (at + 1) i₂ in
                        let table₃ = set table₂ (at + 2) i₃ in
                        places-added (functions_in lines P) (record { line = line; part = F }) (lined-length lines (length P.types) P.functions ∙ held.counted.function_count) few (head held few).table
                        (ap (set (functions_of index₁) at) (place_is fits p₁ within₁ ∙ places.result))
                        (ap (set table₁ (at + 1)) (place_is fits p₂ within₂ ∙ places.conditions))
                        (ap (set table₂ (at + 2)) (place_is fits p₃ within₃ ∙ places.measure))
                        (wrote.0 ∙ ap (set table₃ (at + 3)) (place_is fits p₄ within₄ ∙ places.body))
