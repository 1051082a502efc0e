-- What stands behind the code of a form, up to its parts, return by return.
use Rattle.language.specs.declared.refusals.Refusal.{Refusal}
use Rattle.std.specs.Prelude.{Ok, Err}
use Rattle.std.specs.Prelude.{ℕ, zero, suc, ◌+◌, ◌*◌, ◌%◌, ◌<◌, List, [], ◌∷◌, Bool, true, false, ◌≡◌, refl, ◌⊎◌, ltb}
use Rattle.std.proofs.Math.Option.{some}
use Rattle.std.proofs.Common.{sym, ◌∙◌, ⊎_elim, arith, ltb-true}
use Rattle.std.proofs.Math.Path.{ap}
use Rattle.std.proofs.Math.ListN.{length, get_or, get_elem? as look}
use Rattle.language.specs.Limits.{byte_range, nesting_most}
use Rattle.language.specs.Syntax.{Expr, ebool, eint, evar, enow, elast, elet}
use Rattle.language.specs.Scope.{Scope, wider}
use Rattle.language.specs.Parser.{Read, got, bad, Parser, and_then, must, byte, index as index_read, code}
use Rattle.language.specs.ReadExpr.{Form, bool_form, int_form, var_form, now_form, last_form, let_form, call_form, con_form, case_form, fit_form, int, ops, bools, size_at, expr_behind, expr_at}
use Rattle.text.specs.declared.Cursor.{Cursor}
use Rattle.text.specs.declared.Found.{Found}
use Rattle.text.specs.Bytes.{Number, Step, bytes_from, IsPlace, given, forget, step_of, Moved, stopped, ReadsNumber, Passes, Below}
use Rattle.text.specs.Codes.{code_place}
use Rattle.text.specs.CodeLaws.{code-then, code-stops, code_below}
use Rattle.text.specs.ReadLaws.{read-then}
use Rattle.text.specs.StepLaws.{number-got, number-moved, number-other, ends-within, moved_none, moved_on, pass-got, pass-bad, pass-moved, pass-none, pass-here, read-then-read, read-stops-read, pass-then-pass, pass-stops-pass, forget-then, read-ends-pass}
use Rattle.expression_reader.specs.declared.Names.{Names}
use Rattle.index.specs.Tables.{type_words, constructor_words, function_words}
use Rattle.index.specs.Sections.{types_of, functions_of}
use Rattle.expression_reader.specs.Parts.{whole, parts}
use Rattle.expression_reader.specs.Follows.{Tells, Follows, Opens, opened_at, opened_by, wider_names, form_at}
use Rattle.expression_reader.specs.ScopeLaws.{tells-wider, small}

-- ---- the cursor's way, whatever the index tells
pub on_then : {line : List ℕ} {at : ℕ} {x r : Step} {d : Cursor} → Moved line at x → x ≡ Ok d → (IsPlace line d.at → Moved line d.at r) → Moved line at r
on_then u e w = let m = rw e at u in moved_on m (w (ends-within m))

-- an index that was read is below its bound
tested-less : {bound i : ℕ} {cs : List ℕ} (y : Read ℕ) → and_then y (λ n. must (ltb n bound) 6 (λ ds. got n ds)) ≡ got i cs → i < bound
unfolding and_then must
tested-less {bound} {i} {cs} (got n bs) e = go (ltb n bound) refl e
  where
    go : (b : Bool) → ltb n bound ≡ b → must b 6 (λ ds. got n ds) bs ≡ got i cs → i < bound
    go true h q = let same : n ≡ i = cc in rw same at (ltb-true n bound h)
    go false h q = absurd (let z : ◌≡◌ {A = ℕ} 0 1 = cc in omega arith)
tested-less (bad n) e = absurd (let z : ◌≡◌ {A = ℕ} 0 1 = cc in omega arith)

pub index-less : {line : List ℕ} {at bound : ℕ} {x : Number} {f : Found} → ReadsNumber line at x (index_read bound (bytes_from line at)) → x ≡ Ok f → f.value < bound
unfolding index_read
index-less {line} {at} v e = tested-less (byte (bytes_from line at)) (number-got v e)

-- ---- what was passed, and so many parts behind it
opened-moved : {line : List ℕ} {at : ℕ} (x : Step) (n : ℕ) → Moved line at x → Moved line at (step_of (opened_by x n))
opened-moved (Ok c) n m = m
opened-moved (Err k) n m = stopped

opened-reads : {A : Type 0} {line : List ℕ} {at : ℕ} (x : Step) (n : ℕ) (y : Read A) → Passes line at x (forget y) → ReadsNumber line at (opened_by x n) (and_then y (λ a cs. got n cs))
unfolding and_then given
opened-reads (Ok c) n y v = let g = pass-got v refl in record { is = sym (ap (λ z. and_then z (λ a cs. got n cs)) g.is); on = v.on }
opened-reads (Err k) n y v = record { is = sym (ap (λ z. and_then z (λ a cs. got n cs)) (pass-bad {y = y} v refl)); on = stopped }

pub opened-some : {x : Step} {c : Cursor} {f : Found} {n : ℕ} → x ≡ Ok c → f ≡ opened_at c n → Ok f ≡ opened_by x n
opened-some {n = n} e o = ap Ok o ∙ sym (ap (λ s. opened_by s n) e)

pub opened-none : {x : Step} {r : Number} {m : Refusal} (n : ℕ) → x ≡ Err m → r ≡ Err m → r ≡ opened_by x n
opened-none n e o = o ∙ sym (ap (λ s. opened_by s n) e)

-- the forms of which no part is left over
pub data Whole : Form → Type 0 where
  bool_whole : Whole bool_form
  int_whole : Whole int_form
  variable_whole : Whole var_form
  now_whole : Whole now_form
  last_whole : Whole last_form
  let_whole : Whole let_form
  case_whole : Whole case_form
  fit_whole : Whole fit_form

whole_parts : {form : Form} → Whole form → (inner : Scope → Parser Expr) (S : Scope) (bs : List ℕ) → parts inner S form bs ≡ and_then (expr_behind inner S form bs) (λ e cs. got 0 cs)
unfolding parts whole
whole_parts bool_whole inner S bs = refl
whole_parts int_whole inner S bs = refl
whole_parts variable_whole inner S bs = refl
whole_parts now_whole inner S bs = refl
whole_parts last_whole inner S bs = refl
whole_parts let_whole inner S bs = refl
whole_parts case_whole inner S bs = refl
whole_parts fit_whole inner S bs = refl

some_at : {A : Type 0} (T : List A) (i : ℕ) → i < length T → (a : A) × (look T i ≡ some a)
some_at [] i less = absurd (omega arith)
some_at (a ∷ T) zero less = (a, refl)
some_at (a ∷ T) (suc i) less = some_at T i (omega arith)

-- a code, and a value made of it; a pass whose value does not matter
code-ends-pass : {A B : Type 0} (first : ℕ) (T : List A) (g : A → B) {line : List ℕ} {at : ℕ} {r : Step} (x : Number) → ReadsNumber line at x (code_place first (length T) (bytes_from line at)) → r ≡ step_of x → Passes line at r (forget (and_then (code first T (bytes_from line at)) (λ a bs. got (g a) bs)))
unfolding forget
code-ends-pass first T g (Ok f) v e =
    let found = some_at T f.value (code_below first T v refl) in
    rw e (pass-here (number-moved v refl) (ap forget (code-then first T (λ a bs. got (g a) bs) v found.0 refl refl found.1)))
code-ends-pass first T g (Err n) v e = pass-none refl e (ap forget (code-stops first T (λ a bs. got (g a) bs) v refl))

module _ (line index : List ℕ) (c : Cursor) (s : Names) where
  module _ (levels : ℕ) where
    -- ---- a form that is passed as a whole
    pub opens-whole : {x : Step} {r : Number} (form : ℕ) {F : Form} → form_at form ≡ F → Whole F → Follows line index c s x (λ S. expr_behind (expr_at levels) S F) → r ≡ opened_by x 0 → Opens line index c s r (λ S. parts (expr_at levels) S (form_at form))
    opens-whole {x} {r} form {F} is all u o = record {
      says = λ S t here. rw (is, o, whole_parts all (expr_at levels) S (bytes_from line c.at)) (opened-reads x 0 (expr_behind (expr_at levels) S F (bytes_from line c.at)) (u.says S t here));
      on = λ here. rw o (opened-moved x 0 (u.on here));
    }

    -- ---- `10` to `14`
    pub leaf-bool : {x : Number} {r : Step} → ReadsNumber line c.at x (code_place 0 2 (bytes_from line c.at)) × Below byte_range x → r ≡ step_of x → Follows line index c s r (λ S. expr_behind (expr_at levels) S bool_form)
    unfolding expr_behind
    leaf-bool {x} v d = record { says = λ S t here. code-ends-pass 0 bools ebool x v.0 d; on = λ here. rw d v.0.on }

    pub leaf-int : {r : Step} → Passes line c.at r (forget (int (bytes_from line c.at))) → Follows line index c s r (λ S. expr_behind (expr_at levels) S int_form)
    unfolding expr_behind
    leaf-int v = record { says = λ S t here. rw (forget-then eint (int (bytes_from line c.at))) v; on = λ here. v.on }

    pub leaf-variable : {x : Number} {r : Step} → ReadsNumber line c.at x (index_read s.variables (bytes_from line c.at)) × Below byte_range x → r ≡ step_of x → Follows line index c s r (λ S. expr_behind (expr_at levels) S var_form)
    unfolding expr_behind
    leaf-variable v d = record { says = λ S t here. rw t.variables (read-ends-pass evar v.0 d); on = λ here. rw d v.0.on }

    leaf-now : {x : Number} {r : Step} → ReadsNumber line c.at x (index_read s.channels (bytes_from line c.at)) × Below byte_range x → r ≡ step_of x → Follows line index c s r (λ S. expr_behind (expr_at levels) S now_form)
    unfolding expr_behind
    leaf-now v d = record { says = λ S t here. rw t.channels (read-ends-pass enow v.0 d); on = λ here. rw d v.0.on }

    leaf_last : {x : Number} {r : Step} → ReadsNumber line c.at x (index_read s.channels (bytes_from line c.at)) × Below byte_range x → r ≡ step_of x → Follows line index c s r (λ S. expr_behind (expr_at levels) S last_form)
    unfolding expr_behind
    leaf_last v d = record { says = λ S t here. rw t.channels (read-ends-pass elast v.0 d); on = λ here. rw d v.0.on }

    pub opens-channel : {x : Number} {y : Step} {r : Number} (form : ℕ) → (form ≡ 3) ⊎ (form ≡ 4) → ReadsNumber line c.at x (index_read s.channels (bytes_from line c.at)) × Below byte_range x → y ≡ step_of x → r ≡ opened_by y 0 → Opens line index c s r (λ S. parts (expr_at levels) S (form_at form))
    opens-channel form is v d o = ⊎_elim (λ e. opens-whole form (ap form_at e) now_whole (leaf-now v d) o) (λ e. opens-whole form (ap form_at e) last_whole (leaf_last v d) o) is

    -- ---- `16`, `17`, `1B`
    pub opens-if : {r : Number} (form : ℕ) → form ≡ 6 → r ≡ opened_by (Ok c) 3 → Opens line index c s r (λ S. parts (expr_at levels) S (form_at form))
    unfolding parts given
    opens-if form e o = rw (e, o) (record { says = λ S t here. record { is = refl; on = moved_none here }; on = λ here. moved_none here })

    pub opens-operator : {x : Number} {y : Step} {r : Number} (form : ℕ) → form ≡ 7 → ReadsNumber line c.at x (code_place 0 8 (bytes_from line c.at)) × Below byte_range x → y ≡ step_of x → r ≡ opened_by y 2 → Opens line index c s r (λ S. parts (expr_at levels) S (form_at form))
    unfolding parts
    opens-operator {x} {y} form e v d o = rw (e, o) (record {
      says = λ S t here. let p = code-ends-pass 0 ops (λ a. a) x v.0 d in opened-reads y 2 (code 0x00 ops (bytes_from line c.at)) (rw (forget-then (λ a. a) (code 0x00 ops (bytes_from line c.at))) at p);
      on = λ here. opened-moved y 2 (rw d v.0.on);
    })

    pub opens-size : {x : Step} {r : Number} (form : ℕ) → form ≡ 11 → Passes line c.at x (forget (size_at nesting_most s.sizes (bytes_from line c.at))) → r ≡ opened_by x 1 → Opens line index c s r (λ S. parts (expr_at levels) S (form_at form))
    unfolding parts
    opens-size {x} form e v o = rw (e, o) (record {
      says = λ S t here. rw t.sizes (opened-reads x 1 (size_at nesting_most s.sizes (bytes_from line c.at)) v);
      on = λ here. opened-moved x 1 v.on;
    })

    -- ---- `18`, `19`: read without regard to levels
    pub opens-call : {r : Number} (form : ℕ) → form ≡ 8 → Opens line index c s r (λ S. parts (expr_at 0) S call_form) → Opens line index c s r (λ S. parts (expr_at levels) S (form_at form))
    unfolding parts
    opens-call form e u = rw e (record { says = u.says; on = u.on })

    pub opens-construct : {r : Number} (form : ℕ) → form ≡ 9 → Opens line index c s r (λ S. parts (expr_at 0) S con_form) → Opens line index c s r (λ S. parts (expr_at levels) S (form_at form))
    unfolding parts
    opens-construct form e u = rw e (record { says = u.says; on = u.on })

    -- ---- `15`
    module _ {x : Step} (u : Follows line index c s x (expr_at levels)) where
      pub binding-stops : {m : Refusal} → x ≡ Err m → Follows line index c s x (λ S. expr_behind (expr_at levels) S let_form)
      unfolding expr_behind
      binding-stops e = record { says = λ S t here. pass-stops-pass (expr_at levels S (bytes_from line c.at)) _ (u.says S t here) e; on = u.on }

      pub binding-done : {d : Cursor} {r : Step} {z : Names} → x ≡ Ok d → z ≡ wider_names 1 0 s → Follows line index d z r (expr_at levels) → Follows line index c s r (λ S. expr_behind (expr_at levels) S let_form)
      unfolding expr_behind
      binding-done {d} {r} e q w = record {
        says = λ S t here. let v = u.says S t here in
            pass-then-pass (expr_at levels S (bytes_from line c.at)) _ v e (λ a. rw (forget-then (elet a) (expr_at levels (wider 1 0 S) (bytes_from line d.at))) (w.says (wider 1 0 S) (rw q (tells-wider 1 0 t)) (ends-within (pass-moved v e))));
        on = λ here. on_then (u.on here) e w.on;
      }

  -- ---- `18`
  module _ {x : Number} (v : ReadsNumber line c.at x (index_read s.functions (bytes_from line c.at)) × Below byte_range x) where
    pub call_none : {m : Refusal} → x ≡ Err m → Opens line index c s x (λ S. parts (expr_at 0) S call_form)
    unfolding parts
    call_none e = record { says = λ S t here. rw t.function_count (read-stops-read _ v.0 e); on = λ here. v.0.on }

    pub call-some : {f : Found} {y : Step} {r : Number} {n : ℕ} → x ≡ Ok f → (n ≡ get_or (functions_of index) (function_words * f.value) 0 % byte_range) × (n < byte_range) → y ≡ Ok f.next → r ≡ opened_by y n → Opens line index c s r (λ S. parts (expr_at 0) S call_form)
    unfolding parts
    call-some {f} {n = n} e q d o = rw (o, d) (record {
      says = λ S t here.
          let less : f.value < s.functions = index-less v.0 e in
          let same : n ≡ get_or S.arities f.value 0 = q.0 ∙ small (get_or S.arities f.value 0) (get_or (functions_of index) (function_words * f.value) 0) (t.arities f.value less) (omega (arith, t.few f.value less)) in
          rw t.function_count (number-other v.0 e (read-then _ v.0 e ∙ ap (λ k. got k (bytes_from line f.next.at)) (sym same)));
      on = λ here. number-moved v.0 e;
    })

  -- ---- `19`
  module _ {x : Number} (v : ReadsNumber line c.at x (index_read s.types (bytes_from line c.at)) × Below byte_range x) where
    pub construct-none : {m : Refusal} → x ≡ Err m → Opens line index c s x (λ S. parts (expr_at 0) S con_form)
    unfolding parts
    construct-none e = record { says = λ S t here. rw t.type_count (read-stops-read _ v.0 e); on = λ here. v.0.on }

    module _ {f : Found} (e : x ≡ Ok f) {k : ℕ} (q : (k ≡ get_or (types_of index) (type_words * f.value) 0 % byte_range) × (k < byte_range)) {y : Number} (w : ReadsNumber line f.next.at y (index_read k (bytes_from line f.next.at)) × Below byte_range y) where
      type-less : f.value < s.types
      type-less = index-less v.0 e

      constructor-count : (S : Scope) → Tells index s S → k ≡ length (get_or S.types f.value [])
      constructor-count S t = let d = t.each f.value type-less in q.0 ∙ small (length (get_or S.types f.value [])) (get_or (types_of index) (type_words * f.value) 0) d.constructors (omega (arith, d.few))

      pub construct-no : {m : Refusal} → y ≡ Err m → Opens line index c s y (λ S. parts (expr_at 0) S con_form)
      unfolding parts
      construct-no h = record {
        says = λ S t here. rw t.type_count (read-then-read _ v.0 e (rw (← (constructor-count S t)) (read-stops-read _ w.0 h)));
        on = λ here. moved_on (number-moved v.0 e) w.0.on;
      }

      pub construct-some : {g : Found} {z : Step} {r : Number} {n : ℕ} → y ≡ Ok g → (n ≡ get_or (types_of index) (type_words * f.value + 1 + constructor_words * g.value) 0 % byte_range) × (n < byte_range) → z ≡ Ok g.next → r ≡ opened_by z n → Opens line index c s r (λ S. parts (expr_at 0) S con_form)
      unfolding parts
      construct-some {g} {n = n} h p j o = rw (o, j) (record {
        says = λ S t here.
            let d = t.each f.value type-less in
            let less : g.value < length (get_or S.types f.value []) = rw (constructor-count S t) at (index-less w.0 h) in
            let same : n ≡ length (get_or (get_or S.types f.value []) g.value []) = p.0 ∙ small (length (get_or (get_or S.types f.value []) g.value [])) (get_or (types_of index) (type_words * f.value + 1 + constructor_words * g.value) 0) (d.fields g.value less) (omega (arith, d.few_fields g.value less)) in
            rw t.type_count (read-then-read _ v.0 e (rw (← (constructor-count S t)) (number-other w.0 h (read-then _ w.0 h ∙ ap (λ i. got i (bytes_from line g.next.at)) (sym same)))));
        on = λ here. moved_on (number-moved v.0 e) (number-moved w.0 h);
      })
