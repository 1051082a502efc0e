-- A case and its branches, a fit: what stands behind their codes, return by return.
use Rattle.language.specs.declared.refusals.Refusal.{Refusal}
use Rattle.std.specs.Prelude.{Ok, Err}
use Rattle.std.specs.Prelude.{ℕ, ◌+◌, ◌*◌, ◌%◌, ◌≤◌, ◌<◌, List, [], ◌∷◌, ◌≡◌, refl, length, get_or, drop}
use Rattle.std.proofs.Common.{sym, ap, ◌∙◌, subst, arith, add-one, drop_of_length-le, drop-cons}
use Rattle.language.specs.Limits.{byte_range, size_most}
use Rattle.language.specs.Syntax.{Constructor, fbool, fint, own, other, owns, ecase, efit, econs}
use Rattle.language.specs.Scope.{Scope, wider}
use Rattle.language.specs.Parser.{index as index_read, count}
use Rattle.language.specs.ReadExpr.{bound, result, case_form, fit_form, branches, expr_behind, expr_at}
use Rattle.text.specs.declared.Cursor.{Cursor}
use Rattle.text.specs.declared.Found.{Found}
use Rattle.text.specs.Bytes.{Number, Step, bytes_from, forget, step_of, ReadsNumber, Passes, Below}
use Rattle.text.specs.StepLaws.{ends-within, moved_none, pass-moved, pass-here, number-moved, read-then-pass, read-stops-pass, pass-then-pass, pass-stops-pass, forget-then}
use Rattle.expression_reader.specs.declared.Names.{Names}
use Rattle.index.specs.Tables.{type_words, constructor_words}
use Rattle.index.specs.Sections.{types_of}
use Rattle.expression_reader.specs.Follows.{Tells, Follows, wider_names}
use Rattle.expression_reader.specs.ScopeLaws.{tells-wider, small}
use Rattle.expression_reader.specs.FormLaws.{on_then}

-- no constructor has more own-type fields than fields
owns-few : (fs : Constructor) → owns fs ≤ length fs
unfolding owns
owns-few [] = omega arith
owns-few (fbool ∷ fs) = omega (arith, owns-few fs)
owns-few (fint ∷ fs) = omega (arith, owns-few fs)
owns-few (own ∷ fs) = omega (arith, owns-few fs)
owns-few (other t k ∷ fs) = omega (arith, owns-few fs)

module _ (line index : List ℕ) (c : Cursor) (s : Names) (levels : ℕ) where
  -- ---- the branches of type t from constructor k on
  module _ (t k : ℕ) {n : ℕ} (q : (n ≡ get_or (types_of index) (type_words * t) 0 % byte_range) × (n < byte_range)) (known : t < s.types) where
    count-is : (S : Scope) → Tells index s S → n ≡ length (get_or S.types t [])
    count-is S h = let d = h.each t known in q.0 ∙ small (length (get_or S.types t [])) (get_or (types_of index) (type_words * t) 0) d.constructors (omega (arith, d.few))

    pub branches-none : n ≤ k → Follows line index c s (Ok c) (λ S. branches (expr_at levels) S (drop k (get_or S.types t [])))
    unfolding branches forget
    branches-none le = record { says = λ S h here. rw (drop_of_length-le (get_or S.types t []) {i = k} (omega (arith, count-is S h))) (pass-here (moved_none here) refl); on = λ here. moved_none here }

    module _ (more : k < n) {i j : ℕ} (p : (i ≡ get_or (types_of index) (type_words * t + 1 + constructor_words * k) 0 % byte_range) × (i < byte_range)) (o : (j ≡ get_or (types_of index) (type_words * t + 2 + constructor_words * k) 0 % byte_range) × (j < byte_range)) {z : Names} (wide : z ≡ wider_names i j s) {x : Step} (u : Follows line index c z x (expr_at levels)) where
      branch-scope : (S : Scope) → Tells index s S → Tells index z (wider (length (get_or (get_or S.types t []) k [])) (owns (get_or (get_or S.types t []) k [])) S)
      branch-scope S h =
          let d = h.each t known in
          let less : k < length (get_or S.types t []) = omega (arith, count-is S h) in
          let fs = get_or (get_or S.types t []) k [] in
          let fields : i ≡ length fs = p.0 ∙ small (length fs) (get_or (types_of index) (type_words * t + 1 + constructor_words * k) 0) (d.fields k less) (omega (arith, d.few_fields k less)) in
          let own : j ≡ owns fs = o.0 ∙ small (owns fs) (get_or (types_of index) (type_words * t + 2 + constructor_words * k) 0) (d.owns k less) (omega (arith, d.few_fields k less, owns-few fs)) in
          rw (wide, fields, own) (tells-wider (length fs) (owns fs) h)

      split : (S : Scope) → Tells index s S → drop k (get_or S.types t []) ≡ get_or (get_or S.types t []) k [] ∷ drop (k + 1) (get_or S.types t [])
      split S h = rw add-one (drop-cons (get_or S.types t []) k [] (omega (arith, count-is S h)))

      pub branches-stop : {m : Refusal} → x ≡ Err m → Follows line index c s x (λ S. branches (expr_at levels) S (drop k (get_or S.types t [])))
      unfolding branches
      branches-stop e = record { says = λ S h here. rw (split S h) (pass-stops-pass (expr_at levels (wider (length (get_or (get_or S.types t []) k [])) (owns (get_or (get_or S.types t []) k [])) S) (bytes_from line c.at)) _ (u.says _ (branch-scope S h) here) e); on = u.on }

      pub branches-done : {d : Cursor} {r : Step} → x ≡ Ok d → Follows line index d s r (λ S. branches (expr_at levels) S (drop (k + 1) (get_or S.types t []))) → Follows line index c s r (λ S. branches (expr_at levels) S (drop k (get_or S.types t [])))
      unfolding branches
      branches-done {d} e w = record {
        says = λ S h here. let v = u.says _ (branch-scope S h) here in
            rw (split S h) (pass-then-pass (expr_at levels (wider (length (get_or (get_or S.types t []) k [])) (owns (get_or (get_or S.types t []) k [])) S) (bytes_from line c.at)) _ v e
            (λ b. rw (forget-then (econs b) (branches (expr_at levels) S (drop (k + 1) (get_or S.types t [])) (bytes_from line d.at))) (w.says S h (ends-within (pass-moved v e)))));
        on = λ here. on_then (u.on here) e w.on;
      }

  -- ---- `1A`
  module _ {x : Number} (v : ReadsNumber line c.at x (index_read s.types (bytes_from line c.at)) × Below byte_range x) where
    pub case-stops : {m : Refusal} {r : Step} → x ≡ Err m → r ≡ step_of x → Follows line index c s r (λ S. expr_behind (expr_at levels) S case_form)
    unfolding expr_behind
    case-stops e d = record { says = λ S t here. rw t.type_count (read-stops-pass _ v.0 e d); on = λ here. rw d v.0.on }

    module _ {f : Found} (e : x ≡ Ok f) {y : Step} (u : Follows line index f.next s y (expr_at levels)) where
      pub case-subject : {m : Refusal} → y ≡ Err m → Follows line index c s y (λ S. expr_behind (expr_at levels) S case_form)
      unfolding expr_behind
      case-subject h = record { says = λ S t here. rw t.type_count (read-then-pass _ v.0 e (pass-stops-pass (expr_at levels S (bytes_from line f.next.at)) _ (u.says S t (ends-within (number-moved v.0 e))) h)); on = λ here. on_then v.0.on (ap step_of e) u.on }

      module _ {d : Cursor} (h : y ≡ Ok d) {z : Step} (w : Passes line d.at z (forget (result s.types s.sizes (bytes_from line d.at)))) where
        at-scope : (S : Scope) → Tells index s S → Passes line d.at z (forget (result s.types S.sizes (bytes_from line d.at)))
        at-scope S t = subst (λ n. Passes line d.at z (forget (result s.types n (bytes_from line d.at)))) (sym t.sizes) w

        pub case-type : {m : Refusal} → z ≡ Err m → Follows line index c s z (λ S. expr_behind (expr_at levels) S case_form)
        unfolding expr_behind
        case-type g = record {
          says = λ S t here. rw t.type_count (read-then-pass _ v.0 e (pass-then-pass (expr_at levels S (bytes_from line f.next.at)) _ (u.says S t (ends-within (number-moved v.0 e))) h
              (λ a. pass-stops-pass (result s.types S.sizes (bytes_from line d.at)) _ (at-scope S t) g)));
          on = λ here. on_then v.0.on (ap step_of e) (λ k. on_then (u.on k) h (λ i. w.on));
        }

        pub case-done : {b : Cursor} {r : Step} → z ≡ Ok b → Follows line index b s r (λ S. branches (expr_at levels) S (drop 0 (get_or S.types f.value []))) → Follows line index c s r (λ S. expr_behind (expr_at levels) S case_form)
        unfolding expr_behind
        case-done {b} g k = record {
          says = λ S t here. rw t.type_count (read-then-pass _ v.0 e (pass-then-pass (expr_at levels S (bytes_from line f.next.at)) _ (u.says S t (ends-within (number-moved v.0 e))) h
              (λ a. pass-then-pass (result s.types S.sizes (bytes_from line d.at)) _ (at-scope S t) g
              (λ r. rw (forget-then (ecase f.value a r) (branches (expr_at levels) S (get_or S.types f.value []) (bytes_from line b.at))) (k.says S t (ends-within (pass-moved w g)))))));
          on = λ here. on_then v.0.on (ap step_of e) (λ i. on_then (u.on i) h (λ j. on_then w.on g k.on));
        }

  -- ---- `1C`
  module _ {x : Number} (v : ReadsNumber line c.at x (count 1 size_most (bytes_from line c.at)) × Below byte_range x) where
    pub fit-stops : {m : Refusal} {r : Step} → x ≡ Err m → r ≡ step_of x → Follows line index c s r (λ S. expr_behind (expr_at levels) S fit_form)
    unfolding expr_behind bound
    fit-stops e d = record { says = λ S t here. read-stops-pass _ v.0 e d; on = λ here. rw d v.0.on }

    module _ {f : Found} (e : x ≡ Ok f) {y : Step} (u : Follows line index f.next s y (expr_at levels)) where
      pub fit-subject : {m : Refusal} → y ≡ Err m → Follows line index c s y (λ S. expr_behind (expr_at levels) S fit_form)
      unfolding expr_behind bound
      fit-subject h = record { says = λ S t here. read-then-pass _ v.0 e (pass-stops-pass (expr_at levels S (bytes_from line f.next.at)) _ (u.says S t (ends-within (number-moved v.0 e))) h); on = λ here. on_then v.0.on (ap step_of e) u.on }

      module _ {d : Cursor} (h : y ≡ Ok d) {z : Names} (wide : z ≡ wider_names 1 0 s) {w : Step} (a : Follows line index d z w (expr_at levels)) where
        pub fit-arm : {m : Refusal} → w ≡ Err m → Follows line index c s w (λ S. expr_behind (expr_at levels) S fit_form)
        unfolding expr_behind bound
        fit-arm g = record {
          says = λ S t here. let p = u.says S t (ends-within (number-moved v.0 e)) in
              read-then-pass _ v.0 e (pass-then-pass (expr_at levels S (bytes_from line f.next.at)) _ p h
              (λ i. pass-stops-pass (expr_at levels (wider 1 0 S) (bytes_from line d.at)) _ (a.says (wider 1 0 S) (rw wide (tells-wider 1 0 t)) (ends-within (pass-moved p h))) g));
          on = λ here. on_then v.0.on (ap step_of e) (λ i. on_then (u.on i) h a.on);
        }

        pub fit-done : {b : Cursor} {r : Step} → w ≡ Ok b → Follows line index b s r (expr_at levels) → Follows line index c s r (λ S. expr_behind (expr_at levels) S fit_form)
        unfolding expr_behind bound
        fit-done {b} g l = record {
          says = λ S t here.
              let p = u.says S t (ends-within (number-moved v.0 e)) in
              let o = a.says (wider 1 0 S) (rw wide (tells-wider 1 0 t)) (ends-within (pass-moved p h)) in
              read-then-pass _ v.0 e (pass-then-pass (expr_at levels S (bytes_from line f.next.at)) _ p h
              (λ i. pass-then-pass (expr_at levels (wider 1 0 S) (bytes_from line d.at)) _ o g
              (λ j. rw (forget-then (efit f.value i j) (expr_at levels S (bytes_from line b.at))) (l.says S t (ends-within (pass-moved o g))))));
          on = λ here. on_then v.0.on (ap step_of e) (λ i. on_then (u.on i) h (λ j. on_then (a.on j) g l.on));
        }
