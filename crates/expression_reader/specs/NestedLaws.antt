-- The loop over an expression and the parts of those that are open.
use Rattle.language.specs.declared.refusals.Refusal.{Refusal}
use Rattle.std.specs.Prelude.{Ok, Err}
use Rattle.std.specs.Prelude.{ℕ, suc, ◌+◌, ◌-◌, ◌≤◌, ◌<◌, List, ◌≡◌, refl, length, get_or, set}
use Rattle.std.proofs.Common.{sym, ap, subst, ◌∙◌, arith, length-set, get_or-set_same}
use borrow.Author.Rules.{read_below}
use Rattle.language.specs.Limits.{nesting_most}
use Rattle.language.specs.Scope.{Scope}
use Rattle.language.specs.Parser.{Parser, and_then}
use Rattle.language.specs.ReadExpr.{exprs, expr_at}
use Rattle.text.specs.declared.Cursor.{Cursor}
use Rattle.text.specs.declared.Found.{Found}
use Rattle.text.specs.Bytes.{Number, Step, bytes_from, forget, step_of, stopped, Passes}
use Rattle.text.specs.StepLaws.{ends-within, moved_none, moved_on, pass-here, read-then-pass, read-stops-pass}
use Rattle.expression_reader.specs.declared.Names.{Names}
use Rattle.expression_reader.specs.Parts.{remaining}
use Rattle.expression_reader.specs.PartsLaws.{exprs-one, narrow-exprs, remaining-all, remaining-none, remaining-resumed, remaining-head, remaining-leaf, remaining-inside}
use Rattle.expression_reader.specs.Follows.{Tells, Follows, Heads, levels_in}
use Rattle.expression_reader.specs.ScopeLaws.{LevelsIn, roomy, narrow, levels-in, narrow-scope}

-- ---- another parser that says the same
same-follows : {A B : Type 0} {line index : List ℕ} {c : Cursor} {s : Names} {r : Step} (p : Scope → Parser A) (q : Scope → Parser B) → ((S : Scope) → Tells index s S → forget (p S (bytes_from line c.at)) ≡ forget (q S (bytes_from line c.at))) → Follows line index c s r q → Follows line index c s r p
same-follows {line} {c} {r} p q same u = record { says = λ S t here. subst (λ y. Passes line c.at r y) (sym (same S t)) (u.says S t here); on = u.on }

-- ---- so far: what remains decides the rest
pub record NestedTo (line index : List ℕ) (c : Cursor) (s : Names) (levels most : ℕ) (next : Cursor) (W : List ℕ) (depth left : ℕ) : Type 0 where
  pub deep : depth ≤ most
  pub long : length W ≡ nesting_most
  pub rest : (r : Step) → Follows line index next s r (λ S. remaining most S left W depth) → Follows line index c s r (expr_at levels)

module _ (line index : List ℕ) (c : Cursor) (s : Names) (levels : ℕ) where
  pub nested-start : {most : ℕ} {W : List ℕ} → most ≡ levels_in s levels → length W ≡ nesting_most → NestedTo line index c s levels most c W 0 1
  nested-start {most} {W} e size = record {
    deep = omega arith;
    long = size;
    rest = λ r u. same-follows (expr_at levels) (λ S. remaining most S 1 W 0) (λ S t. exprs-one (expr_at levels S) (bytes_from line c.at) ∙ by S t (levels-in s levels e)) u;
  }
    where
      by : (S : Scope) → Tells index s S → {m : ℕ} → LevelsIn s levels m → forget (exprs (expr_at levels S) 1 (bytes_from line c.at)) ≡ forget (remaining m S 1 W 0 (bytes_from line c.at))
      by S t (roomy w) = remaining-all levels S W 1 (bytes_from line c.at)
      by S t (narrow h) = ap forget (narrow-exprs levels S (narrow-scope t h) 1 (bytes_from line c.at)) ∙ remaining-all 0 S W 1 (bytes_from line c.at)

  module _ {most : ℕ} {next : Cursor} {W : List ℕ} {depth left : ℕ} (p : NestedTo line index c s levels most next W depth left) where
    -- nothing is left
    pub nested-end : left ≡ 0 → depth ≡ 0 → Follows line index c s (Ok next) (expr_at levels)
    unfolding forget
    nested-end none out = p.rest (Ok next) (rw (none, out) (record {
      says = λ S t here. pass-here (moved_none here) (ap forget (remaining-none most S W (bytes_from line next.at)));
      on = λ here. moved_none here;
    }))

    -- what waited goes on
    pub nested-resumed : {m : ℕ} → left ≡ 0 → (depth ≡ 0 → ⊥) → m ≡ get_or W (depth - 1) 0 → NestedTo line index c s levels most next W (depth - 1) m
    nested-resumed {m} none deep e = record {
      deep = omega (arith, p.deep);
      long = p.long;
      rest = λ r u. p.rest r (same-follows (λ S. remaining most S left W depth) (λ S. remaining most S m W (depth - 1)) (λ S t. by S) u);
    }
      where
        by : (S : Scope) → forget (remaining most S left W depth (bytes_from line next.at)) ≡ forget (remaining most S m W (depth - 1) (bytes_from line next.at))
        by S = let same : depth ≡ suc (depth - 1) = omega (arith, deep) in
            ap (λ k. forget (remaining most S k W depth (bytes_from line next.at))) none
            ∙ ap (λ k. forget (remaining most S 0 W k (bytes_from line next.at))) same
            ∙ ap forget (remaining-resumed most S W (depth - 1) (bytes_from line next.at))
            ∙ ap (λ k. forget (remaining most S k W (depth - 1) (bytes_from line next.at))) (sym e)

    -- ---- the head of the next one
    module _ (some : left ≡ 0 → ⊥) {x : Number} (h : Heads line index next s x (most - depth)) where
      pub nested-refused : {m : Refusal} {r : Step} → x ≡ Err m → r ≡ step_of x → Follows line index c s r (expr_at levels)
      nested-refused {r = r} e d = p.rest r (record {
        says = λ S t here. subst (λ y. Passes line next.at r y) (sym (remaining-head most S W left depth (bytes_from line next.at) (omega (arith, some)))) (read-stops-pass _ (h.says S t here) e d);
        on = λ here. rw (d, e) stopped;
      })

      module _ {f : Found} (e : x ≡ Ok f) where
        -- what is left behind the head
        behind-head : (r : Step) (q : Scope → Parser (Unit {0})) → ((S : Scope) (cs : List ℕ) → and_then (exprs (expr_at (most - depth - 1) S) f.value cs) (λ es ds. remaining most S (left - 1) W depth ds) ≡ q S cs) → Follows line index f.next s r q → Follows line index next s r (λ S. remaining most S left W depth)
        behind-head r q same u = record {
          says = λ S t here. subst (λ y. Passes line next.at r y) (sym (remaining-head most S W left depth (bytes_from line next.at) (omega (arith, some)))) (read-then-pass _ (h.says S t here) e (subst (λ y. Passes line f.next.at r (forget y)) (sym (same S (bytes_from line f.next.at))) (u.says S t (ends-within (h.further e).0))));
          on = λ here. moved_on (h.further e).0 (u.on (ends-within (h.further e).0));
        }

        pub nested-passed : {d : Cursor} → f.value ≡ 0 → d ≡ f.next → NestedTo line index c s levels most d W depth (left - 1)
        nested-passed none q = rw q (record {
          deep = p.deep;
          long = p.long;
          rest = λ r u. p.rest r (behind-head r (λ S. remaining most S (left - 1) W depth) (λ S cs. rw none (remaining-leaf most S W (left - 1) depth cs)) u);
        })

        pub nested-inside : {d : Cursor} {T : List ℕ} → most ≤ nesting_most → d ≡ f.next → T ≡ set W depth (left - 1) → NestedTo line index c s levels most d T (depth + 1) f.value
        nested-inside few q w =
            let level : 0 < most - depth = h.level e in
            rw (q, w) (record {
              deep = omega (arith, level);
              long = length-set W depth (left - 1) ∙ p.long;
              rest = λ r u. p.rest r (behind-head r (λ S. remaining most S f.value (set W depth (left - 1)) (depth + 1)) (λ S cs. by S cs) u);
            })
          where
            by : (S : Scope) (cs : List ℕ) → and_then (exprs (expr_at (most - depth - 1) S) f.value cs) (λ es ds. remaining most S (left - 1) W depth ds) ≡ remaining most S f.value (set W depth (left - 1)) (depth + 1) cs
            by S cs =
                let one : suc depth ≡ depth + 1 = omega arith in
                remaining-inside most S W (set W depth (left - 1)) (left - 1) depth f.value (get_or-set_same W depth (left - 1) 0 (omega (arith, p.long, few, h.level e))) (λ k less. read_below ℕ W depth k (left - 1) 0 (get_or W k 0) less refl) cs
                ∙ ap (λ k. remaining most S f.value (set W depth (left - 1)) k cs) one
