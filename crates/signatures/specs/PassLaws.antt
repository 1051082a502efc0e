-- Lists of so many passed over: the loop's way, and a condition.
use Rattle.language.specs.declared.refusals.Refusal.{Refusal}
use Rattle.std.specs.Prelude.{Ok, Err}
use Prim.Native.Nat.{ℕ, zero, suc, ◌-◌, ◌<◌}
use mathlib.Core.List.{List, ◌∷◌}
use Rattle.std.specs.Prelude.{◌≡◌, refl}
use Rattle.std.proofs.Common.{ap}
use native.Mathlib.Omega.{arith}
use Rattle.language.specs.Limits.{byte_range, nesting_most}
use Rattle.language.specs.Syntax.{Size, Relation, req, rlt, rle, Condition}
use Rattle.language.specs.Parser.{got, Parser, ◌>>=◌, return, and_then, many, count, counted}
use Rattle.language.specs.ReadExpr.{size, size_at}
use Rattle.language.specs.Reader.{relations, condition}
use Rattle.text.specs.declared.Cursor.{Cursor}
use Rattle.text.specs.declared.Found.{Found}
use Rattle.text.specs.Bytes.{Number, Step, bytes_from, IsPlace, forget, step_of, ReadsNumber, Passes, Below}
use Rattle.text.specs.Codes.{code_place}
use Rattle.text.specs.StepLaws.{ends-within, moved_none, number-moved, pass-none, pass-moved, pass-here, passes-behind, pass-then-pass, pass-stops-pass, read-stops-pass, forget-then, read-passes}
use Rattle.text.specs.CodeLaws.{code-then, code-stops, code_below}

-- ---- the loop: whatever passes over the m left, from where it is now, passes over all n
pub record PassesOn {A : Type 0} (p : Parser A) (line : List ℕ) (n at m at' : ℕ) : Type 0 where
  pub within : IsPlace line at'
  pub on : {r : Step} → Passes line at' r (forget (many p m (bytes_from line at'))) → Passes line at r (forget (many p n (bytes_from line at)))

pub passes-start : {A : Type 0} {p : Parser A} {line : List ℕ} {n at m : ℕ} → m ≡ n → IsPlace line at → PassesOn p line n at m at
passes-start all h = record { within = h; on = λ u. rw (← all) u }

passes_none : {A : Type 0} (p : Parser A) {line : List ℕ} (c : Cursor) → IsPlace line c.at → Passes line c.at (Ok c) (forget (many p 0 (bytes_from line c.at)))
unfolding many forget
passes_none p c h = pass-here (moved_none h) refl

module _ {A : Type 0} {p : Parser A} {line : List ℕ} {n at m at' : ℕ} (v : PassesOn p line n at m at') where
  pub passes-end : {c : Cursor} → c.at ≡ at' → m ≡ 0 → Passes line at (Ok c) (forget (many p n (bytes_from line at)))
  passes-end {c} same none = v.on (rw (← same, none) (passes_none p c (rw same v.within)))

  module _ {x : Step} (u : Passes line at' x (forget (p (bytes_from line at')))) where
    abbrev others : ℕ → A → Parser (List A)
    others k a bs = and_then (many p k bs) (λ (l : List A) cs. got (a ∷ l) cs)

    pub passes-stop : {j : Refusal} → 0 < m → x ≡ Err j → Passes line at x (forget (many p n (bytes_from line at)))
    unfolding many
    passes-stop some e =
        let one : m ≡ suc (m - 1) = omega arith in
        v.on (rw one (pass-stops-pass (p (bytes_from line at')) (others (m - 1)) u e))

    pub passes_on : {k : ℕ} {c : Cursor} → m ≡ suc k → x ≡ Ok c → PassesOn p line n at k c.at
    unfolding many
    passes_on {k} {c} some e = record {
      within = ends-within (pass-moved u e);
      on = λ s. v.on (rw some (pass-then-pass (p (bytes_from line at')) (others k) u e (λ a. rw (forget-then (λ (l : List A). a ∷ l) (many p k (bytes_from line c.at))) s)));
    }

-- no count, no list
pub no-count : {A : Type 0} (least most : ℕ) (p : Parser A) {line : List ℕ} {at : ℕ} {n : Refusal} {x : Number} {s : Step} → ReadsNumber line at x (count least most (bytes_from line at)) × Below byte_range x → x ≡ Err n → s ≡ step_of x → Passes line at s (forget (counted least most p (bytes_from line at)))
unfolding counted
no-count least most p v e d = read-stops-pass (many p) v.0 e d

-- numbers in such a list
module _ {p : Parser ℕ} {line : List ℕ} {n at m at' : ℕ} (v : PassesOn p line n at m at') {x : Number} (u : ReadsNumber line at' x (p (bytes_from line at'))) where
  pub number-stops-passing : {j : Refusal} {s : Step} → 0 < m → x ≡ Err j → s ≡ step_of x → Passes line at s (forget (many p n (bytes_from line at)))
  number-stops-passing some e d = rw d (passes-stop v (read-passes x u) some (ap step_of e))

  pub number-passed-on : {k : ℕ} {f : Found} → m ≡ suc k → x ≡ Ok f → PassesOn p line n at k f.next.at
  number-passed-on some e = passes_on v (read-passes x u) some (ap step_of e)

-- ---- a condition: a relation and two sizes
module _ (line : List ℕ) (at vars : ℕ) {x : Number} (v : ReadsNumber line at x (code_place 0x00 3 (bytes_from line at)) × Below byte_range x) where
  abbrev sizes_behind : Relation → Parser Condition
  sizes_behind r = do
    a ← size vars
    b ← size vars
    return (record { rel = r; left = a; right = b })

  pub condition-no-code : {n : Refusal} {s : Step} → x ≡ Err n → s ≡ step_of x → Passes line at s (forget (condition vars (bytes_from line at)))
  unfolding condition forget
  condition-no-code e d = pass-none e d (ap forget (code-stops 0x00 relations sizes_behind v.0 e))

  module _ {f : Found} (e : x ≡ Ok f) where
    relation-read : (i : ℕ) → f.value ≡ i → i < 3 → {s : Step} → ((r : Relation) → Passes line f.next.at s (forget (sizes_behind r (bytes_from line f.next.at)))) → Passes line at s (forget (condition vars (bytes_from line at)))
    unfolding condition
    relation-read zero q less u = passes-behind (number-moved v.0 e) (ap forget (code-then 0x00 relations sizes_behind v.0 req e q refl)) (u req)
    relation-read (suc zero) q less u = passes-behind (number-moved v.0 e) (ap forget (code-then 0x00 relations sizes_behind v.0 rlt e q refl)) (u rlt)
    relation-read (suc (suc zero)) q less u = passes-behind (number-moved v.0 e) (ap forget (code-then 0x00 relations sizes_behind v.0 rle e q refl)) (u rle)
    relation-read (suc (suc (suc i))) q less u = absurd (omega arith)

    sizes-read : {s : Step} → ((r : Relation) → Passes line f.next.at s (forget (sizes_behind r (bytes_from line f.next.at)))) → Passes line at s (forget (condition vars (bytes_from line at)))
    sizes-read u = relation-read f.value refl (code_below 0x00 relations v.0 e) u

    module _ {y : Step} (u : Passes line f.next.at y (forget (size_at nesting_most vars (bytes_from line f.next.at)))) where
      abbrev size_behind : Relation → Size → Parser Condition
      size_behind r a = do
        b ← size vars
        return (record { rel = r; left = a; right = b })

      pub condition-first-stops : {n : Refusal} → y ≡ Err n → Passes line at y (forget (condition vars (bytes_from line at)))
      condition-first-stops d = sizes-read (λ r. pass-stops-pass (size vars (bytes_from line f.next.at)) (size_behind r) u d)

      pub condition-whole : {c : Cursor} {s : Step} → y ≡ Ok c → Passes line c.at s (forget (size_at nesting_most vars (bytes_from line c.at))) → Passes line at s (forget (condition vars (bytes_from line at)))
      condition-whole {c} d w = sizes-read (λ r. pass-then-pass (size vars (bytes_from line f.next.at)) (size_behind r) u d (λ a. rw (forget-then {B = Condition} (λ (b : Size). record { rel = r; left = a; right = b }) (size vars (bytes_from line c.at))) w))
