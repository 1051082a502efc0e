-- Reading into a table, step by step: one word, so many entries, and a count before them.
use Rattle.language.specs.declared.refusals.Refusal.{Refusal}
use Rattle.std.specs.Prelude.{Ok, Err}
use Rattle.std.specs.Prelude.{ℕ, suc, ◌+◌, ◌*◌, ◌-◌, ◌≤◌, ◌<◌, ◌≡◌, refl, take, drop, set}
use mathlib.Core.List.{List, [], ◌∷◌, ◌++◌, append-nil, append_assoc}
use Rattle.std.proofs.Common.{sym, ◌∙◌, mul-le-mul_left, arith}
use Rattle.std.proofs.Math.Path.{ap}
use Rattle.std.proofs.Math.ListN.{length, length-append}
use Rattle.std.proofs.Math.Seq.{append_snoc}
use Rattle.language.specs.Limits.{byte_range}
use Rattle.language.specs.Format.{spell_all}
use Rattle.language.specs.Layout.{padded}
use Rattle.language.specs.Parser.{Read, got, bad, Parser, and_then, many, count, counted}
use Rattle.text.specs.declared.Cursor.{Cursor}
use Rattle.text.specs.declared.Found.{Found}
use Rattle.text.specs.Bytes.{Number, Step, bytes_from, IsPlace, forget, map_read, step_of, ReadsNumber, Passes, Below}
use Rattle.text.specs.ReadLaws.{read-then, read-stops}
use Rattle.text.specs.StepLaws.{ends-within, moved_none, number-got, number-bad, number-moved, pass-got, pass-bad, pass-moved, pass-none, pass-here, pass-then-pass, pass-stops-pass, read-then-pass, read-stops-pass, forget-then}
use Rattle.theory.specs.Padding.{padded-length}
use Rattle.index.specs.Padded.{padded-next, padded-within}
use Rattle.index.specs.Entries.{spell-length}
use Rattle.index.specs.Enters.{Enters}
use Rattle.index.specs.Sections.{section}
use Rattle.index.specs.SectionLaws.{Outside, section-lent}
use Rattle.index.specs.ParserLaws.{bad-is-not-got, got-value, many-begins, many-bad, many-length, count_most}

-- the next word of a table, written behind those before
pub next_word : {table table' : List ℕ} {to : ℕ} (v n : ℕ) (before : List ℕ) → table' ≡ set table to v → table ≡ padded n before → length before ≡ to → to < n → table' ≡ padded n (before ++ (v ∷ []))
next_word {to} v n before w e len room = w ∙ ap (λ l. set l to v) e ∙ ap (λ i. set (padded n before) i v) (sym len) ∙ padded-next n before v

-- words that are the same
pub enters-as : {A : Type 0} (words : A → List ℕ) {words' : A → List ℕ} {line table table' : List ℕ} {at to : ℕ} {r : Step} {x : Read A} → ((a : A) → words a ≡ words' a) → Enters words line at to table r table' x → Enters words' line at to table r table' x
enters-as words {to} same u = record { passes = u.passes; enters = λ n before {a} e tb len room. u.enters n before e tb len (rw (same a) room) ∙ ap (λ l. padded n (before ++ l)) (same a) }

-- ---- where the parser refuses, the table is free
pub stops-entering : {A : Type 0} (words : A → List ℕ) {line table table' : List ℕ} {at to k : ℕ} {r : Step} {x : Read A} → x ≡ bad k → Passes line at r (forget x) → Enters words line at to table r table' x
stops-entering words e u = record { passes = u; enters = λ n before h tb len room. bad-is-not-got (sym e ∙ h) }

-- ---- one word
map-bad : {A : Type 0} (word : A → ℕ) (y : Read A) {k : ℕ} → map_read word y ≡ bad k → y ≡ bad k
unfolding map_read
map-bad word (got a bs) e = bad-is-not-got (sym e)
map-bad word (bad n) e = cc

map-value : {A : Type 0} (word : A → ℕ) (y : Read A) {v : ℕ} {bs rest : List ℕ} {a : A} → map_read word y ≡ got v bs → y ≡ got a rest → v ≡ word a
unfolding map_read
map-value word (got b cs) e h = sym (got-value e) ∙ ap word (got-value h)
map-value word (bad n) e h = bad-is-not-got h

map-forgot : {A : Type 0} (word : A → ℕ) (y : Read A) {v : ℕ} {bs : List ℕ} → map_read word y ≡ got v bs → forget y ≡ got tt bs
unfolding map_read forget
map-forgot word (got b cs) e = cc
map-forgot word (bad n) e = bad-is-not-got e

module _ {A : Type 0} (word : A → ℕ) {line : List ℕ} {at to : ℕ} {x : Number} (y : Read A) (v : ReadsNumber line at x (map_read word y)) where
  pub word-refused : {n : Refusal} {s : Step} {table : List ℕ} → x ≡ Err n → s ≡ step_of x → Enters (λ a. word a ∷ []) line at to table s table y
  unfolding forget
  word-refused e d = let none = map-bad word y (number-bad v e) in stops-entering (λ a. word a ∷ []) none (pass-none e d (ap forget none))

  pub word-entered : {f : Found} {table table' : List ℕ} → x ≡ Ok f → table' ≡ set table to f.value → Enters (λ a. word a ∷ []) line at to table (Ok f.next) table' y
  word-entered {f} e w = record {
    passes = pass-here (number-moved v e) (map-forgot word y (number-got v e));
    enters = λ n before h tb len room. next_word f.value n before w tb len (omega arith) ∙ ap (λ u. padded n (before ++ (u ∷ []))) (map-value word y (number-got v e) h);
  }

-- ---- so many entries of w words
module _ {A : Type 0} (p : Parser A) (entry : A → List ℕ) (w : ℕ) (wide : (a : A) → length (entry a) ≡ w) where
  many-none : {line table : List ℕ} {to : ℕ} {c : Cursor} → IsPlace line c.at → Enters (spell_all entry) line c.at to table (Ok c) table (many p 0 (bytes_from line c.at))
  unfolding many forget spell_all
  many-none {line} {table} {to} {c} h = record {
    passes = pass-here (moved_none h) refl;
    enters = λ n before {a} e tb len room. tb ∙ ap (padded n) (sym (append-nil before)) ∙ ap (λ l. padded n (before ++ spell_all entry l)) (got-value e);
  }

  module _ {line table table₁ : List ℕ} {at to : ℕ} {x : Step} (u : Enters entry line at to table x table₁ (p (bytes_from line at))) where
    many-stops : {k : Refusal} (m : ℕ) → x ≡ Err k → Enters (spell_all entry) line at to table x table₁ (many p (suc m) (bytes_from line at))
    unfolding many
    many-stops m e = stops-entering (spell_all entry) (many-bad p m _ (pass-bad u.passes e)) (pass-stops-pass _ (λ a bs. and_then (many p m bs) (λ (l : List A) cs. got (a ∷ l) cs)) u.passes e)

    many-then : {c : Cursor} (m : ℕ) {r : Step} {table₂ : List ℕ} → x ≡ Ok c → Enters (spell_all entry) line c.at (to + w) table₁ r table₂ (many p m (bytes_from line c.at)) → Enters (spell_all entry) line at to table r table₂ (many p (suc m) (bytes_from line at))
    unfolding many spell_all
    many-then {c} m {r} {table₂} e v = record {
      passes = pass-then-pass _ (λ a bs. and_then (many p m bs) (λ (l : List A) cs. got (a ∷ l) cs)) u.passes e (λ a. rw (forget-then (λ (l : List A). a ∷ l) (many p m (bytes_from line c.at))) v.passes);
      enters = enters;
    }
      where
        enters : (n : ℕ) (before : List ℕ) {l : List A} {rest : List ℕ} → many p (suc m) (bytes_from line at) ≡ got l rest → table ≡ padded n before → length before ≡ to → to + length (spell_all entry l) ≤ n → table₂ ≡ padded n (before ++ spell_all entry l)
        enters n before {l} h tb len room =
            let g = pass-got u.passes e in
            let b = many-begins p m (bytes_from line at) g.is h in
            let size = ap (λ k. length (spell_all entry k)) b.whole ∙ length-append (entry g.value) (spell_all entry b.others) in
            let one = u.enters n before g.is tb len (omega (arith, size)) in
            v.enters n (before ++ entry g.value) b.is one (omega (arith, length-append before (entry g.value), wide g.value)) (omega (arith, size, wide g.value))
            ∙ ap (padded n) (append_assoc before (entry g.value) (spell_all entry b.others)) ∙ ap (λ k. padded n (before ++ spell_all entry k)) (sym b.whole)

-- ---- the loop: whatever reads the m entries left, from where it is now, reads all n
pub record Leads {A : Type 0} (p : Parser A) (entry : A → List ℕ) (line : List ℕ) (n at to : ℕ) (table : List ℕ) (m at' to' : ℕ) (table' : List ℕ) : Type 0 where
  pub within : IsPlace line at'
  pub on : {r : Step} {last : List ℕ} → Enters (spell_all entry) line at' to' table' r last (many p m (bytes_from line at')) → Enters (spell_all entry) line at to table r last (many p n (bytes_from line at))

pub leads-start : {A : Type 0} {p : Parser A} {entry : A → List ℕ} {line table : List ℕ} {n at to m to' : ℕ} → m ≡ n → to' ≡ to → IsPlace line at → Leads p entry line n at to table m at to' table
leads-start all same h = record { within = h; on = λ u. rw (← all, ← same) u }

module _ {A : Type 0} {p : Parser A} {entry : A → List ℕ} (w : ℕ) (wide : (a : A) → length (entry a) ≡ w) {line table : List ℕ} {n at to m at' to' : ℕ} {table' : List ℕ} (v : Leads p entry line n at to table m at' to' table') where
  pub leads-end : {c : Cursor} → c.at ≡ at' → m ≡ 0 → Enters (spell_all entry) line at to table (Ok c) table' (many p n (bytes_from line at))
  leads-end {c} same none = v.on (rw (← same, none) (many-none p entry w wide {line = line} {table = table'} {to = to'} {c = c} (rw same v.within)))

  module _ {x : Step} {table'' : List ℕ} (u : Enters entry line at' to' table' x table'' (p (bytes_from line at'))) where
    pub leads-stop : {j : Refusal} → 0 < m → x ≡ Err j → Enters (spell_all entry) line at to table x table'' (many p n (bytes_from line at))
    leads-stop some e =
        let one : m ≡ suc (m - 1) = omega arith in
        v.on (rw one (many-stops p entry w wide u (m - 1) e))

    pub leads-on : {k : ℕ} {c : Cursor} {to'' : ℕ} → m ≡ suc k → to'' ≡ to' + w → x ≡ Ok c → Leads p entry line n at to table k c.at to'' table''
    leads-on {k} some same e = record { within = ends-within (pass-moved u.passes e); on = λ s. v.on (rw some (many-then p entry w wide u k e (rw same at s))) }

-- ---- a count, and as many behind it
module _ {A : Type 0} (least most : ℕ) (p : Parser A) {line : List ℕ} {at : ℕ} {x : Number} (v : ReadsNumber line at x (count least most (bytes_from line at)) × Below byte_range x) where
  pub count-refused : (words : List A → List ℕ) {to : ℕ} {n : Refusal} {s : Step} {table : List ℕ} → x ≡ Err n → s ≡ step_of x → Enters words line at to table s table (counted least most p (bytes_from line at))
  unfolding counted
  count-refused words e d = stops-entering words (read-stops (many p) v.0 e) (read-stops-pass (many p) v.0 e d)

  module _ {f : Found} (e : x ≡ Ok f) where
    pub counted_is : counted least most p (bytes_from line at) ≡ many p f.value (bytes_from line f.next.at)
    unfolding counted
    counted_is = read-then (many p) v.0 e

    pub counted-few : f.value ≤ most
    counted-few = count_most least most _ (number-got v.0 e)

    pub counted-passes : {r : Step} → Passes line f.next.at r (forget (many p f.value (bytes_from line f.next.at))) → Passes line at r (forget (counted least most p (bytes_from line at)))
    unfolding counted
    counted-passes u = read-then-pass (many p) v.0 e u

-- the count in the first word, the entries in the k words behind it
abbrev pub counted_entry : {A : Type 0} → ℕ → (A → List ℕ) → List A → List ℕ
counted_entry k entry l = length l ∷ padded k (spell_all entry l)

module _ {A : Type 0} (least most : ℕ) (p : Parser A) (entry : A → List ℕ) (w k : ℕ) (wide : (a : A) → length (entry a) ≡ w) (fits : w * most ≤ k) where
  pub counted-entered : {line : List ℕ} {at to : ℕ} {x : Number} {f : Found} {table table₁ table₂ : List ℕ} {r : Step} → ReadsNumber line at x (count least most (bytes_from line at)) × Below byte_range x → x ≡ Ok f → table₁ ≡ set table to f.value →
      Enters (spell_all entry) line f.next.at (to + 1) table₁ r table₂ (many p f.value (bytes_from line f.next.at)) → Enters (counted_entry k entry) line at to table r table₂ (counted least most p (bytes_from line at))
  counted-entered {line} {at} {to} {f = f} {table} {table₂ = table₂} v e wrote u = record { passes = counted-passes least most p v e u.passes; enters = enters }
    where
      enters : (n : ℕ) (before : List ℕ) {l : List A} {rest : List ℕ} → counted least most p (bytes_from line at) ≡ got l rest → table ≡ padded n before → length before ≡ to → to + length (counted_entry k entry l) ≤ n → table₂ ≡ padded n (before ++ counted_entry k entry l)
      enters n before {l} h tb len room =
          let all = sym (counted_is least most p v e) ∙ h in
          let size = many-length p f.value _ all in
          let few = mul-le-mul_left w (counted-few least most p v e) in
          let long : length (spell_all entry l) ≤ k = omega (arith, spell-length w entry wide l, ap (λ i. w * i) size, few) in
          let one = next_word f.value n before wrote tb len (omega arith) in
          u.enters n (before ++ (f.value ∷ [])) all one (omega (arith, length-append before (f.value ∷ []))) (omega (arith, padded-length k (spell_all entry l)))
          ∙ sym (padded-within n (before ++ (f.value ∷ [])) k (spell_all entry l) long)
          ∙ ap (padded n) (append_snoc before f.value (padded k (spell_all entry l))) ∙ ap (λ i. padded n (before ++ (i ∷ padded k (spell_all entry l)))) (sym size)

-- ---- what is entered in a section that is lent is entered in the whole
pub enters-lent : {A : Type 0} {words : A → List ℕ} {line : List ℕ} {at to : ℕ} {r : Step} {x : Read A} (from n : ℕ) (part index : List ℕ) → from + n ≤ length index → length part ≡ length (take n (drop from index)) →
    Enters words line at to (take n (drop from index)) r part x →
    Enters words line at to (section from n index) r (section from n (take from index ++ (part ++ drop n (drop from index)))) x × Outside from n index (take from index ++ (part ++ drop n (drop from index)))
enters-lent {words} {line} {at} {to} {r} {x} from n part index long same e = section-lent (λ a b. Enters words line at to a r b x) from n part index long same e
