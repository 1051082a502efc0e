-- The values of a line one after the other, and the bytes of a line, return by return.
use Rattle.language.specs.declared.refusals.Refusal.{Refusal}
use Rattle.std.specs.Prelude.{Ok, Err, Option as Maybe, Some, None}
use Rattle.std.specs.Prelude.{ℕ, suc, ◌+◌, ◌-◌, ◌≤◌, ◌<◌, Bool, not, ◌≡◌, length, get_or, drop, ltb}
use mathlib.Core.List.{List, [], ◌∷◌}
use Rattle.std.proofs.Math.Bool.{true, false}
use Rattle.std.proofs.Math.Path.{refl, sym, ap}
use Rattle.std.proofs.Common.{◌∙◌, le_trans, le_refl, arith, drop-cons}
use Rattle.std.proofs.Math.Numerals.{add-one}
use Rattle.std.proofs.lemmas.List.{length-map}
use Rattle.std.proofs.Math.Seq.{drop-length}
use borrow.Author.Tests.{eq-eqb, ne_eqb, lt-ltb}
use Rattle.language.specs.Limits.{byte_range}
use Rattle.language.specs.Codes.{kind_input_line}
use Rattle.language.specs.Refusals.{bad_input_line}
use Rattle.language.specs.Result.{both, when, chain, choose}
use Rattle.language.specs.Syntax.{Ty, tbool, Input, File}
use Rattle.language.specs.Heap.{Tree}
use Rattle.language.specs.Values.{tree_size, fits}
use Rattle.language.specs.Within.{WithinDeclared, w_tbool, w_tint, w_tnamed}
use Rattle.language.specs.Parser.{Read, got, bad, Parser, and_then, byte, many}
use Rattle.language.specs.Line.{value_at, all_read_of, input_trees, trees_fit}
use Rattle.theory.specs.Lists.{both-never}
use Rattle.theory.specs.Alls.{all-at}
use Rattle.theory.specs.Places.{look_at, look-mapped}
use Rattle.theory.specs.HeldChannels.{input_types}
use Rattle.text.specs.declared.Cursor.{Cursor}
use Rattle.text.specs.declared.Found.{Found}
use Rattle.text.specs.Bytes.{Number, bytes_of, bytes_from, bytes_left, given, Moved, ReadsNumber, Below, declared_word}
use Rattle.text.specs.Places.{bytes-start}
use Rattle.text_lines.specs.Lines.{is_some}
use Rattle.text.specs.StepLaws.{number-got, number-bad, number-moved, ends-within, moved_none, moved_on, moved-left}
use Rattle.index.specs.Sections.{counts_in, channels_of}
use Rattle.index.specs.Indexed.{Indexed, declared_at}
use Rattle.index.specs.declared.Counts.{Counts}
use Rattle.input_line.specs.Judges.{as_number, sized, Asked, asks_bool, asks_int, asks_named, Judges, InputsJudged}

-- ---- so many values, each of its type, and no byte more
abbrev all_fit : File → List Ty → Read (List Tree) → Bool
all_fit P τs y = is_some (chain (all_read_of y) (λ vs. when (trees_fit P vs τs) vs))

-- where a value was read and fits, the test goes on behind it
unfoldable fit_then : Read ℕ → (List ℕ → Bool) → Bool
fit_then (got s cs) k = k cs
fit_then (bad n) k = false

some-when : {A : Type 0} (b : Bool) (a : A) → is_some (when b a) ≡ b
unfolding is_some when
some-when true a = refl
some-when false a = refl

module _ (P : File) (τ : Ty) (τs : List Ty) where
  one-fits : (v : Tree) (y : Read (List Tree)) → all_fit P (τ ∷ τs) (and_then y (λ vs ds. got (v ∷ vs) ds)) ≡ both (fits P v τ) (all_fit P τs y)
  unfolding and_then all_read_of chain trees_fit both is_some
  one-fits v (got vs []) = some-when (both (fits P v τ) (trees_fit P vs τs)) (v ∷ vs) ∙ ap (both (fits P v τ)) (sym (some-when (trees_fit P vs τs) vs))
  one-fits v (got vs (b ∷ bs)) = sym (both-never (fits P v τ) refl)
  one-fits v (bad n) = sym (both-never (fits P v τ) refl)

  fit-step : (p : Parser Tree) (m : ℕ) (bs : List ℕ) → all_fit P (τ ∷ τs) (many p (suc m) bs) ≡ fit_then (sized P τ (p bs)) (λ cs. all_fit P τs (many p m cs))
  unfolding many and_then sized fit_then choose both all_read_of chain is_some
  fit-step p m bs = cases (p bs)
    where
      taken : (b : Bool) (s : ℕ) (cs : List ℕ) → both b (all_fit P τs (many p m cs)) ≡ fit_then (choose b (got s cs) (bad bad_input_line)) (λ ds. all_fit P τs (many p m ds))
      taken true s cs = refl
      taken false s cs = refl

      cases : (x : Read Tree) → all_fit P (τ ∷ τs) (and_then x (λ v cs. and_then (many p m cs) (λ vs ds. got (v ∷ vs) ds))) ≡ fit_then (sized P τ x) (λ cs. all_fit P τs (many p m cs))
      cases (got v cs) = one-fits v (many p m cs) ∙ taken (fits P v τ) (tree_size P v) cs
      cases (bad n) = refl

fit-end : (P : File) (p : Parser Tree) (bs : List ℕ) → all_fit P [] (many p 0 bs) ≡ not (ltb 0 (length bs))
unfolding many all_read_of chain trees_fit when is_some
fit-end P p [] = refl
fit-end P p (b ∷ bs) = let some_left : 0 < length (b ∷ bs) = omega arith in rw (lt-ltb 0 (length (b ∷ bs)) some_left)

-- ---- the type of an input, and its word
declared-asked : {types : ℕ} {τ : Ty} → WithinDeclared types τ → Asked types τ
declared-asked w_tbool = asks_bool
declared-asked w_tint = asks_int
declared-asked (w_tnamed {t} {k} low bound) = asks_named {t = t} {k = k} low (omega (arith, bound.1))

pub inputs-counted : {text index : List ℕ} {P : File} {counts : Counts} → Indexed text index P → counts ≡ counts_in index → counts.inputs ≡ length P.inputs
inputs-counted i told = rw told (sym i.counted.input_count)

pub record InputAsked (index : List ℕ) (P : File) (i : ℕ) : Type 0 where
  pub asked : Asked (length P.types) (get_or (input_types P) i tbool)
  pub word : declared_at (channels_of index) i ≡ declared_word (get_or (input_types P) i tbool)

input-asked : {text index : List ℕ} {P : File} → Indexed text index P → (i : ℕ) → i < length P.inputs → InputAsked index P i
input-asked {text} {index} {P} x i less =
    let there : i < length (input_types P) = omega (arith, length-map P.inputs (λ (a : Input). a.declared)) in
    let m = look-mapped (λ (a : Input). a.declared) P.inputs i (look_at (input_types P) i tbool there) in
    record { asked = rw m.is (declared-asked (all-at x.within.inputs i m.at).declared); word = (x.each_input i m.at).declared ∙ ap declared_word (sym m.is) }

-- ---- the loop: from the first value on, those left decide
pub record InputsLeft (line index : List ℕ) (n : ℕ) (first : Cursor) (i : ℕ) (next : Cursor) : Type 0 where
  pub on : Moved line first.at (Ok next)
  pub says : (text : List ℕ) (P : File) → Indexed text index P → n ≡ length P.inputs → (m : ℕ) → bytes_left line first.at ≤ m →
      all_fit P (input_types P) (many (value_at m P) n (bytes_from line first.at)) ≡ all_fit P (drop i (input_types P)) (many (value_at m P) (n - i) (bytes_from line next.at))

module _ {line index : List ℕ} {n i word : ℕ} {first next : Cursor} {y : Maybe Found} (v : InputsLeft line index n first i next) (less : i < n) (told : word ≡ declared_at (channels_of index) i)
    (u : Judges line index next.at word y (λ n P. value_at n P)) where
  next-input : (text : List ℕ) (P : File) → Indexed text index P → n ≡ length P.inputs → (m : ℕ) → bytes_left line first.at ≤ m →
      all_fit P (input_types P) (many (value_at m P) n (bytes_from line first.at)) ≡ fit_then (given line (as_number y)) (λ cs. all_fit P (drop (suc i) (input_types P)) (many (value_at m P) (n - suc i) cs))
  next-input text P x count m enough =
      let a = input-asked x i (omega arith) in
      let there : i < length (input_types P) = omega (arith, length-map P.inputs (λ (a : Input). a.declared)) in
      let one : n - i ≡ suc (n - suc i) = omega arith in
      let read = u.says text P x (get_or (input_types P) i tbool) a.asked (told ∙ a.word) m (le_trans (moved-left v.on) enough) in
      v.says text P x count m enough ∙ rw (drop-cons (input_types P) i tbool there, one) (fit-step P (get_or (input_types P) i tbool) (drop (suc i) (input_types P)) (value_at m P) (n - suc i) (bytes_from line next.at))
      ∙ ap (λ z. fit_then z (λ cs. all_fit P (drop (suc i) (input_types P)) (many (value_at m P) (n - suc i) cs))) (sym read)

  pub inputs_on : {g : Found} → y ≡ Some g → InputsLeft line index n first (i + 1) g.next
  unfolding given fit_then
  inputs_on e = record { on = moved_on v.on (rw e at u.on); says = λ text P x count m enough. rw add-one (rw e at (next-input text P x count m enough)) }

-- ---- the bytes of a line: its kind, and the values
pub no_bytes : {n : ℕ} (bs : List ℕ) → byte bs ≡ bad n → bs ≡ []
unfolding byte
no_bytes [] e = refl
no_bytes (b ∷ bs) e = absurd (let z : ◌≡◌ {A = ℕ} 0 1 = cc in omega arith)

first_byte : {b : ℕ} {cs : List ℕ} (bs : List ℕ) → byte bs ≡ got b cs → bs ≡ b ∷ cs
unfolding byte
first_byte [] e = absurd (let z : ◌≡◌ {A = ℕ} 0 1 = cc in omega arith)
first_byte {b} {cs} (a ∷ bs) e = let head : a ≡ b = cc in let tail : bs ≡ cs = cc in rw (head, tail)

pub bytes-are : (line : List ℕ) {x : Number} {f : Found} → ReadsNumber line 0 x (byte (bytes_from line 0)) × Below byte_range x → x ≡ Ok f → bytes_of line ≡ f.value ∷ bytes_from line f.next.at
bytes-are line v e = sym (bytes-start line) ∙ first_byte (bytes_from line 0) (number-got v.0 e)

module _ (line index : List ℕ) {x : Number} (v : ReadsNumber line 0 x (byte (bytes_from line 0)) × Below byte_range x) where
  pub inputs-empty : {n : Refusal} → x ≡ Err n → InputsJudged line index false
  unfolding input_trees chain is_some
  inputs-empty e = record { says = λ text P i. let none-there : bytes_of line ≡ [] = sym (bytes-start line) ∙ no_bytes (bytes_from line 0) (number-bad v.0 e) in rw none-there }

  module _ {f : Found} (e : x ≡ Ok f) where
    pub inputs-other : ((f.value ≡ kind_input_line) → ⊥) → InputsJudged line index false
    unfolding input_trees chain when is_some
    inputs-other ne = record { says = λ text P i. rw (bytes-are line v e, ne_eqb f.value kind_input_line ne) }

    pub inputs-start : {n : ℕ} → InputsLeft line index n f.next 0 f.next
    inputs-start {n} = record {
      on = moved_none (ends-within (number-moved v.0 e));
      says = λ text P i count m enough. let all : n ≡ n - 0 = omega arith in ap (λ j. all_fit P (input_types P) (many (value_at m P) j (bytes_from line f.next.at))) all;
    }

    module _ (kind : f.value ≡ kind_input_line) {counts : Counts} (told : counts ≡ counts_in index) where
      -- the test of the values is the definition's
      values-are : (text : List ℕ) (P : File) → Indexed text index P → is_some (chain (input_trees P (bytes_of line)) (λ vs. when (trees_fit P vs (input_types P)) vs))
          ≡ all_fit P (input_types P) (many (value_at (bytes_left line f.next.at) P) counts.inputs (bytes_from line f.next.at))
      unfolding input_trees chain when
      values-are text P i = rw (bytes-are line v e, eq-eqb f.value kind_input_line kind, i.counted.input_count, told)

      pub inputs-stop : {i word : ℕ} {next : Cursor} {y : Maybe Found} → InputsLeft line index counts.inputs f.next i next → i < counts.inputs → word ≡ declared_at (channels_of index) i →
          Judges line index next.at word y (λ n P. value_at n P) → y ≡ None → InputsJudged line index false
      unfolding given fit_then
      inputs-stop w less said u refused = record { says = λ text P i. sym (values-are text P i ∙ rw refused at (next-input w less said u text P i (inputs-counted i told) (bytes_left line f.next.at) (le_refl _))) }

      pub inputs_end : {i : ℕ} {next : Cursor} {more : Bool} → InputsLeft line index counts.inputs f.next i next → i ≤ counts.inputs → counts.inputs ≤ i → more ≡ ltb 0 (bytes_left line next.at) → InputsJudged line index (not more)
      inputs_end {i} {next} w low high m = record {
        says = λ text P x.
            let count = inputs-counted x told in
            let all : i ≡ length (input_types P) = omega (arith, length-map P.inputs (λ (a : Input). a.declared)) in
            let none_left : counts.inputs - i ≡ 0 = omega arith in
            let level = bytes_left line f.next.at in
            ap not m ∙ sym (values-are text P x ∙ w.says text P x count level (le_refl level)
            ∙ rw (none_left, all, drop-length (input_types P)) (fit-end P (value_at level P) (bytes_from line next.at)));
      }
