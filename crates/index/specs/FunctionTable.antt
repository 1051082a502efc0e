-- The table of functions: parameters and places read are one entry more, and what the table says of each function's parameters.
use Rattle.std.specs.Prelude.{Ok}
use Rattle.std.specs.Prelude.{ℕ, zero, suc, ◌+◌, ◌*◌, ◌≤◌, ◌<◌, List, [], ◌∷◌, ◌++◌, map, ◌≡◌, refl, length, get_or, set, replicate}
use Rattle.std.proofs.Common.{append_assoc, append-nil, sym, ap, ◌∙◌, add-zero, arith, length-append, get_or-append-add}
use Rattle.std.proofs.Math.ListN.{get_or-append}
use Rattle.language.specs.Limits.{functions_most, parameters_most}
use Rattle.language.specs.Syntax.{TypeDef, Plain, Function}
use Rattle.language.specs.Format.{spell_all}
use Rattle.language.specs.Layout.{padded}
use Rattle.language.specs.Parser.{got, counted}
use Rattle.language.specs.ReadExpr.{plain}
use Rattle.language.specs.Within.{WithinFunctions, wf_nil, wf_cons}
use Rattle.text.specs.declared.Cursor.{Cursor}
use Rattle.text.specs.Bytes.{Step, bytes_from, plain_word}
use Rattle.text.specs.StepLaws.{pass-got}
use Rattle.index.specs.Tables.{function_words, function_entry, function_table}
use Rattle.index.specs.Lined.{Lined}
use Rattle.encoding.specs.FrameParts.{result_place, conditions_place, measure_place, body_place}
use Rattle.theory.specs.Padding.{padded-length}
use Rattle.index.specs.Padded.{padded-none, padded-at}
use Rattle.index.specs.Entries.{spell-length, spell-more, table-so-far}
use Rattle.index.specs.Enters.{Enters, parameters_entry, TellsParameters}
use Rattle.index.specs.ParserLaws.{counted-most}
use Rattle.index.specs.EnterLaws.{next_word}

abbrev pub head_words : ℕ
head_words = 1 + parameters_most

pub parameters-wide : (ps : List Plain) → length (parameters_entry ps) ≡ head_words
unfolding parameters_entry
parameters-wide ps = omega (arith, padded-length parameters_most (map plain_word ps))

-- an entry is the parameters' words and the four places
abbrev pub places_of : Lined Function → List ℕ
places_of F = result_place F.line F.part ∷ conditions_place F.line F.part ∷ measure_place F.line F.part ∷ body_place F.line F.part ∷ []

pub function-parts : (F : Lined Function) → function_entry F ≡ parameters_entry F.part.parameters ++ places_of F
unfolding function_entry parameters_entry
function-parts F = refl

pub function-wide : (F : Lined Function) → length (function_entry F) ≡ function_words
function-wide F = ap length (function-parts F) ∙ omega (arith, length-append (parameters_entry F.part.parameters) (places_of F), parameters-wide F.part.parameters)

pub no-functions : function_table [] ≡ replicate (functions_most * function_words) 0
unfolding function_table spell_all
no-functions = padded-none (functions_most * function_words)

-- ---- the parameters read are the first words of the next entry
pub parameters-added : {line functions functions' : List ℕ} {at f : ℕ} {r : Step} {ps : List Plain} {rest : List ℕ} (types : ℕ) (Fs : List (Lined Function)) → Enters parameters_entry line at (function_words * f) functions r functions' (counted 0 parameters_most (plain types) (bytes_from line at)) →
    length Fs ≡ f → f < functions_most → functions ≡ function_table Fs → counted 0 parameters_most (plain types) (bytes_from line at) ≡ got ps rest → functions' ≡ padded (functions_most * function_words) (spell_all function_entry Fs ++ parameters_entry ps)
unfolding function_table
parameters-added {ps} types Fs v len few tb e = v.enters (functions_most * function_words) (spell_all function_entry Fs) e tb (omega (arith, spell-length function_words function_entry function-wide Fs)) (omega (arith, parameters-wide ps))

-- the four places behind them complete the entry
pub places-added : {table₀ table₁ table₂ table₃ table₄ : List ℕ} {f : ℕ} (Fs : List (Lined Function)) (F : Lined Function) → length Fs ≡ f → f < functions_most → table₀ ≡ padded (functions_most * function_words) (spell_all function_entry Fs ++ parameters_entry F.part.parameters) →
    table₁ ≡ set table₀ (function_words * f + head_words) (result_place F.line F.part) → table₂ ≡ set table₁ (function_words * f + head_words + 1) (conditions_place F.line F.part) → table₃ ≡ set table₂ (function_words * f + head_words + 2) (measure_place F.line F.part) → table₄ ≡ set table₃ (function_words * f + head_words + 3) (body_place F.line F.part) → table₄ ≡ function_table (Fs ++ (F ∷ []))
unfolding function_table
places-added {f = f} Fs F len few tb a b c d =
    let n = functions_most * function_words in
    let before : List ℕ = spell_all function_entry Fs ++ parameters_entry F.part.parameters in
    let long : length before ≡ function_words * f + head_words = omega (arith, length-append (spell_all function_entry Fs) (parameters_entry F.part.parameters), spell-length function_words function_entry function-wide Fs, parameters-wide F.part.parameters) in
    let one = next_word (result_place F.line F.part) n before a tb long (omega arith) in
    let l₁ = length-append before (result_place F.line F.part ∷ []) in
    let two = next_word (conditions_place F.line F.part) n (before ++ (result_place F.line F.part ∷ [])) b one (omega arith) (omega arith) in
    let l₂ = length-append (before ++ (result_place F.line F.part ∷ [])) (conditions_place F.line F.part ∷ []) in
    let three = next_word (measure_place F.line F.part) n (before ++ (result_place F.line F.part ∷ []) ++ (conditions_place F.line F.part ∷ [])) c two (omega arith) (omega arith) in
    let l₃ = length-append (before ++ (result_place F.line F.part ∷ []) ++ (conditions_place F.line F.part ∷ [])) (measure_place F.line F.part ∷ []) in
    let four = next_word (body_place F.line F.part) n (before ++ (result_place F.line F.part ∷ []) ++ (conditions_place F.line F.part ∷ []) ++ (measure_place F.line F.part ∷ [])) d three (omega arith) (omega arith) in
    four ∙ ap (padded n) (ap (λ l. l ++ (measure_place F.line F.part ∷ []) ++ (body_place F.line F.part ∷ [])) (append_assoc before (result_place F.line F.part ∷ []) (conditions_place F.line F.part ∷ []))
    ∙ ap (λ l. l ++ (body_place F.line F.part ∷ [])) (append_assoc before (result_place F.line F.part ∷ conditions_place F.line F.part ∷ []) (measure_place F.line F.part ∷ []))
    ∙ append_assoc before (result_place F.line F.part ∷ conditions_place F.line F.part ∷ measure_place F.line F.part ∷ []) (body_place F.line F.part ∷ [])
    ∙ append_assoc (spell_all function_entry Fs) (parameters_entry F.part.parameters) (places_of F)
    ∙ ap (λ l. spell_all function_entry Fs ++ l) (sym (function-parts F)) ∙ sym (spell-more function_entry Fs F))

-- ---- few parameters
pub read-few-parameters : (types : ℕ) (bs : List ℕ) {ps : List Plain} {rest : List ℕ} → counted 0 parameters_most (plain types) bs ≡ got ps rest → length ps ≤ parameters_most
read-few-parameters types bs e = counted-most 0 parameters_most (plain types) bs e

pub each-few-parameters : {types : List TypeDef} {earlier Fs : List Function} → WithinFunctions types earlier Fs → (f : ℕ) (none : Function) → f < length Fs → length (get_or Fs f none).parameters ≤ parameters_most
each-few-parameters wf_nil f none h = absurd (omega arith)
each-few-parameters (wf_cons w ws) zero none h = w.few_parameters
each-few-parameters (wf_cons w ws) (suc f) none h = each-few-parameters ws f none (omega arith)

-- ---- what the words of parameters say
parameters-count : (ps : List Plain) (more : List ℕ) → get_or (parameters_entry ps ++ more) 0 0 ≡ length ps
unfolding parameters_entry
parameters-count ps more = refl

parameters-each : (ps : List Plain) (more : List ℕ) (i : ℕ) → i < length ps → length ps ≤ parameters_most → get_or (parameters_entry ps ++ more) (1 + i) 0 ≡ get_or (map plain_word ps) i 0
unfolding parameters_entry
parameters-each ps more i h few =
    let on : 1 + i ≡ suc i = omega arith in
    rw on (get_or-append (padded parameters_most (map plain_word ps)) more 0 i (omega (arith, padded-length parameters_most (map plain_word ps))) ∙ padded-at parameters_most (map plain_word ps) i (omega arith))

-- of a function whose entry is begun, whatever stands behind
pub tells-begun : {functions : List ℕ} (n : ℕ) (before : List ℕ) (ps : List Plain) (more : List ℕ) {f : ℕ} → functions ≡ padded n (before ++ (parameters_entry ps ++ more)) → length before ≡ function_words * f → function_words * f + head_words ≤ n → length ps ≤ parameters_most → TellsParameters functions f ps
tells-begun {functions} n before ps more {f} tb len room few = record {
  few = few;
  count = ap (λ i. get_or functions i 0) (sym (add-zero (function_words * f))) ∙ word 0 (omega arith) ∙ parameters-count ps more;
  each = λ i h. let on : function_words * f + 1 + i ≡ function_words * f + (1 + i) = omega arith in ap (λ k. get_or functions k 0) on ∙ word (1 + i) (omega arith) ∙ parameters-each ps more i h few;
}
  where
    word : (j : ℕ) → j < head_words → get_or functions (function_words * f + j) 0 ≡ get_or (parameters_entry ps ++ more) j 0
    word j h = ap (λ l. get_or l (function_words * f + j) 0) tb ∙ padded-at n (before ++ (parameters_entry ps ++ more)) (function_words * f + j) (omega arith)
        ∙ ap (λ k. get_or (before ++ (parameters_entry ps ++ more)) (k + j) 0) (sym len) ∙ get_or-append-add before (parameters_entry ps ++ more) j 0

-- of each function in the table, whatever stands behind the entries
pub tells-parameters : {functions : List ℕ} (n : ℕ) (Fs : List (Lined Function)) (more : List ℕ) (f : ℕ) (none : Lined Function) → functions ≡ padded n (spell_all function_entry Fs ++ more) → function_words * length Fs ≤ n → f < length Fs → length (get_or Fs f none).part.parameters ≤ parameters_most → TellsParameters functions f (get_or Fs f none).part.parameters
tells-parameters {functions} n Fs more f none tb room h few = record {
  few = few;
  count = ap (λ i. get_or functions i 0) (sym (add-zero (function_words * f))) ∙ word 0 (omega arith) ∙ parameters-count F.part.parameters (places_of F);
  each = λ i less. let on : function_words * f + 1 + i ≡ function_words * f + (1 + i) = omega arith in ap (λ k. get_or functions k 0) on ∙ word (1 + i) (omega arith) ∙ parameters-each F.part.parameters (places_of F) i less few;
}
  where
    F : Lined Function
    F = get_or Fs f none

    word : (j : ℕ) → j < function_words → get_or functions (function_words * f + j) 0 ≡ get_or (parameters_entry F.part.parameters ++ places_of F) j 0
    word j k = ap (λ l. get_or l (function_words * f + j) 0) tb ∙ table-so-far function_words function_entry function-wide n Fs more f j none room h k ∙ ap (λ l. get_or l j 0) (function-parts F)

-- ---- the parameters of the next function: read, written, and told by the table
pub record ParametersRead (types : ℕ) (Fs : List (Lined Function)) (f : ℕ) (bs rest functions : List ℕ) : Type 0 where
  pub list : List Plain
  pub read : counted 0 parameters_most (plain types) bs ≡ got list rest
  pub table : functions ≡ padded (functions_most * function_words) (spell_all function_entry Fs ++ parameters_entry list)
  pub tells : TellsParameters functions f list

pub parameters-read : {line functions functions' : List ℕ} {at f : ℕ} {r : Step} {c : Cursor} (types : ℕ) (Fs : List (Lined Function)) → Enters parameters_entry line at (function_words * f) functions r functions' (counted 0 parameters_most (plain types) (bytes_from line at)) →
    length Fs ≡ f → f < functions_most → functions ≡ function_table Fs → r ≡ Ok c → ParametersRead types Fs f (bytes_from line at) (bytes_from line c.at) functions'
parameters-read {f} types Fs v len few tb e =
    let n = functions_most * function_words in
    let g = pass-got v.passes e in
    let table = parameters-added types Fs v len few tb g.is in
    let begun = table ∙ ap (λ l. padded n (spell_all function_entry Fs ++ l)) (sym (append-nil (parameters_entry g.value))) in
    record {
      list = g.value;
      read = g.is;
      table = table;
      tells = tells-begun n (spell_all function_entry Fs) g.value [] begun (omega (arith, spell-length function_words function_entry function-wide Fs)) (omega arith) (read-few-parameters types _ g.is);
    }
