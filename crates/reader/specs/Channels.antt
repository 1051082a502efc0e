-- Channel frames: what the reads of a declared type and of expressions promise, an input's frame and a node's promise.
use Rattle.language.specs.RefusalNumbers.{number_of}
use Rattle.language.specs.declared.refusals.Refusal.{Refusal}
use Rattle.std.specs.Prelude.{Ok, Err}
use Prim.Native.Nat.{ℕ, ◌+◌, ◌*◌, ◌≤◌, ◌<◌}
use mathlib.Core.List.{List, [], ◌∷◌, ◌++◌, append-nil, append_assoc}
use Rattle.std.specs.Prelude.{◌≡◌, true, get_or, set}
use Rattle.std.proofs.Math.Path.{refl, sym, ap}
use Rattle.std.proofs.Common.{◌∙◌, subst, arith, length-append}
use Rattle.std.proofs.Math.ListN.{length, length-map, get_or-map}
use Rattle.language.specs.Limits.{functions_most, channels_most, parameters_most, nesting_most}
use Rattle.language.specs.Syntax.{Expr, ebool, rbool, Function, Input, Node, File}
use Rattle.language.specs.Format.{spell_all, expr_bytes}
use Rattle.language.specs.Layout.{padded}
use Rattle.language.specs.Scope.{Scope, arities_of, outer_scope}
use Rattle.language.specs.Parser.{Read, got, bad, Parser, and_then}
use Rattle.language.specs.ReadExpr.{declared, expr_at}
use Rattle.language.specs.Reader.{input, node}
use Rattle.theory.specs.Alls.{all_get_d}
use Rattle.theory.specs.ExactTypes.{declared-exact}
use Rattle.theory.specs.ExactExpr.{expr-exact}
use Rattle.text.specs.declared.Cursor.{Cursor}
use Rattle.text.specs.declared.Found.{Found}
use Rattle.text.specs.Bytes.{Number, Step, bytes_from, past, IsPlace, map_read, forget, step_of, ReadsNumber, Passes, declared_word}
use Rattle.text.specs.Places.{place-most}
use Rattle.text.specs.StepLaws.{ends-within, number-got, number-bad, number-moved, pass-got, pass-bad, pass-moved, pass-none, passes-behind, pass-stops-pass, forget-then}
use Rattle.index.specs.Lined.{Lined, lined-length, lined-part, functions_in, inputs_in, nodes_in}
use Rattle.index.specs.Tables.{function_words, function_entry, function_table, channel_words, input_entry, node_entry, channel_table}
use Rattle.index.specs.Sections.{channels_from, channel_table_words, types_of, channels_of}
use Rattle.index.specs.SectionLaws.{Outside}
use Rattle.index.specs.Enters.{TellsType}
use Rattle.index.specs.TypeTable.{tells-type}
use Rattle.index.specs.FunctionTable.{tells-parameters}
use Rattle.index.specs.FrameTable.{channels-so-far, input-more, node-more}
use Rattle.index.specs.EnterLaws.{next_word}
use Rattle.index.specs.ParserLaws.{bad-is-not-got}
use Rattle.expression_reader.specs.declared.Names.{Names}
use Rattle.expression_reader.specs.Follows.{Tells, Follows}
use Rattle.index.specs.declared.Counts.{Counts}
use Rattle.reader.specs.Held.{Held, Fits, PlaceWord, ReadsInput, ReadsNode}
use Rattle.encoding.specs.FrameParts.{initial_place}
use Rattle.reader.specs.Frames.{kind_end}
use Rattle.reader.specs.Places.{place-behind}
use Rattle.reader.specs.HeldLaws.{no-lined}

abbrev pub outside_names : Counts → ℕ → Names
outside_names n channels = record { variables = 0; sizes = 0; channels = channels; types = n.types; functions = n.functions }

-- ---- the index tells the scope outside all functions
abbrev pub no_function : Function
no_function = record { parameters = []; result = rbool; conditions = []; measure = []; body = ebool true }

abbrev none_lined : Lined Function
none_lined = record { line = []; part = no_function }

pub arity-at : (Fs : List Function) (f : ℕ) → get_or (arities_of Fs) f 0 ≡ length (get_or Fs f no_function).parameters
arity-at Fs f = get_or-map (λ (F : Function). length F.parameters) Fs f no_function

module _ {lines : ℕ → List ℕ} {index : List ℕ} {n : Counts} {P : File} (held : Held lines index n P) where
  pub tells-types : (t : ℕ) → t < n.types → TellsType (types_of index) t (get_or P.types t [])
  tells-types t h = let less : t < length P.types = omega (arith, held.counted.type_count) in tells-type P.types t held.types_are held.few_types less (all_get_d held.parts t [] less)

  pub few-arities : (f : ℕ) → f < length P.functions → get_or (arities_of P.functions) f 0 ≤ parameters_most
  few-arities f less = omega (arith, arity-at P.functions f, all_get_d held.parameters f no_function less)

  -- the number of a function's parameters, whatever stands behind the entries
  pub told-arity : {functions : List ℕ} (f : ℕ) (more : List ℕ) → f < length P.functions → functions ≡ padded (functions_most * function_words) (spell_all function_entry (functions_in lines P) ++ more) → get_or functions (function_words * f) 0 ≡ get_or (arities_of P.functions) f 0
  told-arity {functions} f more less table =
      let long = lined-length lines (length P.types) P.functions in
      let same : (get_or (functions_in lines P) f none_lined).part ≡ get_or P.functions f no_function = lined-part lines (length P.types) P.functions f none_lined in
      (tells-parameters (functions_most * function_words) (functions_in lines P) more f none_lined table (omega (arith, held.few_functions, long)) (omega (arith, less, long))
      (omega (arith, ap (λ (F : Function). length F.parameters) same, all_get_d held.parameters f no_function less))).count
      ∙ ap (λ (F : Function). length F.parameters) same ∙ sym (arity-at P.functions f)

  tells-outside : (channels : ℕ) → Tells index (outside_names n channels) (outer_scope P.types P.functions channels)
  unfolding outer_scope function_table
  tells-outside channels = record {
    variables = refl;
    sizes = refl;
    channels = refl;
    type_count = held.counted.type_count;
    function_count = length-map P.functions _ ∙ held.counted.function_count;
    each = tells-types;
    arities = λ f h. let less : f < length P.functions = omega (arith, held.counted.function_count) in
        told-arity f [] less (held.functions_are ∙ sym (ap (padded (functions_most * function_words)) (append-nil (spell_all function_entry (functions_in lines P)))));
    few = λ f h. few-arities f (omega (arith, held.counted.function_count));
  }

-- ---- a declared type: the word and the place behind it
map-bad : {A B : Type 0} (g : A → B) (y : Read A) {n : ℕ} → map_read g y ≡ bad n → y ≡ bad n
unfolding map_read
map-bad g (got a bs) e = bad-is-not-got (sym e)
map-bad g (bad m) {n} e = let same : m ≡ n = cc in ap bad same

record Mapped {A B : Type 0} (g : A → B) (y : Read A) (b : B) (rest : List ℕ) : Type 0 where
  value : A
  is : y ≡ got value rest
  word : g value ≡ b

map-got : {A B : Type 0} (g : A → B) (y : Read A) {b : B} {rest : List ℕ} → map_read g y ≡ got b rest → Mapped g y b rest
unfolding map_read
map-got g (got a bs) {b} {rest} e = let same : g a ≡ b = cc in let left : bs ≡ rest = cc in record { value = a; is = ap (got a) left; word = same }
map-got g (bad m) e = bad-is-not-got e

pub then-got : {A B : Type 0} {y : Read A} {a : A} {rest : List ℕ} (k : A → Parser B) → y ≡ got a rest → and_then y k ≡ k a rest
unfolding and_then
then-got k e = rw e

then-bad : {A B : Type 0} {y : Read A} {n : ℕ} (k : A → Parser B) → y ≡ bad n → and_then y k ≡ bad n
unfolding and_then
then-bad k e = rw e

-- the value of the last part, in what was made of it
pub record Made {A B : Type 0} (g : A → B) (y : Read A) (b : B) (rest : List ℕ) : Type 0 where
  pub value : A
  pub is : y ≡ got value rest
  pub made : b ≡ g value

pub last-got : {A B : Type 0} (g : A → B) (y : Read A) {b : B} {rest : List ℕ} → and_then y (λ a bs. got (g a) bs) ≡ got b rest → Made g y b rest
unfolding and_then
last-got g (got a bs) {b} {rest} e = let same : b ≡ g a = cc in let left : bs ≡ rest = cc in record { value = a; is = ap (got a) left; made = same }
last-got g (bad m) e = bad-is-not-got e

three-words : {a b d a' b' d' : ℕ} → a ≡ a' → b ≡ b' → d ≡ d' → a ∷ b ∷ d ∷ [] ≡ a' ∷ b' ∷ d' ∷ []
three-words p q r = λ i. p i ∷ q i ∷ r i ∷ []

-- a place in a line of a text is its word
pub place_is : {line : List ℕ} {n : Counts} {at word : ℕ} → Fits line n → PlaceWord at word → IsPlace line at → word ≡ at
place_is {line} fits w h = w.says (omega (arith, place-most line h, fits.short))

-- the same names, by another word
pub follows-as : {line index : List ℕ} {c : Cursor} {s t : Names} {r : Step} {p : Scope → Parser Expr} → s ≡ t → Follows line index c s r p → Follows line index c t r p
follows-as {line} {index} {c} {r} {p} e u = subst (λ m. Follows line index c m r p) e u

-- three words behind the channels so far
pub channel-added : {channels channels' : List ℕ} {to : ℕ} (a b d : ℕ) (before : List ℕ) → channels' ≡ set (set (set channels to a) (to + 1) b) (to + 2) d → channels ≡ padded (channels_most * channel_words) before → length before ≡ to → to + 3 ≤ channels_most * channel_words →
    channels' ≡ padded (channels_most * channel_words) (before ++ (a ∷ b ∷ d ∷ []))
channel-added {channels} {to} a b d before w tb len room =
    let n = channels_most * channel_words in
    let one = next_word {table = channels} {to = to} a n before refl tb len (omega arith) in
    let two = next_word {table = set channels to a} {to = to + 1} b n (before ++ (a ∷ [])) refl one (omega (arith, length-append before (a ∷ []))) (omega arith) in
    let three = next_word d n (before ++ (a ∷ []) ++ (b ∷ [])) w two (omega (arith, length-append before (a ∷ []), length-append (before ++ (a ∷ [])) (b ∷ []))) (omega arith) in
    three ∙ ap (padded n) (ap (λ l. l ++ (d ∷ [])) (append_assoc before (a ∷ []) (b ∷ [])) ∙ append_assoc before (a ∷ b ∷ []) (d ∷ []))

module _ (line index : List ℕ) (n : Counts) {start : Cursor} (here : start.at ≡ kind_end line) {x : Number} (w : ReadsNumber line start.at x (map_read declared_word (declared n.types (bytes_from line start.at)))) where
  v : ReadsNumber line (kind_end line) x (map_read declared_word (declared n.types (bytes_from line (kind_end line))))
  v = rw here at w

  -- ---- an input
  -- where the frame is refused, the index is as it was
  input-stops : {r : Step} {k : Refusal} → r ≡ Err k → ((lines : ℕ → List ℕ) (P : File) → Held lines index n P → Passes line (kind_end line) r (forget (input P (bytes_from line (kind_end line))))) → ReadsInput line index n r index
  input-stops e says = record {
    says = λ lines P held none few. says lines P held;
    enters = λ lines P held none few i rest h. bad-is-not-got (sym (pass-bad (says lines P held) e) ∙ h);
    outside = record { before = refl; behind = refl };
  }

  pub input-no-type : {k : Refusal} {r : Step} → x ≡ Err k → r ≡ step_of x → ReadsInput line index n r index
  unfolding input forget
  input-no-type {k} e d = input-stops (d ∙ ap step_of e) λ lines P held.
      let none : declared (length P.types) (bytes_from line (kind_end line)) ≡ bad (number_of k) = ap (λ t. declared t (bytes_from line (kind_end line))) held.counted.type_count ∙ map-bad declared_word _ (number-bad v e) in
      pass-none e d (ap forget (then-bad _ none))

  module _ {f : Found} (e : x ≡ Ok f) where
    within : IsPlace line f.next.at
    within = ends-within (number-moved v e)

    type-read : {lines : ℕ → List ℕ} {P : File} → Held lines index n P → Mapped declared_word (declared (length P.types) (bytes_from line (kind_end line))) f.value (bytes_from line f.next.at)
    type-read {P = P} held = map-got declared_word _ (ap (λ t. map_read declared_word (declared t (bytes_from line (kind_end line)))) held.counted.type_count ∙ number-got v e)

    type-place : {lines : ℕ → List ℕ} {P : File} (held : Held lines index n P) → f.next.at ≡ initial_place line (type-read held).value
    type-place {P = P} held = place-behind (declared-exact (length P.types)) (number-moved v e) (type-read held).is

    pub input-no-value : {r : Step} {k : Refusal} → Follows line index f.next (outside_names n 0) r (expr_at nesting_most) → r ≡ Err k → ReadsInput line index n r index
    unfolding input
    input-no-value u h = input-stops h λ lines P held. let g = type-read held in passes-behind (number-moved v e) (ap forget (then-got _ g.is) ∙ forget-then _ _) (u.says (outer_scope P.types P.functions 0) (tells-outside held 0) within)

    pub input-read : {index' : List ℕ} {r : Step} {a : ℕ} → Fits line n → PlaceWord f.next.at a → Follows line index f.next (outside_names n 0) r (expr_at nesting_most) → (channels_of index' ≡ set (set (set (channels_of index) (channel_words * n.inputs) f.value) (channel_words * n.inputs + 1) a) (channel_words * n.inputs + 2) 0) × Outside channels_from channel_table_words index index' →
        ReadsInput line index n r index'
    unfolding input input_entry channel_table
    input-read {r} {a} fits p u w = record {
      says = λ lines P held none few. let g = type-read held in passes-behind (number-moved v e) (ap forget (then-got _ g.is) ∙ forget-then _ _) (u.says (outer_scope P.types P.functions 0) (tells-outside held 0) within);
      enters = λ lines P held none few i rest h.
          let g = type-read held in
          let m = last-got (λ (t : Expr). record { declared = g.value; initial = t }) _ (sym (then-got _ g.is) ∙ h) in
          let empty : length P.nodes ≡ 0 = ap length none in
          let is = inputs_in lines P in
          let long = lined-length lines (length P.types + length P.functions) P.inputs in
          let so_far : channels_of index ≡ padded (channels_most * channel_words) (spell_all input_entry is ++ spell_all node_entry []) = held.channels_are ∙ ap (channel_table is) (no-lined lines _ none) in
          let added = channel-added f.value a 0 (spell_all input_entry is ++ spell_all node_entry []) w.0 so_far (channels-so-far is [] ∙ omega (arith, long, held.counted.input_count)) (omega arith) in
          let entry : f.value ∷ a ∷ 0 ∷ [] ≡ input_entry (record { line = line; part = i }) = three-words (sym g.word) (place_is fits p (ends-within (number-moved v e)) ∙ type-place held) refl ∙ ap (λ (j : Input). input_entry (record { line = line; part = j })) (sym m.made) in
          added ∙ ap (λ l. padded (channels_most * channel_words) ((spell_all input_entry is ++ spell_all node_entry []) ++ l)) entry ∙ sym (input-more is (record { line = line; part = i }));
      outside = w.1;
    }

  -- ---- a node
  module _ (all : ℕ) where
    node-stops : {r : Step} {k : Refusal} → r ≡ Err k → ((lines : ℕ → List ℕ) (P : File) → Held lines index n P → Passes line (kind_end line) r (forget (node all P (bytes_from line (kind_end line))))) → ReadsNode line index n all r index
    node-stops e says = record {
      says = λ lines P held few. says lines P held;
      enters = λ lines P held few m rest h. bad-is-not-got (sym (pass-bad (says lines P held) e) ∙ h);
      outside = record { before = refl; behind = refl };
    }

    pub node-no-type : {k : Refusal} {r : Step} → x ≡ Err k → r ≡ step_of x → ReadsNode line index n all r index
    unfolding node forget
    node-no-type {k} e d = node-stops (d ∙ ap step_of e) λ lines P held.
        let none : declared (length P.types) (bytes_from line (kind_end line)) ≡ bad (number_of k) = ap (λ t. declared t (bytes_from line (kind_end line))) held.counted.type_count ∙ map-bad declared_word _ (number-bad v e) in
        pass-none e d (ap forget (then-bad _ none))

    module _ {f : Found} (e : x ≡ Ok f) {y : Step} (u : Follows line index f.next (outside_names n 0) y (expr_at nesting_most)) where
      initial-passes : {lines : ℕ → List ℕ} {P : File} → Held lines index n P → Passes line f.next.at y (forget (expr_at nesting_most (outer_scope P.types P.functions 0) (bytes_from line f.next.at)))
      initial-passes {P = P} held = u.says (outer_scope P.types P.functions 0) (tells-outside held 0) (ends-within (number-moved v e))

      pub node-no-initial : {k : Refusal} → y ≡ Err k → ReadsNode line index n all y index
      unfolding node
      node-no-initial {k} h = node-stops h λ lines P held. passes-behind (number-moved v e) (ap forget (then-got _ (type-read e held).is)) (pass-stops-pass _ _ (initial-passes held) h)

      pub node-no-update : {d : Cursor} {r : Step} {k : Refusal} → y ≡ Ok d → Follows line index d (outside_names n all) r (expr_at nesting_most) → r ≡ Err k → ReadsNode line index n all r index
      unfolding node
      node-no-update there z h = node-stops h λ lines P held.
          let i = pass-got (initial-passes held) there in
          passes-behind (number-moved v e) (ap forget (then-got _ (type-read e held).is)) (passes-behind (pass-moved (initial-passes held) there) (ap forget (then-got _ i.is) ∙ forget-then _ _) (z.says (outer_scope P.types P.functions all) (tells-outside held all) (ends-within (pass-moved (initial-passes held) there))))

      pub node-read : {index' : List ℕ} {d : Cursor} {r : Step} {a b : ℕ} → y ≡ Ok d → Fits line n → PlaceWord f.next.at a → PlaceWord d.at b → Follows line index d (outside_names n all) r (expr_at nesting_most) →
          (channels_of index' ≡ set (set (set (channels_of index) (channel_words * (n.inputs + n.nodes)) f.value) (channel_words * (n.inputs + n.nodes) + 1) a) (channel_words * (n.inputs + n.nodes) + 2) b) × Outside channels_from channel_table_words index index' → ReadsNode line index n all r index'
      unfolding node node_entry channel_table
      node-read {d} {r} {a} {b} there fits p q z w = record {
        says = λ lines P held few.
            let g = type-read e held in
            let i = pass-got (initial-passes held) there in
            passes-behind (number-moved v e) (ap forget (then-got _ g.is)) (passes-behind (pass-moved (initial-passes held) there) (ap forget (then-got _ i.is) ∙ forget-then _ _) (update-passes held));
        enters = λ lines P held few m rest h.
            let g = type-read e held in
            let i = pass-got (initial-passes held) there in
            let made = last-got (λ (t : Expr). record { declared = g.value; initial = i.value; update = t }) _ (sym (then-got _ i.is) ∙ sym (then-got _ g.is) ∙ h) in
            let is = inputs_in lines P in
            let ns = nodes_in lines P in
            let so_far : List ℕ = spell_all input_entry is ++ spell_all node_entry ns in
            let inputs_long = lined-length lines (length P.types + length P.functions) P.inputs in
            let nodes-long = lined-length lines (length P.types + length P.functions + length P.inputs) P.nodes in
            let added = channel-added f.value a b so_far w.0 held.channels_are (channels-so-far is ns ∙ omega (arith, inputs_long, nodes-long, held.counted.input_count, held.counted.node_count)) (omega (arith, held.counted.input_count, held.few_inputs)) in
            let behind = place-behind (expr-exact nesting_most (outer_scope P.types P.functions 0)) (pass-moved (initial-passes held) there) i.is in
            let second : d.at ≡ past line (initial_place line g.value) (length (expr_bytes i.value)) = behind ∙ ap (λ (k : ℕ). past line k (length (expr_bytes i.value))) (type-place e held) in
            let entry : f.value ∷ a ∷ b ∷ [] ≡ node_entry (record { line = line; part = m }) = three-words (sym g.word) (place_is fits p (ends-within (number-moved v e)) ∙ type-place e held) (place_is fits q (ends-within (pass-moved (initial-passes held) there)) ∙ second) ∙ ap (λ (k : Node). node_entry (record { line = line; part = k })) (sym made.made) in
            added ∙ ap (λ l. padded (channels_most * channel_words) (so_far ++ l)) entry ∙ sym (node-more is ns (record { line = line; part = m }));
        outside = w.1;
      }
        where
          update-passes : {lines : ℕ → List ℕ} {P : File} → Held lines index n P → Passes line d.at r (forget (expr_at nesting_most (outer_scope P.types P.functions all) (bytes_from line d.at)))
          update-passes {P = P} held = z.says (outer_scope P.types P.functions all) (tells-outside held all) (ends-within (pass-moved (initial-passes held) there))
