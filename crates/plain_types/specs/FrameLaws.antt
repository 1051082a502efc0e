-- The frames of functions, inputs and nodes, return by return.
use Rattle.std.specs.Option.{is_some}
use Prim.Native.Nat.{ℕ, zero, suc, ◌+◌, ◌-◌, ◌*◌, ◌%◌, ◌≤◌, ◌<◌}
use mathlib.Core.List.{List, [], ◌∷◌, ◌++◌, map}
use Rattle.std.specs.Prelude.{Bool, true, false, ◌≡◌, get_or}
use Rattle.std.proofs.Math.Option.{Option, none, some}
use Rattle.std.proofs.Math.Path.{refl, sym, ap}
use Rattle.std.proofs.Common.{◌∙◌, subst, subst₂, arith, zero-add, length-append}
use Rattle.std.proofs.Math.ListN.{length, take, length-map, get_elem? as look}
use Rattle.std.proofs.Math.Seq.{take_all}
use Rattle.language.specs.Limits.{byte_range, variables_most, nesting_most}
use Rattle.language.specs.Result.{when}
use Rattle.language.specs.Syntax.{Plain, pbool, Ty, Expr, Function, Input, Node, File, declared_types}
use Rattle.language.specs.Format.{expr_bytes}
use Rattle.language.specs.Scope.{Scope, outer_scope}
use Rattle.language.specs.Within.{all_nil, WithinDeclared, WithinExpr}
use Rattle.language.specs.PlainTypes.{plain_result, plain_declared, is_plain, is_initial, plain_of, plain_function, plain_initial, plain_node}
use Rattle.theory.specs.Lists.{look-get_d, look-less, look-append, look-past, look-map}
use Rattle.theory.specs.Places.{below_or_not}
use Rattle.theory.specs.Alls.{all_map, all-at}
use Rattle.text.specs.declared.Cursor.{Cursor}
use Rattle.text.specs.Bytes.{past, plain_word, declared_word}
use Rattle.index.specs.Tables.{function_words}
use Rattle.index.specs.Enters.{TellsType}
use Rattle.encoding.specs.Spells.{Spells}
use Rattle.encoding.specs.FrameLines.{line_at}
use Rattle.heads.specs.SkipHeads.{count_same}
use Rattle.encoding.specs.Known.{outer-known, body-known}
use Rattle.encoding.specs.WithinParts.{function-within, node-within}
use Rattle.index.specs.Sections.{frames_of, types_of, functions_of, channels_of}
use Rattle.index.specs.Indexed.{body_at, declared_at, initial_at, update_at, frame_part, function_line, channel_line, line_count, Indexed}
use Rattle.plain_types.specs.declared.words.PlainType.{PlainType}
use Rattle.plain_types.specs.declared.words.Want.TheVariants.{Parameters}
use Rattle.heads.specs.declared.places.Place.{Place}
use Rattle.heads.specs.Places.{line_behind_types, function-line}
use Rattle.plain_types.specs.Words.{type_at, wanted_type, entered, Returns}
use Rattle.plain_types.specs.Agrees.{Typing, meaning, Agrees, is_type, is_none, both_first, both-not}
use Rattle.plain_types.specs.Asks.{Stage, Part, TypesWant}
use Rattle.plain_types.specs.Initials.{TestsInitial}
use Rattle.plain_types.specs.Verdicts.{Outer, FunctionFits, ValueFits, InitialFits, NodeFits}
use Rattle.plain_types.specs.WordLaws.{plain_at, declared-at, plain-fewer}
use Rattle.plain_types.specs.EnterLaws.{word_at, entered-kept, entered-words}
use Rattle.plain_types.specs.FormLaws.{ask-want}
use Rattle.plain_types.specs.ListLaws.{parameters-small}

-- ---- whether there is a type
abbrev is_there : {A : Type 0} → Option A → Bool
is_there none = false
is_there (some a) = true

fits-agrees : {x : Typing} {end : ℕ} {o : Option Plain} → Agrees x end o → is_some x ≡ is_there o
fits-agrees (is_type q w p) = rw q
fits-agrees (is_none q) = rw q

there-when : {A : Type 0} (b : Bool) (a : A) → is_there (when b a) ≡ b
unfolding when
there-when true a = refl
there-when false a = refl

fits-when : {x : Typing} {end : ℕ} (b : Bool) (τ : Plain) → Agrees x end (when b τ) → is_some x ≡ b
fits-when b τ a = fits-agrees a ∙ there-when b τ

-- ---- the same part at places named otherwise
part-named : (text : List ℕ) {line line' at at' levels end : ℕ} {S : Scope} {e : Expr} → line ≡ line' → at ≡ at' → Part (line_at text line') levels S at' e end → Part (line_at text line) levels S at e end
part-named text {levels} {end} {S} {e} p q part = subst₂ (λ i m. Part (line_at text i) levels S m e end) (sym p) (sym q) part

-- ---- a function
module _ (text index : List ℕ) (f : ℕ) {n : ℕ} (k : (n ≡ get_or (functions_of index) (function_words * f) 0 % byte_range) × (n < byte_range)) (scope : List ℕ) {scope₁ scope₂ : List ℕ}
    (enter : scope₁ ≡ entered index (Parameters f) scope 0 n) (room : variables_most ≤ length scope) {at : Cursor} {line : ℕ} {kind : PlainType} (place : at.at ≡ body_at (functions_of index) f) (number : line ≡ line_behind_types index f) (ret : Returns text index f kind) {x : Typing}
    (v : TypesWant text index scope₁ (record { at = at; levels = nesting_most; line = line; variables = n }) kind x scope₂) where
  module _ {P : File} {F : Function} (h : Indexed text index P) (e : look P.functions f ≡ some F) where
    parameter-count : n ≡ length F.parameters
    parameter-count = let told = (h.each_function f e).tells in count_same k told.count (omega (arith, told.few))

    line-is : line ≡ function_line P f
    line-is = number ∙ function-line h (look-less P.functions f e)

    parameter-type : (j : ℕ) → j < length F.parameters → meaning (wanted_type index (Parameters f) j) ≡ get_or F.parameters j pbool
    unfolding wanted_type
    parameter-type j less = ap (λ w. meaning (type_at w)) ((h.each_function f e).tells.each j less ∙ word_at F.parameters j) ∙ plain_at (parameters-small h f e j less)

    parameter-words : take n scope₁ ≡ map plain_word F.parameters
    unfolding wanted_type
    parameter-words =
        let told = (h.each_function f e).tells in
        let words : List ℕ = map plain_word F.parameters in
        let long : length words ≡ length F.parameters = length-map F.parameters plain_word in
        let few : n ≤ length words = omega (arith, parameter-count, long) in
        ap (take n) enter ∙ ap (λ m. take m (entered index (Parameters f) scope 0 n)) (sym (zero-add n))
        ∙ entered-words index (Parameters f) scope 0 words n few (λ j less. ap plain_word (parameter-type j (omega (arith, less, parameter-count))) ∙ sym (word_at F.parameters j)) (omega (arith, room, parameter-count, told.few))
        ∙ take_all n words (omega (arith, parameter-count, long))

    body-stage : Stage text index scope₁ line n P [] (body-known h.within f e).scope F.parameters
    body-stage =
        let b = body-known h.within f e in
        record {
          indexed = h;
          less = omega (arith, line-is, look-less P.functions f e);
          known = b.known;
          channel = λ i less. absurd (omega (arith, less));
          channels = omega (arith, b.channels);
          words = parameter-words;
          small = all_map (λ τ w. plain-fewer (omega (arith, h.within.few_types)) w) (function-within h.within f e).parameters;
          long = sym parameter-count;
          in_scope = b.variables ∙ sym parameter-count;
          room = omega (arith, ap length enter, (entered-kept index (Parameters f) scope 0 n).long, room);
        }

  pub function-fits : {r : Bool} → r ≡ is_some x → FunctionFits text index f r
  unfolding plain_function
  function-fits q = record {
    says = λ {P} {F} h e.
        let part = part-named text (line-is h e) place (record { within = (body-known h.within f e).within; spelled = (h.each_function f e).body; ends = refl }) in
        q ∙ fits-when (is_plain (plain_result F.result) (plain_of P [] F.body F.parameters)) (plain_result F.result) (v.says (body-stage h e) (ask-want (plain_result F.result) (ret.says h e) part));
  }

-- ---- an expression outside all functions, of a channel's declared type
pub value-fits : (text index : List ℕ) (p : Place) {c declared : ℕ} {kind : PlainType} {scope scope₁ : List ℕ} {x : Typing} {r : Bool} → declared ≡ declared_at (channels_of index) c → kind ≡ type_at declared →
    TypesWant text index scope p kind x scope₁ → variables_most ≤ length scope → r ≡ is_some x → ValueFits text index p c r
value-fits text index p {scope} d w v room q = record {
  says = λ {P} {C} {S} {e} τ z o part t.
      let st : Stage text index scope p.line p.variables P C S [] = record {
        indexed = o.indexed;
        less = o.less;
        known = o.known;
        channel = o.channel;
        channels = o.channels;
        words = ap (λ m. take m scope) z;
        small = all_nil;
        long = sym z;
        in_scope = o.none ∙ sym z;
        room = room;
      } in
      q ∙ fits-when (is_plain τ (plain_of P C e [])) τ (v.says st (ask-want τ (ap meaning w ∙ ap (λ a. meaning (type_at a)) d ∙ t) part));
}

-- ---- the scopes of initial values and updates
outer-place : {text index : List ℕ} {line : ℕ} {P : File} (C : List Plain) (channels : ℕ) → Indexed text index P → line < line_count P →
    ((c : ℕ) → c < length C → meaning (type_at (declared_at (channels_of index) c)) ≡ get_or C c pbool) → channels ≤ length C → Outer text index line P C (outer_scope P.types P.functions channels)
unfolding outer_scope
outer-place {P} C channels h less told few = record { indexed = h; less = less; known = outer-known P channels; channel = told; channels = few; none = refl }

outer-types : (P : File) (channels : ℕ) → (outer_scope P.types P.functions channels).types ≡ P.types
unfolding outer_scope
outer-types P channels = refl

pub record There {A : Type 0} (l : List A) (i : ℕ) : Type 0 where
  pub of : A
  pub at : look l i ≡ some of

pub there : {A : Type 0} (l : List A) (i : ℕ) → i < length l → There l i
there [] i less = absurd (omega (arith, less))
there (a ∷ l) zero less = record { of = a; at = refl }
there (a ∷ l) (suc i) less = let r = there l i (omega (arith, less)) in record { of = r.of; at = r.at }

-- the plain types of the channels are those of the index's words
module _ {text index : List ℕ} {P : File} (h : Indexed text index P) where
  abbrev channel_types : List Plain
  channel_types = map plain_declared (declared_types P)

  channels-count : length channel_types ≡ length P.inputs + length P.nodes
  channels-count = omega (
    arith,
    length-map (declared_types P) plain_declared,
    length-append (map (λ (i : Input). i.declared) P.inputs) (map (λ (n : Node). n.declared) P.nodes),
    length-map P.inputs (λ (i : Input). i.declared),
    length-map P.nodes (λ (n : Node). n.declared),
  )

  declared-told : (c : ℕ) {τ : Ty} → look (declared_types P) c ≡ some τ → declared_at (channels_of index) c ≡ declared_word τ → WithinDeclared (length P.types) τ → meaning (type_at (declared_at (channels_of index) c)) ≡ get_or channel_types c pbool
  declared-told c e q w = ap (λ a. meaning (type_at a)) q ∙ declared-at (omega (arith, h.within.few_types)) w ∙ sym (look-get_d channel_types c pbool (look-map plain_declared (declared_types P) c e))

  channel-told : (c : ℕ) → c < length channel_types → meaning (type_at (declared_at (channels_of index) c)) ≡ get_or channel_types c pbool
  channel-told c less = below_or_not c (length P.inputs) input node
    where
      ins : List Ty
      ins = map (λ (i : Input). i.declared) P.inputs

      outs : List Ty
      outs = map (λ (n : Node). n.declared) P.nodes

      input : c < length P.inputs → meaning (type_at (declared_at (channels_of index) c)) ≡ get_or channel_types c pbool
      input there₁ =
          let i = there P.inputs c there₁ in
          declared-told c (look-append ins outs c (look-map (λ (i : Input). i.declared) P.inputs c i.at)) (h.each_input c i.at).declared (all-at h.within.inputs c i.at).declared

      node : length P.inputs ≤ c → meaning (type_at (declared_at (channels_of index) c)) ≡ get_or channel_types c pbool
      node over =
          let m = c - length P.inputs in
          let n = there P.nodes m (omega (arith, less, over, channels-count)) in
          let same : length P.inputs + m ≡ c = omega (arith, over) in
          let same₂ : length ins + m ≡ c = omega (arith, over, length-map P.inputs (λ (i : Input). i.declared)) in
          declared-told c (subst (λ i. look (ins ++ outs) i ≡ some n.of.declared) same₂ (look-past ins outs m ∙ look-map (λ (k : Node). k.declared) P.nodes m n.at))
          (subst (λ i. declared_at (channels_of index) i ≡ declared_word n.of.declared) same (h.each_node m n.at).channel.declared) (node-within h.within m n.at).declared

-- ---- an initial value; channel c has the frame i behind the types
module _ (text index : List ℕ) (i c : ℕ) where
  module _ {line : ℕ} (number : line ≡ line_behind_types index i) {P : File} (h : Indexed text index P) (q : i ≡ length P.functions + c) (less : c < length P.inputs + length P.nodes) where
    channel-line : line ≡ channel_line P c
    channel-line = let w = h.within in omega (arith, number, h.counted.type_count, q, less, w.few_functions, w.few_inputs, w.few_nodes)

    channel-less : line < line_count P
    channel-less = omega (arith, channel-line, less)

  module _ {at : Cursor} {line : ℕ} (place : at.at ≡ initial_at (channels_of index) c) (number : line ≡ line_behind_types index i) {part : List ℕ} (taken : part ≡ frame_part text (frames_of index) line) {x : Typing} (u : TestsInitial part (types_of index) at nesting_most x) where
    tested : {P : File} {e : Expr} → Indexed text index P → i ≡ length P.functions + c → c < length P.inputs + length P.nodes →
        Spells expr_bytes (line_at text (channel_line P c)) (initial_at (channels_of index) c) e → WithinExpr nesting_most (outer_scope P.types P.functions 0) e → Agrees x (past part at.at (length (expr_bytes e))) (when (is_initial e) pbool)
    tested {P} {e} h q less s w =
        let is : part ≡ line_at text (channel_line P c) = taken ∙ (h.each_frame line (channel-less number h q less)).line ∙ ap (line_at text) (channel-line number h q less) in
        u.says (subst (λ ds. (t : ℕ) → t < length ds → TellsType (types_of index) t (get_or ds t [])) (sym (outer-types P 0)) (λ t there. (h.each_type t there).tells)) w
        (subst₂ (λ l a. Spells expr_bytes l a e) (sym is) (sym place) s)

    pub initial-unfit : is_some x ≡ false → InitialFits text index i c false
    unfolding plain_initial
    initial-unfit d = record {
      says = λ {P} {τ} {e} h q less ci wd w. sym (both-not (is_plain (plain_declared τ) (plain_of P [] e [])) (sym (fits-when (is_initial e) pbool (tested h q less ci.initial w)) ∙ d));
    }

    pub initial-fits : {r : Bool} → is_some x ≡ true → ValueFits text index (record { at = at; levels = nesting_most; line = line; variables = 0 }) c r → InitialFits text index i c r
    unfolding plain_initial
    initial-fits d v = record {
      says = λ {P} {τ} {e} h q less ci wd w.
          let part₁ = part-named text (channel-line number h q less) place (record { within = w; spelled = ci.initial; ends = refl }) in
          v.says (plain_declared τ) refl (outer-place [] 0 h (channel-less number h q less) (λ j there₁. absurd (omega (arith, there₁))) (omega arith)) part₁ (ap (λ a. meaning (type_at a)) ci.declared ∙ declared-at (omega (arith, h.within.few_types)) wd)
          ∙ sym (both_first (sym (fits-when (is_initial e) pbool (tested h q less ci.initial w)) ∙ d));
    }

  -- ---- a node
  module _ {b : Bool} (a : InitialFits text index i c b) where
    pub node-unfit : b ≡ false → NodeFits text index i c false
    unfolding plain_node
    node-unfit z = record {
      says = λ {P} {n} h q less ni w.
          sym (both-not (is_plain (plain_declared n.declared) (plain_of P (channel_types h) n.update [])) (sym (a.says h q less ni.channel w.declared w.initial) ∙ z));
    }

    pub node-fits : {at : Cursor} {line : ℕ} {r : Bool} → b ≡ true → at.at ≡ update_at (channels_of index) c → line ≡ line_behind_types index i → ValueFits text index (record { at = at; levels = nesting_most; line = line; variables = 0 }) c r →
        NodeFits text index i c r
    unfolding plain_node
    node-fits z place number v = record {
      says = λ {P} {n} h q less ni w.
          let part = part-named text (channel-line number h q less) place (record { within = w.update; spelled = ni.update; ends = refl }) in
          let C = channel_types h in
          v.says (plain_declared n.declared) refl
          (outer-place C (length P.inputs + length P.nodes) h (channel-less number h q less) (channel-told h) (omega (arith, channels-count h)))
          part (ap (λ d. meaning (type_at d)) ni.channel.declared ∙ declared-at (omega (arith, h.within.few_types)) w.declared)
          ∙ sym (both_first (sym (a.says h q less ni.channel w.declared w.initial) ∙ z));
    }
