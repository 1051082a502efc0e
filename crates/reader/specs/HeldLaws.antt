-- One frame more is held: what the index tells, with the entry of the next frame.
use Rattle.std.specs.Prelude.{ℕ, ◌+◌, ◌≤◌, ◌<◌, List, [], ◌∷◌, ◌++◌, ◌≡◌}
use Rattle.std.proofs.Common.{sym, ◌∙◌, arith}
use Rattle.std.proofs.Math.Path.{ap, ap₂}
use Rattle.std.proofs.Math.ListN.{length, length-append}
use Rattle.language.specs.Limits.{types_most, functions_most, inputs_most, nodes_most, parameters_most}
use Rattle.language.specs.Syntax.{TypeDef, Function, Input, Node, File}
use Rattle.language.specs.Reader.{with_type, with_function, with_input, with_node, type_kind, function_kind, input_kind, node_kind}
use Rattle.theory.specs.Alls.{all_snoc}
use Rattle.index.specs.Lined.{lined, lined-none, lined-more, functions_in, inputs_in, nodes_in}
use Rattle.index.specs.Tables.{type_table, function_table, channel_table}
use Rattle.index.specs.Sections.{types_from, functions_from, channels_from, type_table_words, function_table_words, channel_table_words, types_of, functions_of, channels_of}
use Rattle.index.specs.SectionLaws.{Outside, kept-before, kept-behind}
use Rattle.index.specs.TypeTable.{FewParts}
use Rattle.index.specs.declared.Counts.{Counts}
use Rattle.reader.specs.Held.{total, Held, NoLater}
use Rattle.reader.specs.Frames.{one_more_of}

-- the next of a kind, with the line of its number
one-lined : {A : Type 0} (lines : ℕ → List ℕ) (i : ℕ) (l : List A) (a : A) {line : List ℕ} {k : ℕ} → line ≡ lines k → k ≡ i + length l → lined lines i l ++ (record { line = line; part = a } ∷ []) ≡ lined lines i (l ++ (a ∷ []))
one-lined lines i l a here place = ap (λ (m : List ℕ). lined lines i l ++ (record { line = m; part = a } ∷ [])) (here ∙ ap lines place) ∙ sym (lined-more lines i l a)

pub no-lined : {A : Type 0} (lines : ℕ → List ℕ) (i : ℕ) {l : List A} → l ≡ [] → lined lines i l ≡ []
unfolding lined
no-lined lines i e = ap (lined lines i) e

-- ---- one frame more is held: its own section has its entry, the others are as they were
module _ {lines : ℕ → List ℕ} {index index' : List ℕ} {n : Counts} {P : File} (held : Held lines index n P) where
  pub held-type : (d : TypeDef) → NoLater P → types_of index' ≡ type_table (P.types ++ (d ∷ [])) → Outside types_from type_table_words index index' → n.types < types_most → FewParts d → Held lines index' (one_more_of type_kind n) (with_type P d)
  unfolding with_type
  held-type d none tb o few parts = let same = held.counted in record {
    types_are = tb;
    functions_are = kept-behind o functions_from function_table_words (omega arith) ∙ held.functions_are ∙ ap function_table (lined-none lines _ _ none.functions);
    channels_are = kept-behind o channels_from channel_table_words (omega arith) ∙ held.channels_are ∙ ap₂ channel_table (lined-none lines _ _ none.inputs) (lined-none lines _ _ none.nodes);
    counted = record {
      type_count = length-append P.types (d ∷ []) ∙ ap (λ k. k + 1) same.type_count;
      function_count = omega (arith, same.function_count);
      input_count = omega (arith, same.input_count);
      node_count = omega (arith, same.node_count);
    };
    few_types = omega (arith, length-append P.types (d ∷ []), same.type_count);
    few_functions = held.few_functions;
    few_inputs = held.few_inputs;
    few_nodes = held.few_nodes;
    parts = all_snoc held.parts parts;
    parameters = held.parameters;
  }

  pub held-function : {line : List ℕ} (F : Function) → line ≡ lines (total n) → P.inputs ≡ [] → P.nodes ≡ [] → (functions_of index' ≡ function_table (functions_in lines P ++ (record { line = line; part = F } ∷ []))) × (length F.parameters ≤ parameters_most) → Outside functions_from function_table_words index index' → n.functions < functions_most → Held lines index' (one_more_of function_kind n) (with_function P F)
  unfolding with_function
  held-function F here no-input no_Node tb o few = let same = held.counted in record {
    types_are = kept-before o types_from type_table_words (omega arith) ∙ held.types_are;
    functions_are = tb.0 ∙ ap function_table (one-lined lines (length P.types) P.functions F here (omega (arith, same.type_count, same.function_count, same.input_count, same.node_count, ap length no-input, ap length no_Node)));
    channels_are = kept-behind o channels_from channel_table_words (omega arith) ∙ held.channels_are ∙ ap₂ channel_table (lined-none lines _ _ no-input) (lined-none lines _ _ no_Node);
    counted = record {
      type_count = omega (arith, same.type_count);
      function_count = length-append P.functions (F ∷ []) ∙ ap (λ k. k + 1) same.function_count;
      input_count = omega (arith, same.input_count);
      node_count = omega (arith, same.node_count);
    };
    few_types = held.few_types;
    few_functions = omega (arith, length-append P.functions (F ∷ []), same.function_count);
    few_inputs = held.few_inputs;
    few_nodes = held.few_nodes;
    parts = held.parts;
    parameters = all_snoc held.parameters tb.1;
  }

  pub held-input : {line : List ℕ} (i : Input) → line ≡ lines (total n) → channels_of index' ≡ channel_table (inputs_in lines P ++ (record { line = line; part = i } ∷ [])) [] → Outside channels_from channel_table_words index index' → P.nodes ≡ [] → n.inputs < inputs_most → Held lines index' (one_more_of input_kind n) (with_input P i)
  unfolding with_input
  held-input i here tb o empty few = let same = held.counted in record {
    types_are = kept-before o types_from type_table_words (omega arith) ∙ held.types_are;
    functions_are = kept-before o functions_from function_table_words (omega arith) ∙ held.functions_are;
    channels_are = tb ∙ ap₂ channel_table (one-lined lines (length P.types + length P.functions) P.inputs i here (omega (arith, same.type_count, same.function_count, same.input_count, same.node_count, ap length empty))) (sym (no-lined lines _ empty));
    counted = record {
      type_count = omega (arith, same.type_count);
      function_count = omega (arith, same.function_count);
      input_count = length-append P.inputs (i ∷ []) ∙ ap (λ k. k + 1) same.input_count;
      node_count = omega (arith, same.node_count);
    };
    few_types = held.few_types;
    few_functions = held.few_functions;
    few_inputs = omega (arith, length-append P.inputs (i ∷ []), same.input_count);
    few_nodes = held.few_nodes;
    parts = held.parts;
    parameters = held.parameters;
  }

  pub held-node : {line : List ℕ} (m : Node) → line ≡ lines (total n) → channels_of index' ≡ channel_table (inputs_in lines P) (nodes_in lines P ++ (record { line = line; part = m } ∷ [])) → Outside channels_from channel_table_words index index' → n.nodes < nodes_most → Held lines index' (one_more_of node_kind n) (with_node P m)
  unfolding with_node
  held-node m here tb o few = let same = held.counted in record {
    types_are = kept-before o types_from type_table_words (omega arith) ∙ held.types_are;
    functions_are = kept-before o functions_from function_table_words (omega arith) ∙ held.functions_are;
    channels_are = tb ∙ ap (channel_table (inputs_in lines P)) (one-lined lines (length P.types + length P.functions + length P.inputs) P.nodes m here (omega (arith, same.type_count, same.function_count, same.input_count, same.node_count)));
    counted = record {
      type_count = omega (arith, same.type_count);
      function_count = omega (arith, same.function_count);
      input_count = omega (arith, same.input_count);
      node_count = length-append P.nodes (m ∷ []) ∙ ap (λ k. k + 1) same.node_count;
    };
    few_types = held.few_types;
    few_functions = held.few_functions;
    few_inputs = held.few_inputs;
    few_nodes = omega (arith, length-append P.nodes (m ∷ []), same.node_count);
    parts = held.parts;
    parameters = held.parameters;
  }
