-- Kinds of frames and their order: what each return of the two tests says.
use Rattle.std.specs.Prelude.{ℕ, zero, suc, ◌+◌, ◌-◌, ◌≤◌, List, [], ◌∷◌, Bool, true, ◌≡◌, length, eqb, ltb}
use Rattle.std.proofs.Math.Bool.{false}
use Rattle.std.proofs.Math.Option.{none}
use Rattle.std.proofs.Math.Path.{refl, ap}
use Rattle.std.proofs.Common.{◌∙◌, arith, le-leb}
use Rattle.std.proofs.lemmas.Bool.{ne_eqb}
use Rattle.language.specs.Limits.{types_most, functions_most, inputs_most, nodes_most}
use Rattle.language.specs.Result.{both, choose}
use Rattle.language.specs.Syntax.{File}
use Rattle.language.specs.Parser.{decode}
use Rattle.language.specs.Text.{is_empty}
use Rattle.language.specs.Reader.{Kind, type_kind, function_kind, input_kind, node_kind, kinds, in_order_of}
use Rattle.theory.specs.Lists.{both_left, both_right}
use Rattle.index.specs.declared.Counts.{Counts}
use Rattle.index.specs.Indexed.{Counted}
use Rattle.reader.specs.Frames.{Ordered}

-- ---- the kinds' codes
pub unknown_code : (k : ℕ) → (k ≡ 1 → ⊥) → (k ≡ 2 → ⊥) → (k ≡ 3 → ⊥) → (k ≡ 4 → ⊥) → none ≡ decode 0x01 kinds k
unfolding decode choose
unknown_code zero a b d e = refl
unknown_code (suc zero) a b d e = absurd (a refl)
unknown_code (suc (suc zero)) a b d e = absurd (b refl)
unknown_code (suc (suc (suc zero))) a b d e = absurd (d refl)
unknown_code (suc (suc (suc (suc zero)))) a b d e = absurd (e refl)
unknown_code (suc (suc (suc (suc (suc k))))) a b d e = let on : suc (suc (suc (suc (suc k)))) - 1 ≡ suc (suc (suc (suc k))) = omega arith in rw (le-leb 1 (suc (suc (suc (suc (suc k))))) (omega arith), on)

-- ---- lists without anything
empty-is : {A : Type 0} (l : List A) → length l ≡ 0 → is_empty l ≡ true
unfolding is_empty
empty-is [] e = refl
empty-is (a ∷ l) e = absurd (omega arith)

pub nothing_left : {A : Type 0} (l : List A) → is_empty l ≡ true → l ≡ []
unfolding is_empty
nothing_left [] e = refl
nothing_left (a ∷ l) e = absurd (let z : ◌≡◌ {A = ℕ} 0 1 = cc in omega arith)

length_none : {A : Type 0} (l : List A) → is_empty l ≡ true → length l ≡ 0
length_none l e = ap length (nothing_left l e)

-- ---- order: in turn, or late since a frame of a later kind was read
module _ {kind : Kind} {n : Counts} where
  pub node-order : kind ≡ node_kind → Ordered kind n (ltb n.nodes nodes_most)
  unfolding in_order_of
  node-order e = record { says = λ P same. rw (e, same.node_count) }

  pub input-order : kind ≡ input_kind → n.nodes ≡ 0 → Ordered kind n (ltb n.inputs inputs_most)
  unfolding in_order_of both
  input-order e z = record { says = λ P same. rw (e, empty-is P.nodes (same.node_count ∙ z), same.input_count) }

  pub function-order : kind ≡ function_kind → n.inputs ≡ 0 → n.nodes ≡ 0 → Ordered kind n (ltb n.functions functions_most)
  unfolding in_order_of both
  function-order e z z' = record { says = λ P same. rw (e, empty-is P.inputs (same.input_count ∙ z), empty-is P.nodes (same.node_count ∙ z'), same.function_count) }

  pub type-order : kind ≡ type_kind → n.functions ≡ 0 → n.inputs ≡ 0 → n.nodes ≡ 0 → Ordered kind n (ltb n.types types_most)
  unfolding in_order_of both
  type-order e z z' z'' = record { says = λ P same. rw (e, empty-is P.functions (same.function_count ∙ z), empty-is P.inputs (same.input_count ∙ z'), empty-is P.nodes (same.node_count ∙ z''), same.type_count) }

  module _ {b : Bool} {k : ℕ} (is : b ≡ eqb k 0) (some : k ≡ 0 → ⊥) where
    pub input-late : kind ≡ input_kind → k ≤ n.nodes → Ordered kind n b
    unfolding in_order_of both
    input-late e le = record { says = λ P same. rw (e, is, ne_eqb k 0 some) (by same (is_empty P.nodes) refl) }
      where
        by : {P : File} → Counted n P → (t : Bool) → is_empty P.nodes ≡ t → false ≡ both t (ltb (length P.inputs) inputs_most)
        by {P} same true h = absurd (some (omega (arith, same.node_count, length_none P.nodes h)))
        by same false h = refl

    pub function-late : kind ≡ function_kind → k ≤ n.inputs + n.nodes → Ordered kind n b
    unfolding in_order_of both
    function-late e le = record { says = λ P same. rw (e, is, ne_eqb k 0 some) (by same (both (is_empty P.inputs) (is_empty P.nodes)) refl) }
      where
        by : {P : File} → Counted n P → (t : Bool) → both (is_empty P.inputs) (is_empty P.nodes) ≡ t → false ≡ both t (ltb (length P.functions) functions_most)
        by {P} same true h = absurd (some (omega (arith, same.input_count, same.node_count, length_none P.inputs (both_left _ _ h), length_none P.nodes (both_right _ _ h))))
        by same false h = refl

    pub type-late : kind ≡ type_kind → k ≤ n.functions + n.inputs + n.nodes → Ordered kind n b
    unfolding in_order_of both
    type-late e le = record { says = λ P same. rw (e, is, ne_eqb k 0 some) (by same (both (is_empty P.functions) (both (is_empty P.inputs) (is_empty P.nodes))) refl) }
      where
        by : {P : File} → Counted n P → (t : Bool) → both (is_empty P.functions) (both (is_empty P.inputs) (is_empty P.nodes)) ≡ t → false ≡ both t (ltb (length P.types) types_most)
        by {P} same true h =
            let behind : both (is_empty P.inputs) (is_empty P.nodes) ≡ true = both_right (is_empty P.functions) (both (is_empty P.inputs) (is_empty P.nodes)) h in
            absurd (some (omega (arith, same.function_count, same.input_count, same.node_count, length_none P.functions (both_left _ _ h), length_none P.inputs (both_left _ _ behind), length_none P.nodes (both_right _ _ behind))))
        by same false h = refl
