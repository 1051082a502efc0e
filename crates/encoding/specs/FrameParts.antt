-- The four kinds of frames: where the parts of each are spelled in its line.
use Rattle.std.specs.Prelude.{ℕ, List, [], ◌∷◌, ◌++◌, ◌≡◌, refl, length}
use Rattle.std.proofs.Common.{append-nil, sym, ◌∙◌, arith}
use Rattle.language.specs.Syntax.{Constructor, TypeDef, Ty, Function, Input, Node}
use Rattle.language.specs.Format.{spell_all, field_bytes, plain_bytes, declared_bytes, result_bytes, expr_bytes, condition_bytes, constructor_bytes, type_bytes, function_bytes, input_bytes, node_bytes}
use Rattle.text.specs.Bytes.{bytes_of}
use Rattle.text.specs.Places.{past, byte_at, bytes-start, start-is-place, past-append}
use Rattle.theory.specs.FileFrames.{frame_of_type, frame_of_function, frame_of_input, frame_of_node}
use Rattle.encoding.specs.Spells.{Spells, themselves, spells-byte, spells-first, spells-next, SpellsTwo, SpellsThree, two-behind, three-behind}

-- a line whose bytes are those of one thing spells it from its first byte on
pub whole-spelled : {A : Type 0} {bytes : A → List ℕ} {line : List ℕ} {a : A} → bytes_of line ≡ bytes a → Spells bytes line 0 a
whole-spelled {bytes} {line} {a} e = record { rest = []; is = bytes-start line ∙ e ∙ sym (append-nil (bytes a)); within = start-is-place line }

-- ---- a type: a count and its constructors; of a constructor, a count and its fields
pub record TypeSpelled (line : List ℕ) (d : TypeDef) : Type 0 where
  pub kind : byte_at line 0 ≡ 0x01
  pub count : byte_at line (past line 0 1) ≡ length d
  pub constructors : Spells (spell_all constructor_bytes) line (past line 0 2) d

pub type-parts : {line : List ℕ} {d : TypeDef} → bytes_of line ≡ frame_of_type d → TypeSpelled line d
unfolding type_bytes
type-parts {line} {d} e =
    let s : Spells frame_of_type line 0 d = whole-spelled e in
    record { kind = spells-first s (omega arith); count = spells-byte s 1 (omega arith); constructors = spells-next s (0x01 ∷ length d ∷ []) refl }

pub record ConstructorSpelled (line : List ℕ) (at : ℕ) (fs : Constructor) : Type 0 where
  pub count : byte_at line at ≡ length fs
  pub fields : Spells (spell_all field_bytes) line (past line at 1) fs
  pub ends : past line at (length (constructor_bytes fs)) ≡ past line (past line at 1) (length (spell_all field_bytes fs))

pub constructor-parts : {line : List ℕ} {at : ℕ} {fs : Constructor} → Spells constructor_bytes line at fs → ConstructorSpelled line at fs
unfolding constructor_bytes
constructor-parts {line} {at} {fs} s = record { count = spells-first s (omega arith); fields = spells-next s (length fs ∷ []) refl; ends = past-append line at (length fs ∷ []) (spell_all field_bytes fs) }

-- ---- a function: where its result, the counts of its conditions and measures, and its body stand
abbrev pub result_place : List ℕ → Function → ℕ
result_place line F = past line (past line 0 2) (length (spell_all plain_bytes F.parameters))

abbrev pub conditions_place : List ℕ → Function → ℕ
conditions_place line F = past line (result_place line F) (length (result_bytes F.result))

abbrev pub measure_place : List ℕ → Function → ℕ
measure_place line F = past line (past line (conditions_place line F) 1) (length (spell_all condition_bytes F.conditions))

abbrev pub body_place : List ℕ → Function → ℕ
body_place line F = past line (past line (measure_place line F) 1) (length F.measure)

pub record FunctionSpelled (line : List ℕ) (F : Function) : Type 0 where
  pub kind : byte_at line 0 ≡ 0x02
  pub parameter_count : byte_at line (past line 0 1) ≡ length F.parameters
  pub parameters : Spells (spell_all plain_bytes) line (past line 0 2) F.parameters
  pub result : Spells result_bytes line (result_place line F) F.result
  pub condition_count : byte_at line (conditions_place line F) ≡ length F.conditions
  pub conditions : Spells (spell_all condition_bytes) line (past line (conditions_place line F) 1) F.conditions
  pub measure_count : byte_at line (measure_place line F) ≡ length F.measure
  pub measure : Spells themselves line (past line (measure_place line F) 1) F.measure
  pub body : Spells expr_bytes line (body_place line F) F.body

pub function-parts : {line : List ℕ} {F : Function} → bytes_of line ≡ frame_of_function F → FunctionSpelled line F
unfolding function_bytes
function-parts {line} {F} e =
    let s : Spells frame_of_function line 0 F = whole-spelled e in
    let measured : List ℕ = length F.measure ∷ F.measure ++ expr_bytes F.body in
    let conditioned : List ℕ = length F.conditions ∷ spell_all condition_bytes F.conditions ++ measured in
    let typed : SpellsThree (spell_all plain_bytes) result_bytes themselves line (past line 0 2) F.parameters F.result conditioned = three-behind (0x02 ∷ length F.parameters ∷ []) refl s in
    let asked : SpellsTwo (spell_all condition_bytes) themselves line (past line (conditions_place line F) 1) F.conditions measured = two-behind (length F.conditions ∷ []) refl typed.last in
    let done : SpellsTwo themselves expr_bytes line (past line (measure_place line F) 1) F.measure F.body = two-behind (length F.measure ∷ []) refl asked.next in
    record {
      kind = spells-first s (omega arith);
      parameter_count = spells-byte s 1 (omega arith);
      parameters = typed.spelled;
      result = typed.next;
      condition_count = spells-first typed.last (omega arith);
      conditions = asked.spelled;
      measure_count = spells-first asked.next (omega arith);
      measure = done.spelled;
      body = done.next;
    }

-- ---- an input and a node: where their initial values and a node's update stand
abbrev pub initial_place : List ℕ → Ty → ℕ
initial_place line τ = past line (past line 0 1) (length (declared_bytes τ))

abbrev pub update_place : List ℕ → Node → ℕ
update_place line n = past line (initial_place line n.declared) (length (expr_bytes n.initial))

pub record InputSpelled (line : List ℕ) (i : Input) : Type 0 where
  pub kind : byte_at line 0 ≡ 0x03
  pub declared : Spells declared_bytes line (past line 0 1) i.declared
  pub initial : Spells expr_bytes line (initial_place line i.declared) i.initial

pub input-parts : {line : List ℕ} {i : Input} → bytes_of line ≡ frame_of_input i → InputSpelled line i
unfolding input_bytes
input-parts {line} {i} e =
    let s : Spells frame_of_input line 0 i = whole-spelled e in
    let two : SpellsTwo declared_bytes expr_bytes line (past line 0 1) i.declared i.initial = two-behind (0x03 ∷ []) refl s in
    record { kind = spells-first s (omega arith); declared = two.spelled; initial = two.next }

pub record NodeSpelled (line : List ℕ) (n : Node) : Type 0 where
  pub kind : byte_at line 0 ≡ 0x04
  pub declared : Spells declared_bytes line (past line 0 1) n.declared
  pub initial : Spells expr_bytes line (initial_place line n.declared) n.initial
  pub update : Spells expr_bytes line (update_place line n) n.update

pub node-parts : {line : List ℕ} {n : Node} → bytes_of line ≡ frame_of_node n → NodeSpelled line n
unfolding node_bytes
node-parts {line} {n} e =
    let s : Spells frame_of_node line 0 n = whole-spelled e in
    let three : SpellsThree declared_bytes expr_bytes expr_bytes line (past line 0 1) n.declared n.initial n.update = three-behind (0x04 ∷ []) refl s in
    record { kind = spells-first s (omega arith); declared = three.spelled; initial = three.next; update = three.last }
