-- The frames of a file, kind by kind: what one more at the end adds, and how many are channels.
use Rattle.std.specs.Prelude.{ℕ, ◌+◌, ◌*◌, List, [], ◌∷◌, ◌++◌, map, ◌≡◌, refl, length}
use Rattle.std.proofs.lemmas.List.{map-append}
use Rattle.std.proofs.Common.{append_assoc, append-nil, arith, zero-mul, suc-mul}
use Rattle.language.specs.Result.{one_of, choose}
use Rattle.language.specs.Syntax.{TypeDef, Function, Input, Node, File}
use Rattle.language.specs.Format.{type_bytes, function_bytes, input_bytes, node_bytes, file_frames}
use Rattle.language.specs.Reader.{is_channel, channel_count}

abbrev pub file : List TypeDef → List Function → List Input → List Node → File
file ts Fs is ns = record { types = ts; functions = Fs; inputs = is; nodes = ns }

abbrev pub frame_of_type : TypeDef → List ℕ
frame_of_type d = 0x01 ∷ type_bytes d

abbrev pub frame_of_function : Function → List ℕ
frame_of_function F = 0x02 ∷ function_bytes F

abbrev pub frame_of_input : Input → List ℕ
frame_of_input i = 0x03 ∷ input_bytes i

abbrev pub frame_of_node : Node → List ℕ
frame_of_node n = 0x04 ∷ node_bytes n

-- ---- one frame more at the end, where none of a later kind stands
pub type-frames : (ts : List TypeDef) (d : TypeDef) → file_frames (file (ts ++ (d ∷ [])) [] [] []) ≡ file_frames (file ts [] [] []) ++ (frame_of_type d ∷ [])
unfolding file_frames
type-frames ts d = rw (map-append frame_of_type ts (d ∷ [])) (regroup (map frame_of_type ts) (frame_of_type d ∷ []))
  where
    regroup : (t x : List (List ℕ)) → t ++ x ++ [] ≡ t ++ [] ++ x
    regroup t x = simp append-nil

pub function-frames : (ts : List TypeDef) (Fs : List Function) (F : Function) → file_frames (file ts (Fs ++ (F ∷ [])) [] []) ≡ file_frames (file ts Fs [] []) ++ (frame_of_function F ∷ [])
unfolding file_frames
function-frames ts Fs F = rw (map-append frame_of_function Fs (F ∷ [])) (regroup (map frame_of_type ts) (map frame_of_function Fs) (frame_of_function F ∷ []))
  where
    regroup : (t f x : List (List ℕ)) → t ++ (f ++ x ++ []) ≡ t ++ (f ++ []) ++ x
    regroup t f x = simp (append-nil, append_assoc)

pub input-frames : (ts : List TypeDef) (Fs : List Function) (is : List Input) (i : Input) →
    file_frames (file ts Fs (is ++ (i ∷ [])) []) ≡ file_frames (file ts Fs is []) ++ (frame_of_input i ∷ [])
unfolding file_frames
input-frames ts Fs is i = rw (map-append frame_of_input is (i ∷ [])) (regroup (map frame_of_type ts) (map frame_of_function Fs) (map frame_of_input is) (frame_of_input i ∷ []))
  where
    regroup : (t f c x : List (List ℕ)) → t ++ (f ++ (c ++ x ++ [])) ≡ t ++ (f ++ (c ++ [])) ++ x
    regroup t f c x = simp (append-nil, append_assoc)

pub node-frames : (ts : List TypeDef) (Fs : List Function) (is : List Input) (ns : List Node) (n : Node) →
    file_frames (file ts Fs is (ns ++ (n ∷ []))) ≡ file_frames (file ts Fs is ns) ++ (frame_of_node n ∷ [])
unfolding file_frames
node-frames ts Fs is ns n = rw (map-append frame_of_node ns (n ∷ [])) (regroup (map frame_of_type ts) (map frame_of_function Fs) (map frame_of_input is) (map frame_of_node ns) (frame_of_node n ∷ []))
  where
    regroup : (t f c m x : List (List ℕ)) → t ++ (f ++ (c ++ (m ++ x))) ≡ t ++ (f ++ (c ++ m)) ++ x
    regroup t f c m x = simp append_assoc

-- ---- channels are counted over the "frames that begin with 03 or 04"
count-kind : {A : Type 0} (frame : A → List ℕ) (n : ℕ) → ((a : A) → choose (is_channel (frame a)) 1 0 ≡ n) → (l : List A) (ls : List (List ℕ)) →
    channel_count (map frame l ++ ls) ≡ length l * n + channel_count ls
unfolding channel_count
count-kind frame n each [] ls = rw zero-mul (omega arith)
count-kind frame n each (a ∷ l) ls = rw (each a, count-kind frame n each l ls, suc-mul) (omega arith)

pub channels-of-file : (P : File) → channel_count (file_frames P) ≡ length P.inputs + length P.nodes
unfolding file_frames is_channel one_of choose channel_count
channels-of-file P = omega (arith, types, functions, inputs, nodes)
  where
    after : List (List ℕ)
    after = map frame_of_input P.inputs ++ map frame_of_node P.nodes

    types : channel_count (file_frames P) ≡ length P.types * 0 + channel_count (map frame_of_function P.functions ++ after)
    types = count-kind frame_of_type 0 (λ d. refl) P.types (map frame_of_function P.functions ++ after)

    functions : channel_count (map frame_of_function P.functions ++ after) ≡ length P.functions * 0 + channel_count after
    functions = count-kind frame_of_function 0 (λ F. refl) P.functions after

    inputs : channel_count after ≡ length P.inputs * 1 + channel_count (map frame_of_node P.nodes)
    inputs = count-kind frame_of_input 1 (λ i. refl) P.inputs (map frame_of_node P.nodes)

    nodes : channel_count (map frame_of_node P.nodes) ≡ length P.nodes * 1 + 0
    nodes = rw (append-nil (map frame_of_node P.nodes)) at (count-kind frame_of_node 1 (λ n. refl) P.nodes [])
