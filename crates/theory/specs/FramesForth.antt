-- What readFrames accepts is the frames of the file that it gives, and that file is within the limits of its frames.
use Rattle.std.specs.Prelude.{ℕ, suc, ◌+◌, ◌≤◌, true, ◌≡◌, length, ltb}
use mathlib.Core.List.{List, [], ◌∷◌, ◌++◌, append_assoc, append-nil}
use Rattle.std.proofs.Common.{sym, ◌∙◌, arith, add-zero, length-append, ltb-true}
use Rattle.std.proofs.Math.Nat.{zero-add}
use Rattle.language.specs.Limits.{types_most, functions_most, inputs_most, nodes_most}
use Rattle.language.specs.Refusals.{bad_frame, no_base_constructor}
use Rattle.language.specs.Result.{ok, no, both, choose}
use Rattle.language.specs.Syntax.{TypeDef, Function, Input, Node, File, self_free}
use Rattle.language.specs.Format.{file_frames}
use Rattle.language.specs.Within.{All, all_nil, all_cons, WithinType, WithinTypes, wt_nil, wt_cons, WithinFunction, WithinFunctions, wf_nil}
use Rattle.language.specs.Within.{wf_cons, WithinInput, WithinNode}
use Rattle.language.specs.Text.{is_empty}
use Rattle.language.specs.Reader.{Kind, type_kind, function_kind, input_kind, node_kind, kinds, in_order_of, with_type, with_function, with_input, with_node, read_kind, read_frame, read_frames}
use Rattle.theory.specs.Lists.{false-is-not-true}
use Rattle.theory.specs.Alls.{all_map, all_snoc}
use Rattle.theory.specs.Outcomes.{Sat, sat-ok, sat-no, outcome-map, sat-bind, sat-need, sat-from}
use Rattle.theory.specs.Exact.{Byte, whole-forth}
use Rattle.theory.specs.ExactParts.{Entries, entry, no_entry, entries-decode}
use Rattle.theory.specs.ExactFrames.{type-exact, function-exact, input-exact, NodeAmong, node-exact}
use Rattle.theory.specs.ExactText.{Filled, filled}
use Rattle.theory.specs.FileFrames.{file, type-frames, function-frames, input-frames, node-frames}

-- ---- one more at the end of a list within the limits
one_later : (earlier n : ℕ) → earlier + suc n ≡ suc earlier + n
one_later earlier n = omega arith

types_snoc : {earlier : ℕ} {ds : List TypeDef} {d : TypeDef} → WithinTypes earlier ds → WithinType (earlier + length ds) d → WithinTypes earlier (ds ++ (d ∷ []))
types_snoc wt_nil w = wt_cons (rw add-zero at w) wt_nil
types_snoc (wt_cons {earlier} {ds} v ws) w = wt_cons v (types_snoc ws (rw (one_later earlier (length ds)) at w))

functions-snoc : {types : List TypeDef} {earlier Fs : List Function} {F : Function} → WithinFunctions types earlier Fs →
    WithinFunction types (earlier ++ Fs) F → WithinFunctions types earlier (Fs ++ (F ∷ []))
functions-snoc wf_nil w = wf_cons (rw append-nil at w) wf_nil
functions-snoc {earlier} (wf_cons {F = G} {Fs = Gs} v ws) w = wf_cons v (functions-snoc ws (rw (← append_assoc earlier (G ∷ []) Gs) at w))

-- ---- what has been read so far
-- the limits of the frames read; how many nodes there will be shows in the number of channels only
pub record SoFar (channels : ℕ) (f : File) : Type 0 where
  pub few_types : length f.types ≤ types_most
  pub few_functions : length f.functions ≤ functions_most
  pub few_inputs : length f.inputs ≤ inputs_most
  pub few_nodes : length f.nodes ≤ nodes_most
  pub types : WithinTypes 0 f.types
  pub functions : WithinFunctions f.types [] f.functions
  pub inputs : All (WithinInput f) f.inputs
  pub nodes : (ns : List Node) → length f.inputs + length ns ≡ channels → All (WithinNode (file f.types f.functions f.inputs ns)) f.nodes

-- an input sees the types and functions, and no channel
input-anywhere : {ts : List TypeDef} {Fs : List Function} {is js : List Input} {ns ms : List Node} {i : Input} → WithinInput (file ts Fs is ns) i → WithinInput (file ts Fs js ms) i
input-anywhere w = record { declared = w.declared; initial = w.initial }

-- a node among so many channels, in a file that has them
node-among : {channels : ℕ} {ts : List TypeDef} {Fs : List Function} {is : List Input} {ns ms : List Node} {n : Node} → length is + length ms ≡ channels →
    NodeAmong channels (file ts Fs is ns) n → WithinNode (file ts Fs is ms) n
node-among e w = record { declared = w.declared; initial = w.initial; update = rw e w.update }

grown : {A : Type 0} (l : List A) (a : A) (most : ℕ) → ltb (length l) most ≡ true → length (l ++ (a ∷ [])) ≤ most
grown l a most test = rw length-append (omega (arith, ltb-true (length l) most test))

-- the frame l leads from f to g
record Next (channels : ℕ) (f : File) (l : List ℕ) (g : File) : Type 0 where
  so_far : SoFar channels g
  frames : file_frames g ≡ file_frames f ++ (l ∷ [])

module _ (channels frame : ℕ) (bs : List ℕ) (small : All Byte bs) where
  -- a frame of a kind, whose number is b, that comes in order
  abbrev NextOf : ℕ → Kind → Type 0
  NextOf b kind = (ts : List TypeDef) (Fs : List Function) (is : List Input) (ns : List Node) → SoFar channels (file ts Fs is ns) → in_order_of kind (file ts Fs is ns) ≡ true →
      Sat (Next channels (file ts Fs is ns) (b ∷ bs)) (read_kind channels frame (file ts Fs is ns) bs kind)

  type-next : NextOf 0x01 type_kind
  unfolding in_order_of both is_empty read_kind with_type
  type-next ts [] [] [] so order =
      sat-bind (whole-forth (type-exact (file ts [] [] [])) frame bs small) λ d W.
      sat-need (self_free d) no_base_constructor frame λ free.
      let w : WithinType (length ts) d = record { some = W.0.some; few = W.0.few; constructors = W.0.each; free = free } in
      sat-ok (record {
        so_far = record {
          few_types = grown ts d types_most order;
          few_functions = so.few_functions;
          few_inputs = so.few_inputs;
          few_nodes = so.few_nodes;
          types = types_snoc so.types (rw zero-add w);
          functions = wf_nil;
          inputs = all_nil;
          nodes = λ ns e. all_nil;
        };
        frames = rw W.1 (type-frames ts d);
      })
  type-next ts [] [] (n ∷ ns) so order = false-is-not-true order
  type-next ts [] (i ∷ is) ns so order = false-is-not-true order
  type-next ts (F ∷ Fs) is ns so order = false-is-not-true order

  function-next : NextOf 0x02 function_kind
  unfolding in_order_of both is_empty read_kind with_function
  function-next ts Fs [] [] so order =
      sat-bind (whole-forth (function-exact (file ts Fs [] [])) frame bs small) λ F W.
      sat-ok (record {
        so_far = record {
          few_types = so.few_types;
          few_functions = grown Fs F functions_most order;
          few_inputs = so.few_inputs;
          few_nodes = so.few_nodes;
          types = so.types;
          functions = functions-snoc so.functions W.0;
          inputs = all_nil;
          nodes = λ ns e. all_nil;
        };
        frames = rw W.1 (function-frames ts Fs F);
      })
  function-next ts Fs [] (n ∷ ns) so order = false-is-not-true order
  function-next ts Fs (i ∷ is) ns so order = false-is-not-true order

  input-next : NextOf 0x03 input_kind
  unfolding in_order_of both is_empty read_kind with_input
  input-next ts Fs is [] so order =
      sat-bind (whole-forth (input-exact (file ts Fs is [])) frame bs small) λ i W.
      sat-ok (record {
        so_far = record {
          few_types = so.few_types;
          few_functions = so.few_functions;
          few_inputs = grown is i inputs_most order;
          few_nodes = so.few_nodes;
          types = so.types;
          functions = so.functions;
          inputs = all_snoc (all_map (λ j. input-anywhere) so.inputs) (input-anywhere W.0);
          nodes = λ ns e. all_nil;
        };
        frames = rw W.1 (input-frames ts Fs is i);
      })
  input-next ts Fs is (n ∷ ns) so order = false-is-not-true order

  node-next : NextOf 0x04 node_kind
  unfolding in_order_of read_kind with_node
  node-next ts Fs is ns so order =
      sat-bind (whole-forth (node-exact channels (file ts Fs is ns)) frame bs small) λ n W.
      sat-ok (record {
        so_far = record {
          few_types = so.few_types;
          few_functions = so.few_functions;
          few_inputs = so.few_inputs;
          few_nodes = grown ns n nodes_most order;
          types = so.types;
          functions = so.functions;
          inputs = all_map (λ j. input-anywhere) so.inputs;
          nodes = λ ms e. all_snoc (so.nodes ms e) (node-among e W.0);
        };
        frames = rw W.1 (node-frames ts Fs is ns n);
      })

-- ---- frame after frame
frame-forth : (channels frame : ℕ) (f : File) (l : List ℕ) → Filled l → SoFar channels f → Sat (Next channels f l) (read_frame channels frame f l)
unfolding read_frame
frame-forth channels frame f (k ∷ bs) (filled w small) so = sat-from bad_frame frame (entries-decode entries k) λ kind next. sat-need (in_order_of kind f) bad_frame frame next
  where
    entries : Entries (λ b kind. in_order_of kind f ≡ true → Sat (Next channels f (b ∷ bs)) (read_kind channels frame f bs kind)) 0x01 kinds
    entries =
        entry (type-next channels frame bs small f.types f.functions f.inputs f.nodes so) (
        entry (function-next channels frame bs small f.types f.functions f.inputs f.nodes so) (
        entry (input-next channels frame bs small f.types f.functions f.inputs f.nodes so) (
        entry (node-next channels frame bs small f.types f.functions f.inputs f.nodes so) no_entry)))
frame-forth channels frame f [] x'' so = elim x'' [ ]

-- P is the file that the frames ls give, which some node is among
pub record AllRead (channels : ℕ) (ls : List (List ℕ)) (P : File) : Type 0 where
  pub so_far : SoFar channels P
  pub frames : file_frames P ≡ ls
  pub some_node : 1 ≤ length P.nodes

pub frames-forth : (channels frame : ℕ) (f : File) (ls : List (List ℕ)) → All Filled ls → SoFar channels f → Sat (AllRead channels (file_frames f ++ ls)) (read_frames channels frame f ls)
unfolding read_frames choose is_empty
frames-forth channels frame f [] lines so = go f.nodes (λ some. record { so_far = so; frames = sym (append-nil (file_frames f)); some_node = some })
  where
    go : (ns : List Node) → (1 ≤ length ns → AllRead channels (file_frames f ++ []) f) → Sat (AllRead channels (file_frames f ++ [])) (choose (is_empty ns) (no bad_frame frame) (ok f))
    go [] read = sat-no
    go (n ∷ ns) read = sat-ok (read (omega arith))
frames-forth channels frame f (l ∷ ls) (all_cons w lines) so =
    sat-bind (frame-forth channels frame f l w so) λ g G.
    outcome-map (λ P R. record { so_far = R.so_far; frames = R.frames ∙ rw G.frames (append_assoc (file_frames f) (l ∷ []) ls); some_node = R.some_node })
    (frames-forth channels (suc frame) g ls lines G.so_far)
