-- The frames of a file within the limits are read, one after the other, to that file.
use Rattle.std.specs.Prelude.{ℕ, suc, ◌+◌, ◌≤◌, ◌<◌, ◌≡◌, refl, length}
use mathlib.Core.List.{List, [], ◌∷◌, ◌++◌, map, append_assoc, append-nil}
use Rattle.std.proofs.Common.{arith, add-one, length-append, lt-ltb}
use Rattle.language.specs.Limits.{types_most, functions_most, inputs_most, nodes_most}
use Rattle.language.specs.Refusals.{bad_frame}
use Rattle.language.specs.Result.{ok, no, bind, need, from, both, choose}
use Rattle.language.specs.Syntax.{Node, File}
use Rattle.language.specs.Format.{file_frames}
use Rattle.language.specs.Within.{All, all_cons, WithinTypes, wt_cons, WithinFunctions, wf_cons, WithinInput, WithinNode, Within}
use Rattle.language.specs.Parser.{decode}
use Rattle.language.specs.Text.{is_empty}
use Rattle.language.specs.Reader.{in_order_of, with_type, with_function, with_input, with_node, read_kind, read_frame, read_frames, empty_file}
use Rattle.theory.specs.Exact.{whole_back}
use Rattle.theory.specs.ExactFrames.{type-exact, function-exact, input-exact, NodeAmong, node-exact}
use Rattle.theory.specs.FileFrames.{file, frame_of_type, frame_of_function, frame_of_input, frame_of_node}

-- the frames ls, wherever they stand, lead from the file f to g
data Leads (channels : ℕ) : File → List (List ℕ) → File → Type 0 where
  stay : {f : File} → Leads channels f [] f
  step : {f g h : File} {l : List ℕ} {ls : List (List ℕ)} → ((frame : ℕ) → read_frame channels frame f l ≡ ok g) → Leads channels g ls h → Leads channels f (l ∷ ls) h

leads-append : {channels : ℕ} {f g h : File} {ls ms : List (List ℕ)} → Leads channels f ls g → Leads channels g ms h → Leads channels f (ls ++ ms) h
leads-append stay y = y
leads-append (step r x) y = step r (leads-append x y)

leads-read : {channels : ℕ} {f g : File} {ls : List (List ℕ)} → Leads channels f ls g → 1 ≤ length g.nodes → (frame : ℕ) → read_frames channels frame f ls ≡ ok g
unfolding read_frames choose bind is_empty
leads-read {f} stay some frame = go f.nodes some
  where
    go : (ns : List Node) → 1 ≤ length ns → choose (is_empty ns) (no bad_frame frame) (ok f) ≡ ok f
    go [] some = absurd (omega arith)
    go (n ∷ ns) some = refl
leads-read (step r x) some frame = rw (r frame) (leads-read x some (suc frame))

-- ---- frames of one kind
-- put l is the file in which the list of that kind is l, and W says which lists may follow l: of such a list the first is read
abbrev OneMore : {A : Type 0} → ℕ → ℕ → (A → List ℕ) → (List A → File) → (List A → List A → Type 0) → Type 0
OneMore {A} channels most spell put W = (l : List A) (a : A) (more : List A) → W l (a ∷ more) → length l < most →
    ((frame : ℕ) → read_frame channels frame (put l) (spell a) ≡ ok (put (l ++ (a ∷ [])))) × W (l ++ (a ∷ [])) more

module _ {A : Type 0} (channels most : ℕ) (spell : A → List ℕ) (put : List A → File) (W : List A → List A → Type 0) (one_more : OneMore channels most spell put W) where
  kind-leads : (l more : List A) → W l more → length l + length more ≤ most → Leads channels (put l) (map spell more) (put (l ++ more))
  kind-leads l [] w fits = rw append-nil stay
  kind-leads l (a ∷ more) w fits =
      let m = one_more l a more w (omega arith) in
      step m.0 (rw (append_assoc l (a ∷ []) more) at (kind-leads (l ++ (a ∷ [])) more m.1 (rw length-append (omega arith))))

module _ (P : File) (channels : ℕ) where
  type-more : OneMore channels types_most frame_of_type (λ l. file l [] [] []) (λ l more. WithinTypes (length l) more)
  unfolding read_frame read_kind in_order_of is_empty both decode choose from need bind with_type
  type-more l d more (wt_cons w ws) lt = (
    λ frame. rw (lt-ltb (length l) types_most lt, whole_back (type-exact (file l [] [] [])) frame d (record { some = w.some; few = w.few; each = w.constructors }), w.free),
    rw (length-append, add-one) ws,
  )

  function-more : OneMore channels functions_most frame_of_function (λ l. file P.types l [] []) (WithinFunctions P.types)
  unfolding read_frame read_kind in_order_of is_empty both decode choose from need bind with_function
  function-more l F more (wf_cons w ws) lt = (λ frame. rw (lt-ltb (length l) functions_most lt, whole_back (function-exact (file P.types l [] [])) frame F w), ws)

  input-more : OneMore channels inputs_most frame_of_input (λ l. file P.types P.functions l []) (λ l more. All (WithinInput P) more)
  unfolding read_frame read_kind in_order_of is_empty both decode choose from need bind with_input
  input-more l i more (all_cons w ws) lt =
      (λ frame. rw (lt-ltb (length l) inputs_most lt, whole_back (input-exact (file P.types P.functions l [])) frame i (record { declared = w.declared; initial = w.initial })), ws)

  -- where so many channels are said as the file has
  module _ (all : length P.inputs + length P.nodes ≡ channels) where
    node-more : OneMore channels nodes_most frame_of_node (λ l. file P.types P.functions P.inputs l) (λ l more. All (WithinNode P) more)
    unfolding read_frame read_kind in_order_of decode choose from need bind with_node
    node-more l n more (all_cons w ws) lt =
        (λ frame. rw (lt-ltb (length l) nodes_most lt, whole_back (node-exact channels (file P.types P.functions P.inputs l)) frame n among), ws)
      where
        among : NodeAmong channels (file P.types P.functions P.inputs l) n
        among = record { declared = w.declared; initial = w.initial; update = rw all at w.update }

    -- ---- all frames of a file
    pub frames-back : Within P → (frame : ℕ) → read_frames channels frame empty_file (file_frames P) ≡ ok P
    unfolding file_frames
    frames-back w = leads-read (leads-append types (leads-append functions (leads-append inputs nodes))) w.some_node
      where
        types : Leads channels empty_file (map frame_of_type P.types) (file P.types [] [] [])
        types = kind-leads channels types_most frame_of_type _ (λ l more. WithinTypes (length l) more) type-more [] P.types w.types (omega (arith, w.few_types))

        functions : Leads channels (file P.types [] [] []) (map frame_of_function P.functions) (file P.types P.functions [] [])
        functions = kind-leads channels functions_most frame_of_function _ (WithinFunctions P.types) function-more [] P.functions w.functions (omega (arith, w.few_functions))

        inputs : Leads channels (file P.types P.functions [] []) (map frame_of_input P.inputs) (file P.types P.functions P.inputs [])
        inputs = kind-leads channels inputs_most frame_of_input _ (λ l more. All (WithinInput P) more) input-more [] P.inputs w.inputs (omega (arith, w.few_inputs))

        nodes : Leads channels (file P.types P.functions P.inputs []) (map frame_of_node P.nodes) P
        nodes = kind-leads channels nodes_most frame_of_node _ (λ l more. All (WithinNode P) more) node-more [] P.nodes w.nodes (omega (arith, w.few_nodes))
