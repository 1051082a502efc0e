-- The frames of a text: what each adds to the file, and at which frame one is refused.
use Rattle.std.specs.Prelude.{ℕ, suc, ◌+◌, ◌≤◌, List, [], ◌∷◌, false, ◌≡◌, refl, length}
use Rattle.std.proofs.Math.Option.{Option, none, some}
use Rattle.std.proofs.Common.{arith, length-append, le-ltb}
use Rattle.language.specs.Limits.{types_most, functions_most, inputs_most, nodes_most}
use Rattle.language.specs.Refusals.{bad_frame, no_base_constructor}
use Rattle.language.specs.Result.{Result, ok, no, bind, need, from, choose}
use Rattle.language.specs.Syntax.{File, Node}
use Rattle.language.specs.Parser.{Read, got, bad, decode}
use Rattle.language.specs.Text.{is_empty, frame_bytes}
use Rattle.language.specs.Reader.{Kind, type_kind, function_kind, input_kind, node_kind, kinds, whole, type_def, function, input, node, in_order_of, with_type, with_function, with_input, with_node, read_kind, read_frame, read_frames}
use Rattle.theory.specs.Lists.{both-never}
use Rattle.theory.specs.Outcomes.{Outcome, accepted, refused, when-accepted, when-refused, bind-outcome, need-outcome, from-outcome}
use Rattle.theory.specs.Tests.{whenever-is}
use Rattle.theory.specs.ExactText.{Filled, filled, frame-forth}
use Rattle.index.specs.Tables.{frames_most}
use Rattle.index.specs.Indexed.{line_count}

-- ---- a frame has some byte
pub frame-some : (l bs : List ℕ) → frame_bytes l ≡ some bs → 1 ≤ length bs
frame-some l bs e = some_byte (whenever-is (frame-forth l) e).0
  where
    some_byte : {cs : List ℕ} → Filled cs → 1 ≤ length cs
    some_byte (filled w ws) = omega arith

-- ---- a frame is refused under its own number
abbrev AtFrame : {A : Type 0} → ℕ → Result A → Type 0
AtFrame frame r = Outcome (λ a. Unit {0}) (λ n k. k ≡ frame) r

whole-refuses-at : {A : Type 0} (frame : ℕ) (r : Read A) → AtFrame frame (whole frame r)
unfolding whole
whole-refuses-at frame (got a []) = accepted tt
whole-refuses-at frame (got a (b ∷ bs)) = refused refl
whole-refuses-at frame (bad n) = refused refl

-- and where it is taken the file has one frame more
abbrev OneMore : ℕ → File → Result File → Type 0
OneMore frame f r = Outcome (λ g. line_count g ≡ line_count f + 1) (λ n k. k ≡ frame) r

kind-read : (channels frame : ℕ) (f : File) (bs : List ℕ) (k : Kind) → OneMore frame f (read_kind channels frame f bs k)
unfolding read_kind with_type with_function with_input with_node
kind-read channels frame f bs type_kind = bind-outcome (whole-refuses-at frame (type_def f bs)) λ d e q. need-outcome _ no_base_constructor frame (λ e. refl) (λ e. accepted (omega (arith, length-append f.types (d ∷ []))))
kind-read channels frame f bs function_kind = bind-outcome (whole-refuses-at frame (function f bs)) λ d e q. accepted (omega (arith, length-append f.functions (d ∷ [])))
kind-read channels frame f bs input_kind = bind-outcome (whole-refuses-at frame (input f bs)) λ d e q. accepted (omega (arith, length-append f.inputs (d ∷ [])))
kind-read channels frame f bs node_kind = bind-outcome (whole-refuses-at frame (node channels f bs)) λ d e q. accepted (omega (arith, length-append f.nodes (d ∷ [])))

frame-read : (channels frame : ℕ) (f : File) (bs : List ℕ) → OneMore frame f (read_frame channels frame f bs)
unfolding read_frame
frame-read channels frame f [] = refused refl
frame-read channels frame f (b ∷ bs) = from-outcome (decode 0x01 kinds b) 3 frame (λ e. refl) λ k e. need-outcome (in_order_of k f) 3 frame (λ e. refl) (λ e. kind-read channels frame f bs k)

pub refused-at : (channels frame : ℕ) (f : File) (bs : List ℕ) {m k : ℕ} → read_frame channels frame f bs ≡ no m k → k ≡ frame
refused-at channels frame f bs e = when-refused (frame-read channels frame f bs) e

pub one-frame-more : (channels frame : ℕ) (f : File) (bs : List ℕ) {g : File} → read_frame channels frame f bs ≡ ok g → line_count g ≡ line_count f + 1
one-frame-more channels frame f bs e = when-accepted (frame-read channels frame f bs) e

-- ---- where no kind has room for one more, any frame is one too many
pub record Full (f : File) : Type 0 where
  pub types : length f.types ≡ types_most
  pub functions : length f.functions ≡ functions_most
  pub inputs : length f.inputs ≡ inputs_most
  pub nodes : length f.nodes ≡ nodes_most

-- where there are as many frames as all limits together allow
pub full-when : (f : File) → frames_most ≤ line_count f → length f.types ≤ types_most → length f.functions ≤ functions_most → length f.inputs ≤ inputs_most → length f.nodes ≤ nodes_most → Full f
full-when f many types functions inputs nodes = record { types = omega arith; functions = omega arith; inputs = omega arith; nodes = omega arith }

none-in-order : (f : File) → Full f → (k : Kind) → in_order_of k f ≡ false
unfolding in_order_of
none-in-order f full type_kind = both-never _ (le-ltb (length f.types) types_most (omega (arith, full.types)))
none-in-order f full function_kind = both-never _ (le-ltb (length f.functions) functions_most (omega (arith, full.functions)))
none-in-order f full input_kind = both-never _ (le-ltb (length f.inputs) inputs_most (omega (arith, full.inputs)))
none-in-order f full node_kind = le-ltb (length f.nodes) nodes_most (omega (arith, full.nodes))

pub one-too-many : (channels frame : ℕ) (f : File) (bs : List ℕ) → Full f → 1 ≤ length bs → read_frame channels frame f bs ≡ no bad_frame frame
unfolding read_frame from need
one-too-many channels frame f [] full some_byte = absurd (omega arith)
one-too-many channels frame f (b ∷ bs) full some_byte = go (decode 0x01 kinds b)
  where
    go : (o : Option Kind) → from o bad_frame frame (λ kind. need (in_order_of kind f) bad_frame frame (read_kind channels frame f bs kind)) ≡ no bad_frame frame
    go none = refl
    go (some kind) = rw (none-in-order f full kind)

-- ---- one frame of those left
pub frame_refused : (channels frame : ℕ) (f : File) {l : List ℕ} {ls fs : List (List ℕ)} {m k : ℕ} → fs ≡ l ∷ ls → read_frame channels frame f l ≡ no m k → read_frames channels frame f fs ≡ no m frame
unfolding read_frames bind
frame_refused channels frame f {l} e r = rw (e, r, refused-at channels frame f l r)

pub frame-taken : (channels frame : ℕ) (f : File) {g : File} {l : List ℕ} {ls fs : List (List ℕ)} → fs ≡ l ∷ ls → read_frame channels frame f l ≡ ok g → read_frames channels frame f fs ≡ read_frames channels (suc frame) g ls
unfolding read_frames bind
frame-taken channels frame f e r = rw (e, r)

-- ---- after the last frame: whether there is a node
pub no_node : (channels frame : ℕ) (f : File) → length f.nodes ≡ 0 → read_frames channels frame f [] ≡ no bad_frame frame
unfolding read_frames is_empty choose
no_node channels frame f h = go f.nodes h
  where
    go : (ns : List Node) → length ns ≡ 0 → choose (is_empty ns) (no bad_frame frame) (ok f) ≡ no bad_frame frame
    go [] h = refl
    go (n ∷ ns) h = absurd (omega arith)

pub some-node : (channels frame : ℕ) (f : File) → (length f.nodes ≡ 0 → ⊥) → read_frames channels frame f [] ≡ ok f
unfolding read_frames is_empty choose
some-node channels frame f h = go f.nodes h
  where
    go : (ns : List Node) → (length ns ≡ 0 → ⊥) → choose (is_empty ns) (no bad_frame frame) (ok f) ≡ ok f
    go [] h = absurd (h refl)
    go (n ∷ ns) h = refl
