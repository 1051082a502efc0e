-- A frame: its kind and order, what stands behind the kind, and its end.
use Rattle.std.specs.Prelude.{Result as Outcome, Ok, Err, Option as Maybe, Some, None}
use Rattle.language.specs.declared.refusals.Refusal.{Refusal}
use Rattle.language.specs.declared.refusals.Refusal.TheVariants.{BadLength}
use Rattle.text.specs.Bytes.{Step}
use Rattle.std.specs.Prelude.{ℕ, ◌+◌, List, Bool, ◌≡◌, ltb}
use Rattle.std.proofs.Math.Option.{Option, none, some}
use Rattle.language.specs.Result.{choose}
use Rattle.language.specs.Syntax.{File}
use Rattle.language.specs.Reader.{Kind, type_kind, function_kind, input_kind, node_kind, in_order_of}
use Rattle.text.specs.Places.{past, bytes_left}
use Rattle.index.specs.declared.Counts.{Counts}
use Rattle.index.specs.Indexed.{Counted}
use Rattle.reader.specs.declared.frames.Kind.{Kind as CodeKind}
use Rattle.reader.specs.declared.frames.Kind.TheVariants.{«Type» as OfType, Function, Input, Node}

-- the place behind the kind
abbrev pub kind_end : List ℕ → ℕ
kind_end line = past line 0 1

-- what a frame gives: the counts with it, or its refusal
abbrev pub Frame : Type 0
Frame = Outcome Counts Refusal

-- the kind that the code's names
abbrev pub meant : CodeKind → Kind
meant OfType = type_kind
meant Function = function_kind
meant Input = input_kind
meant Node = node_kind

abbrev pub the_kind : Maybe CodeKind → Option Kind
the_kind (Some k) = some (meant k)
the_kind None = none

-- a frame of this kind may come next
pub record Ordered (kind : Kind) (n : Counts) (r : Bool) : Type 0 where
  pub says : (P : File) → Counted n P → r ≡ in_order_of kind P

-- the frame's answer at the end of what was read: 4 where bytes go on
abbrev pub ended_as : List ℕ → Step → Counts → Frame
ended_as line (Err k) n = Err k
ended_as line (Ok c) n = choose (ltb 0 (bytes_left line c.at)) (Err BadLength) (Ok n)

-- one frame of a kind more
abbrev pub one_more_of : Kind → Counts → Counts
one_more_of type_kind n = record { types = n.types + 1; functions = n.functions; inputs = n.inputs; nodes = n.nodes }
one_more_of function_kind n = record { types = n.types; functions = n.functions + 1; inputs = n.inputs; nodes = n.nodes }
one_more_of input_kind n = record { types = n.types; functions = n.functions; inputs = n.inputs + 1; nodes = n.nodes }
one_more_of node_kind n = record { types = n.types; functions = n.functions; inputs = n.inputs; nodes = n.nodes + 1 }
