-- What the functions promise that check a frame, and the first frame whose plain types disagree.
use Rattle.std.specs.Prelude.{Option, Some, None}
use Rattle.std.specs.Prelude.{ℕ, zero, suc, ◌+◌, ◌≤◌, ◌<◌, List, [], ◌++◌, map, Bool, true, ◌≡◌, length, get_or}
use Rattle.std.proofs.Math.Option.{some}
use Rattle.std.proofs.Math.ListN.{get_elem? as look}
use Rattle.language.specs.Limits.{nesting_most}
use Rattle.language.specs.Syntax.{Plain, pbool, Ty, Expr, Function, Node, File, function_frame}
use Rattle.language.specs.Scope.{Scope, outer_scope}
use Rattle.language.specs.Within.{WithinDeclared, WithinExpr, WithinNode}
use Rattle.language.specs.PlainTypes.{is_plain, plain_of, plain_function, plain_initial, plain_input, plain_node}
use Rattle.theory.specs.Tests.{first_refused}
use Rattle.encoding.specs.FrameLines.{line_at}
use Rattle.encoding.specs.Known.{Known}
use Rattle.index.specs.Sections.{channels_of}
use Rattle.index.specs.Indexed.{declared_at, channel_line, line_count, ChannelIndexed, NodeIndexed, Indexed}
use Rattle.heads.specs.declared.places.Place.{Place}
use Rattle.plain_types.specs.Agrees.{meaning}
use Rattle.plain_types.specs.Words.{type_at}
use Rattle.plain_types.specs.Asks.{Part}

-- ---- a place of a file that was read, outside all functions: no variable is in scope
pub record Outer (text index : List ℕ) (line : ℕ) (P : File) (C : List Plain) (S : Scope) : Type 0 where
  pub indexed : Indexed text index P
  pub less : line < line_count P
  pub known : Known P S
  pub channel : (c : ℕ) → c < length C → meaning (type_at (declared_at (channels_of index) c)) ≡ get_or C c pbool
  pub channels : S.channels ≤ length C
  pub none : S.variables ≡ 0

module _ (text index : List ℕ) where
  pub record FunctionFits (f : ℕ) (r : Bool) : Type 0 where
    pub says : {P : File} {F : Function} → Indexed text index P → look P.functions f ≡ some F → r ≡ plain_function P F

  pub record ValueFits (p : Place) (c : ℕ) (r : Bool) : Type 0 where
    pub says : {P : File} {C : List Plain} {S : Scope} {e : Expr} {end : ℕ} (τ : Plain) → p.variables ≡ 0 → Outer text index p.line P C S →
        Part (line_at text p.line) p.levels S p.at.at e end → meaning (type_at (declared_at (channels_of index) c)) ≡ τ → r ≡ is_plain τ (plain_of P C e [])

  -- channel c has the frame i behind the types
  pub record InitialFits (i c : ℕ) (r : Bool) : Type 0 where
    pub says : {P : File} {τ : Ty} {e : Expr} → Indexed text index P → i ≡ length P.functions + c → c < length P.inputs + length P.nodes →
        ChannelIndexed (line_at text (channel_line P c)) (channels_of index) c τ e → WithinDeclared (length P.types) τ → WithinExpr nesting_most (outer_scope P.types P.functions 0) e → r ≡ plain_initial P τ e

  pub record NodeFits (i c : ℕ) (r : Bool) : Type 0 where
    pub says : {P : File} {n : Node} → Indexed text index P → i ≡ length P.functions + c → c < length P.inputs + length P.nodes →
        NodeIndexed (line_at text (channel_line P c)) (channels_of index) c n → WithinNode P n → r ≡ plain_node P n

-- ---- the definition's tests, in the order of the frames
abbrev pub frame_tests : File → List Bool
frame_tests P = map (plain_function P) P.functions ++ (map (plain_input P) P.inputs ++ map (plain_node P) P.nodes)

-- the first frame whose plain types disagree, or 0
abbrev pub refused_frame : File → ℕ
refused_frame P = first_refused (function_frame P 0) (frame_tests P)

-- a frame, from 1; none for 0
abbrev pub named_frame : ℕ → Option ℕ
named_frame zero = None
named_frame (suc n) = Some (suc n)

module _ (text index : List ℕ) where
  pub record FrameFits (i : ℕ) (r : Bool) : Type 0 where
    pub says : {P : File} → Indexed text index P → r ≡ get_or (frame_tests P) i true

  pub record JudgesAll (r : Option ℕ) : Type 0 where
    pub says : {P : File} → Indexed text index P → r ≡ named_frame (refused_frame P)
