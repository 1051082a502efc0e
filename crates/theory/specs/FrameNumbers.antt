-- The frames of a file are numbered from 1 on: those of its functions and channels are among them. What an answer's frame may be.
use Rattle.std.specs.Prelude.{ℕ, ◌+◌, ◌≤◌, ◌<◌, List, ◌≡◌, refl, length}
use Rattle.std.proofs.Math.Option.{some}
use Rattle.std.proofs.Common.{arith}
use Rattle.std.proofs.Math.ListN.{get_elem? as look}
use Rattle.language.specs.Refusals.{no_frame, bad_line, heap_short, heap_spent, buffer_short}
use Rattle.language.specs.Syntax.{Function, File, function_frame, channel_frame}
use Rattle.language.specs.Answers.{frame_count, FrameNamed}
use Rattle.theory.specs.Lists.{look-less}

abbrev pub channel_total : File → ℕ
channel_total P = length P.inputs + length P.nodes

abbrev pub frame_total : File → ℕ
frame_total P = length P.types + length P.functions + channel_total P

pub record FrameOf (P : File) (frame : ℕ) : Type 0 where
  pub least : 1 ≤ frame
  pub most : frame ≤ frame_total P

pub function-frame : (P : File) (f : ℕ) {F : Function} → look P.functions f ≡ some F → FrameOf P (function_frame P f)
function-frame P f e = omega (arith, look-less P.functions f e)

pub channel-frame : (P : File) (c : ℕ) → c < channel_total P → FrameOf P (channel_frame P c)
channel-frame P c less = omega arith

-- ---- the frame of an answer
module _ {t : List ℕ} {n : ℕ} where
  pub frame-named : {frame : ℕ} → 1 ≤ frame → frame ≤ frame_count t → bad_line ≤ n → (heap_short ≤ n → heap_spent ≤ n) → (n ≡ buffer_short → ⊥) → FrameNamed t n frame
  frame-named first last low gap other = record {
    none = λ few. absurd (omega arith);
    none_at_board = λ many few. absurd (omega (arith, gap many));
    none_at_buffer = λ is. absurd (other is);
    least = λ _ _. first;
    least_in_run = λ _ _. first;
    least_in_order = λ _. first;
    most = λ _. last;
    one_after = omega arith;
  }

  pub no-frame-named : (bad_line ≤ n → heap_short ≤ n) → (heap_spent ≤ n → n ≡ buffer_short) → FrameNamed t n no_frame
  no-frame-named gap high = record {
    none = λ _. refl;
    none_at_board = λ _ _. refl;
    none_at_buffer = λ _. refl;
    least = λ low few. absurd (omega (arith, gap low));
    least_in_run = λ many few. absurd (omega (arith, high many));
    least_in_order = λ is. absurd (omega (arith, high (omega arith)));
    most = λ _. omega arith;
    one_after = omega arith;
  }
