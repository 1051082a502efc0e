use Prim.Native.Nat.{◌≤◌}
use mathlib.Core.Path.{◌≡◌}
use Rattle.index.specs.Sections.{frames_of}
use Rattle.index.specs.Indexed.{frame_place}
use Rattle.evaluation_steps.specs.Forms.{end_after}
use Rattle.evaluation_steps.proofs.forms.branch_at.Given as goal

abbrev pub invariant-loop : goal.invariant-loop
invariant-loop l = (l.counter ≤ l.c) × (l.at.at ≡ end_after l.ends (frame_place (frames_of l.index) l.line) l.initial.at.at l.counter)
