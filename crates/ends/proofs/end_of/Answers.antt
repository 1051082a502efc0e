-- The frame's place is where its line starts.
use Prim.Native.Nat.{ℕ}
use mathlib.Core.Path.{ap, ◌∙◌}
use Rattle.ends.specs.EndOf.{end_of}
use Rattle.ends.proofs.end_of.Goals as goal

pub returns : goal.returns
returns c = c.end_from.ensures ∙ ap (λ (from : ℕ). end_of c.args.ends.now from c.args.at.at) c.frame_place.ensures
