use Rattle.reader.specs.ReadLoop.{FramesTo}
use Rattle.reader.proofs.read_frames.Given as goal

abbrev pub invariant-loop-read : goal.invariant-loop-read
invariant-loop-read l = FramesTo l.text l.frames l.channels l.known l.read l.index
