use Rattle.state_words.specs.Words.{channel_at, row_of}
use Rattle.marking.specs.Marks.{Touched}
use Rattle.marking.proofs.mark_channels.Given as goal

abbrev pub invariant-loop-c : goal.invariant-loop-c
invariant-loop-c l = Touched (row_of (channel_at l.state) l.c) l.initial.marks l.marks
