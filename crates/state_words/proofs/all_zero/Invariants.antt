use Rattle.state_words.specs.RowLaws.{ZeroTo}
use Rattle.state_words.proofs.all_zero.Given as goal

abbrev pub invariant-loop-word : goal.invariant-loop-word
invariant-loop-word l = ZeroTo l.row l.word-index l.zero
