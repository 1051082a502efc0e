-- The word of a record's result type.
use Rattle.instances.specs.Listed.{result_word}
use Rattle.instances.proofs.result_word.Goals as goal

pub returns : goal.returns
unfolding result_word
returns c = c.word_at.ensures
