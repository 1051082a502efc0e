-- A channel below the word's bits is the set of itself; of another nothing is said.
use Rattle.ends.specs.Gathered.{gathers-one, gathers-bitless}
use Rattle.ends.proofs.walk.named.Goals as goal

pub returns-then-channel-lt-WORD_BITS : goal.returns-then-channel-lt-WORD_BITS
returns-then-channel-lt-WORD_BITS c = gathers-one _ c.single.ensures

pub returns : goal.returns
returns c = gathers-bitless _ c.if-channel-lt-WORD_BITS.false
