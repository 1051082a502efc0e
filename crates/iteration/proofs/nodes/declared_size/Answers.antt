-- The size of a channel's declared type.
use mathlib.Core.Path.{◌≡◌, subst}
use Rattle.iteration.specs.Promises.{size_in_word}
use Rattle.iteration.specs.NodeLaws.{word-is-plain, word-is-named}
use Rattle.iteration.proofs.nodes.declared_size.Goals as goal

pub returns-then-word-lt-CONSTRUCTOR_TAGS : goal.returns-then-word-lt-CONSTRUCTOR_TAGS
returns-then-word-lt-CONSTRUCTOR_TAGS c = subst (λ w. 0 ≡ size_in_word w) c.declared_word-word.ensures (word-is-plain _ c.if-word-lt-CONSTRUCTOR_TAGS.true)

pub returns : goal.returns
returns c = subst (λ w. c.word_size.result ≡ size_in_word w) c.declared_word-word.ensures (word-is-named _ c.if-word-lt-CONSTRUCTOR_TAGS.false c.word_size.ensures)
