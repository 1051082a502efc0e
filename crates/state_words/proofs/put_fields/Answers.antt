-- The words of the fields stored one by one.
use mathlib.Core.Path.{◌∙◌, sym, refl}
use native.Mathlib.Omega.{arith}
use lib.ListN.{take}
use Rattle.language.specs.Limits.{fields_most}
use Rattle.theory.specs.Padding.{padded-length}
use Rattle.index.specs.Padded.{padded-at}
use Rattle.state_words.specs.RowLaws.{stored_on, stored-end}
use Rattle.state_words.proofs.put_fields.Goals as goal

pub loop-j-preserved : goal.loop-j-preserved
loop-j-preserved c = stored_on c.loop-j.invariant (omega (arith, padded-length fields_most (take c.args.n c.args.fields.now))) (c.word_of_first.ensures ∙ sym (padded-at fields_most (take c.args.n c.args.fields.now) c.loop-j.j c.loop-j-test.true)) refl

pub returns : goal.returns
returns c = stored-end c.loop-j.invariant (omega (arith, c.loop-j-test.false, padded-length fields_most (take c.args.n c.args.fields.now)))
