-- Two words stored, and the fields made zero.
use Rattle.state_words.specs.WriteLaws.{leaf-written}
use Rattle.state_words.proofs.put_leaf.Goals as goal

pub returns : goal.returns
returns c = leaf-written c.args.state.now c.args.cell c.state_length-at.result c.args.tag c.args.value c.state_length-at.ensures c.requires c.clear_part.ensures
