-- Whether there is a node; if so, the counts are written.
use Rattle.std.proofs.Common.{arith}
use Rattle.reader.specs.Texts.{without_node, with-node}
use Rattle.reader.proofs.finish.Goals as goal

pub returns-then-known-eq0 : goal.returns-then-known-eq0
returns-then-known-eq0 c = without_node c.if-known-eq0.true

pub returns : goal.returns
returns c = with-node c.if-known-eq0.false c.put_counts.ensures (omega arith)
