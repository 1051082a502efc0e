-- A channel, by the first byte of its line.
use Rattle.text_lines.specs.LinesJudge.{line-without-bytes, input-line, node-line, other-line}
use Rattle.text_lines.proofs.channel.Goals as goal

pub returns-in_default : goal.returns-in_default
returns-in_default c = line-without-bytes c.byte.ensures c.in_default.is

pub returns-then-kind-eq-KIND_INPUT : goal.returns-then-kind-eq-KIND_INPUT
returns-then-kind-eq-KIND_INPUT c = input-line c.byte.ensures c.in-Ok.is c.if-kind-eq-KIND_INPUT.true

pub returns-then-kind-eq-KIND_NODE : goal.returns-then-kind-eq-KIND_NODE
returns-then-kind-eq-KIND_NODE c = node-line c.byte.ensures c.in-Ok.is c.if-kind-eq-KIND_INPUT.false c.if-kind-eq-KIND_NODE.true

pub returns : goal.returns
returns c = other-line c.byte.ensures c.in-Ok.is c.if-kind-eq-KIND_INPUT.false c.if-kind-eq-KIND_NODE.false
