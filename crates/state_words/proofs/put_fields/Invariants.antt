use lib.ListN.{take}
use Rattle.language.specs.Limits.{fields_most}
use Rattle.language.specs.Layout.{padded}
use Rattle.state_words.specs.RowLaws.{Stored}
use Rattle.state_words.proofs.put_fields.Given as goal

abbrev pub invariant-loop-j : goal.invariant-loop-j
invariant-loop-j l = Stored l.initial.state l.from (padded fields_most (take l.n l.fields)) l.j l.state
