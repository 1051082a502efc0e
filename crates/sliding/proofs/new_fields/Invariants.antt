use lib.ListN.{get_or}
use Rattle.state_words.specs.Words.{field_at}
use Rattle.sliding.specs.Sliding.{Filled}
use Rattle.sliding.proofs.new_fields.Given as goal

abbrev pub invariant-loop-j : goal.invariant-loop-j
invariant-loop-j l = Filled (λ k. get_or l.marks (field_at l.state l.cell k) 0) l.j l.initial.fields l.fields
