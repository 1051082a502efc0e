-- The sizes at fields of the type itself, summed one by one.
use Rattle.type_rows.specs.SumLaws.{summed-own, summed-other, summed-end}
use Rattle.type_rows.proofs.own_sum.Goals as goal
use Rattle.type_rows.proofs.own_sum.Goals.{then-field_word-eq-OWN_FIELD, else-field_word-eq-OWN_FIELD}

pub loop-i-preserved : goal.loop-i-preserved
loop-i-preserved c =
    elim c.if-field_word-eq-OWN_FIELD.branch [
      | then-field_word-eq-OWN_FIELD w ↦ summed-own c.fields-n.ensures c.loop-i.invariant c.loop-i-test.true c.field_word.ensures w.if-field_word-eq-OWN_FIELD.true w.word_at.ensures w.size_in-sum.ensures w.sum-is
      | else-field_word-eq-OWN_FIELD w ↦ summed-other c.fields-n.ensures c.loop-i.invariant c.loop-i-test.true c.field_word.ensures w.if-field_word-eq-OWN_FIELD.false w.sum-is
    ]

pub returns : goal.returns
returns c = summed-end c.fields-n.ensures c.loop-i.invariant c.loop-i-test.false
