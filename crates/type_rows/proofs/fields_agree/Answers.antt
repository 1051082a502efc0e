-- Values against the fields of a constructor, one by one.
use Rattle.type_rows.specs.AgreeLaws.{agree-not, agree_on, agree-end}
use Rattle.type_rows.proofs.fields_agree.Goals as goal

pub returns-then-not-field_agrees : goal.returns-then-not-field_agrees
returns-then-not-field_agrees c = agree-not c.fields-n.ensures c.loop-i.invariant c.loop-i-test.true c.field_word-field.ensures c.word_at-word.ensures c.field_agrees.ensures c.if-not-field_agrees.true

pub loop-i-preserved : goal.loop-i-preserved
loop-i-preserved c = agree_on c.fields-n.ensures c.loop-i.invariant c.loop-i-test.true c.field_word-field.ensures c.word_at-word.ensures c.field_agrees.ensures c.if-not-field_agrees.false

pub returns : goal.returns
returns c = agree-end c.fields-n.ensures c.loop-i.invariant c.loop-i-test.false
