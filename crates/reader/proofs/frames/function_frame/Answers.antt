-- A function: its parameters, result, conditions, measure and body, and the words of its entry.
use Rattle.std.proofs.Common.{sym, ◌∙◌}
use Rattle.language.specs.HandedOn.{handed_on}
use Rattle.reader.specs.Channels.{follows-as}
use Rattle.reader.specs.Functions.{function-no-parameters, function-no-result, function-no-conditions, function-no-measure, function-no-body, function-read}
use Rattle.reader.proofs.frames.function_frame.Goals as goal

pub returns-in_err-c : goal.returns-in_err-c
returns-in_err-c c = rw (handed_on c.from_residual.ensures ∙ sym c.in_err-c.was) (function-no-parameters _ _ _ c.requires.at_value c.parameters.ensures c.in_err-c.was)

pub returns-in_err-d : goal.returns-in_err-d
returns-in_err-d c = rw (handed_on c.from_residual-in_err-d.ensures ∙ sym c.in_err-d.was) (function-no-result _ _ _ c.requires.at_value c.parameters.ensures c.in_ok-c.was c.named-sizes.ensures c.result.ensures c.in_err-d.was)

pub returns-in_err-m : goal.returns-in_err-m
returns-in_err-m c = rw (handed_on c.from_residual-in_err-m.ensures ∙ sym c.in_err-m.was) (function-no-conditions _ _ _ c.requires.at_value c.parameters.ensures c.in_ok-c.was c.named-sizes.ensures c.result.ensures c.in_ok-d.was c.conditions.ensures c.in_err-m.was)

pub returns-in_err-b : goal.returns-in_err-b
returns-in_err-b c = rw (handed_on c.from_residual-in_err-b.ensures ∙ sym c.in_err-b.was) (function-no-measure _ _ _ c.requires.at_value c.parameters.ensures c.in_ok-c.was c.named-sizes.ensures c.result.ensures c.in_ok-d.was c.conditions.ensures c.in_ok-m.was c.measure.ensures c.in_err-b.was)

pub returns-in_err-next : goal.returns-in_err-next
returns-in_err-next c = rw (handed_on c.from_residual-in_err-next.ensures ∙ sym c.in_err-next.was) (function-no-body _ _ _ c.requires.at_value c.parameters.ensures c.in_ok-c.was c.named-sizes.ensures c.result.ensures c.in_ok-d.was c.conditions.ensures c.in_ok-m.was c.measure.ensures c.in_ok-b.was c.arity.ensures.0 (follows-as c.inside-s.ensures c.expr.ensures) c.in_err-next.was)

pub returns : goal.returns
returns c = rw (sym c.in_ok-next.was) (function-read _ _ _ c.requires.at_value c.parameters.ensures c.in_ok-c.was c.named-sizes.ensures c.result.ensures c.in_ok-d.was c.conditions.ensures c.in_ok-m.was c.measure.ensures c.in_ok-b.was c.requires.fits c.arity.ensures.0 (follows-as c.inside-s.ensures c.expr.ensures) c.place.ensures c.place-2.ensures c.place-3.ensures c.place-4.ensures c.put_places.ensures)
