-- An expression of a channel, in a scope of its own.
use Rattle.std.proofs.Common.{sym, ◌∙◌}
use Rattle.language.specs.HandedOn.{handed_on}
use native.Mathlib.Omega.{arith}
use mathlib.Core.Path.{refl, ap}
use Rattle.size_laws.specs.ChannelLaws.{room-outer, channel-refused, channel-differs, channel-done}
use Rattle.size_checker.proofs.file.channel.Goals as goal

pub outer_site-p-requires : goal.outer_site-p-requires
outer_site-p-requires c = c.requires

pub expr-requires : goal.expr-requires
expr-requires c = room-outer c.requires.0 c.requires.1 c.outer_site-p.ensures

pub returns-in_err-a-clause-sized : goal.returns-in_err-a-clause-sized
returns-in_err-a-clause-sized c = rw (handed_on c.from_residual.ensures ∙ sym c.in_err-a.was) (channel-refused c.expression_start-start.ensures c.outer_site-p.ensures c.expr.ensures.sized c.in_err-a.was)

pub overflow_add-result : goal.overflow_add-result
overflow_add-result c = omega (arith, ap (λ z. z.place.line) c.outer_site-p.ensures, c.requires.0.types, c.requires.0.functions, c.requires.1)

pub returns-then-not-is_type-clause-sized : goal.returns-then-not-is_type-clause-sized
returns-then-not-is_type-clause-sized c = channel-differs c.expression_start-start.ensures c.outer_site-p.ensures c.expr.ensures.sized c.in_ok-a.was c.channel_type.ensures c.is_type.ensures c.if-not-is_type.true

pub returns-clause-sized : goal.returns-clause-sized
returns-clause-sized c = channel-done c.expression_start-start.ensures c.outer_site-p.ensures c.expr.ensures.sized c.in_ok-a.was c.channel_type.ensures c.is_type.ensures c.if-not-is_type.false refl
