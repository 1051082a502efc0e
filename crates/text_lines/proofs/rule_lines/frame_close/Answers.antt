use Rattle.std.proofs.Common.{◌∙◌}
use Rattle.text_lines.specs.RuleLineLaws.{closed-frame, unclosed-frame}
use Rattle.text_lines.proofs.rule_lines.frame_close.Goals as goal

pub returns-in_err-next : goal.returns-in_err-next
returns-in_err-next c = c.from_residual.ensures ∙ unclosed-frame _ _ c.line_close.ensures c.in_err-next.was

pub returns : goal.returns
returns c = closed-frame _ _ c.line_close.ensures c.in_ok-next.was
