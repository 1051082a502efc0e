use native.Mathlib.Omega.{arith}
use Rattle.text_lines.specs.RuleLineLaws.{line-fits, line-unended, comment-ended}
use Rattle.text_lines.proofs.rule_lines.comment_line.Goals as goal

pub overflow_add-end : goal.overflow_add-end
overflow_add-end c = omega (arith, line-fits _ _ c.line_at-line.ensures c.requires.0)

pub returns-then-text-end : goal.returns-then-text-end
returns-then-text-end c = line-unended _ _ c.line_at-line.ensures c.if-text-end.true

pub overflow_add-next : goal.overflow_add-next
overflow_add-next c = omega (arith, c.if-text-end.false)

pub returns : goal.returns
returns c = comment-ended _ _ c.line_at-line.ensures c.requires.0 c.requires.1 c.if-text-end.false
