-- A comment, an empty line, or what the line is as a frame's.
use native.Mathlib.Omega.{arith}
use Rattle.text_lines.specs.RuleLineLaws.{rule-beyond, empty-line, no_extra}
use Rattle.text_lines.proofs.rule_lines.rule_line.Goals as goal

pub returns-then-text-at : goal.returns-then-text-at
returns-then-text-at c = rule-beyond _ _ c.if-text-at.true

pub bounds-text-at : goal.bounds-text-at
bounds-text-at c = c.if-text-at.false

pub comment_line-requires : goal.comment_line-requires
comment_line-requires c = (c.if-text-at.false, c.if-text-at-eq-SEMICOLON.true)

pub returns-then-text-at-eq-SEMICOLON : goal.returns-then-text-at-eq-SEMICOLON
returns-then-text-at-eq-SEMICOLON c = c.comment_line.ensures

pub frame_line-requires : goal.frame_line-requires
frame_line-requires c = (omega (arith, c.if-text-at.false), c.requires)

pub returns-in_default : goal.returns-in_default
returns-in_default c = no_extra _ _ c.if-text-at.false c.if-text-at-eq-SEMICOLON.false c.line_close.ensures c.in_default.is c.frame_line.ensures

pub returns : goal.returns
returns c = empty-line _ _ c.line_close.ensures c.in-Some.is
