use native.Mathlib.Omega.{arith}
use Rattle.text_lines.specs.RuleChars.{close-beyond, close-feed, close_other, close-cut, close-inside, close-return}
use Rattle.text_lines.proofs.rule_lines.line_close.Goals as goal

pub returns-then-text-at : goal.returns-then-text-at
returns-then-text-at c = close-beyond _ _ c.if-text-at.true

pub overflow_add-behind : goal.overflow_add-behind
overflow_add-behind c = omega (arith, c.if-text-at.false)

pub bounds-text-at : goal.bounds-text-at
bounds-text-at c = c.if-text-at.false

pub returns-then-text-at-eq-LINE_FEED : goal.returns-then-text-at-eq-LINE_FEED
returns-then-text-at-eq-LINE_FEED c = close-feed _ _ c.if-text-at.false c.if-text-at-eq-LINE_FEED.true

pub bounds-text-at-2 : goal.bounds-text-at-2
bounds-text-at-2 c = c.if-text-at.false

pub returns-then-text-at-ne-CARRIAGE_RETURN : goal.returns-then-text-at-ne-CARRIAGE_RETURN
returns-then-text-at-ne-CARRIAGE_RETURN c = close_other _ _ c.if-text-at.false c.if-text-at-eq-LINE_FEED.false c.if-text-at-ne-CARRIAGE_RETURN.true

pub returns-then-text-behind : goal.returns-then-text-behind
returns-then-text-behind c = close-cut _ _ c.if-text-at.false c.if-text-at-ne-CARRIAGE_RETURN.false c.if-text-behind.true

pub bounds-text-behind : goal.bounds-text-behind
bounds-text-behind c = c.if-text-behind.false

pub returns-then-text-behind-ne-LINE_FEED : goal.returns-then-text-behind-ne-LINE_FEED
returns-then-text-behind-ne-LINE_FEED c = close-inside _ _ c.if-text-behind.false c.if-text-at-ne-CARRIAGE_RETURN.false c.if-text-behind-ne-LINE_FEED.true

pub overflow_add-next : goal.overflow_add-next
overflow_add-next c = omega (arith, c.if-text-behind.false)

pub returns : goal.returns
returns c = close-return _ _ c.if-text-behind.false c.if-text-at-ne-CARRIAGE_RETURN.false c.if-text-behind-ne-LINE_FEED.false
