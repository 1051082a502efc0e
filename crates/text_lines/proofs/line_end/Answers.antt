-- What is found behind the pairs of digits decides whether the line is one that LF ends and that has bytes.
use native.Mathlib.Omega.{arith}
use Rattle.text_lines.specs.LinesSpell.{end-beyond, end-missing, end-other, end_empty, end-found}
use Rattle.text_lines.specs.DigitMarks.{strict-pairs}
use Rattle.text_lines.proofs.line_end.Goals as goal

pub returns-then-text-at : goal.returns-then-text-at
returns-then-text-at c = end-beyond _ _ c.if-text-at.true

pub pairs_end-end-requires : goal.pairs_end-end-requires
pairs_end-end-requires c = omega (arith, c.if-text-at.false)

pub returns-then-text-end : goal.returns-then-text-end
returns-then-text-end c = end-missing _ _ (strict-pairs _ _ c.pairs_end-end.ensures c.digit_marks-digits.ensures) c.if-text-end.true c.if-text-at.false

pub bounds-text-end : goal.bounds-text-end
bounds-text-end c = c.if-text-end.false

pub returns-then-text-end-ne-LINE_FEED : goal.returns-then-text-end-ne-LINE_FEED
returns-then-text-end-ne-LINE_FEED c = end-other _ _ (strict-pairs _ _ c.pairs_end-end.ensures c.digit_marks-digits.ensures) c.if-text-end.false c.if-text-end-ne-LINE_FEED.true

pub returns-then-end-at : goal.returns-then-end-at
returns-then-end-at c = end_empty _ _ (strict-pairs _ _ c.pairs_end-end.ensures c.digit_marks-digits.ensures) c.if-text-end.false c.if-text-end-ne-LINE_FEED.false c.if-end-at.true

pub returns : goal.returns
returns c = end-found _ _ (strict-pairs _ _ c.pairs_end-end.ensures c.digit_marks-digits.ensures) c.if-text-end.false c.if-text-end-ne-LINE_FEED.false c.if-end-at.false
