use native.Mathlib.Omega.{arith}
use Rattle.text.specs.IntLaws.{int-spaced, int-found}
use Rattle.text.proofs.unspaced_int.Goals as goal

pub returns-then-line-lt-INT_DIGITS : goal.returns-then-line-lt-INT_DIGITS
returns-then-line-lt-INT_DIGITS c = int-spaced

pub returns-then-line-at : goal.returns-then-line-at
returns-then-line-at c = int-spaced

pub returns-then-line-at-eq-SPACE : goal.returns-then-line-at-eq-SPACE
returns-then-line-at-eq-SPACE c = int-spaced

pub returns-then-line-at-eq-SPACE-2 : goal.returns-then-line-at-eq-SPACE-2
returns-then-line-at-eq-SPACE-2 c = int-spaced

pub returns-then-line-at-eq-SPACE-3 : goal.returns-then-line-at-eq-SPACE-3
returns-then-line-at-eq-SPACE-3 c = int-spaced

pub returns-then-line-at-eq-SPACE-4 : goal.returns-then-line-at-eq-SPACE-4
returns-then-line-at-eq-SPACE-4 c = int-spaced

pub returns : goal.returns
returns c = int-found (omega arith) c.if-line-at-eq-SPACE.false c.if-line-at-eq-SPACE-2.false c.if-line-at-eq-SPACE-3.false c.if-line-at-eq-SPACE-4.false
