-- `frame_line` meets its contract: the part that the words of the entry name, as far as the text goes.
use native.Mathlib.Omega.{arith}
use Rattle.index.specs.FramePartLaws.{part-beyond, part_to_end, part-whole}
use Rattle.index.proofs.frames.frame_line.Goals as goal

pub returns-then-end-text : goal.returns-then-end-text
returns-then-end-text c = part-whole _ _ _ c.section_word-place.ensures c.section_word-size.ensures

pub returns-then-place-text : goal.returns-then-place-text
returns-then-place-text c = part_to_end _ _ _ c.section_word-place.ensures c.section_word-size.ensures (omega (arith, c.if-end-text.false))

pub returns : goal.returns
returns c = part-beyond _ _ _ c.section_word-place.ensures c.section_word-size.ensures (omega (arith, c.if-place-text.false))
