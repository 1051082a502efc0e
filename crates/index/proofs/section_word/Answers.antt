-- A word of a section: the index has it, or the section ends before it.
use Rattle.index.specs.SectionLaws.{section-word, section-beyond}
use Rattle.index.proofs.section_word.Goals as goal

pub returns-then-i-words : goal.returns-then-i-words
returns-then-i-words c = section-word _ _ _ _ c.if-i-words.true

pub returns : goal.returns
returns c = section-beyond _ _ _ _ c.if-i-words.false
