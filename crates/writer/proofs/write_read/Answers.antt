-- A file that was read: 24, or its strict text in the buffer.
use Rattle.std.proofs.Common.{refl}
use Rattle.answers.specs.Boards.{answer_of}
use Rattle.writer.specs.FileLaws.{lines-short, buffer-short, text-written}
use Rattle.writer.proofs.write_read.Goals as goal

pub strict_length-size-requires : goal.strict_length-size-requires
strict_length-size-requires c = lines-short c.requires.read_indexed c.frame_count-frames.ensures

pub returns-then-buffer-size : goal.returns-then-buffer-size
unfolding answer_of
returns-then-buffer-size c = buffer-short c.requires.read_indexed c.frame_count-frames.ensures c.requires.cleared c.strict_length-size.ensures c.if-buffer-size.true refl

pub returns : goal.returns
unfolding answer_of
returns c = text-written c.requires.read_indexed c.frame_count-frames.ensures c.requires.cleared c.strict_length-size.ensures c.if-buffer-size.false c.put_lines.ensures refl
