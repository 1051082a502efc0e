-- The text is judged, and where no refusal comes it is read.
use Rattle.language.specs.HandedOn.{handed_on}
use Rattle.reader.specs.TextLaws.{text-ready, text-refused}
use Rattle.reader.proofs.read_into.Goals as goal

pub returns-in_err-n : goal.returns-in_err-n
returns-in_err-n c = text-refused c.requires c.judge.ensures c.in_err-n.was (handed_on c.from_residual.ensures)

pub read_frames-requires : goal.read_frames-requires
read_frames-requires c = text-ready c.requires c.judge.ensures c.in_ok-n.was
