-- A text that is not read, or what its file's check gives.
use Rattle.std.proofs.Common.{refl, length}
use Rattle.checker.specs.ReadLaws.{check-unread, read_held}
use Rattle.checker.specs.Outcomes.{checked}
use Rattle.checker.proofs.check_words.Goals as goal

pub returns-in-Err : goal.returns-in-Err
returns-in-Err c = check-unread (length c.args.words.now) c.in-Err.ensures refl c.from.ensures c.clear.ensures

pub check_read-requires : goal.check_read-requires
check_read-requires c = read_held c.in_default.ensures refl

pub returns : goal.returns
returns c = checked c.lent.ensures c.check_read.ensures
