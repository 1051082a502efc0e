-- A text that is not read, or what its file's start gives.
use Rattle.std.proofs.Common.{refl, length}
use Rattle.checker.specs.ReadLaws.{read_held}
use Rattle.startup.specs.StartLaws.{start-unread, start-from-file}
use Rattle.startup.proofs.start_words.Goals as goal

pub returns-in-Err : goal.returns-in-Err
returns-in-Err c = start-unread _ _ _ _ _ _ c.clear_both.ensures (length c.args.words.now) c.in-Err.ensures refl c.from.ensures c.clear.ensures

pub start_read-r-requires : goal.start_read-r-requires
start_read-r-requires c = read_held c.in_default.ensures refl

pub returns : goal.returns
returns c = start-from-file _ _ _ _ _ _ c.clear_both.ensures c.start_read-r.ensures c.clear-2.ensures
