-- A text that is not read, or what its file's writing gives.
use Rattle.reader.specs.Indexes.{read-indexes}
use Rattle.writer.specs.FileLaws.{is-cleared, write_done, write-unread}
use borrow.Author.Rules.{rules}
use Rattle.writer.proofs.write.Goals as goal

pub returns-in_default : goal.returns-in_default
returns-in_default c = write-unread c.args.buffer.now (search rules) c.read-x.ensures c.in_default.is c.from.ensures

pub write_read-requires : goal.write_read-requires
write_read-requires c = record { read_indexed = read-indexes c.read-x.ensures c.in-Ok.is; cleared = is-cleared c.args.buffer.now (search rules) }

pub returns : goal.returns
returns c = rw c.from-2.ensures (write_done c.args.buffer.now (search rules) c.write_read.ensures)
