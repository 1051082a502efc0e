-- A text that is not read, or what its file's iteration gives.
use Rattle.std.proofs.Common.{refl}
use Rattle.checker.specs.ReadLaws.{read_held}
use Rattle.runtime.specs.IterateLaws.{is-clear, iterate-unread, iterate-done}
use Rattle.runtime.proofs.iterate.Goals as goal

pub returns-in-Err : goal.returns-in-Err
returns-in-Err c = iterate-unread _ _ _ _ _ _ c.clear_both.ensures c.in-Err.ensures refl c.from.ensures

pub iterate_read-r-requires : goal.iterate_read-r-requires
iterate_read-r-requires c = record { read_held = read_held c.in_default.ensures refl; cleared = is-clear c.clear_both.ensures }

pub returns : goal.returns
returns c = iterate-done _ _ _ _ _ _ c.clear_both.ensures c.iterate_read-r.ensures c.clear.ensures c.from-2.ensures
