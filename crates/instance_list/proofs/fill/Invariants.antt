-- The first `i` records of the words are laid over empty ones.
use Rattle.std.proofs.Common.{◌≡◌, ◌≤◌, length, replicate}
use Rattle.instance_list.specs.Records.{none, laid}
use Rattle.instance_list.proofs.fill.Given as goal

abbrev pub invariant-loop-i : goal.invariant-loop-i
invariant-loop-i l = record { low : l.i ≤ l.used; laid_so_far : l.list ≡ laid l.words l.i (replicate (length l.fn.list) none) }
