use Rattle.size_laws.specs.Promises.{lent_by, table_of, SameList}
use Rattle.size_laws.specs.FileParts.{entry_word}
use Rattle.size_laws.specs.ChannelsLaws.{Along}
use Rattle.size_checker.proofs.file.channels_from.Given as goal

abbrev pub invariant-loop-c : goal.invariant-loop-c
invariant-loop-c l = Along (lent_by l.source) (table_of l.initial.instances) l.n l.from (entry_word l.update) l.used l.c (table_of l.instances) l.all × SameList l.initial.instances l.instances
