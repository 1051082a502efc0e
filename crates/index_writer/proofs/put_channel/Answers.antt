-- The section of channels is lent, and one entry of it written.
use Prim.Native.Nat.{◌+◌, ◌*◌}
use mathlib.Core.Path.{◌≡◌}
use native.Mathlib.Omega.{arith}
use lib.ListN.{set}
use Rattle.index.specs.Tables.{channel_words}
use Rattle.index.specs.Sections.{channels_from, channel_table_words}
use Rattle.index.specs.SectionLaws.{section-lent}
use Rattle.index_writer.proofs.put_channel.Goals as goal

pub returns : goal.returns
returns c = section-lent (λ a b. b ≡ set (set (set a (channel_words * c.args.c) c.args.word) (channel_words * c.args.c + 1) c.args.initial) (channel_words * c.args.c + 2) c.args.update)
    channels_from channel_table_words _ _ (omega arith) c.channel_into.auto.channels c.channel_into.ensures
