-- The section of frames is lent, and one entry of it written.
use Prim.Native.Nat.{◌+◌, ◌*◌}
use mathlib.Core.Path.{◌≡◌}
use native.Mathlib.Omega.{arith}
use lib.ListN.{set}
use Rattle.index.specs.Tables.{frame_words}
use Rattle.index.specs.Sections.{frames_from, frame_table_words}
use Rattle.index.specs.SectionLaws.{section-lent}
use Rattle.index_writer.proofs.put_frame.Goals as goal

pub returns : goal.returns
returns c = section-lent (λ a b. b ≡ set (set a (frame_words * c.args.i) c.args.place) (frame_words * c.args.i + 1) c.args.size)
    frames_from frame_table_words _ _ (omega arith) c.frame_into.auto.frames c.frame_into.ensures
