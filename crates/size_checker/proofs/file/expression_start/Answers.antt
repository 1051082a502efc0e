-- The update where it is asked for, else the initial value.
use Prim.Native.Nat.{◌+◌, ◌*◌}
use mathlib.Core.Bool.{Bool}
use mathlib.Core.Path.{sym, ap, ◌∙◌}
use lib.ListN.{get_or}
use Rattle.index.specs.Tables.{channel_words}
use Rattle.index.specs.Sections.{channels_of}
use Rattle.size_laws.specs.FileParts.{entry_word}
use Rattle.size_checker.proofs.file.expression_start.Goals as goal

pub returns-then-update : goal.returns-then-update
returns-then-update c = c.update_start.ensures ∙ ap (λ (b : Bool). get_or (channels_of c.args.index.now) (channel_words * c.args.c + entry_word b) 0) (sym c.if-update.true)

pub returns : goal.returns
returns c = c.initial_start.ensures ∙ ap (λ (b : Bool). get_or (channels_of c.args.index.now) (channel_words * c.args.c + entry_word b) 0) (sym c.if-update.false)
