-- A whole file: initial values, then updates.
use Rattle.std.proofs.Common.{sym, ◌∙◌}
use borrow.Author.Rules.{rules}
use Rattle.language.specs.HandedOn.{handed_on}
use mathlib.Core.Path.{◌∙◌}
use Rattle.size_laws.specs.FileLaws.{file-first, file-done, file-by}
use Rattle.size_checker.proofs.file.sized_file.Goals as goal

pub returns-in_err-a : goal.returns-in_err-a
returns-in_err-a c = rw (handed_on c.from_residual.ensures ∙ sym c.in_err-a.was) (file-by (file-first (c.frame_counts-counts.ensures.0) c.initials.ensures.sized c.in_err-a.was) (search rules))

pub channels_from-requires : goal.channels_from-requires
channels_from-requires c = c.initials.ensures.sized.few c.in_ok-a.was

pub returns : goal.returns
returns c = file-by (file-done (c.frame_counts-counts.ensures.0) c.initials.ensures.sized c.in_ok-a.was c.channels_from.ensures.sized) (search rules)
