-- The result type of a function is the one spelled in its line at the place that the index tells.
use Rattle.plain_types.specs.ReadLaws.{returned-none, returned-is}
use Rattle.plain_types.proofs.words.returned.Goals as goal

pub returns-in_default : goal.returns-in_default
returns-in_default c = returned-none _ _ _ c.line_behind_types-i.ensures c.frame_line-line.ensures c.result_start.ensures c.result_type.ensures c.in_default.is

pub returns : goal.returns
returns c = returned-is _ _ _ c.line_behind_types-i.ensures c.frame_line-line.ensures c.result_start.ensures c.result_type.ensures c.in-Some.is
