-- `number` meets its contract, return by return.
use Rattle.heads.specs.HeadLaws.{number-missing, number_read}
use Rattle.heads.proofs.number.Goals as goal

pub returns-in_default : goal.returns-in_default
returns-in_default c = number-missing c.requires c.int.ensures c.in_default.is c.missing.ensures

pub returns : goal.returns
returns c = number_read c.requires c.int.ensures c.in-Ok.is
