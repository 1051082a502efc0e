-- `construct` meets its contract, return by return.
use Rattle.heads.specs.HeadLaws.{construct-missing, construct-cut, construct-read}
use Rattle.heads.proofs.construct.Goals as goal

pub returns-in_default : goal.returns-in_default
returns-in_default c = construct-missing c.requires c.byte.ensures c.in_default.is c.missing.ensures

pub returns-in_default-byte : goal.returns-in_default-byte
returns-in_default-byte c = construct-cut c.requires c.byte.ensures c.in-Ok.is c.byte-2.ensures c.in_default-byte.is c.missing-in_default-byte.ensures

pub returns : goal.returns
returns c = construct-read c.requires c.byte.ensures c.in-Ok.is c.byte-2.ensures c.in-Ok-byte.is
