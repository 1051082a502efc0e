-- `one_operand` meets its contract, return by return.
use Rattle.heads.specs.HeadLaws.{operand-missing, operand_read}
use Rattle.heads.proofs.one_operand.Goals as goal

pub returns-in_default : goal.returns-in_default
returns-in_default c = operand-missing c.requires.coded c.requires.other_code c.byte.ensures c.in_default.is c.missing.ensures

pub returns-in-16 : goal.returns-in-16
returns-in-16 c = record { shows = operand_read c.requires.coded 0x10 c.in-16.is c.byte.ensures c.in-Ok.is }

pub returns-in-18 : goal.returns-in-18
returns-in-18 c = record { shows = operand_read c.requires.coded 0x12 c.in-18.is c.byte.ensures c.in-Ok.is }

pub returns-in-19 : goal.returns-in-19
returns-in-19 c = record { shows = operand_read c.requires.coded 0x13 c.in-19.is c.byte.ensures c.in-Ok.is }

pub returns-in-20 : goal.returns-in-20
returns-in-20 c = record { shows = operand_read c.requires.coded 0x14 c.in-20.is c.byte.ensures c.in-Ok.is }

pub returns-in-23 : goal.returns-in-23
returns-in-23 c = record { shows = operand_read c.requires.coded 0x17 c.in-23.is c.byte.ensures c.in-Ok.is }

pub returns-in-24 : goal.returns-in-24
returns-in-24 c = record { shows = operand_read c.requires.coded 0x18 c.in-24.is c.byte.ensures c.in-Ok.is }

pub returns-in-26 : goal.returns-in-26
returns-in-26 c = record { shows = operand_read c.requires.coded 0x1A c.in-26.is c.byte.ensures c.in-Ok.is }

pub returns-in-28 : goal.returns-in-28
returns-in-28 c = record { shows = operand_read c.requires.coded 0x1C c.in-28.is c.byte.ensures c.in-Ok.is }
