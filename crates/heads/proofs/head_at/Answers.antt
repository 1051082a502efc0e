-- `head_at` meets its contract, return by return.
use Rattle.heads.specs.HeadLaws.{code-missing, code_read, code_is}
use Rattle.heads.proofs.head_at.Goals as goal

pub returns-in_default : goal.returns-in_default
returns-in_default c = code-missing c.byte.ensures c.in_default.is c.missing.ensures

pub number-requires : goal.number-requires
number-requires c = code_is c.byte.ensures 0x11 c.in-Ok.is c.in-17.is

pub construct-requires : goal.construct-requires
construct-requires c = code_is c.byte.ensures 0x19 c.in-Ok.is c.in-25.is

pub one_operand-requires-clause-coded : goal.one_operand-requires-clause-coded
one_operand-requires-clause-coded c = code_read c.byte.ensures c.in-Ok.is

pub returns-in-21 : goal.returns-in-21
returns-in-21 c = record { shows = code_is c.byte.ensures 0x15 c.in-Ok.is c.in-21.is }

pub returns-in-22 : goal.returns-in-22
returns-in-22 c = record { shows = code_is c.byte.ensures 0x16 c.in-Ok.is c.in-22.is }

pub returns-in-27 : goal.returns-in-27
returns-in-27 c = record { shows = code_is c.byte.ensures 0x1B c.in-Ok.is c.in-27.is }
