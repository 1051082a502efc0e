-- What a form asks of the index.
use Rattle.std.specs.Prelude.{ℕ, zero, suc, ◌+◌, ◌*◌, ◌%◌, ◌≤◌, ◌<◌, List, Bool, ◌≡◌, get_or, leb}
use Rattle.std.proofs.Common.{le-leb}
use Rattle.std.proofs.lemmas.Bool.{lt-leb}
use Rattle.language.specs.Limits.{byte_range}
use Rattle.language.specs.Codes.{operator_and}
use Rattle.language.specs.Result.{choose}
use Rattle.index.specs.Tables.{type_words, constructor_words, function_words}
use Rattle.heads.specs.declared.Form.{Form}
use Rattle.heads.specs.declared.Form.TheVariants.{Bool as BoolForm, Int, Variable, Now, Last, Let, If, Operator, Call, Construct, Case, Adjust, Fit, Missing}
use Rattle.ends.specs.EndOf.{end_of}

-- whether the left side of the operator of a code may decide
abbrev pub may_decide : ℕ → Bool
may_decide code = leb operator_and code

-- how many sides of an operator are operands
unfoldable pub side_count : ℕ → ℕ
side_count o = choose (may_decide o) 1 2

pub one_side : (o : ℕ) → operator_and ≤ o → side_count o ≡ 1
unfolding side_count choose
one_side o le = rw (le-leb operator_and o le)

pub two-sides : (o : ℕ) → o < operator_and → side_count o ≡ 2
unfolding side_count choose
two-sides o less = rw (lt-leb operator_and o less)

-- how many operands, and how many slots wait for them
abbrev pub operand_count : List ℕ → List ℕ → Form → ℕ
operand_count types functions (Operator o) = side_count o
operand_count types functions (Call f) = get_or functions (function_words * f) 0 % byte_range
operand_count types functions (Construct t c) = get_or types (type_words * t + 1 + constructor_words * c) 0 % byte_range
operand_count types functions (BoolForm b) = 1
operand_count types functions (Int n) = 1
operand_count types functions (Variable v) = 1
operand_count types functions (Now c) = 1
operand_count types functions (Last c) = 1
operand_count types functions Let = 1
operand_count types functions If = 1
operand_count types functions (Case t) = 1
operand_count types functions Adjust = 1
operand_count types functions (Fit k) = 1
operand_count types functions Missing = 1

abbrev pub reserved_count : List ℕ → Form → ℕ
reserved_count functions (Call f) = get_or functions (function_words * f) 0 % byte_range
reserved_count functions (Operator o) = 0
reserved_count functions (Construct t c) = 0
reserved_count functions (BoolForm b) = 0
reserved_count functions (Int n) = 0
reserved_count functions (Variable v) = 0
reserved_count functions (Now c) = 0
reserved_count functions (Last c) = 0
reserved_count functions Let = 0
reserved_count functions If = 0
reserved_count functions (Case t) = 0
reserved_count functions Adjust = 0
reserved_count functions (Fit k) = 0
reserved_count functions Missing = 0

-- where the first operand starts: that of an adj behind its size
abbrev pub first_at : List ℕ → ℕ → Form → ℕ → ℕ
first_at ends from Adjust at = end_of ends from at
first_at ends from (Operator o) at = at
first_at ends from (Call f) at = at
first_at ends from (Construct t c) at = at
first_at ends from (BoolForm b) at = at
first_at ends from (Int n) at = at
first_at ends from (Variable v) at = at
first_at ends from (Now c) at = at
first_at ends from (Last c) at = at
first_at ends from Let at = at
first_at ends from If at = at
first_at ends from (Case t) at = at
first_at ends from (Fit k) at = at
first_at ends from Missing at = at

-- where the one behind so many in a row starts
unfoldable pub end_after : List ℕ → ℕ → ℕ → ℕ → ℕ
end_after ends from at zero = at
end_after ends from at (suc n) = end_of ends from (end_after ends from at n)
