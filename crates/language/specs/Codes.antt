-- The codes of the rule file by name, once: document 01, "The rule file".
use Rattle.std.specs.Prelude.{ℕ}

-- "types (01), functions (02), inputs (03), nodes (04)"; the first of them
abbrev pub kind_type : ℕ
kind_type = 0x01

abbrev pub kind_function : ℕ
kind_function = 0x02

abbrev pub kind_input : ℕ
kind_input = 0x03

abbrev pub kind_node : ℕ
kind_node = 0x04

abbrev pub kind_first : ℕ
kind_first = kind_type

-- "An input line is one line as above: `05`"
abbrev pub kind_input_line : ℕ
kind_input_line = 0x05

-- Types: "`00`, `01` or `02 t`"
abbrev pub type_bool : ℕ
type_bool = 0x00

abbrev pub type_int : ℕ
type_int = 0x01

abbrev pub type_named : ℕ
type_named = 0x02

abbrev pub type_first : ℕ
type_first = type_bool

-- "fields: `00` Bool, `01` Int, `02` the type itself, `03 t k` an earlier type t of size k"
abbrev pub field_bool : ℕ
field_bool = 0x00

abbrev pub field_int : ℕ
field_int = 0x01

abbrev pub field_own : ℕ
field_own = 0x02

abbrev pub field_other : ℕ
field_other = 0x03

abbrev pub field_first : ℕ
field_first = field_bool

-- "A size is `01 k` (k one byte), `02 i` (size variable), `03 a b` (sum) or `04 a b` (difference)"
abbrev pub size_number : ℕ
size_number = 0x01

abbrev pub size_variable : ℕ
size_variable = 0x02

abbrev pub size_sum : ℕ
size_sum = 0x03

abbrev pub size_difference : ℕ
size_difference = 0x04

abbrev pub size_first : ℕ
size_first = size_number

-- "a relation (`00` =, `01` <, `02` ≤)"
abbrev pub relation_equal : ℕ
relation_equal = 0x00

abbrev pub relation_less : ℕ
relation_less = 0x01

abbrev pub relation_at_most : ℕ
relation_at_most = 0x02

abbrev pub relation_first : ℕ
relation_first = relation_equal

-- "`10 b` Bool; `11` Int; `12 v` variable; `13 c` channel; `14 c` its previous value; `15` let; `16` if; `17 o`, two operands"
abbrev pub expr_bool : ℕ
expr_bool = 0x10

abbrev pub expr_int : ℕ
expr_int = 0x11

abbrev pub expr_variable : ℕ
expr_variable = 0x12

abbrev pub expr_now : ℕ
expr_now = 0x13

abbrev pub expr_last : ℕ
expr_last = 0x14

abbrev pub expr_let : ℕ
expr_let = 0x15

abbrev pub expr_if : ℕ
expr_if = 0x16

abbrev pub expr_operator : ℕ
expr_operator = 0x17

-- "`18 f` and arguments; `19 t c` and fields; `1A t` case; `1B` size, expression (adj); `1C k`: fit"
abbrev pub expr_call : ℕ
expr_call = 0x18

abbrev pub expr_construct : ℕ
expr_construct = 0x19

abbrev pub expr_case : ℕ
expr_case = 0x1A

abbrev pub expr_adjust : ℕ
expr_adjust = 0x1B

abbrev pub expr_fit : ℕ
expr_fit = 0x1C

abbrev pub expr_first : ℕ
expr_first = expr_bool

-- "Operators: `00` +, `01` −, `02` ×; `03` =, `04` <, `05` ≤ on Int; `06` and, `07` or"
abbrev pub operator_plus : ℕ
operator_plus = 0x00

abbrev pub operator_minus : ℕ
operator_minus = 0x01

abbrev pub operator_times : ℕ
operator_times = 0x02

abbrev pub operator_equal : ℕ
operator_equal = 0x03

abbrev pub operator_less : ℕ
operator_less = 0x04

abbrev pub operator_at_most : ℕ
operator_at_most = 0x05

abbrev pub operator_and : ℕ
operator_and = 0x06

abbrev pub operator_or : ℕ
operator_or = 0x07

abbrev pub operator_first : ℕ
operator_first = operator_plus

-- "Bool (00 or 01)"
abbrev pub bool_false : ℕ
bool_false = 0x00

abbrev pub bool_true : ℕ
bool_true = 0x01

abbrev pub bool_first : ℕ
bool_first = bool_false

-- "Lines of upper-case hexadecimal pairs": the base of their digits
abbrev pub digit_base : ℕ
digit_base = 16

-- "each ended by LF (0A)"
abbrev pub line_feed : ℕ
line_feed = 0x0A

-- Document 02, R-1: "spaces between pairs", "CR LF", "lines that start with a semicolon"
abbrev pub space : ℕ
space = 0x20

abbrev pub carriage_return : ℕ
carriage_return = 0x0D

abbrev pub semicolon : ℕ
semicolon = 0x3B
