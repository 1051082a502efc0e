-- Every limit of document 01 by name, once. Nothing else in the definitions writes one of these numbers.
use Rattle.std.specs.Prelude.{ℕ, ◌+◌, ◌^◌}

-- "At most 16,384 characters."
abbrev pub text_most : ℕ
text_most = 16384

-- "types (01), functions (02), inputs (03), nodes (04): at most 8, 32, 8 and 16"
abbrev pub types_most : ℕ
types_most = 8

abbrev pub functions_most : ℕ
functions_most = 32

abbrev pub inputs_most : ℕ
inputs_most = 8

abbrev pub nodes_most : ℕ
nodes_most = 16

-- "A channel is an input or a node"
abbrev pub channels_most : ℕ
channels_most = inputs_most + nodes_most

-- "constructor count 1 to 8; for each a field count 0 to 4"
abbrev pub constructors_most : ℕ
constructors_most = 8

abbrev pub fields_most : ℕ
fields_most = 4

-- "of size k, 1 to 64"
abbrev pub size_most : ℕ
size_most = 64

-- "parameter count 0 to 8", "condition count 0 to 8", "measure count 0 to 8"
abbrev pub parameters_most : ℕ
parameters_most = 8

abbrev pub conditions_most : ℕ
conditions_most = 8

abbrev pub measures_most : ℕ
measures_most = 8

-- "At most 32 variables and 8 size variables stand in scope; nesting is at most 32"
abbrev pub variables_most : ℕ
variables_most = 32

abbrev pub size_variables_most : ℕ
size_variables_most = 8

abbrev pub nesting_most : ℕ
nesting_most = 32

-- "a 1,025th instance"
abbrev pub instances_most : ℕ
instances_most = 1024

-- "Reported numbers stop at 65,535."
abbrev pub number_most : ℕ
number_most = 65535

-- "A board has at most 2,048 cells, 256 slots, 64 calls."
abbrev pub cells_most : ℕ
cells_most = 2048

abbrev pub slots_most : ℕ
slots_most = 256

abbrev pub calls_most : ℕ
calls_most = 64

-- "State: 32-bit words, 25 and six for each cell": the cells used and each channel's cell; a tag, a value and the fields
abbrev pub header_words : ℕ
header_words = 1 + channels_most

abbrev pub cell_words : ℕ
cell_words = 2 + fields_most

-- "Scratch: 2,048 words"
abbrev pub scratch_words : ℕ
scratch_words = 2048

-- two hexadecimal digits spell a number below this
abbrev pub byte_range : ℕ
byte_range = 256

-- "Int is 32 bits": its bits are below this
abbrev pub int_range : ℕ
int_range = 2 ^ 32

-- the place of the sign
abbrev pub sign_bit : ℕ
sign_bit = 2 ^ 31
