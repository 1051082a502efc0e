-- The numbers of refusals by name, once: document 01, "By place".
use Rattle.std.specs.Prelude.{ℕ}

-- "An answer is a number (0 where all is well), a frame (from 1; 0 where none is named)"
abbrev pub no_refusal : ℕ
no_refusal = 0

abbrev pub no_frame : ℕ
no_frame = 0

-- "over 16,384 characters"
abbrev pub text_too_long : ℕ
text_too_long = 1

-- "a line empty, odd, not hexadecimal, or without LF"
abbrev pub bad_line : ℕ
bad_line = 2

-- "kind unknown, out of order or one too many; no node"
abbrev pub bad_frame : ℕ
bad_frame = 3

-- "bytes end early or go on"
abbrev pub bad_length : ℕ
bad_length = 4

-- "code outside its set"
abbrev pub bad_code : ℕ
bad_code = 5

-- "index names nothing allowed there"
abbrev pub bad_index : ℕ
bad_index = 6

-- "a count, k, scope or nesting over its limit or below its least"
abbrev pub outside_limits : ℕ
outside_limits = 7

-- "type without a self-free constructor"
abbrev pub no_base_constructor : ℕ
no_base_constructor = 8

-- "plain types disagree; initial value of another form"
abbrev pub types_disagree : ℕ
types_disagree = 9

-- "a type's size outside 1 to 64"
abbrev pub size_outside : ℕ
size_outside = 10

-- "sizes disagree, or adj lowers"
abbrev pub sizes_disagree : ℕ
sizes_disagree = 11

-- "a condition fails"
abbrev pub condition_fails : ℕ
condition_fails = 12

-- "the measure doesn't fall"
abbrev pub measure_not_less : ℕ
measure_not_less = 13

-- "a 1,025th instance"
abbrev pub too_many_instances : ℕ
too_many_instances = 14

-- "heap, environment, stack needed above the board's"
abbrev pub heap_short : ℕ
heap_short = 15

abbrev pub environment_short : ℕ
environment_short = 16

abbrev pub stack_short : ℕ
stack_short = 17

-- "board over its maximum, a buffer too short, or state not as above for this file"
abbrev pub not_lent : ℕ
not_lent = 18

-- "input line wrong"
abbrev pub bad_input_line : ℕ
bad_input_line = 19

-- "heap, environment, stack spent"
abbrev pub heap_spent : ℕ
heap_spent = 20

abbrev pub environment_spent : ℕ
environment_spent = 21

abbrev pub stack_spent : ℕ
stack_spent = 22

-- "value too large"
abbrev pub value_too_large : ℕ
value_too_large = 23

-- Document 02, R-1: "lent buffer shorter than the strict text"
abbrev pub buffer_short : ℕ
buffer_short = 24

-- Document 02, R-3: "some node reads itself through `13`, directly or by others"
abbrev pub self_reading : ℕ
self_reading = 25
