-- The numbers of the refusals that the code names.
use Rattle.std.specs.Prelude.{ℕ}
use Rattle.language.specs.declared.refusals.Refusal.{Refusal}
use Rattle.language.specs.declared.refusals.Refusal.TheVariants.{Unnamed, TextTooLong, BadLine, BadFrame, BadLength, BadCode, BadIndex, OutsideLimits, NoBaseConstructor, TypesDisagree, SizeOutside, SizesDisagree, ConditionFails, MeasureNotLess, TooManyInstances, HeapShort, EnvironmentShort, StackShort, NotLent, BadInputLine, HeapSpent, EnvironmentSpent, StackSpent, ValueTooLarge, BufferShort, SelfReading}
use Rattle.language.specs.Refusals.{no_refusal, text_too_long, bad_line, bad_frame, bad_length, bad_code, bad_index, outside_limits, no_base_constructor, types_disagree, size_outside, sizes_disagree, condition_fails, measure_not_less, too_many_instances, heap_short, environment_short, stack_short, not_lent, bad_input_line, heap_spent, environment_spent, stack_spent, value_too_large, buffer_short, self_reading}

abbrev pub number_of : Refusal → ℕ
number_of Unnamed = no_refusal
number_of TextTooLong = text_too_long
number_of BadLine = bad_line
number_of BadFrame = bad_frame
number_of BadLength = bad_length
number_of BadCode = bad_code
number_of BadIndex = bad_index
number_of OutsideLimits = outside_limits
number_of NoBaseConstructor = no_base_constructor
number_of TypesDisagree = types_disagree
number_of SizeOutside = size_outside
number_of SizesDisagree = sizes_disagree
number_of ConditionFails = condition_fails
number_of MeasureNotLess = measure_not_less
number_of TooManyInstances = too_many_instances
number_of HeapShort = heap_short
number_of EnvironmentShort = environment_short
number_of StackShort = stack_short
number_of NotLent = not_lent
number_of BadInputLine = bad_input_line
number_of HeapSpent = heap_spent
number_of EnvironmentSpent = environment_spent
number_of StackSpent = stack_spent
number_of ValueTooLarge = value_too_large
number_of BufferShort = buffer_short
number_of SelfReading = self_reading
