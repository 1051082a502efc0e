-- The limits, the numbers of refusals and the codes as the constants of the code name them.
use Rattle.std.specs.Prelude.{length}
use Rattle.language.specs.declared.limits.FileLimits.{FileLimits}
use Rattle.language.specs.declared.limits.BoardLimits.{BoardLimits}
use Rattle.language.specs.declared.refusals.RefusalNumbers.{RefusalNumbers}
use Rattle.language.specs.declared.codes.KindCodes.{KindCodes}
use Rattle.language.specs.declared.codes.TypeCodes.{TypeCodes}
use Rattle.language.specs.declared.codes.SizeCodes.{SizeCodes}
use Rattle.language.specs.declared.codes.ExpressionCodes.{ExpressionCodes}
use Rattle.language.specs.declared.codes.OperandCodes.{OperandCodes}
use Rattle.language.specs.declared.codes.TextCodes.{TextCodes}
use Rattle.language.specs.Limits.{byte_range, int_range, sign_bit, text_most, types_most, functions_most, inputs_most, nodes_most, channels_most, constructors_most, fields_most, size_most, parameters_most, conditions_most, measures_most, variables_most, size_variables_most, nesting_most, instances_most, number_most, cells_most, slots_most, calls_most, header_words, cell_words, scratch_words}
use Rattle.language.specs.ReadExpr.{field_forms, type_forms, size_forms, forms, ops, bools}
use Rattle.language.specs.Reader.{relations}
use Rattle.language.specs.Refusals.{no_refusal, no_frame, text_too_long, bad_line, bad_frame, bad_length, bad_code, bad_index, outside_limits, no_base_constructor, types_disagree, size_outside, sizes_disagree, condition_fails, measure_not_less, too_many_instances, heap_short, environment_short, stack_short, not_lent, bad_input_line, heap_spent, environment_spent, stack_spent, value_too_large, buffer_short, self_reading}
use Rattle.language.specs.Codes.{kind_type, kind_function, kind_input, kind_node, kind_first, kind_input_line}
use Rattle.language.specs.Codes.{type_bool, type_int, type_named, type_first, field_bool, field_int, field_own, field_other, field_first}
use Rattle.language.specs.Codes.{size_number, size_variable, size_sum, size_difference, size_first, relation_equal, relation_less, relation_at_most, relation_first}
use Rattle.language.specs.Codes.{expr_bool, expr_int, expr_variable, expr_now, expr_last, expr_let, expr_if, expr_operator, expr_call, expr_construct, expr_case, expr_adjust, expr_fit, expr_first}
use Rattle.language.specs.Codes.{operator_plus, operator_minus, operator_times, operator_equal, operator_less, operator_at_most, operator_and, operator_or, operator_first, bool_false, bool_true, bool_first}
use Rattle.language.specs.Codes.{digit_base, line_feed, space, carriage_return, semicolon}

abbrev pub file_limits : FileLimits
file_limits = record { byte_range = byte_range; int_range = int_range; sign_bit = sign_bit; text = text_most; types = types_most; functions = functions_most; inputs = inputs_most; nodes = nodes_most; channels = channels_most; constructors = constructors_most; fields = fields_most; size = size_most; parameters = parameters_most; conditions = conditions_most; measures = measures_most; variables = variables_most; size_variables = size_variables_most; nesting = nesting_most }

abbrev pub board_limits : BoardLimits
board_limits = record { instances = instances_most; number = number_most; cells = cells_most; slots = slots_most; calls = calls_most; header_words = header_words; cell_words = cell_words; scratch_words = scratch_words }

abbrev pub refusal_numbers : RefusalNumbers
refusal_numbers = record { no_refusal = no_refusal; no_frame = no_frame; text_too_long = text_too_long; bad_line = bad_line; bad_frame = bad_frame; bad_length = bad_length; bad_code = bad_code; bad_index = bad_index; outside_limits = outside_limits; no_base_constructor = no_base_constructor; types_disagree = types_disagree; size_outside = size_outside; sizes_disagree = sizes_disagree; condition_fails = condition_fails; measure_not_less = measure_not_less; too_many_instances = too_many_instances; heap_short = heap_short; environment_short = environment_short; stack_short = stack_short; not_lent = not_lent; bad_input_line = bad_input_line; heap_spent = heap_spent; environment_spent = environment_spent; stack_spent = stack_spent; value_too_large = value_too_large; buffer_short = buffer_short; self_reading = self_reading }

abbrev pub kind_codes : KindCodes
kind_codes = record { kind_type = kind_type; kind_function = kind_function; kind_input = kind_input; kind_node = kind_node; kind_first = kind_first; kind_input_line = kind_input_line }

abbrev pub type_codes : TypeCodes
type_codes = record { type_bool = type_bool; type_int = type_int; type_named = type_named; type_first = type_first; type_forms = length type_forms; field_bool = field_bool; field_int = field_int; field_own = field_own; field_other = field_other; field_first = field_first; field_forms = length field_forms }

abbrev pub size_codes : SizeCodes
size_codes = record { size_number = size_number; size_variable = size_variable; size_sum = size_sum; size_difference = size_difference; size_first = size_first; size_forms = length size_forms; relation_equal = relation_equal; relation_less = relation_less; relation_at_most = relation_at_most; relation_first = relation_first; relations = length relations }

abbrev pub expression_codes : ExpressionCodes
expression_codes = record { expr_bool = expr_bool; expr_int = expr_int; expr_variable = expr_variable; expr_now = expr_now; expr_last = expr_last; expr_let = expr_let; expr_if = expr_if; expr_operator = expr_operator; expr_call = expr_call; expr_construct = expr_construct; expr_case = expr_case; expr_adjust = expr_adjust; expr_fit = expr_fit; expr_first = expr_first; expr_forms = length forms }

abbrev pub operand_codes : OperandCodes
operand_codes = record { operator_plus = operator_plus; operator_minus = operator_minus; operator_times = operator_times; operator_equal = operator_equal; operator_less = operator_less; operator_at_most = operator_at_most; operator_and = operator_and; operator_or = operator_or; operator_first = operator_first; operators = length ops; bool_false = bool_false; bool_true = bool_true; bool_first = bool_first; bools = length bools }

abbrev pub text_codes : TextCodes
text_codes = record { digit_base = digit_base; line_feed = line_feed; «space» = space; carriage_return = carriage_return; «semicolon» = semicolon }
