-- The definitions, opened: a declaration that names one of these on its `unfolding` line computes with every definition of that
-- part of the language, as those that it names itself do.
use Rattle.std.specs.Prelude.{ℕ}
use Rattle.language.specs.Result.{bind, need, from, both, one_of, when, choose, need_each, chain}
use Rattle.language.specs.Syntax.{owns, self_free, look_expr}
use Rattle.language.specs.Scope.{wider, room_in, named_count, body_scope, outer_scope}
use Rattle.language.specs.Parser.{and_then, must, from_option, byte, index, count, decode, code, code_in, many, counted}
use Rattle.language.specs.ReadExpr.{bound, field_behind, field, plain_behind, plain, declared_behind, declared, size_behind, size_at, result_behind, result, int, exprs, branches, expr_behind, expr_at}
use Rattle.language.specs.Text.{is_empty, longer, lines_of, digit, pair, pairs, line_bytes, any_digit, pair_at, frame_bytes, last_or_more, without_return, is_extra, frame_lines, frames_in, text_frames}
use Rattle.language.specs.Reader.{type_def, condition, function, input, node, whole, in_order_of, with_type, with_function, with_input, with_node, read_kind, read_frame, read_frames, is_channel, channel_count, read_file}
use Rattle.language.specs.PlainTypes.{plain_field, plain_result, plain_declared, same_plain, same_plains, operand_type, op_type, is_plain, are_plain, is_named, plain_of, plains_of, plain_branches, is_initial, are_initial, plain_function, plain_initial, plain_input, plain_node, plain_types}
use Rattle.language.specs.Sizes.{added, taken, type_size, type_at, compare, condition_holds, conditions_hold, sum, summed_measure, sizes_of, parameter_types, field_types, size_of_type, own_sizes, same_type, same_types, same_sizes}
use Rattle.language.specs.Splits.{firsts, splits_of, splits}
use Rattle.language.specs.Typing.{channels_at, frame_at, falls, base_type}
use Rattle.language.specs.Checker.{named, at_splits, sized, sizeds, sized_branches, find, found_or, enter_at, sized_channel, sized_initials, sized_updates, sized_file}
use Rattle.language.specs.Values.{append_trees, look_tree, tree_count, tree_cells, trees_cells, constant_fits, is_constructor, named_as, tree_size, own_tree_sum, fits, fields_fit_of}
use Rattle.language.specs.Cells.{max_to, other_cells, own_cells, next_cells, cells_table, cells_at_of, cells_from, cells_named, cells_of, channel_cells, input_cells, updates_numbers, numbers_needed}
use Rattle.language.specs.Format.{spell_all, int_bytes, field_bytes, plain_bytes, declared_bytes, size_bytes, result_bytes, expr_bytes, exprs_bytes, condition_bytes, constructor_bytes, type_bytes, function_bytes, input_bytes, node_bytes, file_frames, pick_digit, digit_of, pair_of, line_text, file_text}
use Rattle.language.specs.Heap.{constant_type, truth, number, signed_less, apply_op, decides, constant_in, constructor_in, size_in, fields_in, own_sum, fields_within_of, trees_at, tree_of, grow, trees}
use Rattle.language.specs.LineFormat.{value_bytes, values_bytes}
use Rattle.language.specs.Order.{readings, all_readings, nodes_among, node_readings, read_through, none_reads_itself, orderly, all_mem, ready, lowest, and_then as order_then, order_from, order}
use Rattle.language.specs.Slide.{mem, reached_from, reached, numbers_from, renumber_cell, keep_from, slide}
use Rattle.language.specs.Layout.{cell_tag, cell_value, padded, words_of, state_words, all_zero, constructor_of_words, cell_of_words, cells_of_words, state_of_words, cell_fits, location_fits, fields_right, cell_right, cells_right, roots_right, all_reached, state_right, load_state}
use Rattle.language.specs.Line.{value_trees, value_behind, value_at, all_read_of, input_trees, trees_fit, one_line_of, line_trees}
use Rattle.language.specs.Evaluator.{bind_out, bind_outs, first, rest, needs, alloc, parameter_count, eval, evals, eval_branch, enter_body, run}
use Rattle.language.specs.PlainMachine.{initial_tree, initial_fields}
use Rattle.language.specs.Machine.{board_allowed, record_of, answer, check_file, judge, judged, verdict_of, final_list, list_lent, check, new_cell, build, build_fields, build_all, start_state, written, start_words, lengths_lent, start, channel_value, put_inputs, update_nodes, iterate_in, iterate_state, iterate_file, iterated, iterate}
use Rattle.language.specs.Writer.{strict_text, in_buffer, write}

-- reader
unfoldable pub reading : ℕ
unfolding bind need from both one_of when choose need_each chain owns self_free look_expr wider room_in named_count body_scope outer_scope and_then must from_option byte index count decode code code_in many counted bound field_behind field plain_behind plain declared_behind declared size_behind size_at result_behind result int exprs branches expr_behind expr_at type_def condition function input node whole is_empty in_order_of with_type with_function with_input with_node read_kind read_frame read_frames longer lines_of digit pair pairs line_bytes any_digit pair_at frame_bytes last_or_more without_return is_extra frame_lines frames_in text_frames is_channel channel_count read_file
reading = 0

-- plain types, the size checker and the numbers needed
unfoldable pub sizing : ℕ
unfolding plain_field plain_result plain_declared same_plain same_plains operand_type op_type is_plain are_plain is_named plain_of plains_of plain_branches is_initial are_initial plain_function plain_initial plain_input plain_node plain_types added taken type_size type_at compare condition_holds conditions_hold sum summed_measure sizes_of parameter_types field_types size_of_type own_sizes same_type same_types same_sizes firsts splits_of splits channels_at frame_at falls base_type named at_splits sized sizeds sized_branches find found_or enter_at sized_channel sized_initials sized_updates sized_file append_trees look_tree tree_count tree_cells trees_cells constant_fits is_constructor named_as tree_size own_tree_sum fits fields_fit_of max_to other_cells own_cells next_cells cells_table cells_at_of cells_from cells_named cells_of channel_cells input_cells updates_numbers numbers_needed mem readings all_readings nodes_among node_readings read_through none_reads_itself orderly all_mem ready lowest order_then order_from order
sizing = 0

-- the state, the line, the evaluator and the calls
unfoldable pub running : ℕ
unfolding spell_all int_bytes field_bytes plain_bytes declared_bytes size_bytes result_bytes expr_bytes exprs_bytes condition_bytes constructor_bytes type_bytes function_bytes input_bytes node_bytes file_frames pick_digit digit_of pair_of line_text file_text constant_type truth number signed_less apply_op decides constant_in constructor_in size_in fields_in own_sum fields_within_of trees_at tree_of grow trees value_bytes values_bytes mem reached_from reached numbers_from renumber_cell keep_from slide cell_tag cell_value padded words_of state_words all_zero constructor_of_words cell_of_words cells_of_words state_of_words cell_fits location_fits fields_right cell_right cells_right roots_right all_reached state_right load_state value_trees value_behind value_at all_read_of input_trees trees_fit one_line_of line_trees bind_out bind_outs first rest needs alloc parameter_count eval evals eval_branch enter_body run initial_tree initial_fields board_allowed record_of answer check_file judge judged verdict_of final_list list_lent check new_cell build build_fields build_all start_state written start_words lengths_lent start channel_value put_inputs update_nodes iterate_in iterate_state iterate_file iterated iterate strict_text in_buffer write
running = 0
