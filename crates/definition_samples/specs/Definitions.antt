-- What computes where a definition is read: the rule's definitions, from the bytes to the table. A theorem by computation says
-- `unfolding definitions`, and all of them unfold. Made by: tools/unfolds definitions
-- ascii below.Below:anyBelow+maxBelow cells.Cell:signedOf+numberOf+eqZ+pasted layout.Row
-- widths.Width:tailOf+leastWhole+wholeDigits+quantityWidth+need sound.Sound:roomGood rows scan marks tokens.Gap names survey reading
-- definition
use Rattle.ascii.specs.rule.Class.{class_of, upper_of}
use Rattle.ascii.specs.rule.Tens.{count_from, digits_of}
use Rattle.below.specs.rule.Below.{any_below, max_below}
use Rattle.cells.specs.rule.Cell.{signed_of, number_of, eq_z, pasted}
use Rattle.layout.specs.rule.Row.{spread_of, kind_of, row_of}
use Rattle.widths.specs.rule.Width.{tail_of, least_whole, whole_digits, quantity_width, need}
use Rattle.sound.specs.rule.Sound.{room_good}
use Rattle.rows.specs.rule.Cells.{row_cells, header_cells}
use Rattle.scan.specs.rule.Loop.{loop_of}
use Rattle.scan.specs.rule.Number.{is_space, is_digit, is_value, run_of, run_bytes, decimal_of}
use Rattle.scan.specs.rule.Text.{kept, text, place_of}
use Rattle.scan.specs.rule.Word.{word_of, word_at}
use Rattle.marks.specs.rule.Marks.{is_hex, inside_of, string_of, levels_of, comment_of}
use Rattle.marks.specs.rule.Spelling.{gives_of, decode_of}
use Rattle.tokens.specs.rule.Gap.{gap_step, gap_at}
use Rattle.names.specs.rule.Standard.{is_letter, letters_or_digits, begins_with_letter, well_named, agree, name_wrong, name_fault_from}
use Rattle.names.specs.rule.Standard.{name_fault}
use Rattle.survey.specs.rule.Table.{variable_columns, holds, lines_all, highest_in, header_for, rows_from, line_cells, cells_of, all_lines}
use Rattle.survey.specs.rule.Table.{table_of}
use Rattle.survey.specs.rule.Width.{some_of, each_of, amounts, kind_in, widest_amount, width_in}
use Rattle.reading.specs.rule.Least.{named, goes_before, lower, least, judged}
use Rattle.reading.specs.rule.Opening.{same, version, opening}
use Rattle.reading.specs.rule.Result.{repeat}
use Rattle.reading.specs.rule.Statement.{position_charges, spread_charges, size_charges, notes, statement, phrase, position, spread, size}
use Rattle.reading.specs.rule.Token.{leading, after_point, begins, without, amount_read, quoted, letter_in, figure, amount}
use Rattle.reading.specs.rule.Values.{form_is, large, range_charges, line_charges, line, listed, range, values}
use Rattle.reading.specs.rule.Variable.{ident_charges, ident, type, variable}
use Rattle.reading.specs.rule.Whole.{given, entered_text, heading_entered, another_variable, front, ends, survey, survey_of}
use Rattle.definition.specs.rule.Definition.{sss_fitting, names_of, quote_at, judge_names, sss_outcome, sss_answer, sss_table_after}

unfoldable pub definitions : Unit {0}
unfolding class_of upper_of count_from digits_of any_below max_below signed_of number_of eq_z pasted spread_of kind_of row_of tail_of
    least_whole
    whole_digits quantity_width need room_good row_cells header_cells loop_of is_space is_digit is_value run_of run_bytes decimal_of kept
    text place_of
    word_of word_at is_hex inside_of string_of levels_of comment_of gives_of decode_of gap_step gap_at is_letter letters_or_digits
    begins_with_letter
    well_named agree name_wrong name_fault_from name_fault variable_columns holds lines_all highest_in header_for rows_from line_cells
    cells_of all_lines
    table_of some_of each_of amounts kind_in widest_amount width_in named goes_before lower least judged same version opening repeat
    position_charges
    spread_charges size_charges notes statement phrase position spread size leading after_point begins without amount_read quoted letter_in
    figure
    amount form_is large range_charges line_charges line listed range values ident_charges ident type variable given entered_text
    heading_entered
    another_variable
    front ends survey survey_of sss_fitting names_of quote_at judge_names sss_outcome sss_answer sss_table_after
definitions = tt
