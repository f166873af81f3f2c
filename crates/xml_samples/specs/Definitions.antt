-- What computes where a definition in XML is read: the rule's definitions, from the bytes to the table. A theorem by computation says
-- `unfolding definitions`, and all of them unfold. Made by: tools/unfolds definitions
-- ascii below.Below:anyBelow+maxBelow cells.Cell:signedOf+numberOf+eqZ layout.Row
-- widths.Width:tailOf+leastWhole+wholeDigits+quantityWidth+need sound.Sound:roomGood rows scan.Loop scan.Number:isDigit+decimalOf
-- names survey reading.Least reading.Result reading.Statement:positionCharges+spreadCharges+sizeCharges
-- reading.Token:leading+afterPoint+begins+without+amountRead reading.Values:formIs+large+rangeCharges+lineCharges
-- reading.Variable:identCharges utf markup spans attributes angles prologs forms tags pairs contents xml_reading
use Rattle.ascii.specs.rule.Class.{class_of, upper_of}
use Rattle.ascii.specs.rule.Tens.{count_from, digits_of}
use Rattle.below.specs.rule.Below.{any_below, max_below}
use Rattle.cells.specs.rule.Cell.{signed_of, number_of, eq_z}
use Rattle.layout.specs.rule.Row.{spread_of, kind_of, row_of}
use Rattle.widths.specs.rule.Width.{tail_of, least_whole, whole_digits, quantity_width, need}
use Rattle.sound.specs.rule.Sound.{room_good}
use Rattle.rows.specs.rule.Cells.{row_cells, header_cells}
use Rattle.scan.specs.rule.Loop.{loop_of}
use Rattle.scan.specs.rule.Number.{is_digit, decimal_of}
use Rattle.names.specs.rule.Standard.{is_letter, letters_or_digits, begins_with_letter, well_named, agree, name_wrong, name_fault_from}
use Rattle.names.specs.rule.Standard.{name_fault}
use Rattle.survey.specs.rule.Table.{variable_columns, holds, lines_all, highest_in, header_for, rows_from, line_cells, cells_of, all_lines}
use Rattle.survey.specs.rule.Table.{table_of}
use Rattle.survey.specs.rule.Width.{some_of, each_of, amounts, kind_in, widest_amount, width_in}
use Rattle.reading.specs.rule.Least.{named, goes_before, lower, least, judged}
use Rattle.reading.specs.rule.Result.{repeat}
use Rattle.reading.specs.rule.Statement.{position_charges, spread_charges, size_charges}
use Rattle.reading.specs.rule.Token.{leading, after_point, begins, without, amount_read}
use Rattle.reading.specs.rule.Values.{form_is, large, range_charges, line_charges}
use Rattle.reading.specs.rule.Variable.{ident_charges}
use Rattle.utf.specs.rule.Chars.{legal_character, encode}
use Rattle.utf.specs.rule.Cut.{plain_of, follows, valid_pair, triple_of, valid_four, two_in, three_in, four_in, long_of, character_width}
use Rattle.utf.specs.rule.Cut.{first_bad}
use Rattle.markup.specs.rule.Bytes.{is_white, is_digit as isDigit-in-markup, is_hex, starts_name, is_name, of_kind, run_of, bytes_while}
use Rattle.markup.specs.rule.Bytes.{rest_of}
use Rattle.markup.specs.rule.Bytes.{stands}
use Rattle.markup.specs.rule.Gap.{xml_comment, move_of, gap_of}
use Rattle.markup.specs.rule.Reference.{digit_of, push_of, reference_number as numberOf-in-markup, held_below, reference_figure}
use Rattle.markup.specs.rule.Reference.{closed_reference}
use Rattle.markup.specs.rule.Reference.{named_character, numbered_of}
use Rattle.markup.specs.rule.Reference.{reference_of}
use Rattle.spans.specs.rule.Heard.{noted_of, part_of, first_heard, heard_by, heard}
use Rattle.spans.specs.rule.Says.{each_char as eachOf-in-spans, is_letter as isLetter-in-spans, is_value, of_class, count_after, same_of}
use Rattle.spans.specs.rule.Says.{heard_word}
use Rattle.attributes.specs.rule.Attribute.{value_move, quoted_of, valued_of, equals_of, named_of as namedOf-in-attributes, slash_of}
use Rattle.attributes.specs.rule.Attribute.{behind_of}
use Rattle.attributes.specs.rule.Attribute.{attribute_of}
use Rattle.angles.specs.rule.Angle.{close_of, bang_of, angle_of, end_of}
use Rattle.prologs.specs.rule.Told.{start_behind_mark, is_xml, is_public, between_quotes, due_of, cut_of}
use Rattle.prologs.specs.rule.Told.{closed_string as closedOf-in-prologs}
use Rattle.prologs.specs.rule.Told.{quoted_string as quotedOf-in-prologs, spelt_of, among_of, alikes, alike_of, miss_of, tell_of}
use Rattle.prologs.specs.rule.Told.{declaration_of}
use Rattle.prologs.specs.rule.Told.{gap_to, head_of, end_of_file as endOf-in-prologs, tail_from as tailOf-in-prologs}
use Rattle.forms.specs.rule.Form.{form_kind as kindOf-in-forms, use_of, fits_of}
use Rattle.tags.specs.rule.Tag.{is_named, slot_of, form_of, stretch_fits, put_of, misses_of, shut_tag, turn_of, turns_of}
use Rattle.pairs.specs.rule.Pair.{missed_of, closed_of as closedOf-in-pairs, pair_of as pairOf-in-pairs}
use Rattle.pairs.specs.rule.Stand.{text_stand, stand_at, stand_of, shut_of as shutOf-in-pairs}
use Rattle.contents.specs.rule.Content.{content_from, signs_of, signs_by, signs_from, text_step, text_from, is_text as textOf-in-contents}
use Rattle.contents.specs.rule.Content.{content_signs}
use Rattle.contents.specs.rule.Grammar.{byte_signs as bytesOf-in-contents}
use Rattle.contents.specs.rule.Step.{bracket_at, return_at, refer_at, note_at, pair_at, break_at, language_at, other_at}
use Rattle.contents.specs.rule.Step.{step_kind as kindOf-in-contents, start_at, close_at, mark_at, step_of}
use Rattle.xml_reading.specs.rule.Block.{pair_charges, range, line, another_line, first, values}
use Rattle.xml_reading.specs.rule.Element.{chars_of, figure_of as figureOf-in-xml_reading, amount_in, body, text, position, spread, size_in}
use Rattle.xml_reading.specs.rule.Element.{size}
use Rattle.xml_reading.specs.rule.Open.{within_element, nothing}
use Rattle.xml_reading.specs.rule.Role.{type_at, use_at, may_serve, use_wrong, signs_in, same_signs, alike, same_name, is_name_of}
use Rattle.xml_reading.specs.rule.Role.{has_served}
use Rattle.xml_reading.specs.rule.Role.{count_named, filter_from, filter_of, title, naming, filter}
use Rattle.xml_reading.specs.rule.Sheet.{says_word, root, manner, perhaps_element, heading, survey, titles, record_tag, preface}
use Rattle.xml_reading.specs.rule.Sheet.{another_element as another-in-xml_reading, variables, sheet_closed, sheet}
use Rattle.xml_reading.specs.rule.Variable.{filtered, spreading, content, variable}
use Rattle.xml_reading.specs.rule.Whole.{columns_for, xml_header as headerFor-in-xml_reading, xml_rows as rowsFrom-in-xml_reading}
use Rattle.xml_reading.specs.rule.Whole.{xml_table as tableOf-in-xml_reading, xml_fitting, xml_names, entry_place, judge_xml_names}
use Rattle.xml_reading.specs.rule.Whole.{sheet_of}
use Rattle.xml_reading.specs.rule.Whole.{xml_outcome}

unfoldable pub definitions : Unit {0}
unfolding class_of upper_of count_from digits_of any_below max_below signed_of number_of eq_z spread_of kind_of row_of tail_of least_whole
    whole_digits quantity_width need room_good row_cells header_cells loop_of is_digit decimal_of is_letter letters_or_digits
    begins_with_letter
    well_named agree name_wrong name_fault_from name_fault variable_columns holds lines_all highest_in header_for rows_from line_cells
    cells_of all_lines
    table_of some_of each_of amounts kind_in widest_amount width_in named goes_before lower least judged repeat position_charges
    spread_charges
    size_charges
    leading after_point begins without amount_read form_is large range_charges line_charges ident_charges legal_character encode plain_of
    follows
    valid_pair triple_of
    valid_four two_in three_in four_in long_of character_width first_bad is_white isDigit-in-markup is_hex starts_name is_name of_kind
    run_of bytes_while
    rest_of
    stands xml_comment move_of gap_of digit_of push_of numberOf-in-markup held_below reference_figure closed_reference named_character
    numbered_of
    reference_of noted_of part_of
    first_heard heard_by heard eachOf-in-spans isLetter-in-spans is_value of_class count_after same_of heard_word value_move quoted_of
    valued_of
    equals_of
    namedOf-in-attributes slash_of behind_of attribute_of close_of bang_of angle_of end_of start_behind_mark is_xml is_public between_quotes
    due_of cut_of
    closedOf-in-prologs quotedOf-in-prologs spelt_of among_of alikes alike_of miss_of tell_of declaration_of gap_to head_of endOf-in-prologs
    tailOf-in-prologs kindOf-in-forms use_of fits_of is_named slot_of form_of stretch_fits put_of misses_of shut_tag turn_of turns_of
    missed_of
    closedOf-in-pairs pairOf-in-pairs text_stand stand_at stand_of shutOf-in-pairs content_from signs_of signs_by signs_from text_step
    text_from
    textOf-in-contents content_signs bytesOf-in-contents bracket_at return_at refer_at note_at pair_at break_at language_at other_at
    kindOf-in-contents
    start_at close_at mark_at step_of pair_charges range line another_line first values chars_of figureOf-in-xml_reading amount_in body text
    position
    spread
    size_in size within_element nothing type_at use_at may_serve use_wrong signs_in same_signs alike same_name is_name_of has_served
    count_named
    filter_from
    filter_of title naming filter says_word root manner perhaps_element heading survey titles record_tag preface another-in-xml_reading
    variables
    sheet_closed sheet filtered spreading content variable columns_for headerFor-in-xml_reading rowsFrom-in-xml_reading
    tableOf-in-xml_reading
    xml_fitting xml_names entry_place judge_xml_names sheet_of xml_outcome
definitions = tt
