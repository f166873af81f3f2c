-- What computes where a record is read or a file listed by a table: the rule's definitions. A theorem by computation says
-- `unfolding tables`, and all of them unfold.
use Rattle.ascii.specs.rule.Tens.{count_from, digits_of}
use Rattle.below.specs.rule.Below.{◌and◌, all_below, any_below, sum_below, max_below}
use Rattle.cells.specs.rule.Cell.{count_of, signed_of, number_of, eq_z}
use Rattle.layout.specs.rule.Layout.{header_of, columns_at, line_at}
use Rattle.layout.specs.rule.Row.{row_of, kind_of, spread_of}
use Rattle.widths.specs.rule.Width.{need, tail_of, least_whole, whole_digits, quantity_width, most_size, lowest, highest}
use Rattle.strides.specs.rule.Stride.{all_differ, number_new}
use Rattle.sound.specs.rule.Sound.{lines_plain, values_fit, range_width, widest, width_good, room_good, lines_good, values_good}
use Rattle.sound.specs.rule.Sound.{widths_good}
use Rattle.sound.specs.rule.Sound.{counts_good, places_good, columns_good, row_good, idents_differ, rows_good, well_formed}
use Rattle.uses.specs.rule.Uses.{rows_unused, xml_good, uses_good, use_good, filter_good, is_use, specials_none, kind_good}
use Rattle.fields.specs.rule.Legal.{in_range, on_line, legal}
use Rattle.fields.specs.rule.Number.{all_spaces, unspaced, digits_only, decimal_from, code_after, code_of, amount_form, amount_size}
use Rattle.fields.specs.rule.Number.{amount_of}
use Rattle.fields.specs.rule.Number.{quantity_after, quantity_of, padded}
use Rattle.fields.specs.rule.Field.{number_field, single_says, quantity_says, all_bits, set_bits, bits_field, entry_good, entry_is}
use Rattle.fields.specs.rule.Field.{all_entries}
use Rattle.fields.specs.rule.Field.{some_entry, passing, spread_field, truth_field}
use Rattle.fields.specs.rule.Row.{defined, bit_places, places_by, field_by, reading_of, spread_places}
use Rattle.sets.specs.rule.Sets.{is_illegal, filled_of, list_after}
use Rattle.faults.specs.rule.Fault.{fault_number, or_else, fixed_of, point_place, may_stand, fault_at, number_from, number_form}
use Rattle.faults.specs.rule.Fault.{spread_form, passes, first_failing, plain_form, value_fault, usable, spread_value, form_by, value_by}
use Rattle.faults.specs.rule.Fault.{fault_of}
use Rattle.records.specs.rule.First.{first_from}
use Rattle.records.specs.rule.Verdict.{row_verdict, byte_verdict, rows_verdict}
use Rattle.cuts.specs.rule.Cut.{begins_with, terminator_at, terminator_of, whole_at, begins_at}
use Rattle.cuts.specs.rule.Records.{at_end, cut, records_of}
use Rattle.files.specs.rule.File.{record_verdict, go_on, first_length, is_sound}
use Rattle.lines.specs.rule.Text.{numeral, number_text, codes_after, codes, value_text, line_text, field_text, ok_text, fault_text}
use Rattle.listing.specs.rule.Listing.{row_text, rows_text, ident_of, fault_line, last_text, records_text}
use Rattle.listing.specs.Listing.{listing_of}
use Rattle.records.specs.rule.Value.{outcome_of, read_as, list_as}

unfoldable pub tables : Unit {0}
unfolding count_from digits_of ◌and◌ all_below any_below sum_below max_below count_of signed_of number_of eq_z header_of columns_at line_at
    row_of
    kind_of spread_of need tail_of least_whole whole_digits quantity_width most_size lowest highest all_differ number_new lines_plain
    values_fit
    range_width widest width_good room_good lines_good values_good widths_good counts_good places_good columns_good row_good idents_differ
    rows_good
    well_formed in_range on_line legal all_spaces unspaced digits_only decimal_from code_after code_of amount_form amount_size amount_of
    quantity_after quantity_of padded number_field single_says quantity_says all_bits set_bits bits_field entry_good entry_is all_entries
    some_entry
    passing spread_field truth_field defined bit_places places_by field_by reading_of spread_places is_illegal filled_of list_after
    first_from
    row_verdict byte_verdict rows_verdict begins_with terminator_at terminator_of whole_at begins_at at_end cut records_of record_verdict
    go_on
    first_length is_sound numeral number_text codes_after codes value_text line_text field_text ok_text fault_text row_text rows_text
    ident_of
    fault_line last_text records_text listing_of outcome_of read_as list_as fault_number or_else fixed_of point_place may_stand fault_at
    number_from
    number_form spread_form passes first_failing plain_form value_fault usable spread_value form_by value_by fault_of kind_good rows_unused
    xml_good
    uses_good use_good filter_good is_use specials_none
tables = tt
