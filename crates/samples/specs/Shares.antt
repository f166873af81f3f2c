-- READINGS-02, C-13, points 5 to 7, by computation in one theorem: a field of two decimals under point code 2, in three bytes and in four
-- (where a minus widened it), read and written; and which tables are well formed. 45 is `-`, 46 the point, 48 to 57 the digits.
use Rattle.std.specs.Prelude.{◌≡◌, refl, true, false, List, [], ◌∷◌, ◌++◌, ℕ, ℤ, pos, negsuc, set}
use Rattle.below.specs.rule.Below.{◌and◌, all_below, any_below, sum_below, max_below}
use Rattle.ascii.specs.rule.Tens.{digits_of, count_from}
use Rattle.cells.specs.rule.Cell.{count_of, signed_of, number_of, eq_z}
use Rattle.layout.specs.rule.Layout.{header_of, columns_at, line_at}
use Rattle.layout.specs.rule.Row.{row_of, kind_of, spread_of}
use Rattle.layout.specs.declared.Format.{Format}
use Rattle.layout.specs.declared.Kind.TheVariants.{Quantity}
use Rattle.layout.specs.declared.Row.{Row}
use Rattle.widths.specs.rule.Width.{need, tail_of, least_whole, whole_digits, quantity_width, most_size, lowest, highest}
use Rattle.strides.specs.rule.Stride.{all_differ, number_new}
use Rattle.fields.specs.rule.Legal.{in_range, on_line, legal}
use Rattle.fields.specs.rule.Number.{all_spaces, unspaced, digits_only, decimal_from, says, amount_form, amount_size, amount_of}
use Rattle.fields.specs.rule.Number.{quantity_after, quantity_of, padded, amount_bytes, quantity_bytes}
use Rattle.fields.specs.rule.Field.{number, missing, holds, illegal, number_field, quantity_says}
use Rattle.fields.specs.rule.Row.{field_by, field_of, bytes_by, bytes_of}
use Rattle.sound.specs.rule.Sound.{lines_plain, values_fit, range_width, widest, width_good, room_good, lines_good, values_good}
use Rattle.sound.specs.rule.Sound.{widths_good}
use Rattle.rows.specs.rule.Cells.{row_cells, header_cells}
use Rattle.uses.specs.rule.Uses.{rows_unused, xml_good, uses_good, use_good, filter_good, is_use, specials_none, kind_good}
use Rattle.sound.specs.rule.Sound.{counts_good, places_good, columns_good, row_good, idents_differ, rows_good, well_formed}
use Rattle.samples.specs.Samples.{Own, header, columns, in_row, FINISH, WIDTH, DECIMALS, POINT, TO}

abbrev hundredths : Format
hundredths = record { decimals = 2; point = 2 }

abbrev row : ℕ → ℤ → Row
row w from = record {
  ident = 1;
  kind = Quantity hundredths;
  start = 1;
  finish = w;
  width = w;
  range = true;
  from = from;
  to = pos 99;
  before = 0;
  lines = 0;
}

-- `.00 TO .99` in three bytes, `(-.99 TO).99` in four
abbrev three : Row
three = row 3 (pos 0)

abbrev four : Row
four = row 4 (negsuc 98)

abbrev hundredths_own : Own
hundredths_own = record { decimals = 2; point = 2; subfields = 0; subwidth = 0; range = 1; from = pos 0; to = pos 99 }

-- a table of one row: `.00 TO .99` in three bytes
abbrev alone : List ℤ
alone = header 11 1 0 3 ++ columns 1 3 1 3 3 hundredths_own 0 0 0 0

pub shares :
    -- in three bytes only `.50`: neither `050` nor ` 50` nor `0.5`
    (field_of [] 1 three (46 ∷ 53 ∷ 48 ∷ []) ≡ holds (number (pos 50)))
    × (field_of [] 1 three (48 ∷ 53 ∷ 48 ∷ []) ≡ illegal)
    × (field_of [] 1 three (32 ∷ 53 ∷ 48 ∷ []) ≡ illegal)
    × (field_of [] 1 three (48 ∷ 46 ∷ 53 ∷ []) ≡ illegal)
    × (field_of [] 1 three (32 ∷ 32 ∷ 32 ∷ []) ≡ holds missing)
    -- in four ` .50`, `0.50`, `-.50`, and `-.00`, which is zero
    × (field_of [] 1 four (32 ∷ 46 ∷ 53 ∷ 48 ∷ []) ≡ holds (number (pos 50)))
    × (field_of [] 1 four (48 ∷ 46 ∷ 53 ∷ 48 ∷ []) ≡ holds (number (pos 50)))
    × (field_of [] 1 four (45 ∷ 46 ∷ 53 ∷ 48 ∷ []) ≡ holds (number (negsuc 49)))
    × (field_of [] 1 four (45 ∷ 46 ∷ 48 ∷ 48 ∷ []) ≡ holds (number (pos 0)))
    -- `1.50` has form and says 150, which isn't legal
    × (quantity_of hundredths (49 ∷ 46 ∷ 53 ∷ 48 ∷ []) ≡ says (pos 150))
    × (field_of [] 1 four (49 ∷ 46 ∷ 53 ∷ 48 ∷ []) ≡ illegal)
    -- written: `.50` in three bytes; `0.50`, `-.50` and `0.00` in four
    × (bytes_of [] 1 three (number (pos 50)) ≡ 46 ∷ 53 ∷ 48 ∷ [])
    × (bytes_of [] 1 four (number (pos 50)) ≡ 48 ∷ 46 ∷ 53 ∷ 48 ∷ [])
    × (bytes_of [] 1 four (number (negsuc 49)) ≡ 45 ∷ 46 ∷ 53 ∷ 48 ∷ [])
    × (bytes_of [] 1 four (number (pos 0)) ≡ 48 ∷ 46 ∷ 48 ∷ 48 ∷ [])
    -- well formed; not with another w, with 1.00, with no decimals, or with point 3
    × (well_formed alone ≡ true)
    × (well_formed (set (set alone (in_row 0 WIDTH) (pos 4)) (in_row 0 FINISH) (pos 4)) ≡ false)
    × (well_formed (set alone (in_row 0 TO) (pos 100)) ≡ false)
    × (well_formed (set (set (set alone (in_row 0 DECIMALS) (pos 0)) (in_row 0 TO) (pos 0)) (in_row 0 WIDTH) (pos 1)) ≡ false)
    × (well_formed (set alone (in_row 0 POINT) (pos 3)) ≡ false)
    -- nor by code 1, which asks for a digit before the point and so for four bytes
    × (well_formed (set alone (in_row 0 POINT) (pos 1)) ≡ false)
    × (quantity_width hundredths (pos 99) ≡ 3)
    × (quantity_width hundredths (negsuc 98) ≡ 4)
unfolding well_formed rows_good row_good columns_good counts_good places_good values_good lines_good widths_good lines_plain values_fit
    all_differ number_new range_width widest width_good room_good idents_differ ◌and◌ all_below any_below sum_below max_below count_of
    signed_of eq_z
    header_of columns_at line_at row_of kind_of spread_of need tail_of least_whole whole_digits quantity_width most_size lowest highest
    digits_of
    count_from number_of in_range on_line legal all_spaces unspaced digits_only decimal_from amount_form amount_size amount_of
    quantity_after
    quantity_of padded amount_bytes quantity_bytes number_field quantity_says field_by bytes_by row_cells header_cells kind_good rows_unused
    xml_good
    uses_good use_good filter_good is_use specials_none
shares = (
  refl,
  refl,
  refl,
  refl,
  refl,
  refl,
  refl,
  refl,
  refl,
  refl,
  refl,
  refl,
  refl,
  refl,
  refl,
  refl,
  refl,
  refl,
  refl,
  refl,
  refl,
  refl,
  refl,
)
