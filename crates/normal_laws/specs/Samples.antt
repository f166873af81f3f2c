-- The readings of C-21, by computation: rows written back as they read, and rows that share a value place or none. `row` gives a row's
-- kind, start and finish, w, and its range; it has no lines. The names that compute (`rows_back`) were found by: tools/unfolds rowsBack
-- below.Below:anyBelow cells.Cell:signedOf+numberOf+eqZ widths.Width:leastWhole+tailOf fields sharing.Sharing:isOut+areApart
-- normal.Normal:fieldBack
use Rattle.std.specs.Prelude.{◌≡◌, refl, true, false, List, [], ◌∷◌, ℕ, ℤ, pos, negsuc}
use Prim.Native.Char.{code}
use Prim.Native.String.{String}
use Prim.Native.String as string
use Rattle.below.specs.rule.Below.{any_below}
use Rattle.cells.specs.rule.Cell.{signed_of, number_of, eq_z}
use Rattle.layout.specs.declared.Spread.TheVariants.{Bits, Fields}
use Rattle.layout.specs.declared.Kind.{Kind}
use Rattle.layout.specs.declared.Kind.TheVariants.{Single, Multiple, Quantity, Character, Logical}
use Rattle.layout.specs.declared.Row.{Row}
use Rattle.widths.specs.rule.Width.{least_whole, tail_of}
use Rattle.fields.specs.rule.Legal.{in_range, on_line, legal}
use Rattle.fields.specs.rule.Number.{all_spaces, unspaced, digits_only, decimal_from, code_after, code_of, amount_form, amount_size}
use Rattle.fields.specs.rule.Number.{amount_of}
use Rattle.fields.specs.rule.Number.{quantity_after, quantity_of, padded, amount_bytes, quantity_bytes, code_bytes}
use Rattle.fields.specs.rule.Field.{number_field, single_says, quantity_says, all_bits, set_bits, bits_field, entry_good, entry_is}
use Rattle.fields.specs.rule.Field.{all_entries}
use Rattle.fields.specs.rule.Field.{some_entry, passing, spread_field, all_plain, unended, text_field, truth_field, spaces, is_member}
use Rattle.fields.specs.rule.Field.{bit_bytes}
use Rattle.fields.specs.rule.Field.{spread_bytes, text_bytes, truth_bytes}
use Rattle.fields.specs.rule.Row.{defined, bit_places, spread_places, places_by, places_of, field_by, reading_of, bytes_by, written_of}
use Rattle.sharing.specs.rule.Sharing.{is_out, are_apart}
use Rattle.normal.specs.rule.Normal.{field_back, back_of}

abbrev row : Kind → ℕ → ℕ → ℕ → ℤ → ℤ → Row
row k start finish width from to = record {
  ident = 1;
  kind = k;
  start = start;
  finish = finish;
  width = width;
  range = true;
  from = from;
  to = to;
  before = 0;
  lines = 0;
}

abbrev bytes : String → List ℕ
bytes string.[] = []
bytes (string.◌∷◌ c s) = code c ∷ bytes s

-- a record of one row, before and afterwards
abbrev Becomes : Row → String → String → Type 0
Becomes r old new = back_of [] 1 r (bytes old) ≡ bytes new

-- a SINGLE behind a byte of filler, a spread of two with filler in each subfield, a QUANTITY of one decimal
abbrev single : Row
single = row Single 1 3 2 (pos 1) (pos 20)

abbrev two : Row
two = row (Multiple (Fields 2 3)) 1 6 2 (pos 1) (pos 99)

abbrev amount : Row
amount = row (Quantity (record { decimals = 1; point = 1 })) 1 5 5 (negsuc 998) (pos 9999)

unfoldable rows_back : Unit {0}
unfolding any_below signed_of number_of eq_z least_whole tail_of in_range on_line legal all_spaces unspaced digits_only decimal_from
    code_after code_of
    amount_form
    amount_size amount_of quantity_after quantity_of padded amount_bytes quantity_bytes code_bytes number_field single_says quantity_says
    all_bits
    set_bits bits_field entry_good entry_is all_entries some_entry passing spread_field all_plain unended text_field truth_field spaces
    is_member
    bit_bytes spread_bytes text_bytes truth_bytes defined bit_places spread_places places_by field_by reading_of bytes_by written_of is_out
    are_apart
    field_back
rows_back = tt

-- numbers get zeros in front, behind a minus; a SINGLE of zeros is missing, and missing gives spaces
pub numbers_back :
    Becomes single "x 7" "x07"
    × Becomes single "x00" "x  "
    × Becomes single "x 0" "x  "
    × Becomes single "x  " "x  "
    × Becomes amount " -1.5" "-01.5"
    × Becomes amount "  0.0" "000.0"
    × Becomes amount " -0.0" "000.0"
    × Becomes amount "     " "     "
unfolding rows_back
numbers_back = (refl, refl, refl, refl, refl, refl, refl, refl)

-- a spread rises, none twice, with zeros behind; all spaces stay, spaces and zeros mixed become zeros; filler stays
pub spreads_back :
    Becomes two "x42y01" "x01y42"
    × Becomes two "x 7y 7" "x07y00"
    × Becomes two "x  y 7" "x07y00"
    × Becomes two "x  y  " "x  y  "
    × Becomes two "x  y00" "x00y00"
unfolding rows_back
spreads_back = (refl, refl, refl, refl, refl)

-- bitstrings, texts and truths keep their bytes
pub kept_back :
    Becomes (row (Multiple Bits) 1 3 3 (pos 2) (pos 3)) "x10" "x10"
    × Becomes (row (Multiple Bits) 1 3 3 (pos 2) (pos 3)) "x  " "x  "
    × Becomes (row Character 1 4 3 (pos 0) (pos 0)) " a x" " a x"
    × Becomes (row Logical 1 2 1 (pos 0) (pos 0)) "x0" "x0"
unfolding rows_back
kept_back = (refl, refl, refl, refl)

-- value places and not positions: the filler of a row, and the byte of no category, may be another row's; a subfield's last bytes may not
abbrev truth_at : ℕ → Row
truth_at p = row Logical p p 1 (pos 0) (pos 0)

pub shared_places :
    (are_apart (places_of [] 1 single) (places_of [] 1 (truth_at 1)) ≡ true)
    × (are_apart (places_of [] 1 single) (places_of [] 1 (truth_at 2)) ≡ false)
    × (are_apart (places_of [] 1 two) (places_of [] 1 (truth_at 4)) ≡ true)
    × (are_apart (places_of [] 1 two) (places_of [] 1 (truth_at 6)) ≡ false)
    × (are_apart (places_of [] 1 (row (Multiple Bits) 1 3 3 (pos 2) (pos 3))) (places_of [] 1 (truth_at 1)) ≡ true)
    × (are_apart (places_of [] 1 (row (Multiple Bits) 1 3 3 (pos 2) (pos 3))) (places_of [] 1 (truth_at 3)) ≡ false)
unfolding rows_back
shared_places = (refl, refl, refl, refl, refl, refl)
