-- The readings of C-18, by computation. `row` gives a row's kind, start and finish, w, whether it has a range, from and to; it has no
-- lines.
use Rattle.std.specs.Prelude.{◌≡◌, refl, Bool, true, false, List, [], ◌∷◌, ℕ, ℤ, pos, negsuc}
use Rattle.below.specs.rule.Below.{any_below}
use Rattle.cells.specs.rule.Cell.{eq_z, number_of}
use Rattle.layout.specs.declared.Spread.TheVariants.{Bits, Fields}
use Rattle.layout.specs.declared.Kind.{Kind}
use Rattle.layout.specs.declared.Kind.TheVariants.{Single, Multiple, Quantity, Character, Logical}
use Rattle.layout.specs.declared.Row.{Row}
use Rattle.places.specs.rule.Places.{run}
use Rattle.widths.specs.rule.Width.{tail_of, least_whole}
use Rattle.fields.specs.rule.Legal.{in_range, on_line, legal}
use Rattle.fields.specs.rule.Number.{all_spaces, unspaced, digits_only, decimal_from, code_after}
use Rattle.fields.specs.rule.Number.{code_of, amount_form, amount_size, amount_of, quantity_after, quantity_of}
use Rattle.fields.specs.rule.Row.{defined, bit_places, spread_places, places_by}
use Rattle.faults.specs.declared.Fault.{Fault}
use Rattle.faults.specs.declared.Fault.TheVariants.{Sound, Stray, NotLegal, Point}
use Rattle.faults.specs.rule.Fault.{or_else, fixed_of, point_place, may_stand, fault_at, number_from, number_form, spread_form}
use Rattle.faults.specs.rule.Fault.{passes, first_failing, plain_form, value_fault, usable, spread_value, form_by, value_by, fault_of}

abbrev row : Kind → ℕ → ℕ → ℕ → Bool → ℤ → ℤ → Row
row k start finish width range from to = record {
  ident = 1;
  kind = k;
  start = start;
  finish = finish;
  width = width;
  range = range;
  from = from;
  to = to;
  before = 0;
  lines = 0;
}

abbrev fault_in : Row → List ℕ → Fault
fault_in r s = fault_of [] 1 r s

-- ` 10`: a space in a bitstring that is not all spaces
pub sample0 : fault_in (row (Multiple Bits) 1 3 3 true (pos 1) (pos 3)) (32 ∷ 49 ∷ 48 ∷ []) ≡ Stray 0
unfolding any_below eq_z number_of tail_of in_range on_line legal all_spaces unspaced digits_only decimal_from code_after code_of
    amount_form amount_size
    amount_of quantity_after quantity_of defined bit_places spread_places places_by or_else least_whole fixed_of point_place may_stand
    fault_at
    number_from number_form spread_form passes first_failing plain_form value_fault usable spread_value form_by value_by fault_of
sample0 = refl

-- `1.0`: a point in a bitstring
pub sample1 : fault_in (row (Multiple Bits) 1 3 3 true (pos 1) (pos 3)) (49 ∷ 46 ∷ 48 ∷ []) ≡ Stray 1
unfolding any_below eq_z number_of tail_of in_range on_line legal all_spaces unspaced digits_only decimal_from code_after code_of
    amount_form amount_size
    amount_of quantity_after quantity_of defined bit_places spread_places places_by or_else least_whole fixed_of point_place may_stand
    fault_at
    number_from number_form spread_form passes first_failing plain_form value_fault usable spread_value form_by value_by fault_of
sample1 = refl

-- `   `: all spaces
pub sample2 : fault_in (row (Multiple Bits) 1 3 3 true (pos 1) (pos 3)) (32 ∷ 32 ∷ 32 ∷ []) ≡ Sound
unfolding any_below eq_z number_of tail_of in_range on_line legal all_spaces unspaced digits_only decimal_from code_after code_of
    amount_form amount_size
    amount_of quantity_after quantity_of defined bit_places spread_places places_by or_else least_whole fixed_of point_place may_stand
    fault_at
    number_from number_form spread_form passes first_failing plain_form value_fault usable spread_value form_by value_by fault_of
sample2 = refl

-- `  .5`: a space at the fixed digit
pub sample3 : fault_in (row (Quantity (record { decimals = 1; point = 1 })) 1 4 4 true (pos 0) (pos 999)) (32 ∷ 32 ∷ 46 ∷ 53 ∷ []) ≡ Stray 1
unfolding any_below eq_z number_of tail_of in_range on_line legal all_spaces unspaced digits_only decimal_from code_after code_of
    amount_form amount_size
    amount_of quantity_after quantity_of defined bit_places spread_places places_by or_else least_whole fixed_of point_place may_stand
    fault_at
    number_from number_form spread_form passes first_failing plain_form value_fault usable spread_value form_by value_by fault_of
sample3 = refl

-- `  750`: and not the point that is missing
pub sample4 : fault_in (row (Quantity (record { decimals = 2; point = 1 })) 1 5 5 true (pos 0) (pos 9999)) (32 ∷ 32 ∷ 55 ∷ 53 ∷ 48 ∷ [])
    ≡ Stray 1
unfolding any_below eq_z number_of tail_of in_range on_line legal all_spaces unspaced digits_only decimal_from code_after code_of
    amount_form amount_size
    amount_of quantity_after quantity_of defined bit_places spread_places places_by or_else least_whole fixed_of point_place may_stand
    fault_at
    number_from number_form spread_form passes first_failing plain_form value_fault usable spread_value form_by value_by fault_of
sample4 = refl

-- ` 1750`: no point at its place
pub sample5 : fault_in (row (Quantity (record { decimals = 2; point = 1 })) 1 5 5 true (pos 0) (pos 9999)) (32 ∷ 49 ∷ 55 ∷ 53 ∷ 48 ∷ [])
    ≡ Point 2
unfolding any_below eq_z number_of tail_of in_range on_line legal all_spaces unspaced digits_only decimal_from code_after code_of
    amount_form amount_size
    amount_of quantity_after quantity_of defined bit_places spread_places places_by or_else least_whole fixed_of point_place may_stand
    fault_at
    number_from number_form spread_form passes first_failing plain_form value_fault usable spread_value form_by value_by fault_of
sample5 = refl

-- ` 1 50`: a space there
pub sample6 : fault_in (row (Quantity (record { decimals = 2; point = 1 })) 1 5 5 true (pos 0) (pos 9999)) (32 ∷ 49 ∷ 32 ∷ 53 ∷ 48 ∷ [])
    ≡ Point 2
unfolding any_below eq_z number_of tail_of in_range on_line legal all_spaces unspaced digits_only decimal_from code_after code_of
    amount_form amount_size
    amount_of quantity_after quantity_of defined bit_places spread_places places_by or_else least_whole fixed_of point_place may_stand
    fault_at
    number_from number_form spread_form passes first_failing plain_form value_fault usable spread_value form_by value_by fault_of
sample6 = refl

-- ` 1.50`: 150
pub sample7 : fault_in (row (Quantity (record { decimals = 2; point = 1 })) 1 5 5 true (pos 0) (pos 9999)) (32 ∷ 49 ∷ 46 ∷ 53 ∷ 48 ∷ [])
    ≡ Sound
unfolding any_below eq_z number_of tail_of in_range on_line legal all_spaces unspaced digits_only decimal_from code_after code_of
    amount_form amount_size
    amount_of quantity_after quantity_of defined bit_places spread_places places_by or_else least_whole fixed_of point_place may_stand
    fault_at
    number_from number_form spread_form passes first_failing plain_form value_fault usable spread_value form_by value_by fault_of
sample7 = refl

-- `1.50 `: a point before its place
pub sample8 : fault_in (row (Quantity (record { decimals = 2; point = 1 })) 1 5 5 true (pos 0) (pos 9999)) (49 ∷ 46 ∷ 53 ∷ 48 ∷ 32 ∷ [])
    ≡ Point 1
unfolding any_below eq_z number_of tail_of in_range on_line legal all_spaces unspaced digits_only decimal_from code_after code_of
    amount_form amount_size
    amount_of quantity_after quantity_of defined bit_places spread_places places_by or_else least_whole fixed_of point_place may_stand
    fault_at
    number_from number_form spread_form passes first_failing plain_form value_fault usable spread_value form_by value_by fault_of
sample8 = refl

-- `1.50`: a point at the fixed digit
pub sample9 : fault_in (row (Quantity (record { decimals = 1; point = 1 })) 1 4 4 true (pos 0) (pos 999)) (49 ∷ 46 ∷ 53 ∷ 48 ∷ []) ≡ Point 1
unfolding any_below eq_z number_of tail_of in_range on_line legal all_spaces unspaced digits_only decimal_from code_after code_of
    amount_form amount_size
    amount_of quantity_after quantity_of defined bit_places spread_places places_by or_else least_whole fixed_of point_place may_stand
    fault_at
    number_from number_form spread_form passes first_failing plain_form value_fault usable spread_value form_by value_by fault_of
sample9 = refl

-- `1.50`: a point where none is required
pub sample10 : fault_in (row (Quantity (record { decimals = 0; point = 0 })) 1 4 4 true (pos 0) (pos 9999)) (49 ∷ 46 ∷ 53 ∷ 48 ∷ [])
    ≡ Point 1
unfolding any_below eq_z number_of tail_of in_range on_line legal all_spaces unspaced digits_only decimal_from code_after code_of
    amount_form amount_size
    amount_of quantity_after quantity_of defined bit_places spread_places places_by or_else least_whole fixed_of point_place may_stand
    fault_at
    number_from number_form spread_form passes first_failing plain_form value_fault usable spread_value form_by value_by fault_of
sample10 = refl

-- `1 5`: a space after a digit
pub sample11 : fault_in (row (Quantity (record { decimals = 0; point = 0 })) 1 3 3 true (pos 0) (pos 999)) (49 ∷ 32 ∷ 53 ∷ []) ≡ Stray 1
unfolding any_below eq_z number_of tail_of in_range on_line legal all_spaces unspaced digits_only decimal_from code_after code_of
    amount_form amount_size
    amount_of quantity_after quantity_of defined bit_places spread_places places_by or_else least_whole fixed_of point_place may_stand
    fault_at
    number_from number_form spread_form passes first_failing plain_form value_fault usable spread_value form_by value_by fault_of
sample11 = refl

-- `- 15`: after a minus
pub sample12 : fault_in (row (Quantity (record { decimals = 0; point = 0 })) 1 4 4 true (negsuc 98) (pos 999)) (45 ∷ 32 ∷ 49 ∷ 53 ∷ [])
    ≡ Stray 1
unfolding any_below eq_z number_of tail_of in_range on_line legal all_spaces unspaced digits_only decimal_from code_after code_of
    amount_form amount_size
    amount_of quantity_after quantity_of defined bit_places spread_places places_by or_else least_whole fixed_of point_place may_stand
    fault_at
    number_from number_form spread_form passes first_failing plain_form value_fault usable spread_value form_by value_by fault_of
sample12 = refl

-- `1 15`: after a digit
pub sample13 : fault_in (row (Quantity (record { decimals = 0; point = 0 })) 1 4 4 true (pos 0) (pos 9999)) (49 ∷ 32 ∷ 49 ∷ 53 ∷ [])
    ≡ Stray 1
unfolding any_below eq_z number_of tail_of in_range on_line legal all_spaces unspaced digits_only decimal_from code_after code_of
    amount_form amount_size
    amount_of quantity_after quantity_of defined bit_places spread_places places_by or_else least_whole fixed_of point_place may_stand
    fault_at
    number_from number_form spread_form passes first_failing plain_form value_fault usable spread_value form_by value_by fault_of
sample13 = refl

-- `--15`: a second minus
pub sample14 : fault_in (row (Quantity (record { decimals = 0; point = 0 })) 1 4 4 true (negsuc 98) (pos 999)) (45 ∷ 45 ∷ 49 ∷ 53 ∷ [])
    ≡ Stray 1
unfolding any_below eq_z number_of tail_of in_range on_line legal all_spaces unspaced digits_only decimal_from code_after code_of
    amount_form amount_size
    amount_of quantity_after quantity_of defined bit_places spread_places places_by or_else least_whole fixed_of point_place may_stand
    fault_at
    number_from number_form spread_form passes first_failing plain_form value_fault usable spread_value form_by value_by fault_of
sample14 = refl

-- `   -`: a minus at the fixed digit
pub sample15 : fault_in (row (Quantity (record { decimals = 0; point = 0 })) 1 4 4 true (negsuc 98) (pos 999)) (32 ∷ 32 ∷ 32 ∷ 45 ∷ [])
    ≡ Stray 3
unfolding any_below eq_z number_of tail_of in_range on_line legal all_spaces unspaced digits_only decimal_from code_after code_of
    amount_form amount_size
    amount_of quantity_after quantity_of defined bit_places spread_places places_by or_else least_whole fixed_of point_place may_stand
    fault_at
    number_from number_form spread_form passes first_failing plain_form value_fault usable spread_value form_by value_by fault_of
sample15 = refl

-- ` +15`: a plus
pub sample16 : fault_in (row (Quantity (record { decimals = 0; point = 0 })) 1 4 4 true (negsuc 98) (pos 999)) (32 ∷ 43 ∷ 49 ∷ 53 ∷ [])
    ≡ Stray 1
unfolding any_below eq_z number_of tail_of in_range on_line legal all_spaces unspaced digits_only decimal_from code_after code_of
    amount_form amount_size
    amount_of quantity_after quantity_of defined bit_places spread_places places_by or_else least_whole fixed_of point_place may_stand
    fault_at
    number_from number_form spread_form passes first_failing plain_form value_fault usable spread_value form_by value_by fault_of
sample16 = refl

-- ` -15`: -15
pub sample17 : fault_in (row (Quantity (record { decimals = 0; point = 0 })) 1 4 4 true (negsuc 98) (pos 999)) (32 ∷ 45 ∷ 49 ∷ 53 ∷ [])
    ≡ Sound
unfolding any_below eq_z number_of tail_of in_range on_line legal all_spaces unspaced digits_only decimal_from code_after code_of
    amount_form amount_size
    amount_of quantity_after quantity_of defined bit_places spread_places places_by or_else least_whole fixed_of point_place may_stand
    fault_at
    number_from number_form spread_form passes first_failing plain_form value_fault usable spread_value form_by value_by fault_of
sample17 = refl

-- `0`: zero of a quantity can be no legal value
pub sample18 : fault_in (row (Quantity (record { decimals = 0; point = 0 })) 1 1 1 true (pos 5) (pos 9)) (48 ∷ []) ≡ NotLegal (pos 0)
unfolding any_below eq_z number_of tail_of in_range on_line legal all_spaces unspaced digits_only decimal_from code_after code_of
    amount_form amount_size
    amount_of quantity_after quantity_of defined bit_places spread_places places_by or_else least_whole fixed_of point_place may_stand
    fault_at
    number_from number_form spread_form passes first_failing plain_form value_fault usable spread_value form_by value_by fault_of
sample18 = refl

-- `-100`: the number with its sign
pub sample19 : fault_in (row (Quantity (record { decimals = 0; point = 0 })) 1 4 4 true (negsuc 98) (pos 999)) (45 ∷ 49 ∷ 48 ∷ 48 ∷ [])
    ≡ NotLegal (negsuc 99)
unfolding any_below eq_z number_of tail_of in_range on_line legal all_spaces unspaced digits_only decimal_from code_after code_of
    amount_form amount_size
    amount_of quantity_after quantity_of defined bit_places spread_places places_by or_else least_whole fixed_of point_place may_stand
    fault_at
    number_from number_form spread_form passes first_failing plain_form value_fault usable spread_value form_by value_by fault_of
sample19 = refl

-- `1.5`: a point in a SINGLE
pub sample20 : fault_in (row (Single) 1 3 3 true (pos 1) (pos 999)) (49 ∷ 46 ∷ 53 ∷ []) ≡ Stray 1
unfolding any_below eq_z number_of tail_of in_range on_line legal all_spaces unspaced digits_only decimal_from code_after code_of
    amount_form amount_size
    amount_of quantity_after quantity_of defined bit_places spread_places places_by or_else least_whole fixed_of point_place may_stand
    fault_at
    number_from number_form spread_form passes first_failing plain_form value_fault usable spread_value form_by value_by fault_of
sample20 = refl

-- `-5`: a minus in a SINGLE
pub sample21 : fault_in (row (Single) 1 2 2 true (pos 1) (pos 99)) (45 ∷ 53 ∷ []) ≡ Stray 0
unfolding any_below eq_z number_of tail_of in_range on_line legal all_spaces unspaced digits_only decimal_from code_after code_of
    amount_form amount_size
    amount_of quantity_after quantity_of defined bit_places spread_places places_by or_else least_whole fixed_of point_place may_stand
    fault_at
    number_from number_form spread_form passes first_failing plain_form value_fault usable spread_value form_by value_by fault_of
sample21 = refl

-- `00`: zero of a SINGLE is missing
pub sample22 : fault_in (row (Single) 1 2 2 true (pos 1) (pos 20)) (48 ∷ 48 ∷ []) ≡ Sound
unfolding any_below eq_z number_of tail_of in_range on_line legal all_spaces unspaced digits_only decimal_from code_after code_of
    amount_form amount_size
    amount_of quantity_after quantity_of defined bit_places spread_places places_by or_else least_whole fixed_of point_place may_stand
    fault_at
    number_from number_form spread_form passes first_failing plain_form value_fault usable spread_value form_by value_by fault_of
sample22 = refl

-- `21`
pub sample23 : fault_in (row (Single) 1 2 2 true (pos 1) (pos 20)) (50 ∷ 49 ∷ []) ≡ NotLegal (pos 21)
unfolding any_below eq_z number_of tail_of in_range on_line legal all_spaces unspaced digits_only decimal_from code_after code_of
    amount_form amount_size
    amount_of quantity_after quantity_of defined bit_places spread_places places_by or_else least_whole fixed_of point_place may_stand
    fault_at
    number_from number_form spread_form passes first_failing plain_form value_fault usable spread_value form_by value_by fault_of
sample23 = refl

-- `xxx1x`: the place in the record; filler is not read
pub sample24 : fault_in (row (Single) 1 5 2 true (pos 1) (pos 20)) (120 ∷ 120 ∷ 120 ∷ 49 ∷ 120 ∷ []) ≡ Stray 4
unfolding any_below eq_z number_of tail_of in_range on_line legal all_spaces unspaced digits_only decimal_from code_after code_of
    amount_form amount_size
    amount_of quantity_after quantity_of defined bit_places spread_places places_by or_else least_whole fixed_of point_place may_stand
    fault_at
    number_from number_form spread_form passes first_failing plain_form value_fault usable spread_value form_by value_by fault_of
sample24 = refl

-- `99x1`: a whole row has its form before its values
pub sample25 : fault_in (row (Multiple (Fields 2 2)) 1 4 2 true (pos 1) (pos 40)) (57 ∷ 57 ∷ 120 ∷ 49 ∷ []) ≡ Stray 2
unfolding any_below eq_z number_of tail_of in_range on_line legal all_spaces unspaced digits_only decimal_from code_after code_of
    amount_form amount_size
    amount_of quantity_after quantity_of defined bit_places spread_places places_by or_else least_whole fixed_of point_place may_stand
    fault_at
    number_from number_form spread_form passes first_failing plain_form value_fault usable spread_value form_by value_by fault_of
sample25 = refl

-- `9941`: the first number, not the smallest
pub sample26 : fault_in (row (Multiple (Fields 2 2)) 1 4 2 true (pos 1) (pos 40)) (57 ∷ 57 ∷ 52 ∷ 49 ∷ []) ≡ NotLegal (pos 99)
unfolding any_below eq_z number_of tail_of in_range on_line legal all_spaces unspaced digits_only decimal_from code_after code_of
    amount_form amount_size
    amount_of quantity_after quantity_of defined bit_places spread_places places_by or_else least_whole fixed_of point_place may_stand
    fault_at
    number_from number_form spread_form passes first_failing plain_form value_fault usable spread_value form_by value_by fault_of
sample26 = refl

-- `0041`: zero is unused
pub sample27 : fault_in (row (Multiple (Fields 2 2)) 1 4 2 true (pos 1) (pos 40)) (48 ∷ 48 ∷ 52 ∷ 49 ∷ []) ≡ NotLegal (pos 41)
unfolding any_below eq_z number_of tail_of in_range on_line legal all_spaces unspaced digits_only decimal_from code_after code_of
    amount_form amount_size
    amount_of quantity_after quantity_of defined bit_places spread_places places_by or_else least_whole fixed_of point_place may_stand
    fault_at
    number_from number_form spread_form passes first_failing plain_form value_fault usable spread_value form_by value_by fault_of
sample27 = refl

-- `  4 `: a subfield of spaces holds no fault
pub sample28 : fault_in (row (Multiple (Fields 2 2)) 1 4 2 true (pos 1) (pos 40)) (32 ∷ 32 ∷ 52 ∷ 32 ∷ []) ≡ Stray 3
unfolding any_below eq_z number_of tail_of in_range on_line legal all_spaces unspaced digits_only decimal_from code_after code_of
    amount_form amount_size
    amount_of quantity_after quantity_of defined bit_places spread_places places_by or_else least_whole fixed_of point_place may_stand
    fault_at
    number_from number_form spread_form passes first_failing plain_form value_fault usable spread_value form_by value_by fault_of
sample28 = refl

-- `x 1x1x`: filler of a subfield is not read
pub sample29 : fault_in (row (Multiple (Fields 2 3)) 1 6 2 true (pos 1) (pos 40)) (120 ∷ 32 ∷ 49 ∷ 120 ∷ 49 ∷ 120 ∷ []) ≡ Stray 5
unfolding any_below eq_z number_of tail_of in_range on_line legal all_spaces unspaced digits_only decimal_from code_after code_of
    amount_form amount_size
    amount_of quantity_after quantity_of defined bit_places spread_places places_by or_else least_whole fixed_of point_place may_stand
    fault_at
    number_from number_form spread_form passes first_failing plain_form value_fault usable spread_value form_by value_by fault_of
sample29 = refl

-- `a?b`: a byte below 32 in a text
pub sample30 : fault_in (row (Character) 1 3 3 false (pos 0) (pos 0)) (97 ∷ 9 ∷ 98 ∷ []) ≡ Stray 1
unfolding any_below eq_z number_of tail_of in_range on_line legal all_spaces unspaced digits_only decimal_from code_after code_of
    amount_form amount_size
    amount_of quantity_after quantity_of defined bit_places spread_places places_by or_else least_whole fixed_of point_place may_stand
    fault_at
    number_from number_form spread_form passes first_failing plain_form value_fault usable spread_value form_by value_by fault_of
sample30 = refl

-- ` 2`
pub sample31 : fault_in (row (Logical) 1 2 1 false (pos 0) (pos 0)) (32 ∷ 50 ∷ []) ≡ Stray 1
unfolding any_below eq_z number_of tail_of in_range on_line legal all_spaces unspaced digits_only decimal_from code_after code_of
    amount_form amount_size
    amount_of quantity_after quantity_of defined bit_places spread_places places_by or_else least_whole fixed_of point_place may_stand
    fault_at
    number_from number_form spread_form passes first_failing plain_form value_fault usable spread_value form_by value_by fault_of
sample31 = refl

-- `x.`: a point in a LOGICAL
pub sample32 : fault_in (row (Logical) 1 2 1 false (pos 0) (pos 0)) (120 ∷ 46 ∷ []) ≡ Stray 1
unfolding any_below eq_z number_of tail_of in_range on_line legal all_spaces unspaced digits_only decimal_from code_after code_of
    amount_form amount_size
    amount_of quantity_after quantity_of defined bit_places spread_places places_by or_else least_whole fixed_of point_place may_stand
    fault_at
    number_from number_form spread_form passes first_failing plain_form value_fault usable spread_value form_by value_by fault_of
sample32 = refl

-- ---- code 2, form alone: what such a number says comes with C-13
abbrev share_in : ℕ → List ℕ → Fault
share_in w s = form_by (Quantity (record { decimals = 2; point = 2 })) w s (run 0 w)

-- `.50`: no digit before the point
pub share0 : share_in 3 (46 ∷ 53 ∷ 48 ∷ []) ≡ Sound
unfolding any_below eq_z number_of tail_of in_range on_line legal all_spaces unspaced digits_only decimal_from code_after code_of
    amount_form amount_size
    amount_of quantity_after quantity_of defined bit_places spread_places places_by or_else least_whole fixed_of point_place may_stand
    fault_at
    number_from number_form spread_form passes first_failing plain_form value_fault usable spread_value form_by value_by fault_of
share0 = refl

-- `050`: no places before it
pub share1 : share_in 3 (48 ∷ 53 ∷ 48 ∷ []) ≡ Point 0
unfolding any_below eq_z number_of tail_of in_range on_line legal all_spaces unspaced digits_only decimal_from code_after code_of
    amount_form amount_size
    amount_of quantity_after quantity_of defined bit_places spread_places places_by or_else least_whole fixed_of point_place may_stand
    fault_at
    number_from number_form spread_form passes first_failing plain_form value_fault usable spread_value form_by value_by fault_of
share1 = refl

-- ` 50`
pub share2 : share_in 3 (32 ∷ 53 ∷ 48 ∷ []) ≡ Point 0
unfolding any_below eq_z number_of tail_of in_range on_line legal all_spaces unspaced digits_only decimal_from code_after code_of
    amount_form amount_size
    amount_of quantity_after quantity_of defined bit_places spread_places places_by or_else least_whole fixed_of point_place may_stand
    fault_at
    number_from number_form spread_form passes first_failing plain_form value_fault usable spread_value form_by value_by fault_of
share2 = refl

-- ` .50`
pub share3 : share_in 4 (32 ∷ 46 ∷ 53 ∷ 48 ∷ []) ≡ Sound
unfolding any_below eq_z number_of tail_of in_range on_line legal all_spaces unspaced digits_only decimal_from code_after code_of
    amount_form amount_size
    amount_of quantity_after quantity_of defined bit_places spread_places places_by or_else least_whole fixed_of point_place may_stand
    fault_at
    number_from number_form spread_form passes first_failing plain_form value_fault usable spread_value form_by value_by fault_of
share3 = refl

-- `0.50`
pub share4 : share_in 4 (48 ∷ 46 ∷ 53 ∷ 48 ∷ []) ≡ Sound
unfolding any_below eq_z number_of tail_of in_range on_line legal all_spaces unspaced digits_only decimal_from code_after code_of
    amount_form amount_size
    amount_of quantity_after quantity_of defined bit_places spread_places places_by or_else least_whole fixed_of point_place may_stand
    fault_at
    number_from number_form spread_form passes first_failing plain_form value_fault usable spread_value form_by value_by fault_of
share4 = refl

-- `-.50`
pub share5 : share_in 4 (45 ∷ 46 ∷ 53 ∷ 48 ∷ []) ≡ Sound
unfolding any_below eq_z number_of tail_of in_range on_line legal all_spaces unspaced digits_only decimal_from code_after code_of
    amount_form amount_size
    amount_of quantity_after quantity_of defined bit_places spread_places places_by or_else least_whole fixed_of point_place may_stand
    fault_at
    number_from number_form spread_form passes first_failing plain_form value_fault usable spread_value form_by value_by fault_of
share5 = refl

-- `1.50`: its form is sound: that it says too much is a value's fault
pub share6 : share_in 4 (49 ∷ 46 ∷ 53 ∷ 48 ∷ []) ≡ Sound
unfolding any_below eq_z number_of tail_of in_range on_line legal all_spaces unspaced digits_only decimal_from code_after code_of
    amount_form amount_size
    amount_of quantity_after quantity_of defined bit_places spread_places places_by or_else least_whole fixed_of point_place may_stand
    fault_at
    number_from number_form spread_form passes first_failing plain_form value_fault usable spread_value form_by value_by fault_of
share6 = refl

-- `  50`: the place of the point, one before two decimals
pub share7 : share_in 4 (32 ∷ 32 ∷ 53 ∷ 48 ∷ []) ≡ Point 1
unfolding any_below eq_z number_of tail_of in_range on_line legal all_spaces unspaced digits_only decimal_from code_after code_of
    amount_form amount_size
    amount_of quantity_after quantity_of defined bit_places spread_places places_by or_else least_whole fixed_of point_place may_stand
    fault_at
    number_from number_form spread_form passes first_failing plain_form value_fault usable spread_value form_by value_by fault_of
share7 = refl

-- `.500`: a point elsewhere
pub share8 : share_in 4 (46 ∷ 53 ∷ 48 ∷ 48 ∷ []) ≡ Point 0
unfolding any_below eq_z number_of tail_of in_range on_line legal all_spaces unspaced digits_only decimal_from code_after code_of
    amount_form amount_size
    amount_of quantity_after quantity_of defined bit_places spread_places places_by or_else least_whole fixed_of point_place may_stand
    fault_at
    number_from number_form spread_form passes first_failing plain_form value_fault usable spread_value form_by value_by fault_of
share8 = refl

-- `-.5 `
pub share9 : share_in 4 (45 ∷ 46 ∷ 53 ∷ 32 ∷ []) ≡ Stray 3
unfolding any_below eq_z number_of tail_of in_range on_line legal all_spaces unspaced digits_only decimal_from code_after code_of
    amount_form amount_size
    amount_of quantity_after quantity_of defined bit_places spread_places places_by or_else least_whole fixed_of point_place may_stand
    fault_at
    number_from number_form spread_form passes first_failing plain_form value_fault usable spread_value form_by value_by fault_of
share9 = refl

-- `x.50`
pub share10 : share_in 4 (120 ∷ 46 ∷ 53 ∷ 48 ∷ []) ≡ Stray 0
unfolding any_below eq_z number_of tail_of in_range on_line legal all_spaces unspaced digits_only decimal_from code_after code_of
    amount_form amount_size
    amount_of quantity_after quantity_of defined bit_places spread_places places_by or_else least_whole fixed_of point_place may_stand
    fault_at
    number_from number_form spread_form passes first_failing plain_form value_fault usable spread_value form_by value_by fault_of
share10 = refl
