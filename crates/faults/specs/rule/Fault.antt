-- "Say what is wrong with a field": the fault of a row, in the request's words, a sentence a line. `quantity` says whether a number is a
-- quantity (else it is a SINGLE's or a subfield's), f is its format, `left` are the bytes to the left of a byte b in its value places or
-- its subfield, `after` is how many follow it there. 32 is a space, 45 `-`, 46 the point, 48 to 57 the digits.
use Rattle.std.specs.Prelude.{Bool, true, false, cond, not, ◌&&◌, ◌||◌, List, [], ◌∷◌, ◌++◌, ℕ, zero, suc, ◌+◌, eqb, leb, ℤ, pos, length}
use Rattle.std.specs.Prelude.{take, drop, get_or}
use Rattle.ascii.specs.rule.Class.{within}
use Rattle.cells.specs.rule.Cell.{eq_z}
use Rattle.widths.specs.rule.Width.{tail_of, least_whole}
use Rattle.layout.specs.declared.Format.{Format}
use Rattle.layout.specs.declared.Spread.TheVariants.{Bits, Fields}
use Rattle.layout.specs.declared.Kind.{Kind}
use Rattle.layout.specs.declared.Kind.TheVariants.{Single, Multiple, Quantity, Character, Logical}
use Rattle.layout.specs.declared.Row.{Row}
use Rattle.places.specs.rule.Places.{pick}
use Rattle.fields.specs.rule.Legal.{legal}
use Rattle.fields.specs.rule.Number.{Said, blank, says, wrong, all_spaces, code_of, quantity_of}
use Rattle.fields.specs.rule.Row.{places_of}
use Rattle.faults.specs.declared.Fault.{Fault}
use Rattle.faults.specs.declared.Fault.TheVariants.{Sound, Stray, NotLegal, Point}
use Rattle.faults.specs.declared.Test.{Test}
use Rattle.faults.specs.declared.Test.TheVariants.{Space, Bit, Plain}

-- ---- faults
-- the number of each: "241 stray byte, 242 not a legal value, 243 decimal point"; 0 where there is none
unfoldable pub fault_number : Fault → ℕ
fault_number Sound = 0
fault_number (Stray p) = 241
fault_number (NotLegal z) = 242
fault_number (Point p) = 243

-- the first of two that is one
unfoldable pub or_else : Fault → Fault → Fault
or_else Sound g = g
or_else (Stray p) g = Stray p
or_else (NotLegal z) g = NotLegal z
or_else (Point p) g = Point p

-- ---- the form of a number
-- a SINGLE's, and a subfield's: no point
abbrev pub code_format : Format
code_format = record { decimals = 0; point = 0 }

-- "the point, the digit before it (with no point the last; none under code 2) and those after it have fixed places": the last so many
unfoldable pub fixed_of : Format → ℕ
fixed_of f = least_whole f + tail_of f

-- the place of the point: the decimals follow it
unfoldable pub point_place : Format → ℕ → Bool
point_place f after = not (eqb f.point 0) && eqb after f.decimals

-- a point stands at the point's place alone, a digit at every other place;
-- "the places before take spaces, at most one minus (in a quantity only), then digits"
unfoldable pub may_stand : Bool → Format → List ℕ → ℕ → ℕ → Bool
may_stand quantity f left after b =
    cond (point_place f after) (eqb b 46)
    (within 48 57 b || ((leb (fixed_of f) after && all_spaces left) && (eqb b 32 || (quantity && eqb b 45))))

-- "in a quantity no point at its place, or a point elsewhere, is a point fault";
-- "any other byte that cannot stand there after those to its left is a stray"
unfoldable pub fault_at : Bool → Format → ℕ → ℕ → ℕ → Fault
fault_at quantity f after p b = cond (quantity && (point_place f after || eqb b 46)) (Point p) (Stray p)

-- "the leftmost fault counts, with its place": over places of a record, in their order
unfoldable pub number_from : Bool → Format → List ℕ → List ℕ → List ℕ → Fault
number_from quantity f record' left [] = Sound
number_from quantity f record' left (p ∷ ps) =
    cond (may_stand quantity f left (length ps) (get_or record' p 0))
    (number_from quantity f record' (left ++ (get_or record' p 0 ∷ [])) ps)
    (fault_at quantity f (length ps) p (get_or record' p 0))

-- "value places, or a subfield, that are all spaces hold no fault"
unfoldable pub number_form : Bool → Format → List ℕ → List ℕ → Fault
number_form quantity f record' ps = cond (all_spaces (pick record' ps)) Sound (number_from quantity f record' [] ps)

-- the n subfields of a spread, w places each, from the left
unfoldable pub spread_form : ℕ → List ℕ → ℕ → List ℕ → Fault
spread_form w record' zero ps = Sound
spread_form w record' (suc n) ps = or_else (number_form false code_format record' (take w ps)) (spread_form w record' n (drop w ps))

-- ---- the form of a field without numbers: each byte by itself
unfoldable pub passes : Test → ℕ → Bool
passes Space b = eqb b 32
passes Bit b = eqb b 48 || eqb b 49
passes Plain b = leb 32 b

-- the first place whose byte fails
unfoldable pub first_failing : Test → List ℕ → List ℕ → Fault
first_failing x record' [] = Sound
first_failing x record' (p ∷ ps) = cond (passes x (get_or record' p 0)) (first_failing x record' ps) (Stray p)

unfoldable pub plain_form : Test → List ℕ → List ℕ → Fault
plain_form x record' ps = cond (all_spaces (pick record' ps)) Sound (first_failing x record' ps)

-- ---- values
-- a number said that is none of those that may be said
unfoldable pub value_fault : (ℤ → Bool) → Said → Fault
value_fault ok blank = Sound
value_fault ok (says z) = cond (ok z) Sound (NotLegal z)
value_fault ok wrong = Sound

-- "the first number neither in range nor on a line"; zero of a SINGLE is missing, of a subfield unused
unfoldable pub usable : (ℤ → Bool) → ℤ → Bool
usable ok z = eq_z z (pos 0) || ok z

unfoldable pub spread_value : (ℤ → Bool) → ℕ → List ℕ → ℕ → List ℕ → Fault
spread_value ok w record' zero ps = Sound
spread_value ok w record' (suc n) ps =
    or_else (value_fault (usable ok) (code_of (pick record' (take w ps)))) (spread_value ok w record' n (drop w ps))

-- ---- a row
unfoldable pub form_by : Kind → ℕ → List ℕ → List ℕ → Fault
form_by Single w record' ps = number_form false code_format record' ps
form_by (Multiple Bits) w record' ps = plain_form Bit record' ps
form_by (Multiple (Fields n b)) w record' ps = spread_form w record' n ps
form_by (Quantity f) w record' ps = number_form true f record' ps
form_by Character w record' ps = plain_form Plain record' ps
form_by Logical w record' ps = plain_form Bit record' ps

unfoldable pub value_by : Kind → (ℤ → Bool) → ℕ → List ℕ → List ℕ → Fault
value_by Single ok w record' ps = value_fault (usable ok) (code_of (pick record' ps))
value_by (Multiple Bits) ok w record' ps = Sound
value_by (Multiple (Fields n b)) ok w record' ps = spread_value ok w record' n ps
value_by (Quantity f) ok w record' ps = value_fault ok (quantity_of f (pick record' ps))
value_by Character ok w record' ps = Sound
value_by Logical ok w record' ps = Sound

-- THE FAULT of a row in a record: "only a row sound in form is judged for values"
unfoldable pub fault_of : List ℤ → ℕ → Row → List ℕ → Fault
fault_of t v r record' =
    or_else (form_by r.kind r.width record' (places_of t v r)) (value_by r.kind (legal t v r) r.width record' (places_of t v r))
