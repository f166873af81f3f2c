-- A row of a table: its value places, what its bytes say, which values fit it and the bytes they give. `v` is the table's count of
-- rows. Start and finish count from 1, places from 0.
use Rattle.std.specs.Prelude.{Bool, true, false, cond, List, [], ◌∷◌, ◌++◌, ℕ, zero, suc, ◌+◌, ◌-◌, ltb, ℤ, pos, length}
use Rattle.places.specs.rule.Places.{pick, put, run}
use Rattle.layout.specs.declared.Spread.TheVariants.{Bits, Fields}
use Rattle.layout.specs.declared.Kind.{Kind}
use Rattle.layout.specs.declared.Kind.TheVariants.{Single, Multiple, Quantity, Character, Logical}
use Rattle.layout.specs.declared.Row.{Row}
use Rattle.fields.specs.rule.Legal.{legal}
use Rattle.fields.specs.rule.Number.{code_bytes, quantity_bytes}
use Rattle.fields.specs.rule.Field.{Value, missing, number, members, text, truth, Field}
use Rattle.fields.specs.rule.Field.{single_field, quantity_field, bits_field, spread_field, text_field}
use Rattle.fields.specs.rule.Field.{truth_field, spaces, bit_bytes, spread_bytes, text_bytes, truth_bytes, set_fits, text_fits}

-- of the n numbers from c on, those that pass
unfoldable pub defined : (ℤ → Bool) → ℕ → ℕ → List ℕ
defined ok c zero = []
defined ok c (suc n) = cond (ok (pos c)) (c ∷ defined ok (suc c) n) (defined ok (suc c) n)

-- a bitstring's defined categories: w is the largest
abbrev pub categories : List ℤ → ℕ → Row → List ℕ
categories t v r = defined (legal t v r) 1 r.width

-- byte c of a position that starts at the place p
unfoldable pub bit_places : ℕ → List ℕ → List ℕ
bit_places p [] = []
bit_places p (c ∷ cs) = (p + (c - 1)) ∷ bit_places p cs

-- the last w bytes of each of n subfields of b bytes, the first of which starts at the place p
unfoldable pub spread_places : ℕ → ℕ → ℕ → ℕ → List ℕ
spread_places p b w zero = []
spread_places p b w (suc n) = run (p + (b - w)) w ++ spread_places (p + b) b w n

-- a row's value places
unfoldable pub places_by : Kind → List ℤ → ℕ → Row → List ℕ
places_by Single t v r = run (r.finish - r.width) r.width
places_by (Multiple Bits) t v r = bit_places (r.start - 1) (categories t v r)
places_by (Multiple (Fields n b)) t v r = spread_places (r.start - 1) b r.width n
places_by (Quantity f) t v r = run (r.finish - r.width) r.width
places_by Character t v r = run (r.start - 1) r.width
places_by Logical t v r = run (r.finish - 1) 1

abbrev pub places_of : List ℤ → ℕ → Row → List ℕ
places_of t v r = places_by r.kind t v r

-- what the bytes of the value places say
unfoldable pub field_by : Kind → List ℤ → ℕ → Row → List ℕ → Field
field_by Single t v r s = single_field (legal t v r) s
field_by (Multiple Bits) t v r s = bits_field (categories t v r) s
field_by (Multiple (Fields n b)) t v r s = spread_field (legal t v r) r.width n s
field_by (Quantity f) t v r s = quantity_field f (legal t v r) s
field_by Character t v r s = text_field s
field_by Logical t v r s = truth_field s

abbrev pub field_of : List ℤ → ℕ → Row → List ℕ → Field
field_of t v r s = field_by r.kind t v r s

-- THE READING of a row: what a record's bytes at its value places say
unfoldable pub reading_of : List ℤ → ℕ → Row → List ℕ → Field
reading_of t v r record' = field_of t v r (pick record' (places_of t v r))

-- ---- writing. A value fits a row, or is of another type (26), not legal (27), or a set with more members than subfields (28)
pub data Fit : Type 0 where
  fits : Fit
  other_type : Fit
  not_legal : Fit
  too_many : Fit

unfoldable pub legal_fit : Bool → Fit
legal_fit true = fits
legal_fit false = not_legal

unfoldable pub fits_by : Kind → List ℤ → ℕ → Row → Value → Fit
fits_by k t v r missing = fits
fits_by Single t v r (number z) = legal_fit (legal t v r z)
fits_by (Quantity f) t v r (number z) = legal_fit (legal t v r z)
fits_by (Multiple s) t v r (number z) = other_type
fits_by Character t v r (number z) = other_type
fits_by Logical t v r (number z) = other_type
fits_by (Multiple Bits) t v r (members ms) = legal_fit (set_fits (legal t v r) ms)
fits_by (Multiple (Fields n b)) t v r (members ms) =
    cond (set_fits (legal t v r) ms) (cond (ltb n (length ms)) too_many fits) not_legal
fits_by Single t v r (members ms) = other_type
fits_by (Quantity f) t v r (members ms) = other_type
fits_by Character t v r (members ms) = other_type
fits_by Logical t v r (members ms) = other_type
fits_by Character t v r (text s) = legal_fit (text_fits r.width s)
fits_by Single t v r (text s) = other_type
fits_by (Multiple s) t v r (text x) = other_type
fits_by (Quantity f) t v r (text s) = other_type
fits_by Logical t v r (text s) = other_type
fits_by Logical t v r (truth b) = fits
fits_by Single t v r (truth b) = other_type
fits_by (Multiple s) t v r (truth b) = other_type
fits_by (Quantity f) t v r (truth b) = other_type
fits_by Character t v r (truth b) = other_type

abbrev pub fit_of : List ℤ → ℕ → Row → Value → Fit
fit_of t v r x = fits_by r.kind t v r x

-- the bytes of a value of this row's type
unfoldable pub bytes_by : Kind → List ℤ → ℕ → Row → Value → List ℕ
bytes_by k t v r missing = spaces (length (places_by k t v r))
bytes_by Single t v r (number z) = code_bytes r.width z
bytes_by (Quantity f) t v r (number z) = quantity_bytes f r.width z
bytes_by (Multiple s) t v r (number z) = []
bytes_by Character t v r (number z) = []
bytes_by Logical t v r (number z) = []
bytes_by (Multiple Bits) t v r (members ms) = bit_bytes ms (categories t v r)
bytes_by (Multiple (Fields n b)) t v r (members ms) = spread_bytes r.width n ms
bytes_by Single t v r (members ms) = []
bytes_by (Quantity f) t v r (members ms) = []
bytes_by Character t v r (members ms) = []
bytes_by Logical t v r (members ms) = []
bytes_by Character t v r (text s) = text_bytes r.width s
bytes_by Single t v r (text s) = []
bytes_by (Multiple s) t v r (text x) = []
bytes_by (Quantity f) t v r (text s) = []
bytes_by Logical t v r (text s) = []
bytes_by Logical t v r (truth b) = truth_bytes b
bytes_by Single t v r (truth b) = []
bytes_by (Multiple s) t v r (truth b) = []
bytes_by (Quantity f) t v r (truth b) = []
bytes_by Character t v r (truth b) = []

abbrev pub bytes_of : List ℤ → ℕ → Row → Value → List ℕ
bytes_of t v r x = bytes_by r.kind t v r x

-- THE WRITE of a value that fits: the record with its bytes at the row's value places
unfoldable pub written_of : List ℤ → ℕ → Row → Value → List ℕ → List ℕ
written_of t v r x record' = put record' (places_of t v r) (bytes_of t v r x)
