-- What the bytes of a number say, and the bytes of a number. 32 is a space, 45 `-`, 46 the point, 48 to 57 the digits.
use Rattle.std.specs.Prelude.{Bool, true, false, cond, ◌&&◌, List, [], ◌∷◌, ◌++◌, ℕ, zero, suc, ◌+◌, ◌-◌, ◌*◌, ◌/◌, ◌%◌, ◌^◌, eqb, leb, ℤ}
use Rattle.std.specs.Prelude.{pos, length, take, drop, get_or}
use Rattle.ascii.specs.rule.Class.{within}
use Rattle.cells.specs.rule.Cell.{number_of, signed_of}
use Rattle.widths.specs.rule.Width.{tail_of, least_whole}
use Rattle.layout.specs.declared.Format.{Format}

-- ---- reading
unfoldable pub all_spaces : List ℕ → Bool
all_spaces [] = true
all_spaces (b ∷ s) = eqb b 32 && all_spaces s

-- what follows the leading spaces
unfoldable pub unspaced : List ℕ → List ℕ
unspaced [] = []
unspaced (b ∷ s) = cond (eqb b 32) (unspaced s) (b ∷ s)

unfoldable pub digits_only : List ℕ → Bool
digits_only [] = true
digits_only (b ∷ s) = within 48 57 b && digits_only s

-- the number that digits say, after n
unfoldable pub decimal_from : ℕ → List ℕ → ℕ
decimal_from n [] = n
decimal_from n (b ∷ s) = decimal_from (n * 10 + (b - 48)) s

abbrev pub decimal : List ℕ → ℕ
decimal s = decimal_from 0 s

-- what the bytes of a number say: nothing, where all are spaces; a number; or that they have no number's form
pub data Said : Type 0 where
  blank : Said
  says : ℤ → Said
  wrong : Said

-- digits, one or more
unfoldable pub code_after : List ℕ → Said
code_after [] = blank
code_after (b ∷ s) = cond (digits_only (b ∷ s)) (says (pos (decimal (b ∷ s)))) wrong

-- SINGLE, and a subfield of a spread: "spaces, then digits"
unfoldable pub code_of : List ℕ → Said
code_of s = code_after (unspaced s)

-- the digits before the point, which has its place before the decimals
abbrev pub whole_part : Format → List ℕ → List ℕ
whole_part f s = take (length s - tail_of f) s

abbrev pub decimal_part : Format → List ℕ → List ℕ
decimal_part f s = drop (length s - f.decimals) s

-- the point stands where the format has one
abbrev pub point_stands : Format → List ℕ → Bool
point_stands f s = cond (eqb f.point 0) true (eqb (get_or s (length s - tail_of f) 0) 46)

-- "digits, at least one before the point; point and decimals as in the block"; under point code 2 "the whole part may be empty"
unfoldable pub amount_form : Format → List ℕ → Bool
amount_form f s =
    leb (least_whole f + tail_of f) (length s)
    && (digits_only (whole_part f s) && (point_stands f s && digits_only (decimal_part f s)))

-- the digits before the point and after it say one number, scaled
unfoldable pub amount_size : Format → List ℕ → ℕ
amount_size f s = cond (eqb f.point 0) (decimal s) (decimal (whole_part f s ++ decimal_part f s))

unfoldable pub amount_of : Format → Bool → List ℕ → Said
amount_of f minus s = cond (amount_form f s) (says (number_of minus (amount_size f s))) wrong

unfoldable pub quantity_after : Format → List ℕ → Said
quantity_after f [] = blank
quantity_after f (b ∷ s) = cond (eqb b 45) (amount_of f true s) (amount_of f false (b ∷ s))

-- QUANTITY: "spaces, `-` or none, digits .."; minus zero is zero
unfoldable pub quantity_of : Format → List ℕ → Said
quantity_of f s = quantity_after f (unspaced s)

-- ---- writing
-- the last k digits of n
unfoldable pub padded : ℕ → ℕ → List ℕ
padded zero n = []
padded (suc k) n = (48 + n / 10 ^ k % 10) ∷ padded k n

-- a size in w bytes: zeros in front, the point, where there is one, in its place
unfoldable pub amount_bytes : Format → ℕ → ℕ → List ℕ
amount_bytes f w n =
    padded (w - tail_of f) (n / 10 ^ f.decimals) ++ cond (eqb f.point 0) [] (46 ∷ padded f.decimals n)

-- "numbers are padded with zeros after any minus"
unfoldable pub quantity_bytes : Format → ℕ → ℤ → List ℕ
quantity_bytes f w z =
    cond (signed_of z).minus (45 ∷ amount_bytes f (w - 1) (signed_of z).size) (amount_bytes f w (signed_of z).size)

unfoldable pub code_bytes : ℕ → ℤ → List ℕ
code_bytes w z = padded w (signed_of z).size
