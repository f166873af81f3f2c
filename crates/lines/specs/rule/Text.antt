-- The lines that the lister writes: "Per value a line, parted by spaces: record from 1, ident, letter, value. Letters: N scaled number,
-- S codes with commas or `-` if empty, T text, L 0 or 1, M nothing after it." 10 ends a line, 32 parts, 44 is the comma, 45 the minus.
use Rattle.std.specs.Prelude.{cond, List, [], ◌∷◌, ◌++◌, ℕ, ℤ}
use Rattle.ascii.specs.rule.Tens.{digits_of}
use Rattle.cells.specs.rule.Cell.{signed_of}
use Rattle.fields.specs.rule.Number.{padded}
use Rattle.fields.specs.rule.Field.{Value, missing, number, members, text, truth, Field, holds, illegal}

-- a count in as many digits as it has
unfoldable pub numeral : ℕ → List ℕ
numeral n = padded (digits_of n) n

-- a number with its minus
unfoldable pub number_text : ℤ → List ℕ
number_text z = cond (signed_of z).minus (45 ∷ numeral (signed_of z).size) (numeral (signed_of z).size)

-- codes behind a first one
unfoldable pub codes_after : List ℤ → List ℕ
codes_after [] = []
codes_after (m ∷ ms) = 44 ∷ (number_text m ++ codes_after ms)

-- "codes with commas or `-` if empty"
unfoldable pub codes : List ℤ → List ℕ
codes [] = 45 ∷ []
codes (m ∷ ms) = number_text m ++ codes_after ms

-- the letter of a value, with the spaces about it, and the value
unfoldable pub value_text : Value → List ℕ
value_text missing = 32 ∷ 77 ∷ []
value_text (number z) = 32 ∷ 78 ∷ 32 ∷ number_text z
value_text (members ms) = 32 ∷ 83 ∷ 32 ∷ codes ms
value_text (text s) = 32 ∷ 84 ∷ 32 ∷ s
value_text (truth b) = 32 ∷ 76 ∷ 32 ∷ cond b 49 48 ∷ []

-- THE LINE of a value
unfoldable pub line_text : ℕ → ℕ → Value → List ℕ
line_text n ident v = numeral n ++ ((32 ∷ numeral ident) ++ (value_text v ++ (10 ∷ [])))

-- a field's line; one that is illegal has none
unfoldable pub field_text : ℕ → ℕ → Field → List ℕ
field_text n ident (holds v) = line_text n ident v
field_text n ident illegal = []

-- "It ends with `ok` and the record count, or `fault` number, record and ident (0 if none) ..; or `definition` number and place"
unfoldable pub ok_text : ℕ → List ℕ
ok_text n = (111 ∷ 107 ∷ 32 ∷ []) ++ (numeral n ++ (10 ∷ []))

unfoldable pub fault_text : ℕ → ℕ → ℕ → List ℕ
fault_text k n ident =
    (102 ∷ 97 ∷ 117 ∷ 108 ∷ 116 ∷ 32 ∷ []) ++ (numeral k ++ ((32 ∷ numeral n) ++ ((32 ∷ numeral ident) ++ (10 ∷ []))))
