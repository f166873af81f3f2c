-- What a column holds of a record, as it is written: "Missing has presence 0 and value zero in each of its columns. Presence, a byte each,
-- and values, 8 bytes each".
use Rattle.std.specs.Prelude.{ℕ, List, [], ◌∷◌, ◌++◌, Float}
use Rattle.std.specs.Float.{binary64}
use Rattle.std.specs.Float.Ieee.{to_bits}
use Rattle.quotient.specs.rule.Value.{value_of}
use Rattle.little.specs.rule.Bytes.{little_bytes}
use Rattle.summary.specs.rule.Summary.{nought}
use Rattle.matrix.specs.declared.Entry.{Entry}
use Rattle.matrix.specs.declared.Entry.TheVariants.{Absent, Scaled}

unfoldable pub presence_of : Entry → ℕ
presence_of Absent = 0
presence_of (Scaled z p) = 1

-- a scaled number over its power of ten
unfoldable pub float_of : Entry → Float
float_of Absent = nought
float_of (Scaled z p) = value_of z p

-- the presence bytes, and the values' bytes, in order
unfoldable pub flags_of : List Entry → List ℕ
flags_of [] = []
flags_of (e ∷ es) = presence_of e ∷ flags_of es

unfoldable pub value_bytes : List Entry → List ℕ
value_bytes [] = []
value_bytes (e ∷ es) = little_bytes 8 (to_bits binary64 (float_of e)) ++ value_bytes es

-- the values present
unfoldable pub present_of : List Entry → List Float
present_of [] = []
present_of (Absent ∷ es) = present_of es
present_of (Scaled z p ∷ es) = value_of z p ∷ present_of es
