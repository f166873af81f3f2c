-- Comma-separated text, RFC 4180: a text is lines, a line is fields, a field is bytes. Fields are parted by commas, CR LF ends every line;
-- a field "is quoted when it holds a comma, quote, CR or LF. Quotes are doubled." 44 is the comma, 34 the quote, 13 CR, 10 LF.
use Rattle.std.specs.Prelude.{Bool, false, cond, ◌||◌, List, [], ◌∷◌, ◌++◌, ℕ, zero, suc, eqb}

-- the four bytes for which a field is quoted
unfoldable pub is_special : ℕ → Bool
is_special b = eqb b 44 || (eqb b 34 || (eqb b 13 || eqb b 10))

unfoldable pub holds_special : List ℕ → Bool
holds_special [] = false
holds_special (b ∷ s) = is_special b || holds_special s

unfoldable pub doubled_byte : ℕ → List ℕ
doubled_byte b = cond (eqb b 34) (34 ∷ 34 ∷ []) (b ∷ [])

unfoldable pub doubled : List ℕ → List ℕ
doubled [] = []
doubled (b ∷ s) = doubled_byte b ++ doubled s

-- a field as it is written
unfoldable pub field_bytes : List ℕ → List ℕ
field_bytes f = cond (holds_special f) ((34 ∷ []) ++ (doubled f ++ (34 ∷ []))) f

-- what stands behind a line's first field
unfoldable pub behind_first : List (List ℕ) → List ℕ
behind_first [] = 13 ∷ 10 ∷ []
behind_first (f ∷ fs) = (44 ∷ []) ++ (field_bytes f ++ behind_first fs)

-- a line of fields
unfoldable pub line_bytes : List (List ℕ) → List ℕ
line_bytes [] = 13 ∷ 10 ∷ []
line_bytes (f ∷ fs) = field_bytes f ++ behind_first fs

-- a text of lines
unfoldable pub csv_bytes : List (List (List ℕ)) → List ℕ
csv_bytes [] = []
csv_bytes (l ∷ ls) = line_bytes l ++ csv_bytes ls

-- the fields of a line: what f says at i and at the n - 1 numbers behind it
unfoldable pub each : (ℕ → List ℕ) → ℕ → ℕ → List (List ℕ)
each f i zero = []
each f i (suc n) = f i ∷ each f (suc i) n
