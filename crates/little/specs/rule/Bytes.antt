-- "all numbers are little-endian": a number as bytes, the lowest first; and bytes put at a place of a list.
use Rattle.std.specs.Prelude.{ℕ, zero, suc, ◌+◌, ◌*◌, ◌/◌, ◌%◌, List, [], ◌∷◌, length}
use Rattle.places.specs.rule.Places.{put, run}

-- the k lowest bytes of n, the lowest first
unfoldable pub little_bytes : ℕ → ℕ → List ℕ
little_bytes zero n = []
little_bytes (suc k) n = n % 256 ∷ little_bytes k (n / 256)

-- the number that bytes say, the lowest first
unfoldable pub little_number : List ℕ → ℕ
little_number [] = 0
little_number (b ∷ bs) = b + 256 * little_number bs

-- r with the bytes xs in place of those from a on
unfoldable pub put_at : List ℕ → ℕ → List ℕ → List ℕ
put_at r a xs = put r (run a (length xs)) xs
