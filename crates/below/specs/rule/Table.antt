-- A table is the list of what a rule says at each number below its length. The rule of a constant table is proved once, by
-- computing this list, and `table_at` carries it to each entry.
use Rattle.std.specs.Prelude.{List, [], ◌∷◌, ℕ, zero, suc}

-- f at i and at the n - 1 numbers after it
unfoldable pub table_from : (ℕ → ℕ) → ℕ → ℕ → List ℕ
table_from f i zero = []
table_from f i (suc n) = f i ∷ table_from f (suc i) n

abbrev pub tabulated : (ℕ → ℕ) → ℕ → List ℕ
tabulated f n = table_from f 0 n
