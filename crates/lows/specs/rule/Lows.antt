-- "byte below 32 anywhere in the record".
use Rattle.std.specs.Prelude.{Bool, List, ℕ, ltb, get_or}

-- byte i is below 32
abbrev pub low_at : List ℕ → ℕ → Bool
low_at s i = ltb (get_or s i 0) 32
