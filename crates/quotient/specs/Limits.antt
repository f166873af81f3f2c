-- The numbers and the powers that are converted exactly.
use Rattle.std.specs.Prelude.{ℕ, ◌≤◌, ◌<◌, ℤ, nat_abs}

-- a number of 15 digits at most, of either sign
abbrev pub Scaled : ℤ → Type 0
Scaled n = nat_abs n ≤ 999999999999999

-- from 1 to 10 ^ 15
abbrev pub Power : ℕ → Type 0
Power p = (0 < p) × (p ≤ 1000000000000000)
