-- Numbers of a table at equal steps: that they stand in it, that each rises above the one before it, that no two are equal.
use Rattle.std.specs.Prelude.{Bool, not, List, ℕ, ◌+◌, ◌*◌, ℤ}
use Rattle.below.specs.rule.Below.{all_below}
use Rattle.cells.specs.rule.Cell.{cell, eq_z}

-- number k of those that stand from `at` on, `step` apart
abbrev pub stride_at : List ℤ → ℕ → ℕ → ℕ → ℤ
stride_at t at step k = cell t (at + step * k)

-- the number at k is none of those before it
abbrev pub unlike : (ℕ → ℤ) → ℕ → ℕ → Bool
unlike f k j = not (eq_z (f k) (f j))

unfoldable pub number_new : (ℕ → ℤ) → ℕ → Bool
number_new f k = all_below k (unlike f k)

-- no two of the first n are equal
unfoldable pub all_differ : (ℕ → ℤ) → ℕ → Bool
all_differ f n = all_below n (number_new f)
