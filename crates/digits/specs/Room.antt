-- When a number, with a point and decimals by its format, can be written in w bytes.
use Rattle.std.specs.Prelude.{ℕ, ◌+◌, ◌^◌, ◌≤◌, ◌<◌, ℤ}
use Rattle.layout.specs.declared.Format.{Format}
use Rattle.widths.specs.rule.Width.{tail_of, size_of, minus_of}

-- a number with its minus, from the start
pub record Wide (f : Format) (w : ℕ) (z : ℤ) : Type 0 where
  pub few : size_of z < 10 ^ 16
  pub decimals : f.decimals ≤ 9
  pub tail : tail_of f + minus_of z ≤ w
  pub inside : w ≤ 20
