-- The conversions are exact, and the value is the float nearest to the true quotient: one rounding in all.
-- Assumes nothing.
use Rattle.std.specs.Prelude.{Bool, true, false, ℕ, ◌^◌, ◌≤◌, ℤ, pos, negsuc, T}
use Rattle.std.proofs.Common.{zero-le, le_trans, zero-lt-suc, le→leb, lit≤}
use Rattle.std.proofs.Math.Nat.{pow-le-pow_right}
use Rattle.std.specs.Float.{binary64}
use Rattle.std.specs.Float.Ieee.{of_int, in_float}
use Rattle.std.specs.Float.Ieee.Exact.{HasValue}
use Rattle.std.specs.Float.Ieee.Back.{round_whole}
use Rattle.quotient.specs.Limits.{Power}

-- below zero
abbrev pub minus : ℤ → Bool
minus (pos n) = false
minus (negsuc n) = true

pub power_in : (p : ℕ) → Power p → T (in_float binary64 (pos p))
unfolding in_float
power_in p h = le→leb p (2 ^ 53) (le_trans h.1 (lit≤ tt))

-- the table of powers of ten has no other
pub power_of_ten : (d : ℕ) → d ≤ 15 → Power (10 ^ d)
power_of_ten d h = (pow-le-pow_right {n = 10} (zero-lt-suc 9) (zero-le {n = d}), pow-le-pow_right {n = 10} (zero-lt-suc 9) h)

pub power_exact : (p : ℕ) → Power p → HasValue (of_int binary64 (pos p)) false p 1
unfolding of_int
power_exact p h = round_whole binary64 false p (le_trans h.1 (lit≤ tt))
