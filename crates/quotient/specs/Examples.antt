-- Worked values, by their bits.
-- Assumes nothing.
use Rattle.std.specs.Prelude.{◌≡◌, refl, ℕ, ℤ, pos, negsuc}
use Rattle.std.specs.Float.{binary64}
use Rattle.std.specs.Float.Ieee.{div, of_int, to_bits}
use Rattle.quotient.specs.rule.Value.{value_of}

abbrev bits : ℤ → ℕ → ℕ
bits n p = to_bits binary64 (value_of n p)

-- 0.1
tenth : bits (pos 1) 10 ≡ 0x3fb9_9999_9999_999a
unfolding value_of div of_int to_bits
tenth = refl

-- -0.07
minus_seven : bits (negsuc 6) 100 ≡ 0xbfb1_eb85_1eb8_51ec
unfolding value_of div of_int to_bits
minus_seven = refl

-- 999999.999999999
widest : bits (pos 999999999999999) 1000000000 ≡ 0x412e_847f_ffff_fff7
unfolding value_of div of_int to_bits
widest = refl

-- 0 is +0, also over a power of ten
nought : bits (pos 0) 10 ≡ 0
unfolding value_of div of_int to_bits
nought = refl
