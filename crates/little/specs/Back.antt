-- What was put is read back, and a read is not changed by a put elsewhere.
-- Assumes nothing.
use Rattle.std.specs.Prelude.{ℕ, ◌+◌, ◌^◌, ◌≤◌, ◌<◌, ◌≡◌, not, List, T, length, take, drop, Float}
use Rattle.std.proofs.Common.{sym, ap, ◌∙◌}
use Rattle.std.specs.Float.{binary64}
use Rattle.std.specs.Float.Ieee.{is_nan, fits, nan_bits, of_bits, to_bits}
use Rattle.std.specs.Float.Ieee.Bits.{of_bits-to_bits, to_bits-lt, nan_bits_is}
use Rattle.little.specs.rule.Bytes.{little_bytes, put_at, little_number}
use Rattle.little.specs.Bytes.{number_at, bytes_count, bytes_back}
use Rattle.little.specs.Runs.{put_back}

pub number_back : (r : List ℕ) (a k n : ℕ) → a + k ≤ length r → n < 256 ^ k → number_at k a (put_at r a (little_bytes k n)) ≡ n
unfolding number_at
number_back r a k n h l =
    let e = bytes_count k n in
    ap (λ (m : ℕ). little_number (take m (drop a (put_at r a (little_bytes k n))))) (sym e)
    ∙ ap little_number (put_back r a (little_bytes k n) (rw e h)) ∙ bytes_back k n l

-- the bits of a float that is no NaN are no NaN's, and read back as the float
pub bits_real : (x : Float) → T (fits binary64 x) → T (not (is_nan x)) → T (not (nan_bits binary64 (to_bits binary64 x)))
bits_real x f h = rw (nan_bits_is binary64 (to_bits binary64 x), of_bits-to_bits binary64 x f) h

pub float_back : (r : List ℕ) (a : ℕ) (x : Float) → a + 8 ≤ length r → T (fits binary64 x)
    → of_bits binary64 (number_at 8 a (put_at r a (little_bytes 8 (to_bits binary64 x)))) ≡ x
float_back r a x h f = ap (of_bits binary64) (number_back r a 8 (to_bits binary64 x) h (to_bits-lt binary64 x f))
    ∙ of_bits-to_bits binary64 x f

-- ---- a put behind the bytes that are read
