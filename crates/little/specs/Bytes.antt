-- The number that little-endian bytes say: what a number's own bytes say is the number.
-- Assumes nothing.
use Rattle.std.specs.Prelude.{ℕ, zero, suc, ◌/◌, ◌^◌, ◌<◌, ◌≡◌, refl, List, length, take, drop}
use Rattle.std.proofs.Common.{div-lt_iff_lt-mul, zero-lt-suc, pow-suc, arith, ap}
use Rattle.little.specs.rule.Bytes.{little_bytes, little_number}

-- the number that the k bytes from a on say
unfoldable pub number_at : ℕ → ℕ → List ℕ → ℕ
number_at k a s = little_number (take k (drop a s))

-- ---- laws
pub bytes_count : (k n : ℕ) → length (little_bytes k n) ≡ k
unfolding little_bytes
bytes_count zero n = refl
bytes_count (suc k) n = ap suc (bytes_count k (n / 256))

-- a number that fits its bytes is read back from them
pub bytes_back : (k n : ℕ) → n < 256 ^ k → little_number (little_bytes k n) ≡ n
unfolding little_bytes little_number
bytes_back zero n h = omega arith
bytes_back (suc k) n h =
    let e : little_number (little_bytes k (n / 256))
    ≡ n / 256 = bytes_back k (n / 256) ((div-lt_iff_lt-mul (zero-lt-suc 255)).1 (rw pow-suc at h)) in
    omega arith
