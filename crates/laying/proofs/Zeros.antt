-- A room in which nothing is marked.
use mathlib.Core.Path.{◌≡◌, refl, ap, ◌∙◌}
use mathlib.Core.List.{List}
use Prim.Native.Nat.{ℕ, zero, suc}
use lib.ListN.{length, get_or}
use Rattle.laying.specs.Code.{zeros}

pub zero_at : (k n : ℕ) → get_or (zeros k) n 0 ≡ 0
unfolding zeros
zero_at zero n = refl
zero_at (suc k) zero = refl
zero_at (suc k) (suc n) = zero_at k n

zeros_count : (n : ℕ) → length (zeros n) ≡ n
unfolding zeros
zeros_count zero = refl
zeros_count (suc n) = ap suc (zeros_count n)

pub zeros_long : (seen : List ℕ) → seen ≡ zeros 10000 → length seen ≡ 10000
zeros_long seen e = ap length e ∙ zeros_count 10000
