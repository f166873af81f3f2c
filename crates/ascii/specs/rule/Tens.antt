-- Powers of ten, and how many digits a number has.
use Rattle.std.specs.Prelude.{ℕ, zero, suc, ◌^◌, ◌≡◌, cond, List, ltb}
use Rattle.below.specs.rule.Table.{tabulated}

abbrev pub ten_to : ℕ → ℕ
ten_to k = 10 ^ k

-- the table of the powers of ten from 0 to 15
abbrev pub Tens : List ℕ → Type 0
Tens l = l ≡ tabulated ten_to 16

-- the least j from k on, within f tries, with n < 10 ^ j
unfoldable pub count_from : ℕ → ℕ → ℕ → ℕ
count_from zero k n = k
count_from (suc f) k n = cond (ltb n (10 ^ k)) k (count_from f (suc k) n)

-- how many digits n has, at least one; a number of more than 15 digits counts 16
unfoldable pub digits_of : ℕ → ℕ
digits_of n = count_from 15 1 n
