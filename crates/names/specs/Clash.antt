-- No two names agree when case is set aside: the first row whose name is ill-formed or agrees with that of an earlier row. Rows stand in
-- the order of the file, so that it has the earliest place.
use Rattle.std.specs.Prelude.{ℕ, zero, suc, ◌+◌, Bool, cond, ◌||◌, List, eqb, get_or}
use Rattle.below.specs.rule.Below.{any_below}

unfoldable pub wrong_at : List ℕ → ℕ → Bool
wrong_at keys j = eqb (get_or keys j 0) 0 || any_below j (λ i. eqb (get_or keys i 0) (get_or keys j 0))

-- the first j from k on, within f steps, that is wrong; else k + f
unfoldable pub fault_from : List ℕ → ℕ → ℕ → ℕ
fault_from keys zero k = k
fault_from keys (suc f) k = cond (wrong_at keys k) k (fault_from keys f (k + 1))

unfoldable pub fault_of : List ℕ → ℕ → ℕ
fault_of keys count = fault_from keys count 0
