-- Runs of bytes of one kind, and the numbers that digits say, however many they are.
use Rattle.std.specs.Prelude.{ℕ, ◌+◌, ◌*◌, ◌-◌, Bool, cond, ◌||◌, List, [], ◌∷◌, eqb}
use Rattle.ascii.specs.rule.Class.{class_of}
use Rattle.scan.specs.rule.Text.{Text, stop, sign}

unfoldable pub is_space : ℕ → Bool
is_space b = eqb (class_of b) 1

unfoldable pub is_digit : ℕ → Bool
is_digit b = eqb (class_of b) 2

-- a byte of a value or version: a digit, `+`, `-` or a point
unfoldable pub is_value : ℕ → Bool
is_value b = is_digit b || (eqb b 43 || (eqb b 45 || eqb b 46))

-- the place after the longest run of bytes that pass, from `at` on
unfoldable pub run_of : (ℕ → Bool) → ℕ → Text → ℕ
run_of f at (stop p) = at
run_of f at (sign p b t) = cond (f b) (run_of f (p + 1) t) at

-- the bytes of that run
unfoldable pub run_bytes : (ℕ → Bool) → Text → List ℕ
run_bytes f (stop p) = []
run_bytes f (sign p b t) = cond (f b) (b ∷ run_bytes f t) []

-- the number that digits say, after n
unfoldable pub decimal_of : ℕ → List ℕ → ℕ
decimal_of n [] = n
decimal_of n (b ∷ s) = decimal_of (n * 10 + (b - 48)) s
