-- THE CODE'S BOOKS, which contracts inside the library name; crate `bridge` proves them equal to the rule of crate `reading`.
use Rattle.std.specs.Prelude.{ℕ, ◌+◌, ◌*◌, ◌-◌, cond, ltb, length}
use Rattle.scan.specs.rule.Text.{Text}
use Rattle.scan.specs.declared.Digits.{Digits}
use Rattle.scan.specs.rule.Number.{is_digit, run_of, run_bytes, decimal_of}

-- the smaller of n and 10 ^ 15, which every limit lies below
abbrev pub capped : ℕ → ℕ
capped n = cond (ltb 1000000000000000 n) 1000000000000000 n

-- the longest run of digits, after digits that said v and were c: the number that all say, held at 10 ^ 15, how many they are, and
-- the place after them
unfoldable pub digits_from : ℕ → ℕ → ℕ → Text → Digits
digits_from v c n t = record {
  size = capped (decimal_of v (run_bytes is_digit t));
  count = c + length (run_bytes is_digit t);
  next = run_of is_digit n t;
}

-- a number with one more digit, so held
unfoldable pub push_of : ℕ → ℕ → ℕ
push_of v b = capped (v * 10 + (b - 48))
