-- THE CODE'S BOOKS, which contracts inside the library name: eight bytes held against eight spaces as one number.
use Rattle.std.specs.Prelude.{◌≡◌, ℕ, ◌+◌, ◌*◌, ◌/◌}
use Rattle.std.specs.Int.Count.{count_trailing_zeros}

-- x is what v has above eight spaces, in a circle of 2 ^ 64
abbrev pub OverSpaces : ℕ → ℕ → Type 0
OverSpaces v x = (c : ℕ) × (v + 18446744073709551616 * c ≡ x + 2314885530818453536)

-- how many of a number's eight lowest bytes are 0, up to another
unfoldable pub bytes_clear : ℕ → ℕ
bytes_clear x = count_trailing_zeros 64 x / 8
