-- Whether n signs fit.
use Rattle.std.specs.Prelude.{cond, ℕ, ltb, Option, Some, None}

unfoldable pub room_of : ℕ → ℕ → Option ℕ
room_of room n = cond (ltb room n) None (Some n)
