-- THE CODE'S BOOKS, which contracts inside the library name.
use Rattle.std.specs.Prelude.{Bool, true, not}
use Rattle.scan.specs.rule.Text.{Text, stop, sign}
use Rattle.scan.specs.rule.Number.{is_value}

-- no digit, point, plus or minus is next
unfoldable pub over_of : Text → Bool
over_of (stop p) = true
over_of (sign p b t) = not (is_value b)
