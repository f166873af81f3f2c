-- A decoded text is a list of signs: a byte 0 to 255, or a break of its own kind beside the bytes. At the face each sign is a number: a
-- byte itself, a break 256.
use Rattle.std.specs.Prelude.{ℕ}
use Rattle.signs.specs.declared.Sign.{Sign}
use Rattle.signs.specs.declared.Sign.TheVariants.{Byte, Break}

unfoldable pub sign_number : Sign → ℕ
sign_number (Byte b) = b
sign_number Break = 256
