-- The version of the face: one number, raised by each change that a program compiled with an earlier header would not survive. It is
-- our own addition; the papers have no word of it.
use Rattle.std.specs.Prelude.{ℕ}

abbrev pub version_number : ℕ
version_number = 3
