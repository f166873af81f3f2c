-- What a value must be to be listed in the room that a line has, and the value that an answer says.
use Rattle.std.specs.Prelude.{ℕ}

abbrev pub line_room : ℕ
line_room = 50064
