-- What is left in the output where entries were written: for callers.
use Rattle.std.specs.Prelude.{ℕ, List}
use Rattle.little.specs.rule.Bytes.{put_at}
use Rattle.matrix.specs.declared.Entry.{Entry}
use Rattle.matrix.specs.rule.Entry.{flags_of, value_bytes}

-- presence bytes from one place on, values from another
abbrev pub put_entries : List ℕ → ℕ → ℕ → List Entry → List ℕ
put_entries out flags values es = put_at (put_at out flags (flags_of es)) values (value_bytes es)
