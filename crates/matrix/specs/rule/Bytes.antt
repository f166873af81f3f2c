-- "Write a file with a header of six 32-bit numbers: records, columns, offset of summaries, offset of presence bytes, offset of values,
-- total length"; "A summary is 24 bytes, its count 64 bits"; "the parts adjoin and all numbers are little-endian".
use Rattle.std.specs.Prelude.{ℕ, ◌+◌, ◌*◌, List, ◌++◌}
use Rattle.std.specs.Float.{binary64}
use Rattle.std.specs.Float.Ieee.{to_bits}
use Rattle.little.specs.rule.Bytes.{little_bytes}
use Rattle.summary.specs.declared.Summary.{Summary}

-- where the presence bytes and the values of so many records and columns start, and the total length
abbrev pub presence_at : ℕ → ℕ
presence_at columns = 24 + 24 * columns

abbrev pub values_at : ℕ → ℕ → ℕ
values_at records columns = presence_at columns + records * columns

abbrev pub total_of : ℕ → ℕ → ℕ
total_of records columns = values_at records columns + 8 * (records * columns)

unfoldable pub header_bytes : ℕ → ℕ → List ℕ
header_bytes records columns =
    ((((little_bytes 4 records ++ little_bytes 4 columns) ++ little_bytes 4 24) ++ little_bytes 4 (presence_at columns))
    ++ little_bytes 4 (values_at records columns))
    ++ little_bytes 4 (total_of records columns)

unfoldable pub summary_bytes : Summary → List ℕ
summary_bytes s = (little_bytes 8 s.count ++ little_bytes 8 (to_bits binary64 s.least)) ++ little_bytes 8 (to_bits binary64 s.most)
