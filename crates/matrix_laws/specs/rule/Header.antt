-- "A header of six 32-bit numbers: records, columns, offset of summaries, offset of presence bytes, offset of values, total length", as a
-- reader takes them from a file: little-endian.
use Rattle.std.specs.Prelude.{◌≡◌, List, ℕ, take, drop}
use Rattle.matrix.specs.rule.Bytes.{presence_at, values_at, total_of}
use Rattle.little.specs.rule.Bytes.{little_number}

-- the number of 32 bits from byte a on
abbrev pub at32 : ℕ → List ℕ → ℕ
at32 a bytes = little_number (take 4 (drop a bytes))

pub record Headed (records columns : ℕ) (bytes : List ℕ) : Type 0 where
  pub first : at32 0 bytes ≡ records
  pub second : at32 4 bytes ≡ columns
  pub third : at32 8 bytes ≡ 24
  pub fourth : at32 12 bytes ≡ presence_at columns
  pub fifth : at32 16 bytes ≡ values_at records columns
  pub sixth : at32 20 bytes ≡ total_of records columns
