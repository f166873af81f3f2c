-- "Use and filter change no reading or judgement. Record rules are proved once over both kinds of table."
use Rattle.std.specs.Prelude.{◌≡◌, List, ℕ, ◌+◌, ◌≤◌, ◌<◌, ℤ}
use Rattle.cells.specs.rule.Cell.{cell}
use Rattle.layout.specs.rule.Layout.{header_size, row_base, line_base, header_of}
use Rattle.fields.specs.rule.Field.{Value}
use Rattle.sound.specs.rule.Rows.{rows_of}
use Rattle.records.specs.rule.Value.{read_as, list_as}
use Rattle.records.specs.rule.Verdict.{verdict_of}
use Rattle.writes.specs.rule.Public.{refusal_of, record_after}
use Rattle.files.specs.rule.File.{file_verdict}

-- equal but for the mark, which is number 0; for use and filter, and the places and lengths of texts, which are a row's columns from 14 on;
-- and for SPECIAL and the text of a line, which stand behind its value
pub record Alike (t u : List ℤ) : Type 0 where
  pub header : (k : ℕ) → 1 ≤ k → k < header_size → cell t k ≡ cell u k
  pub row : (i k : ℕ) → i < rows_of t → k < 14 → cell t (row_base i + k) ≡ cell u (row_base i + k)
  pub line : (j : ℕ) → j < (header_of t).lines → cell t (line_base (rows_of t) j) ≡ cell u (line_base (rows_of t) j)

-- every reading, judgement and write by one is that by the other
pub record SameRules (t u : List ℤ) : Type 0 where
  pub read : (i : ℕ) (bytes : List ℕ) (n : ℕ) → read_as t i bytes n ≡ read_as u i bytes n
  pub listed : (i : ℕ) (bytes : List ℕ) (list : List ℤ) → list_as t i bytes list ≡ list_as u i bytes list
  pub judged : (bytes : List ℕ) → verdict_of t bytes ≡ verdict_of u bytes
  pub refused : (i : ℕ) (x : Value) (n : ℕ) → refusal_of t i x n ≡ refusal_of u i x n
  pub written : (i : ℕ) (x : Value) (old : List ℕ) → record_after t i x old ≡ record_after u i x old
  pub file : (d : List ℕ) → file_verdict t d ≡ file_verdict u d
