-- WHAT IS LISTED of a file by a table: the lines of the records before the first fault, and the last line. "Per value a line .. It ends
-- with `ok` and the record count, or `fault` number, record and ident (0 if none), after the records before it."
use Rattle.std.specs.Prelude.{cond, List, [], ◌++◌, ℕ, zero, suc, ◌+◌, ◌-◌, leb, ltb, ℤ, length}
use Rattle.layout.specs.rule.Row.{row_at}
use Rattle.sound.specs.rule.Rows.{rows_of, length_of}
use Rattle.cuts.specs.rule.Records.{Records, over, unended, record_and}
use Rattle.faults.specs.rule.Fault.{fault_number}
use Rattle.records.specs.rule.Value.{reading_at}
use Rattle.records.specs.rule.Verdict.{Verdict, sound, refused, low_byte, bad_field}
use Rattle.files.specs.rule.File.{FileVerdict, sound_with, bad_table, fault_in, record_verdict, go_on, first_length, is_sound}
use Rattle.lines.specs.rule.Text.{field_text, ok_text, fault_text}

-- ---- one record: a line for each row, in the table's order
unfoldable pub row_text : List ℤ → ℕ → List ℕ → ℕ → List ℕ
row_text t n bytes i = field_text n (row_at t i).ident (reading_at t i bytes)

-- the lines of the k rows from i on of record n
unfoldable pub rows_text : List ℤ → ℕ → List ℕ → ℕ → ℕ → List ℕ
rows_text t n bytes i zero = []
rows_text t n bytes i (suc k) = row_text t n bytes i ++ rows_text t n bytes (suc i) k

abbrev pub record_text : List ℤ → ℕ → List ℕ → List ℕ
record_text t n bytes = rows_text t n bytes 0 (rows_of t)

-- ---- the last line
unfoldable pub ident_of : List ℤ → ℕ → ℕ
ident_of t i = cond (ltb i (rows_of t)) (row_at t i).ident 0

-- number and ident of a record's fault: the ident is that of an illegal row. (A sound record is no fault.)
unfoldable pub fault_line : List ℤ → ℕ → Verdict → List ℕ
fault_line t n sound = ok_text n
fault_line t n (refused k) = fault_text k n 0
fault_line t n (low_byte p) = fault_text 23 n 0
fault_line t n (bad_field i x) = fault_text (fault_number x) n (ident_of t i)

unfoldable pub last_text : List ℤ → FileVerdict → List ℕ
last_text t (sound_with n) = ok_text n
last_text t bad_table = fault_text 20 0 0
last_text t (fault_in n v) = fault_line t n v

-- ---- the records, after n others, of which the first has `first` bytes: those that are sound, up to the last line
unfoldable pub records_text : List ℤ → ℕ → ℕ → Records → List ℕ
records_text t n first over = last_text t (sound_with n)
records_text t n first (unended r) = last_text t (fault_in (n + 1) (refused 30))
records_text t n first (record_and r rs) =
    cond (is_sound (record_verdict t (first_length n first (length r)) r))
    (record_text t (n + 1) r ++ records_text t (n + 1) (first_length n first (length r)) rs)
    (last_text t (go_on (record_verdict t (first_length n first (length r)) r) n (sound_with (n + 1))))

-- ---- what is left to list, with `row` lines of the next record listed; it is judged before its first line
unfoldable pub rest_text : List ℤ → ℕ → ℕ → ℕ → Records → List ℕ
rest_text t n first zero rs = records_text t n first rs
rest_text t n first (suc i) over = records_text t n first over
rest_text t n first (suc i) (unended r) = records_text t n first (unended r)
rest_text t n first (suc i) (record_and r rs) =
    cond (leb (length_of t) (length r)) (rows_text t (n + 1) r (suc i) (rows_of t - suc i) ++ records_text t (n + 1) first rs) []
