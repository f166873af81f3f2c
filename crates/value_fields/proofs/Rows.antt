-- Theorems of specs/Rows.antt, kept here: a wrong definition is refused by them.
use Rattle.std.specs.Prelude.{◌≡◌, true, false, List, [], ℕ, ◌-◌, ◌≤◌, ◌<◌, ℤ, length}
use Rattle.std.proofs.Common.{arith}
use Rattle.layout.specs.rule.Row.{row_at}
use Rattle.layout.specs.declared.Header.{Header}
use Rattle.layout.specs.declared.Row.{Row}
use Rattle.layout.specs.declared.Kind.{Kind}
use Rattle.layout.specs.declared.Kind.TheVariants.{Single, Multiple, Quantity, Character, Logical}
use Rattle.fields.specs.rule.Row.{reading_of}
use Rattle.fields.specs.rule.Field.{Value, holds}
use Rattle.fields.specs.Facts.{KindFacts}
use Rattle.sound.specs.rule.Rows.{rows_of, length_of}
use Rattle.sound.specs.Rows.{row_facts}
use Rattle.records.specs.rule.Value.{reading_at}
use Rattle.readings.specs.Answer.{RowRead, illegal_answer}
use Rattle.readings.specs.declared.Answer.{Answer}
use Rattle.files.specs.rule.Tested.{Tested}
use Rattle.files.specs.Tested.{tested_rows, tested_length}
use Rattle.lines.specs.Lines.{value_of}
use Rattle.listing.specs.Values.{Shown, shown, shown_none, shown_some, Held, held}
use Rattle.commas.specs.rule.Csv.{holds_special, field_bytes}
use Rattle.value_fields.specs.rule.Values.{export_value, export_field, row_field}
use Rattle.widths.specs.rule.Width.{decimals_of}

kind_decimals : (k : Kind) (r : Row) → KindFacts k r → decimals_of k ≤ 9
unfolding decimals_of
kind_decimals Single r f = omega arith
kind_decimals (Multiple s) r f = omega arith
kind_decimals (Quantity g) r f = f.decimals
kind_decimals Character r f = omega arith
kind_decimals Logical r f = omega arith

module _ {t : List ℤ} {h : Header} (g : Tested t h) {i : ℕ} (low : i < h.rows) {r : Row} (is : r ≡ row_at t i) where
  low_is : i < rows_of t
  low_is = rw (tested_rows g) at low

  pub row_decimals : decimals_of r.kind ≤ 9
  row_decimals = rw is (kind_decimals (row_at t i).kind (row_at t i) (row_facts t g.good i low_is).kind)

  module _ (bytes : List ℕ) (long : h.length ≤ length bytes) {list list' : List ℤ} {a : Answer}
      (read : RowRead (r.start - 1) (reading_of t h.rows r bytes) list list' a) where
    long_is : length_of t ≤ length bytes
    long_is = rw (tested_length g) at long

    read_is : RowRead ((row_at t i).start - 1) (reading_at t i bytes) list list' a
    read_is = rw (tested_rows g, is) at read

    pub row_empty : illegal_answer a ≡ true → [] ≡ field_bytes (row_field t bytes i)
    unfolding row_field export_field field_bytes holds_special
    row_empty e = rw (shown_none ((row_at t i).start - 1) (length list) (reading_at t i bytes) a read_is.answer e)

    held_shown : (x : Value) → length list ≡ 9999 → reading_at t i bytes ≡ holds x → Shown x a list' bytes
    held_shown x m e =
        shown t (rows_of t) (length_of t) (row_at t i) (row_facts t g.good i low_is) bytes long_is list m x a list' e (rw e at read_is)

    pub row_field_lem : length list ≡ 9999 → illegal_answer a ≡ false
        → field_bytes (export_value (decimals_of r.kind) (value_of a list' bytes)) ≡ field_bytes (row_field t bytes i)
    unfolding row_field export_field
    row_field_lem m e = go (shown_some ((row_at t i).start - 1) (length list) (reading_at t i bytes) a read_is.answer e)
      where
        go : Held (reading_at t i bytes)
            → field_bytes (export_value (decimals_of r.kind) (value_of a list' bytes))
            ≡ field_bytes (export_field (decimals_of (row_at t i).kind) (reading_at t i bytes))
        go (held x q) = rw (q, (held_shown x m q).value, is)
