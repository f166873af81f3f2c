-- A row of a tested table: it stands there, is ready to be read, its ident has four digits, and its line is that of what is read.
use Rattle.std.specs.Prelude.{◌≡◌, true, false, List, [], ℕ, ◌+◌, ◌-◌, ◌^◌, ◌≤◌, ◌<◌, leb, ℤ, length}
use Rattle.std.proofs.Common.{arith}
use borrow.Author.Tests.{leb-true, lt-ltb, le-ltb}
use Rattle.below.specs.Below.{and_both, and_right, all_at_lem}
use Rattle.layout.specs.rule.Layout.{row_size, row_base, header_of, most_rows}
use Rattle.layout.specs.rule.Row.{row_of, row_at}
use Rattle.layout.specs.declared.Header.{Header}
use Rattle.layout.specs.declared.Row.{Row}
use Rattle.fields.specs.rule.Row.{reading_of}
use Rattle.fields.specs.rule.Field.{Value, holds}
use Rattle.sound.specs.rule.Sound.{rows_good, row_good, good_at, columns_of, lines_before, columns_good, places_good}
use Rattle.sound.specs.rule.Rows.{rows_of, length_of}
use Rattle.sound.specs.Rows.{parts, row_facts}
use Rattle.records.specs.rule.Value.{reading_at}
use Rattle.records.specs.Tables.{table_ready}
use Rattle.readings.specs.Ready.{RowReady}
use Rattle.readings.specs.Answer.{RowRead, illegal_answer}
use Rattle.readings.specs.declared.Answer.{Answer}
use Rattle.files.specs.rule.Tested.{Tested}
use Rattle.files.specs.Tested.{tested_rows, tested_length}
use Rattle.lines.specs.rule.Text.{field_text, line_text}
use Rattle.lines.specs.Lines.{Listable, value_of}
use Rattle.listing.specs.Values.{Shown, shown, shown_none, shown_some, Held, held}
use Rattle.listing.specs.rule.Listing.{row_text, ident_of}

module _ {t : List ℤ} {h : Header} (g : Tested t h) {i : ℕ} (low : i < h.rows) where
  low_is : i < rows_of t
  low_is = rw (tested_rows g) at low

  -- the row's columns are good
  row_good_lem : row_good t (rows_of t) (header_of t).lines (lines_before t i) (columns_of t i) ≡ true
  unfolding rows_good
  row_good_lem = all_at_lem (good_at t (rows_of t) (header_of t).lines) (rows_of t) i low_is (and_both (and_both (parts t g.good).rows).0).0

  pub ident_few : (row_at t i).ident < 10 ^ 16
  unfolding row_good columns_good places_good row_of
  ident_few =
      let c = (and_both row_good_lem).0 in
      let p = (and_both (and_both (and_both (and_both c).0).0).0).1 in
      let e = (and_both (and_both (and_both p).0).0).0 in
      omega (arith, leb-true (columns_of t i).ident 9999 (and_right (leb 1 (columns_of t i).ident) (leb (columns_of t i).ident 9999) e))

  pub row_stands : (i ≤ most_rows) × (row_base i + row_size ≤ length t)
  row_stands =
      let r = table_ready t g.good (length_of t) (omega arith) in
      let f = r.few in let s = r.stand in let l = low_is in
      (omega arith, omega arith)

  module _ {r : Row} (is : r ≡ row_at t i) (bytes : List ℕ) (long : h.length ≤ length bytes) where
    long_is : length_of t ≤ length bytes
    long_is = rw (tested_length g) at long

    pub row_ready : RowReady t h.rows r (length bytes)
    row_ready = rw (tested_rows g, is) ((table_ready t g.good (length bytes) long_is).row i low_is)

    module _ {list list' : List ℤ} {a : Answer} (read : RowRead (r.start - 1) (reading_of t h.rows r bytes) list list' a) where
      read_is : RowRead ((row_at t i).start - 1) (reading_at t i bytes) list list' a
      read_is = rw (tested_rows g, is) at read

      -- no line where it is illegal
      pub row_none : (n : ℕ) → illegal_answer a ≡ true → row_text t n bytes i ≡ []
      unfolding row_text field_text
      row_none n e = rw (shown_none ((row_at t i).start - 1) (length list) (reading_at t i bytes) a read_is.answer e)

      held_shown : (x : Value) → length list ≡ 9999 → reading_at t i bytes ≡ holds x → Shown x a list' bytes
      held_shown x m e =
          shown t (rows_of t) (length_of t) (row_at t i) (row_facts t g.good i low_is) bytes long_is list m x a list' e
          (rw e at read_is)

      pub row_listable : length list ≡ 9999 → illegal_answer a ≡ false → Listable a list' bytes
      row_listable m e = go (shown_some ((row_at t i).start - 1) (length list) (reading_at t i bytes) a read_is.answer e)
        where
          go : Held (reading_at t i bytes) → Listable a list' bytes
          go (held x q) = (held_shown x m q).listable

      pub row_line : (n : ℕ) → length list ≡ 9999 → illegal_answer a ≡ false
          → line_text n r.ident (value_of a list' bytes) ≡ row_text t n bytes i
      unfolding row_text field_text
      row_line n m e = go (shown_some ((row_at t i).start - 1) (length list) (reading_at t i bytes) a read_is.answer e)
        where
          go : Held (reading_at t i bytes)
              → line_text n r.ident (value_of a list' bytes) ≡ field_text n (row_at t i).ident (reading_at t i bytes)
          go (held x q) = rw (q, (held_shown x m q).value, is)

module _ {t : List ℤ} {h : Header} (g : Tested t h) {i : ℕ} where
  pub ident_here : i < h.rows → (row_at t i).ident ≡ ident_of t i
  unfolding ident_of
  ident_here l = rw (lt-ltb i (rows_of t) (rw (tested_rows g) at l))

  pub ident_none : h.rows ≤ i → 0 ≡ ident_of t i
  unfolding ident_of
  ident_none l = rw (le-ltb i (rows_of t) (rw (tested_rows g) at l))
