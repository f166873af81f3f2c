-- What a row of the room says of the variable that it is.
use mathlib.Core.Path.{◌≡◌, refl, sym, ap, ◌∙◌}
use mathlib.Core.Bool.{Bool}
use mathlib.Core.List.{List, [], ◌∷◌, ◌++◌}
use Prim.Native.Nat.{ℕ, zero, suc, ◌+◌, ◌*◌, ◌<◌}
use native.Mathlib.Nat.{le_of_suc-le-suc, not-suc-le-zero}
use native.Mathlib.Omega.{arith}
use lib.IntN.{ℤ, pos}
use lib.ListN.{length, drop, get_or-append}
use lib.Seq.{get_or-append-add, get_or-take}
use Rattle.cells.specs.rule.Cell.{cell, count_of}
use Rattle.layout.specs.rule.Layout.{row_size}
use Rattle.layout.specs.declared.Columns.{Columns}
use Rattle.rows.specs.rule.Cells.{row_cells}
use Rattle.survey.specs.rule.Survey.{KeptText}
use Rattle.survey.specs.rule.Table.{variable_columns, lines_of}
use Rattle.xml_reading.specs.rule.Role.{XmlEntry, is_name_of}
use Rattle.xml_reading.specs.rule.Whole.{columns_for, xml_rows}
use Rattle.filters.specs.rule.Kept.{At, here, there, name_of, entry_kind}
use Rattle.filters.specs.Code.{column_in, name_in, RowsOf}

pub at_below : {l : List XmlEntry} {i : ℕ} {v : XmlEntry} → At l i v → i < length l
at_below here = omega arith
at_below (there a) = let h = at_below a in omega arith

-- ---- the row of an entry
pub row_long : (c : Columns) → length (row_cells c) ≡ 20
unfolding row_cells
row_long c = refl

pub record RowIs (s : List ℤ) (i : ℕ) (v : XmlEntry) : Type 0 where
  pub before : ℕ
  pub is : (k : ℕ) → k < row_size → cell s (row_size * i + k) ≡ cell (row_cells (columns_for before v)) k

pub row_in : (b : ℕ) {l : List XmlEntry} {i : ℕ} {v : XmlEntry} → At l i v → RowIs (xml_rows b l) i v
unfolding xml_rows
row_in b (here {v = v} {l = l}) = record {
  before = b;
  is = λ k h.
      let r = row_cells (columns_for b v) in
      let s = xml_rows (b + length (lines_of v.variable)) l in
      let e : row_size * 0 + k ≡ k = omega arith in
      let g : k < length r = omega (arith, row_long (columns_for b v)) in
      ap (λ (n : ℕ). cell (r ++ s) n) e ∙ get_or-append r s (pos 0) k g;
}
row_in b (there {v = v} {w = w} {l = l} {i = i} a) =
    let n = b + length (lines_of w.variable) in
    let x = row_in n a in
    record {
      before = x.before;
      is = λ k h.
          let r = row_cells (columns_for b w) in
          let e : row_size * suc i + k ≡ length r + (row_size * i + k) = omega (arith, row_long (columns_for b w)) in
          ap (λ (n : ℕ). cell (r ++ xml_rows n l) (row_size * suc i + k)) refl
          ∙ ap (λ (m : ℕ). cell (r ++ xml_rows n l) m) e
          ∙ get_or-append-add r (xml_rows n l) (row_size * i + k) (pos 0)
          ∙ x.is k h;
    }

-- what a row says
pub record RowReads (rows : List ℤ) (i : ℕ) (v : XmlEntry) : Type 0 where
  pub kind : column_in rows i 1 ≡ entry_kind v
  pub name : name_in rows i ≡ name_of v
  pub usage : column_in rows i 18 ≡ v.usage
  pub filter : column_in rows i 19 ≡ v.filter

reads : (rows : List ℤ) (i : ℕ) (v : XmlEntry) → RowIs rows i v → RowReads rows i v
unfolding row_cells columns_for variable_columns count_of
reads rows i v r = record {
  kind = ap count_of (r.is 1 (omega arith));
  name = both (ap count_of (r.is 14 (omega arith))) (ap count_of (r.is 15 (omega arith)));
  usage = ap count_of (r.is 18 (omega arith));
  filter = ap count_of (r.is 19 (omega arith));
} where
  both : {p n : ℕ} → p ≡ (name_of v).place → n ≡ (name_of v).length → ◌≡◌ {A = KeptText} (record { place = p; length = n }) (name_of v)
  both e f = rw (e, f)

module _ {rows : List ℤ} {count : ℕ} {l : List XmlEntry} (h : RowsOf rows count l) where
  pub row_at : {i : ℕ} {v : XmlEntry} → At l i v → RowIs rows i v
  row_at {i} {v} a =
      let r = row_in 0 a in
      record {
        before = r.before;
        is = λ k g.
            let m = at_below a in
            let n = h.counted in
            let q : row_size * i + k < row_size * count = omega arith in
            sym (get_or-take (row_size * count) rows (row_size * i + k) (pos 0) q)
            ∙ ap (λ (s : List ℤ). cell s (row_size * i + k)) h.held
            ∙ r.is k g;
      }

  pub row_reads : {i : ℕ} {v : XmlEntry} → At l i v → RowReads rows i v
  row_reads {i} {v} a = reads rows i v (row_at a)

-- ---- row by row
pub record Next (l : List XmlEntry) (i : ℕ) : Type 0 where
  pub row : XmlEntry
  pub at : At l i row
  pub cut : drop i l ≡ row ∷ drop (suc i) l

pub next_row : (l : List XmlEntry) (i : ℕ) → i < length l → Next l i
next_row [] i h = absurd (not-suc-le-zero h)
next_row (v ∷ l) zero h = record { row = v; at = here; cut = refl }
next_row (v ∷ l) (suc i) h = let r = next_row l i (le_of_suc-le-suc h) in record { row = r.row; at = there r.at; cut = r.cut }

pub name_here : (f : KeptText → Bool) {l : List XmlEntry} {i : ℕ} {v : XmlEntry} → At l i v → is_name_of f l i ≡ f (name_of v)
unfolding is_name_of
name_here f here = refl
name_here f (there a) = name_here f a

pub name_in_lem : (f : KeptText → Bool) {rows : List ℤ} {count : ℕ} {l : List XmlEntry} → RowsOf rows count l → (i : ℕ) → i < count
    → is_name_of f l i
    ≡ f (name_in rows i)
name_in_lem f {rows} {count} {l} h i k =
    let n = h.counted in
    let r = next_row l i (omega arith) in
    name_here f r.at ∙ ap f (sym (row_reads h r.at).name)
