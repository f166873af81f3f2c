-- THE TEXTS OF A TABLE READ FROM XML BY ITS NUMBERS: row i tells of the name and the label of variable i, as they were derived, and the
-- lines of the row of its lines' texts; what the decoding call answers for them is their decoding, never 3.
use Rattle.std.specs.Prelude.{◌≡◌, true, ℕ, zero, suc, ◌+◌, ◌*◌, ◌<◌, ℤ}
use Rattle.std.proofs.Math.Path.{refl, sym, ap}
use Rattle.std.proofs.Common.{subst, ◌∙◌, length-append}
use mathlib.Core.List.{List, [], ◌∷◌, ◌++◌, append_assoc, append-nil, Memᴰ}
use native.Mathlib.Omega.{arith}
use Rattle.std.proofs.Math.ListN.{length, drop}
use Rattle.cells.specs.rule.Cell.{count_of, pasted}
use Rattle.layout.specs.rule.Layout.{header_size, line_size, row_base, line_base, line_at}
use Rattle.rows.specs.rule.Cells.{row_cells, header_cells}
use Rattle.sound.specs.rule.Sound.{columns_of}
use Rattle.survey.specs.rule.Survey.{Line, Variable}
use Rattle.survey.specs.rule.Table.{lines_of, lines_all, line_cells, cells_of, all_lines}
use Rattle.survey.specs.rule.Table as survey
use Rattle.built.specs.Standing.{Stands, inside, columns_there, line_there}
use Rattle.text_laws.specs.Tables.{name_of, label_of, text_of}
use Rattle.prologs.specs.rule.Told.{is_xml}
use Rattle.xml_reading.specs.rule.Role.{XmlEntry, variables_of}
use Rattle.xml_reading.specs.rule.Whole.{columns_for, xml_header, xml_rows, xml_table, Built, xml_outcome}
use Rattle.xml_bridge.specs.Table.{rows_count}
use Rattle.xml_text_laws.specs.Decoded.{Decodes, texts_decode}

-- ---- variable i of those that were read
pub record Entered (l : List XmlEntry) (i : ℕ) : Type 0 where
  pub before : List XmlEntry
  pub entry : XmlEntry
  pub behind : List XmlEntry
  pub is : l ≡ before ++ entry ∷ behind
  pub here : length before ≡ i

entered : (l : List XmlEntry) (i : ℕ) → i < length l → Entered l i
entered [] i h = absurd (omega arith)
entered (v ∷ l) zero h = record { before = []; entry = v; behind = l; is = refl; here = refl }
entered (v ∷ l) (suc i) h =
    let r = entered l i (omega arith) in
    let e = r.here in
    record {
      before = v ∷ r.before;
      entry = r.entry;
      behind = r.behind;
      is = ap (λ (m : List XmlEntry). v ∷ m) r.is;
      here = omega arith;
    }

among : (p : List XmlEntry) (v : XmlEntry) (q : List XmlEntry) → Memᴰ v (p ++ v ∷ q)
among [] v q = Memᴰ.head refl
among (w ∷ p) v q = Memᴰ.tail (among p v q)

inside_them : {l : List XmlEntry} {i : ℕ} (r : Entered l i) → Memᴰ r.entry l
inside_them r =
    subst (λ (m : List XmlEntry). Memᴰ r.entry m) (sym r.is) (among r.before r.entry r.behind)

-- ---- rows and lines of some variables, then of others
rows_join : (b : ℕ) (p q : List XmlEntry) → xml_rows b (p ++ q) ≡ xml_rows b p ++ xml_rows (b + lines_all (variables_of p)) q
unfolding xml_rows lines_all
rows_join b [] q = let e : b + 0 ≡ b = omega arith in rw e
rows_join b (v ∷ p) q =
    let n = length (lines_of v.variable) in
    let e : b + n + lines_all (variables_of p) ≡ b + (n + lines_all (variables_of p)) = omega arith in
    rw (rows_join (b + n) p q, e) (sym (append_assoc (row_cells (columns_for b v)) (xml_rows (b + n) p)
    (xml_rows (b + (n + lines_all (variables_of p))) q)))

lines_join : (p q : List XmlEntry) → all_lines (variables_of (p ++ q)) ≡ all_lines (variables_of p) ++ all_lines (variables_of q)
unfolding all_lines
lines_join [] q = refl
lines_join (v ∷ p) q =
    rw (lines_join p q) (sym (append_assoc (cells_of (lines_of v.variable)) (all_lines (variables_of p)) (all_lines (variables_of q))))

cells_count : (l : List Line) → length (cells_of l) ≡ line_size * length l
unfolding cells_of line_cells
cells_count [] = refl
cells_count (x ∷ l) = let h = cells_count l in omega arith

lines_count : (l : List Variable) → length (all_lines l) ≡ line_size * lines_all l
unfolding all_lines lines_all
lines_count [] = refl
lines_count (v ∷ l) =
    length-append (cells_of (lines_of v)) (all_lines l) ∙ rw (cells_count (lines_of v), lines_count l) (omega arith)

-- ---- line k of a variable
record Lined (l : List Line) (k : ℕ) : Type 0 where
  line : Line
  among_them : Memᴰ line l
  told : text_of (line_at (cells_of l) (line_size * k)) ≡ line.text

first_told : (x : Line) (l : List Line) → text_of (line_at (cells_of (x ∷ l)) 0) ≡ x.text
unfolding cells_of line_cells line_at count_of
first_told x l = refl

next_line : (x : Line) (l : List Line) (k : ℕ) → k < length l
    → line_at (cells_of (x ∷ l)) (line_size * suc k) ≡ line_at (cells_of l) (line_size * k)
unfolding cells_of line_cells
next_line x l k h =
    let q : Stands (cells_of (x ∷ l)) 4 (cells_of l) =
    record { front = line_cells x; rest = []; is = ap (λ m. line_cells x ++ m) (sym (append-nil (cells_of l))); here = refl } in
    let z : line_size * suc k ≡ 4 + line_size * k = omega arith in
    ap (line_at (cells_of (x ∷ l))) z ∙ line_there q (line_size * k) (omega (arith, cells_count l))

lined : (l : List Line) (k : ℕ) → k < length l → Lined l k
lined [] k h = absurd (omega arith)
lined (x ∷ l) zero h = record { line = x; among_them = Memᴰ.head refl; told = first_told x l }
lined (x ∷ l) (suc k) h =
    let r = lined l k (omega arith) in
    record {
      line = r.line;
      among_them = Memᴰ.tail r.among_them;
      told = ap text_of (next_line x l k (omega arith)) ∙ r.told;
    }

-- ---- the table of these variables, laid over t
module _ (t : List ℤ) (l : List XmlEntry) where
  abbrev laid : List ℤ
  laid = pasted t 0 (xml_table l)

  table_stands : Stands laid 0 (xml_table l)
  unfolding pasted
  table_stands = record { front = []; rest = drop (0 + length (xml_table l)) t; is = refl; here = refl }

  module _ {i : ℕ} (r : Entered l i) where
    abbrev own : Variable
    own = r.entry.variable

    abbrev earlier : ℕ
    earlier = lines_all (variables_of r.before)

    row_stands : Stands laid (row_base i) (row_cells (columns_for earlier r.entry))
    unfolding xml_table xml_rows header_cells
    row_stands =
        let front = header_cells (xml_header l) in
        let rows : Stands laid header_size (xml_rows 0 l) =
        inside table_stands front (xml_rows 0 l) (all_lines (variables_of l)) header_size
        (append_assoc front (xml_rows 0 l) (all_lines (variables_of l))) refl in
        let z : 0 + earlier ≡ earlier = omega arith in
        inside rows (xml_rows 0 r.before) (row_cells (columns_for earlier r.entry))
        (xml_rows (earlier + length (lines_of own)) r.behind) (row_base i)
        (ap (xml_rows 0) r.is ∙ rows_join 0 r.before (r.entry ∷ r.behind) ∙ rw z)
        (rw (rows_count 0 r.before, r.here))

    lines_stand : Stands laid (line_base (length l) earlier) (cells_of (lines_of own))
    unfolding xml_table all_lines header_cells
    lines_stand =
        let front = header_cells (xml_header l) ++ xml_rows 0 l in
        let own-lines = cells_of (lines_of own) in
        let e : all_lines (variables_of l)
        ≡ all_lines (variables_of r.before) ++ (own-lines ++ all_lines (variables_of r.behind)) =
        ap (λ (m : List XmlEntry). all_lines (variables_of m)) r.is ∙ lines_join r.before (r.entry ∷ r.behind) in
        inside table_stands (front ++ all_lines (variables_of r.before)) own-lines (all_lines (variables_of r.behind)) _
        (ap (λ (s : List ℤ). front ++ s) e
        ∙ sym (append_assoc front (all_lines (variables_of r.before)) (own-lines ++ all_lines (variables_of r.behind))))
        (rw (length-append front (all_lines (variables_of r.before)), lines_count (variables_of r.before), rows_count 0 l) (omega arith))

    columns_are : columns_of laid i ≡ columns_for earlier r.entry
    columns_are = columns_there row_stands

    line_is : (k : ℕ) → k < length (lines_of own)
        → line_at laid (line_base (length l) (earlier + k)) ≡ line_at (cells_of (lines_of own)) (line_size * k)
    line_is k h =
        let e : line_base (length l) (earlier + k) ≡ line_base (length l) earlier + line_size * k = omega arith in
        rw e (line_there lines_stand (line_size * k) (omega (arith, cells_count (lines_of own))))

-- ---- THE NUMBERS: row i of v rows tells of the texts of a variable
pub record RowTells (t : List ℤ) (v i : ℕ) (x : Variable) : Type 0 where
  pub name : name_of (columns_of t i) ≡ x.name
  pub label : label_of (columns_of t i) ≡ x.label
  pub count : (columns_of t i).lines ≡ length (lines_of x)
  pub lines : (k : ℕ) → k < length (lines_of x)
      → (y : Line) × Memᴰ y (lines_of x) × (text_of (line_at t (line_base v ((columns_of t i).before + k))) ≡ y.text)

pub numbers_tell : (t : List ℤ) (l : List XmlEntry) {i : ℕ} (r : Entered l i)
    → RowTells (pasted t 0 (xml_table l)) (length l) i r.entry.variable
unfolding columns_for survey.variable_columns
numbers_tell t l r =
    let c = columns_are t l r in
    record {
      name = rw c;
      label = rw c;
      count = rw c;
      lines = λ k h.
          let y = lined (lines_of r.entry.variable) k h in
          (y.line, y.among_them, rw (c, line_is t l r k h) y.told);
    }

-- row i of v rows: the call decodes its name, its label and the texts of its lines
pub record RowDecodes (d : List ℕ) (t : List ℤ) (v i : ℕ) : Type 0 where
  pub name : Decodes d (name_of (columns_of t i))
  pub label : Decodes d (label_of (columns_of t i))
  pub lines : (k : ℕ) → k < (columns_of t i).lines → Decodes d (text_of (line_at t (line_base v ((columns_of t i).before + k))))

-- TABLE: every text of a table that was read from XML, by its numbers
pub rows_decode : (d : List ℕ) (t : List ℤ) (l : List XmlEntry) → is_xml d ≡ true → xml_outcome d (length t) ≡ Built l → (i : ℕ) → i
    < length l
    → RowDecodes d (pasted t 0 (xml_table l)) (length l) i
rows_decode d t l x e i h =
    let r = entered l i h in
    let n = numbers_tell t l r in
    let v = texts_decode d (length t) l x e r.entry (inside_them r) in
    record {
      name = rw n.name v.name;
      label = rw n.label v.label;
      lines = λ k m.
          let y = n.lines k (rw n.count at m) in
          rw y.2 (v.lines y.0 y.1);
    }
