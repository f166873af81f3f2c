-- ROADS MEET: the tables of a definition in XML and of one of 1.1 that say the same are alike, whatever their marks, texts, SPECIAL, use
-- and filter: so
-- every record is read, judged and written by the one as by the other (crate blind_laws).
use Rattle.std.specs.Prelude.{◌≡◌, refl, Bool, true, List, [], ◌∷◌, ◌++◌, map, ℤ, pos, length, get_or}
use Rattle.std.proofs.Math.Path.{sym}
use Rattle.std.proofs.Common.{ap, ◌∙◌, append_assoc, arith, length-append, get_or-append-add}
use Prim.Native.Nat.{ℕ, zero, suc, ◌+◌, ◌*◌, ◌≤◌, ◌<◌, max}
use Rattle.std.proofs.Math.ListN.{get_or-append}
use Rattle.cells.specs.rule.Cell.{cell, count_of}
use Rattle.layout.specs.rule.Layout.{mark, mark_xml, header_size, row_size, line_size, row_base, lines_base, line_base, header_of}
use Rattle.layout.specs.declared.Columns.{Columns}
use Rattle.rows.specs.rule.Cells.{row_cells, header_cells}
use Rattle.survey.specs.rule.Survey.{Line, Variable}
use Rattle.survey.specs.rule.Width.{scaled, finish_in}
use Rattle.survey.specs.rule.Table.{variable_columns, lines_of, lines_all, highest_in, header_for, rows_from, line_cells, cells_of}
use Rattle.survey.specs.rule.Table.{all_lines}
use Rattle.survey.specs.rule.Table.{table_of}
use Rattle.xml_reading.specs.rule.Role.{XmlEntry, variables_of}
use Rattle.xml_reading.specs.rule.Whole as xml
use Rattle.sound.specs.rule.Rows.{rows_of}
use Rattle.sound.specs.rule.Sound.{well_formed}
use Rattle.blind_laws.specs.rule.Blind.{Alike, SameRules}
use Rattle.blind_laws.specs.Blind.{blind}
use Rattle.kind_laws.specs.rule.Meet.{line_said, said_alike, Meet, nil, more}
use Rattle.kind_laws.specs.Columns.{firsts, lasts, firsts_same, finish_same, lines_same, count_same}

-- ---- lines
-- every fourth number is a value
cells_alike : (l m : List Line) (s t : List ℤ) → map line_said l ≡ map line_said m
    → ((k : ℕ) → cell s (line_size * k) ≡ cell t (line_size * k))
    → (j : ℕ)
    → cell (cells_of l ++ s) (line_size * j) ≡ cell (cells_of m ++ t) (line_size * j)
unfolding cells_of line_cells
cells_alike [] [] s t e h j = h j
cells_alike [] (y ∷ m) s t e h j = let z : ◌≡◌ {A = ℕ} 0 1 = cc in absurd (omega arith)
cells_alike (x ∷ l) [] s t e h j = let z : ◌≡◌ {A = ℕ} 0 1 = cc in absurd (omega arith)
cells_alike (x ∷ l) (y ∷ m) s t e h zero =
    let q : line_said x ≡ line_said y = cc in
    ap (λ (w : Line). scaled w.value) q
cells_alike (x ∷ l) (y ∷ m) s t e h (suc j) =
    let q : map line_said l ≡ map line_said m = cc in
    let n : line_size * suc j ≡ suc (suc (suc (suc (line_size * j)))) = omega arith in
    rw n (cells_alike l m s t q h j)

lines_alike : {l : List XmlEntry} {m : List Variable} → Meet l m → (j : ℕ)
    → cell (all_lines (variables_of l)) (line_size * j) ≡ cell (all_lines m) (line_size * j)
unfolding all_lines
lines_alike nil j = refl
lines_alike (more {v = v} {u = u} {l = l} {m = m} e r) j =
    cells_alike (lines_of v.variable) (lines_of u) (all_lines (variables_of l)) (all_lines m) (lines_same v.variable u e) (lines_alike r) j

-- ---- counts
rows_same : {l : List XmlEntry} {m : List Variable} → Meet l m → length l ≡ length m
rows_same nil = refl
rows_same (more e r) = rw (rows_same r)

all_same : {l : List XmlEntry} {m : List Variable} → Meet l m → lines_all (variables_of l) ≡ lines_all m
unfolding lines_all
all_same nil = refl
all_same (more {v = v} {u = u} e r) = rw (count_same v.variable u e, all_same r)

highest_same : {l : List XmlEntry} {m : List Variable} → Meet l m → highest_in (variables_of l) ≡ highest_in m
unfolding highest_in
highest_same nil = refl
highest_same (more {v = v} {u = u} e r) = rw (finish_same v.variable u e, highest_same r)

-- ---- rows
row_parts : (c : Columns) (s : List ℤ) → row_cells c ++ s ≡ firsts c ++ (lasts c ++ s)
unfolding row_cells
row_parts c s = refl

row_front : (c : Columns) (s : List ℤ) (k : ℕ) → k < 14 → cell (row_cells c ++ s) k ≡ cell (firsts c) k
row_front c s k h = ap (λ (t : List ℤ). cell t k) (row_parts c s) ∙ get_or-append (firsts c) (lasts c ++ s) (pos 0) k h

row_long : (c : Columns) → length (row_cells c) ≡ row_size
unfolding row_cells
row_long c = refl

row_behind : (c : Columns) (s : List ℤ) (n : ℕ) → cell (row_cells c ++ s) (row_size + n) ≡ cell s n
row_behind c s n = rw (← row_long c) (get_or-append-add (row_cells c) s n (pos 0))

columns_for : (before : ℕ) (v : XmlEntry) → firsts (xml.columns_for before v) ≡ firsts (variable_columns before v.variable)
unfolding xml.columns_for
columns_for before v = refl

rows_alike : {l : List XmlEntry} {m : List Variable} → Meet l m → (before : ℕ) (s t : List ℤ) (i k : ℕ) → i < length l → k < 14
    → cell (xml.xml_rows before l ++ s) (row_size * i + k) ≡ cell (rows_from before m ++ t) (row_size * i + k)
unfolding xml.xml_rows rows_from
rows_alike nil before s t i k h g = absurd (omega arith)
rows_alike (more {v = v} {u = u} {l = l} {m = m} e r) before s t zero k h g =
    let c = xml.columns_for before v in
    let f = variable_columns before u in
    let n = xml.xml_rows (before + length (lines_of v.variable)) l in
    let o = rows_from (before + length (lines_of u)) m in
    let z : row_size * zero + k ≡ k = omega arith in
    rw (z, append_assoc (row_cells c) n s, append_assoc (row_cells f) o t)
    (row_front c (n ++ s) k g ∙ ap (λ (x : List ℤ). cell x k) (columns_for before v ∙ firsts_same v.variable u e before)
    ∙ sym (row_front f (o ++ t) k g))
rows_alike (more {v = v} {u = u} {l = l} {m = m} e r) before s t (suc i) k h g =
    let c = xml.columns_for before v in
    let f = variable_columns before u in
    let n = xml.xml_rows (before + length (lines_of v.variable)) l in
    let o = rows_from (before + length (lines_of v.variable)) m in
    let z : row_size * suc i + k ≡ row_size + (row_size * i + k) = omega arith in
    rw (z, ← count_same v.variable u e, append_assoc (row_cells c) n s, append_assoc (row_cells f) o t)
    (row_behind c (n ++ s) (row_size * i + k)
    ∙ rows_alike r (before + length (lines_of v.variable)) s t i k (omega arith) g
    ∙ sym (row_behind f (o ++ t) (row_size * i + k)))

xml_long : (before : ℕ) (l : List XmlEntry) → length (xml.xml_rows before l) ≡ row_size * length l
unfolding xml.xml_rows
xml_long before [] = refl
xml_long before (v ∷ l) =
    length-append (row_cells (xml.columns_for before v)) (xml.xml_rows (before + length (lines_of v.variable)) l)
    ∙ rw (row_long (xml.columns_for before v), xml_long (before + length (lines_of v.variable)) l) (omega arith)

sss_long : (before : ℕ) (l : List Variable) → length (rows_from before l) ≡ row_size * length l
unfolding rows_from
sss_long before [] = refl
sss_long before (v ∷ l) =
    length-append (row_cells (variable_columns before v)) (rows_from (before + length (lines_of v)) l)
    ∙ rw (row_long (variable_columns before v), sss_long (before + length (lines_of v)) l) (omega arith)

-- ---- the tables
-- behind a header, and behind rows
header_behind : (a b c d e f : ℤ) (s : List ℤ) (n : ℕ) → cell (a ∷ b ∷ c ∷ d ∷ e ∷ f ∷ s) (header_size + n) ≡ cell s n
header_behind a b c d e f s n =
    let z : header_size + n ≡ suc (suc (suc (suc (suc (suc n))))) = omega arith in
    rw z

rows_behind : (r s : List ℤ) (v n : ℕ) → length r ≡ row_size * v → cell (r ++ s) (row_size * v + n) ≡ cell s n
rows_behind r s v n e = rw (← e) (get_or-append-add r s n (pos 0))

header_front : (a b c d e f : ℤ) (s : List ℤ) (k : ℕ) → k < header_size
    → cell (a ∷ b ∷ c ∷ d ∷ e ∷ f ∷ s) k ≡ cell (a ∷ b ∷ c ∷ d ∷ e ∷ f ∷ []) k
header_front a b c d e f s k h = get_or-append (a ∷ b ∷ c ∷ d ∷ e ∷ f ∷ []) s (pos 0) k h

five_same : {v w e f n o : ℕ} → v ≡ w → e ≡ f → n ≡ o → (k : ℕ)
    → cell (pos v ∷ pos e ∷ pos n ∷ pos header_size ∷ pos (lines_base v) ∷ []) k
    ≡ cell (pos w ∷ pos f ∷ pos o ∷ pos header_size ∷ pos (lines_base w) ∷ []) k
five_same p q s k = rw (p, q, s)

rows_are : (l : List XmlEntry) → rows_of (xml.xml_table l) ≡ length l
unfolding xml.xml_table xml.xml_header header_cells header_of count_of
rows_are l = refl

module _ {l : List XmlEntry} {m : List Variable} (r : Meet l m) where
  abbrev x : List ℤ
  x = xml.xml_rows 0 l ++ all_lines (variables_of l)

  abbrev y : List ℤ
  y = rows_from 0 m ++ all_lines m

  -- the header but for its mark
  header_alike : (k : ℕ) → 1 ≤ k → k < header_size → cell (xml.xml_table l) k ≡ cell (table_of m) k
  unfolding xml.xml_table table_of xml.xml_header header_for header_cells
  header_alike zero a b = absurd (omega arith)
  header_alike (suc k) a b =
      header_front (pos mark_xml) (pos (length l)) (pos (lines_all (variables_of l))) (pos (highest_in (variables_of l))) (pos header_size)
      (pos (lines_base (length l))) x (suc k) b
      ∙ five_same (rows_same r) (all_same r) (highest_same r) k
      ∙ sym (header_front (pos mark) (pos (length m)) (pos (lines_all m)) (pos (highest_in m)) (pos header_size)
      (pos (lines_base (length m))) y
      (suc k) b)

  xml_behind : (n : ℕ) → cell (xml.xml_table l) (header_size + n) ≡ cell x n
  unfolding xml.xml_table xml.xml_header header_cells
  xml_behind n = header_behind _ _ _ _ _ _ x n

  sss_behind : (n : ℕ) → cell (table_of m) (header_size + n) ≡ cell y n
  unfolding table_of header_for header_cells
  sss_behind n = header_behind _ _ _ _ _ _ y n

  row_alike : (i k : ℕ) → i < rows_of (xml.xml_table l) → k < 14 → cell (xml.xml_table l) (row_base i + k)
      ≡ cell (table_of m) (row_base i + k)
  row_alike i k h g =
      let z : row_base i + k ≡ header_size + (row_size * i + k) = omega arith in
      let j : i < length l = rw (rows_are l) at h in
      rw z (xml_behind (row_size * i + k) ∙ rows_alike r 0 (all_lines (variables_of l)) (all_lines m) i k j g
      ∙ sym (sss_behind (row_size * i + k)))

  value_alike : (j : ℕ) → cell (xml.xml_table l) (line_base (length l) j) ≡ cell (table_of m) (line_base (length l) j)
  value_alike j =
      let z : line_base (length l) j ≡ header_size + (row_size * length l + line_size * j) = omega arith in
      let n : length (rows_from 0 m) ≡ row_size * length l = sss_long 0 m ∙ rw (rows_same r) in
      rw z
      (xml_behind (row_size * length l + line_size * j)
      ∙ rows_behind (xml.xml_rows 0 l) (all_lines (variables_of l)) (length l) (line_size * j) (xml_long 0 l)
      ∙ lines_alike r j
      ∙ sym (rows_behind (rows_from 0 m) (all_lines m) (length l) (line_size * j) n)
      ∙ sym (sss_behind (row_size * length l + line_size * j)))

  pub roads_meet : Alike (xml.xml_table l) (table_of m)
  roads_meet = record { header = header_alike; row = row_alike; line = λ j h. rw (rows_are l) (value_alike j) }

  -- so, both well formed, every reading, judgement and write by the one is that by the other
  pub rules_meet : well_formed (xml.xml_table l) ≡ true → well_formed (table_of m) ≡ true → SameRules (xml.xml_table l) (table_of m)
  rules_meet g h = blind (xml.xml_table l) (table_of m) g h roads_meet
