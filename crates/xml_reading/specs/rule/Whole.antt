-- A definition in XML and a lent table: "1 is first of all"; the declaration; characters are legal up to the first that is not, 50 there;
-- the
-- elements; then, with standardnames, 9 at the text's place, and 10. "The first header number becomes 12 for XML"; rows have use and
-- filter.
use Rattle.std.specs.Prelude.{Bool, cond, List, [], ◌∷◌, ◌++◌, map, ℕ, zero, suc, ◌+◌, ltb, ℤ, length, take}
use Rattle.layout.specs.rule.Layout.{mark_xml, header_size, lines_base}
use Rattle.layout.specs.declared.Columns.{Columns}
use Rattle.layout.specs.declared.Header.{Header}
use Rattle.rows.specs.rule.Cells.{row_cells, header_cells}
use Rattle.utf.specs.rule.Cut.{first_bad}
use Rattle.signs.specs.declared.Sign.{Sign}
use Rattle.names.specs.rule.Standard.{name_fault}
use Rattle.prologs.specs.rule.Told.{declaration_of}
use Rattle.prologs.specs.declared.Prolog.{Prolog}
use Rattle.prologs.specs.declared.Prolog.TheVariants as prolog
use Rattle.survey.specs.rule.Table.{variable_columns, lines_of, lines_all, highest_in, all_lines}
use Rattle.reading.specs.rule.Result.{Result, Is, Not}
use Rattle.xml_reading.specs.rule.Role.{XmlEntry, variables_of, signs_in}
use Rattle.xml_reading.specs.rule.Sheet.{XmlSurvey, sheet}

-- ---- the table
abbrev pub used_by : ℕ → ℕ → Columns → Columns
used_by usage filter c = record {
  ident = c.ident;
  kind = c.kind;
  start = c.start;
  finish = c.finish;
  width = c.width;
  decimals = c.decimals;
  point = c.point;
  subfields = c.subfields;
  subwidth = c.subwidth;
  range = c.range;
  from = c.from;
  to = c.to;
  before = c.before;
  lines = c.lines;
  name = c.name;
  name_len = c.name_len;
  label = c.label;
  label_len = c.label_len;
  usage = usage;
  filter = filter;
}

-- the row of a variable; `before` lines stand before its own
unfoldable pub columns_for : ℕ → XmlEntry → Columns
columns_for before v = used_by v.usage v.filter (variable_columns before v.variable)

unfoldable pub xml_header : List XmlEntry → Header
xml_header l = record {
  mark = mark_xml;
  rows = length l;
  lines = lines_all (variables_of l);
  length = highest_in (variables_of l);
  rows_at = header_size;
  lines_at = lines_base (length l);
}

unfoldable pub xml_rows : ℕ → List XmlEntry → List ℤ
xml_rows before [] = []
xml_rows before (v ∷ l) = row_cells (columns_for before v) ++ xml_rows (before + length (lines_of v.variable)) l

unfoldable pub xml_table : List XmlEntry → List ℤ
xml_table l = header_cells (xml_header l) ++ xml_rows 0 l ++ all_lines (variables_of l)

-- ---- the outcome
pub data XmlOutcome : Type 0 where
  Built : List XmlEntry → XmlOutcome
  Refusal : ℕ → ℕ → XmlOutcome

-- "10 lent table too short": of n numbers
unfoldable pub xml_fitting : ℕ → List XmlEntry → XmlOutcome
xml_fitting n l = cond (ltb n (length (xml_table l))) (Refusal 10 0) (Built l)

unfoldable pub xml_names : Bool → List ℕ → List XmlEntry → List (List Sign)
xml_names latin d l = map (λ v. signs_in latin d v.variable.name) l

-- the place of name i
unfoldable pub entry_place : List XmlEntry → ℕ → ℕ
entry_place [] i = 0
entry_place (v ∷ l) zero = v.variable.name.place
entry_place (v ∷ l) (suc i) = entry_place l i

unfoldable pub judge_xml_names : Bool → List ℕ → ℕ → Bool → List XmlEntry → XmlOutcome
judge_xml_names latin d n standard l =
    let i = name_fault (xml_names latin d l) in
    cond standard (cond (ltb i (length l)) (Refusal 9 (entry_place l i)) (xml_fitting n l)) (xml_fitting n l)

abbrev pub xml_settled : Bool → List ℕ → ℕ → Result XmlSurvey → XmlOutcome
xml_settled latin d n (Is s m) = judge_xml_names latin d n s.manner.standard s.entries
xml_settled latin d n (Not f) = Refusal f.number f.place

-- behind the declaration, up to the first character that is not legal
unfoldable pub sheet_of : Bool → List ℕ → ℕ → ℕ → XmlOutcome
sheet_of latin d at n =
    let q = first_bad latin d at in
    xml_settled latin (take q d) n (sheet (ltb q (length d)) (take q d) latin at)

abbrev pub declared : List ℕ → ℕ → Prolog → XmlOutcome
declared d n (prolog.Read latin at) = sheet_of latin d at n
declared d n (prolog.Fault number p) = Refusal number p

unfoldable pub xml_outcome : List ℕ → ℕ → XmlOutcome
xml_outcome d n = cond (ltb 1048576 (length d)) (Refusal 1 0) (declared d n (declaration_of d))
