-- THE CODE'S BOOKS: the answers of the rule's readers (`xml_reading`) as the code of a whole file holds them, and what its rooms then hold.
use Rattle.std.specs.Prelude.{◌≡◌, Bool, List, [], ◌∷◌, ℕ, ◌+◌, ◌*◌, ◌≤◌, ℤ, length, take}
use Rattle.cells.specs.rule.Cell.{pasted}
use Rattle.layout.specs.rule.Layout.{row_size, line_size, most_rows, most_lines, mark_xml}
use Rattle.tokens.specs.declared.Fault.{Fault}
use Rattle.rows.specs.rule.Cells.{row_cells}
use Rattle.survey.specs.rule.Table.{lines_of, lines_all, cells_of, all_lines}
use Rattle.reading.specs.rule.Result.{Result, Is, Not, Reader, ◌>>=◌, ◌>>◌, give, bind}
use Rattle.xml_reading.specs.rule.Word.{VARIABLE, RECORD}
use Rattle.xml_reading.specs.rule.Open.{start, shut, within_element, due}
use Rattle.xml_reading.specs.rule.Role.{XmlEntry, variables_of}
use Rattle.xml_reading.specs.rule.Variable.{Manner, variable}
use Rattle.xml_reading.specs.rule.Sheet.{XmlSurvey, another_element, variables, sheet_closed}
use Rattle.xml_reading.specs.rule.Whole.{columns_for, xml_table, XmlOutcome, Refusal, xml_fitting, judge_xml_names}
use Rattle.laying.specs.declared.Tally.{Tally}
use Rattle.laying.specs.declared.Rooms.{Rooms}
use Rattle.laying.specs.declared.Rooms.TheVariants as rooms
use Rattle.laying.specs.Code.{tally_with, cells_in}
use Rattle.filters.specs.Code.{RowsOf}
use Rattle.xml_bridge.specs.Table.{FineEntries}
use Rattle.sheets.specs.Code.{tally_of, Before}
use Rattle.xml_files.specs.declared.Turn.{Turn}
use Rattle.xml_files.specs.declared.Turn.TheVariants as turns
use Rattle.xml_files.specs.declared.Run.{Run}
use Rattle.xml_files.specs.declared.Run.TheVariants as run

-- ---- one more variable behind others
-- a variable whose start tag stands at p, up to the end of its name
abbrev pub begun_at : Bool → List ℕ → Manner → ℕ → ℕ → List XmlEntry → Result XmlEntry
begun_at bad d m p e l = due bad d VARIABLE (start p) (variable bad d m l) e

-- none: the first is due, behind it the record may end
abbrev pub Fails : Bool → List ℕ → Manner → List XmlEntry → ℕ → Fault → Type 0
Fails bad d m [] at f = bind (within_element bad d RECORD at) (λ o. due bad d VARIABLE o (variable bad d m [])) ≡ Not f
Fails bad d m (w ∷ l) at f = another_element bad d m (w ∷ l) at ≡ Not f

-- its start tag, and what was read
pub record Added (bad : Bool) (d : List ℕ) (m : Manner) (l : List XmlEntry) (at : ℕ) (v : XmlEntry) (n : ℕ) : Type 0 where
  pub place : ℕ
  pub end : ℕ
  pub open_is : within_element bad d RECORD at ≡ Is (start place) end
  pub read : begun_at bad d m place end l ≡ Is v n

-- the end tag of the record, behind variables
pub record Over (bad : Bool) (d : List ℕ) (at : ℕ) (n : ℕ) : Type 0 where
  pub place : ℕ
  pub open_is : within_element bad d RECORD at ≡ Is (shut place) n

-- a turn says of the variables l before it: one more, with its row and its lines; none; or a fault
module _ (bad : Bool) (d : List ℕ) (m : Manner) (seen : List ℕ) (y : Tally) (at : ℕ) (rows rows' lines lines' : List ℤ) where
  pub record OneMore (l : List XmlEntry) (i : ℕ) (z : Tally) (n : ℕ) : Type 0 where
    pub entry : XmlEntry
    pub added : Added bad d m l at entry n
    pub ident_is : i ≡ entry.variable.ident.value
    pub tally_is : z ≡ tally_with y (columns_for y.lines entry) (y.lines + length (lines_of entry.variable))
    pub row_is : rows' ≡ pasted rows (row_size * y.rows) (row_cells (columns_for y.lines entry))
    pub line_is : lines' ≡ pasted lines (line_size * y.lines) (cells_of (lines_of entry.variable))

  pub record Turned (r : Turn) : Type 0 where
    pub more : {i : ℕ} {z : Tally} {n : ℕ} → r ≡ turns.More i z n → (l : List XmlEntry) → Before d seen y rows l → OneMore l i z n
    pub over : {n : ℕ} → r ≡ turns.Over n → (1 ≤ y.rows) × Over bad d at n × (rows' ≡ rows) × (lines' ≡ lines)
    pub fails : {f : Fault} → r ≡ turns.Not f → (l : List XmlEntry) → Before d seen y rows l → Fails bad d m l at f

-- ---- all variables
abbrev pub run_of : Result (List XmlEntry) → Run
run_of (Is l n) = run.Is (tally_of l) n
run_of (Not f) = run.Not f

-- their rows and lines stand at the start of the rooms
pub record Laid (r : Result (List XmlEntry)) (rows lines : List ℤ) : Type 0 where
  pub rows_laid : {l : List XmlEntry} {n : ℕ} → r ≡ Is l n → RowsOf rows (length l) l
  pub lines_laid : {l : List XmlEntry} {n : ℕ} → r ≡ Is l n → take (line_size * lines_all (variables_of l)) lines
      ≡ all_lines (variables_of l)

-- ---- 9 judged of the variables whose rows the room holds
pub record NamesSettled (latin : Bool) (d : List ℕ) (standard : Bool) (y : Tally) (rows : List ℤ) (r : Rooms) : Type 0 where
  pub passes : {z : Tally} → r ≡ rooms.Held z → (l : List XmlEntry) → RowsOf rows y.rows l
      → (z ≡ y) × ((n : ℕ) → judge_xml_names latin d n standard l ≡ xml_fitting n l)
  pub fails : {k p : ℕ} → r ≡ rooms.Refused k p → (l : List XmlEntry) → RowsOf rows y.rows l
      → (n : ℕ) → judge_xml_names latin d n standard l ≡ Refusal k p

-- ---- the whole: the rooms hold its table, which is all but for the room of a lent one; or it is refused
pub record Standing (o : ℕ → XmlOutcome) (rows lines : List ℤ) (y : Tally) : Type 0 where
  pub read : List XmlEntry
  pub fine : FineEntries read
  pub few : (y.rows ≤ most_rows) × (y.lines ≤ most_lines) × (y.length ≤ 16384)
  pub count : y.rows ≡ length read
  pub many : y.lines ≡ lines_all (variables_of read)
  pub cells : cells_in mark_xml y rows lines ≡ xml_table read
  pub outcome : (n : ℕ) → o n ≡ xml_fitting n read

pub record RoomsRead (o : ℕ → XmlOutcome) (rows lines : List ℤ) (r : Rooms) : Type 0 where
  pub stands : {y : Tally} → r ≡ rooms.Held y → Standing o rows lines y
  pub refuses : {k p : ℕ} → r ≡ rooms.Refused k p → (n : ℕ) → o n ≡ Refusal k p

-- behind the preface: the variables and the end tags
unfoldable pub body_of : Bool → List ℕ → Manner → Reader XmlSurvey
body_of bad d m = do
  l ← variables bad d m
  sheet_closed bad d
  give (record { manner = m; entries = l })
