-- What the code keeps of the variables: counts, and their rows and lines in rooms of its own.
use Rattle.std.specs.Prelude.{◌≡◌, Bool, cond, List, ℕ, ◌+◌, ◌*◌, ◌≤◌, ◌<◌, ltb, ℤ, length, take, Ok}
use Rattle.cells.specs.rule.Cell.{cell, count_of, pasted}
use Rattle.signs.specs.declared.Sign.{Sign}
use Rattle.scan.specs.rule.Text.{text}
use Rattle.marks.specs.declared.Inside.TheVariants.{Plain}
use Rattle.marks.specs.rule.Spelling.{decode_of}
use Rattle.layout.specs.rule.Layout.{row_size, line_size, line_base, most_rows, most_lines}
use Rattle.rows.specs.rule.Cells.{row_cells}
use Rattle.rows.specs.Cells.{name_column}
use Rattle.tokens.specs.declared.Choice.{Choice}
use Rattle.tokens.specs.declared.Choice.TheVariants.{Taken, Left}
use Rattle.tokens.specs.Token.{choice_of}
use Rattle.statements.specs.rule.Words.{END}
use Rattle.statements.specs.Note.{notes_on}
use Rattle.names.specs.rule.Standard.{name_at, name_fault}
use Rattle.measures.specs.Survey.{Variable, lines_in, columns_in, lines_all, highest_in, rows_from, all_lines}
use Rattle.measures.specs.Good.{Good}
use Rattle.entries.specs.Entry.{Entry}
use Rattle.entries.specs.Entry as entry
use Rattle.laying.specs.declared.Tally.{Tally}
use Rattle.laying.specs.declared.Rooms.{Rooms}
use Rattle.laying.specs.declared.Rooms.TheVariants as rooms
use Rattle.laying.specs.Code.{tally_with}
use Rattle.definition.specs.Books.{Variables, Outcome, Refusal, fitting, named, judged, survey_of}
use Rattle.definition.specs.Books as variables
use Rattle.definition.specs.declared.Turn.{Turn}
use Rattle.definition.specs.declared.Turn.TheVariants as turn
use Rattle.definition.specs.declared.Run.{Run}
use Rattle.definition.specs.declared.Run.TheVariants as run
use Rattle.definition.specs.declared.Answer.{Answer}
use Rattle.definition.specs.declared.Answer.TheVariants as answer
use Rattle.definition.specs.declared.Against.{Against}
use Rattle.definition.specs.declared.Against.TheVariants as against
use Rattle.tokens.specs.rule.Gap.{OrFault}

-- ---- rooms: too small for the most rows, or for the most lines
pub data Lacking (rows lines : List ℤ) : Type 0 where
  in_rows : length rows < row_size * most_rows → Lacking rows lines
  in_lines : length lines < line_size * most_lines → Lacking rows lines

-- ---- counts
unfoldable pub tally_of : List Variable → Tally
tally_of l = record { rows = length l; lines = lines_all l; length = highest_in l }

-- ---- one variable, and what follows it
abbrev pub turn_or : ℕ → Tally → OrFault ℕ → Choice → Turn
turn_or ident y t (Taken m) = turn.Over y m
turn_or ident y t Left = turn.More ident y t

unfoldable pub followed : List ℕ → ℕ → Tally → ℕ → Turn
followed d ident y n = turn_or ident y (notes_on d (Ok n)) (choice_of d (notes_on d (Ok n)) END)

unfoldable pub turn_after : List ℕ → Tally → Entry → Turn
turn_after d y (entry.Is v n) =
    let c = columns_in y.lines v in
    followed d c.ident (tally_with y c (y.lines + length (lines_in v))) n
turn_after d y (entry.Not f) = turn.Not f

-- its row stands behind those before it
pub record RowStored (y : Tally) (e : Entry) (room end : List ℤ) : Type 0 where
  pub row_stored : {v : Variable} {n : ℕ} → e ≡ entry.Is v n → end ≡ pasted room (row_size * y.rows) (row_cells (columns_in y.lines v))

-- ---- all variables
unfoldable pub run_of : Variables → Run
run_of (variables.Is l m) = run.Is (tally_of l) m
run_of (variables.Not f) = run.Not f

-- their rows and lines stand at the start of the rooms
pub record Laid (v : Variables) (rows rows_end lines lines_end : List ℤ) : Type 0 where
  pub rows_laid : {l : List Variable} {m : ℕ} → v ≡ variables.Is l m → rows_end ≡ pasted rows 0 (rows_from 0 l)
  pub lines_laid : {l : List Variable} {m : ℕ} → v ≡ variables.Is l m → lines_end ≡ pasted lines 0 (all_lines l)

-- ---- what is done with them after END SSS
-- the rooms hold variables that were read
pub record Held (l : List Variable) (y : Tally) (rows lines : List ℤ) : Type 0 where
  pub tally : y ≡ tally_of l
  pub rows_held : take (row_size * length l) rows ≡ rows_from 0 l
  pub lines_held : take (line_size * lines_all l) lines ≡ all_lines l
  pub good : Good l

-- the name of row i, by its place in the room
unfoldable pub name_in : List ℕ → List ℤ → ℕ → List Sign
name_in d rows i = decode_of Plain 0 (text d (count_of (cell rows (row_size * i + name_column))))

pub record NamesJudged (d : List ℕ) (rows : List ℤ) (count r : ℕ) : Type 0 where
  pub fault_is : (names : List (List Sign)) → length names ≡ count → ((i : ℕ) → i < count → name_in d rows i ≡ name_at names i)
      → r ≡ name_fault names

-- 10 where the table is too short, else how many they are
unfoldable pub fill_says : Tally → ℕ → Answer
fill_says y n = cond (ltb n (line_base y.rows y.lines)) (answer.Refused 10 0) (answer.Read y.rows y.lines)

-- 9 judged of the variables that the rooms hold
pub record NamesSettled (d : List ℕ) (standard : Bool) (y : Tally) (rows : List ℤ) (r : Rooms) : Type 0 where
  pub passes : {z : Tally} → r ≡ rooms.Held z → (l : List Variable) (lines : List ℤ) → Held l y rows lines
      → (z ≡ y) × ((n : ℕ) → named d n standard l ≡ fitting n l)
  pub fails : {k p : ℕ} → r ≡ rooms.Refused k p → (l : List Variable) (lines : List ℤ) → Held l y rows lines
      → (n : ℕ) → named d n standard l ≡ Refusal k p

-- the rooms after the whole definition: they hold its variables, which is all but for the room of the table; or it is refused
pub record Standing (d : List ℕ) (rows lines : List ℤ) (y : Tally) : Type 0 where
  pub read : List Variable
  pub held : Held read y rows lines
  pub few : (y.rows ≤ most_rows) × (y.lines ≤ most_lines) × (y.length ≤ 16384)
  pub outcome : (n : ℕ) → judged d n (survey_of d) ≡ fitting n read

pub record RoomsRead (d : List ℕ) (rows lines : List ℤ) (r : Rooms) : Type 0 where
  pub stands : {y : Tally} → r ≡ rooms.Held y → Standing d rows lines y
  pub refuses : {k p : ℕ} → r ≡ rooms.Refused k p → (n : ℕ) → judged d n (survey_of d) ≡ Refusal k p

-- what is said of the table that the rooms hold
unfoldable pub compared_by : Bool → Against
compared_by b = cond b against.Same against.Other
