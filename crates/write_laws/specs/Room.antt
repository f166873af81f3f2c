-- ANY TABLE HAS ROOM in the rooms of reading: 6 + 18 * 512 + 4 * 4096 numbers. So 10 is no answer of this call.
use Rattle.std.specs.Prelude.{◌≡◌, refl, List, [], ◌∷◌, ◌++◌, ℕ, ◌+◌, ◌*◌, ◌≤◌, length}
use Rattle.std.proofs.Common.{◌∙◌, arith, length-append}
use Rattle.layout.specs.rule.Layout.{row_size, line_size, line_base, most_rows, most_lines}
use Rattle.rows.specs.rule.Cells.{row_cells, header_cells}
use Rattle.survey.specs.rule.Survey.{Line, Variable, Survey}
use Rattle.survey.specs.rule.Table.{variable_columns, lines_of, lines_all, header_for, rows_from, line_cells, cells_of, all_lines, table_of}
use Rattle.bridge.specs.Lowest.{never}
use Rattle.definition.specs.rule.Definition.{SssOutcome, Built, Refusal, sss_outcome}
use Rattle.grammar_laws.specs.Outcome.{Settles, outcome_exactly}
use Rattle.grammar_laws.specs.Outcome as outcome
use Rattle.front_laws.specs.Read.{few}
use Rattle.clean_laws.specs.rule.Reads.{Reads}
use Rattle.write_laws.specs.rule.Exactly.{Unread}

-- ---- how long a table is
cells_length : (l : List Line) → length (cells_of l) ≡ line_size * length l
unfolding cells_of line_cells
cells_length [] = refl
cells_length (s ∷ l) = rw (cells_length l) (omega arith)

lines_length : (l : List Variable) → length (all_lines l) ≡ line_size * lines_all l
unfolding all_lines lines_all
lines_length [] = refl
lines_length (v ∷ l) = length-append (cells_of (lines_of v)) (all_lines l) ∙ rw (cells_length (lines_of v), lines_length l) (omega arith)

row_length : (before : ℕ) (v : Variable) → length (row_cells (variable_columns before v)) ≡ row_size
unfolding row_cells
row_length before v = refl

rows_length : (before : ℕ) (l : List Variable) → length (rows_from before l) ≡ row_size * length l
unfolding rows_from
rows_length before [] = refl
rows_length before (v ∷ l) =
    length-append (row_cells (variable_columns before v)) (rows_from (before + length (lines_of v)) l)
    ∙ rw (row_length before v, rows_length (before + length (lines_of v)) l) (omega arith)

table_length : (l : List Variable) → length (table_of l) ≡ line_base (length l) (lines_all l)
unfolding table_of header_cells
table_length l =
    length-append (header_cells (header_for l)) (rows_from 0 l ++ all_lines l)
    ∙ rw (length-append (rows_from 0 l) (all_lines l), rows_length 0 l, lines_length l) (omega arith)

-- ---- what is built has 512 rows and 4,096 lines at most
built_fits : (d : List ℕ) (n : ℕ) (l : List Variable) → sss_outcome d n ≡ Built l → length (table_of l) ≤ line_base most_rows most_lines
built_fits d n l e = let f = few d n l e in omega (arith, table_length l, f.0, f.1)

module _ (d : List ℕ) where
  pub read_built : {s : Survey} → Reads d s → sss_outcome d (line_base most_rows most_lines) ≡ Built s.variables
  read_built {s} r =
      let n = length (table_of s.variables) in
      r.built (line_base most_rows most_lines) (built_fits d n s.variables (r.built n (omega arith)))

  -- a refusal with room for any table is one with any room
  pub refused_unread : {number place : ℕ} → sss_outcome d (line_base most_rows most_lines) ≡ Refusal number place → Unread d number place
  refused_unread {number} {place} e n = by ((outcome_exactly d (line_base most_rows most_lines) (Refusal number place)).0 e) refl where
    by : {o : SssOutcome} → Settles d (line_base most_rows most_lines) o → o ≡ Refusal number place → sss_outcome d n ≡ Refusal number place
    by (outcome.too_long h) q = (outcome_exactly d n (Refusal 1 0)).1 (outcome.too_long h) ∙ q
    by (outcome.stopped h z) q = (outcome_exactly d n _).1 (outcome.stopped h z) ∙ q
    by (outcome.misnamed h x y z) q = (outcome_exactly d n _).1 (outcome.misnamed h x y z) ∙ q
    by (outcome.no_room {s = s} h x w k) q =
        let m = length (table_of s.variables) in
        let b = (outcome_exactly d m (Built s.variables)).1 (outcome.read h x w (omega arith)) in
        absurd (omega (arith, built_fits d m s.variables b, k))
    by (outcome.read h x w k) q = never cc
