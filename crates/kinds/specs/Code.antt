-- What the code keeps: a definition that either reader has read into the rooms.
use Rattle.std.specs.Prelude.{◌≡◌, Bool, true, cond, List, ℕ, ◌*◌, ◌≤◌, ltb, ℤ, length}
use Rattle.layout.specs.rule.Layout.{mark, mark_xml, row_size, line_size, most_rows, most_lines}
use Rattle.values.specs.Room.{Unless}
use Rattle.laying.specs.declared.Tally.{Tally}
use Rattle.laying.specs.declared.Rooms.{Rooms}
use Rattle.laying.specs.declared.Rooms.TheVariants as rooms
use Rattle.laying.specs.Code.{cells_in}
use Rattle.kinds.specs.rule.Definition.{DefinitionOutcome, Built, Refusal}

unfoldable pub mark_of : Bool → ℕ
mark_of xml = cond xml mark_xml mark

-- rooms for a definition of this kind: one in XML is read in those of the most rows and lines
abbrev pub Roomy : Bool → List ℤ → List ℤ → Type 0
Roomy xml rows lines = xml ≡ true → (length rows ≡ row_size * most_rows) × (length lines ≡ line_size * most_lines)

-- a claim, or it was said that few rows and lines are not enough
abbrev pub Perhaps : Type 0 → Type 0 → Type 0
Perhaps said claim = Unless said (Unit {0}) claim

-- V rows, E lines and their table, for a lent one of n numbers: 10 where that is too short
unfoldable pub fitting : ℕ → ℕ → ℕ → List ℤ → DefinitionOutcome
fitting n v e s = cond (ltb n (length s)) (Refusal 10 0) (Built v e s)

-- the rooms hold the table, by its mark; o n is the outcome for a lent table of n numbers
pub record Standing (m : ℕ) (o : ℕ → DefinitionOutcome) (rows lines : List ℤ) (y : Tally) : Type 0 where
  pub few : (y.rows ≤ most_rows) × (y.lines ≤ most_lines) × (y.length ≤ 16384)
  pub fit : (row_size * y.rows ≤ length rows) × (line_size * y.lines ≤ length lines)
  pub outcome : (n : ℕ) → o n ≡ fitting n y.rows y.lines (cells_in m y rows lines)

-- or the definition is refused
pub record Ready (m : ℕ) (o : ℕ → DefinitionOutcome) (rows lines : List ℤ) (r : Rooms) : Type 0 where
  pub stands : {y : Tally} → r ≡ rooms.Held y → Standing m o rows lines y
  pub refuses : {k p : ℕ} → r ≡ rooms.Refused k p → (n : ℕ) → o n ≡ Refusal k p
