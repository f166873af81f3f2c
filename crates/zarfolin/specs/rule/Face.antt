-- The face for C and Rust: each answer of a call as four numbers, of which the first is given back. The answers themselves are those of
-- the public calls: document 01's numbers, with the places, rows and counts that come with them.
use Rattle.std.specs.Prelude.{◌≡◌, List, [], ◌∷◌, ℕ, ℤ, pos}
use Rattle.faults.specs.rule.Fault.{fault_number}
use Rattle.record_values.specs.rule.Record.{fault_cell, cell_of, flag_of}
use Rattle.records.specs.rule.Verdict as verdict
use Rattle.records.specs.rule.Value as value
use Rattle.files.specs.rule.File.{FileVerdict, sound_with, bad_table, fault_in, FileJudged}
use Rattle.cuts.specs.rule.Cut.{NextFound}
use Rattle.cuts.specs.declared.Next.{Next}
use Rattle.cuts.specs.declared.Next.TheVariants.{Ended, Unended, Nothing}
use Rattle.kinds.specs.rule.Definition.{DefinitionRead}
use Rattle.definition.specs.declared.Answer.{Answer}
use Rattle.definition.specs.declared.Answer.TheVariants as definition
use Rattle.zarfolin.specs.declared.Told.{Told}

abbrev pub four : ℕ → ℤ → ℤ → ℤ → Told
four n a b c = record { number = n; first = a; second = b; third = c }

-- a number with nothing beside it
abbrev pub told_alone : ℕ → Told
told_alone n = four n (pos 0) (pos 0) (pos 0)

-- the answer holds the four numbers, and the first is given back
pub record Telling (c : Told) (answer : List ℤ) (r : ℕ) : Type 0 where
  pub holds : answer ≡ cell_of c.number ∷ c.first ∷ c.second ∷ c.third ∷ []
  pub gives : r ≡ c.number

-- what comes with a verdict: "23 comes with the byte's place", a field's fault with the lowest row and its own place or number
abbrev pub place_cell : verdict.Verdict → ℤ
place_cell verdict.sound = pos 0
place_cell (verdict.refused k) = pos 0
place_cell (verdict.low_byte p) = cell_of p
place_cell (verdict.bad_field i x) = fault_cell x

abbrev pub row_cell : verdict.Verdict → ℤ
row_cell verdict.sound = pos 0
row_cell (verdict.refused k) = pos 0
row_cell (verdict.low_byte p) = pos 0
row_cell (verdict.bad_field i x) = cell_of i

-- the first that there is, and behind a row what is wrong with it
abbrev pub beside_cell : verdict.Verdict → ℤ
beside_cell verdict.sound = pos 0
beside_cell (verdict.refused k) = pos 0
beside_cell (verdict.low_byte p) = cell_of p
beside_cell (verdict.bad_field i x) = cell_of i

abbrev pub behind_cell : verdict.Verdict → ℤ
behind_cell verdict.sound = pos 0
behind_cell (verdict.refused k) = pos 0
behind_cell (verdict.low_byte p) = pos 0
behind_cell (verdict.bad_field i x) = fault_cell x

-- a record judged: the number, and the byte's place, or the row and the fault's place or number
unfoldable pub verdict_cells : verdict.Verdict → Told
verdict_cells v = four (verdict.verdict_number v) (beside_cell v) (behind_cell v) (pos 0)

-- a row read: the number, the kind (0 missing, 1 number, 2 set, 3 text, 4 truth), and the value
unfoldable pub outcome_cells : value.Outcome → Told
outcome_cells value.nothing = told_alone 0
outcome_cells (value.number_is z) = four 0 (pos 1) z (pos 0)
outcome_cells (value.set_of n) = four 0 (pos 2) (cell_of n) (pos 0)
outcome_cells (value.text_at p n) = four 0 (pos 3) (cell_of p) (cell_of n)
outcome_cells (value.truth_is b) = four 0 (pos 4) (flag_of b) (pos 0)
outcome_cells (value.refused k) = told_alone k
outcome_cells (value.bad_field x) = four (fault_number x) (fault_cell x) (pos 0) (pos 0)

-- record n of a file: the number, the record, the row of a field's fault, and the byte's place for 23, the fault's place or number for it
unfoldable pub fault_cells : ℕ → verdict.Verdict → Told
fault_cells n v = four (verdict.verdict_number v) (cell_of n) (row_cell v) (place_cell v)

-- a file judged: a sound one comes with the count of its records
unfoldable pub file_cells : FileVerdict → Told
file_cells (sound_with n) = four 0 (cell_of n) (pos 0) (pos 0)
file_cells bad_table = told_alone 20
file_cells (fault_in n v) = fault_cells n v

-- a definition read: the number, the place, V and E
unfoldable pub definition_cells : Answer → Told
definition_cells (definition.Read v e) = four 0 (pos 0) (cell_of v) (cell_of e)
definition_cells (definition.Refused n p) = four n (cell_of p) (pos 0) (pos 0)

-- the next record: 1 with a terminator, 2 without, 0 none; its start, its end, and where the next one starts
unfoldable pub next_cells : Next → Told
next_cells (Ended start end next) = four 1 (cell_of start) (cell_of end) (cell_of next)
next_cells (Unended start end) = four 2 (cell_of start) (cell_of end) (cell_of end)
next_cells Nothing = told_alone 0

-- ---- THE PROMISES: that of the call, and its outcome told in four numbers. A write gives its number back, and promises just what the
-- call does.
pub record RecordTold (t : List ℤ) (bytes : List ℕ) (answer : List ℤ) (r : ℕ) : Type 0 where
  pub outcome : verdict.Verdict
  pub promise : verdict.RecordJudged t bytes outcome
  pub tells : Telling (verdict_cells outcome) answer r

pub record ValueTold (t : List ℤ) (i : ℕ) (bytes : List ℕ) (list list' answer : List ℤ) (r : ℕ) : Type 0 where
  pub outcome : value.Outcome
  pub promise : value.ValueRead t i bytes list list' outcome
  pub tells : Telling (outcome_cells outcome) answer r

pub record FileTold (t : List ℤ) (d : List ℕ) (answer : List ℤ) (r : ℕ) : Type 0 where
  pub outcome : FileVerdict
  pub promise : FileJudged t d outcome
  pub tells : Telling (file_cells outcome) answer r

pub record DefinitionTold (d : List ℕ) (t t' answer : List ℤ) (r : ℕ) : Type 0 where
  pub outcome : Answer
  pub promise : DefinitionRead d t t' outcome
  pub tells : Telling (definition_cells outcome) answer r

pub record NextTold (d : List ℕ) (from : ℕ) (answer : List ℤ) (r : ℕ) : Type 0 where
  pub outcome : Next
  pub promise : NextFound d from outcome
  pub tells : Telling (next_cells outcome) answer r
