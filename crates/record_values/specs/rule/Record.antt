-- Reading a whole record: "four numbers a row, just those that read_value answers for it, but for a set: kind, count, and in the fourth
-- where its members start in the list; sets follow each other in the list. Refusals 20, 22, 25; what lies beyond is kept."
use Rattle.std.specs.Prelude.{◌≡◌, Bool, true, false, cond, ◌&&◌, List, [], ◌∷◌, ◌++◌, ℕ, zero, suc, ◌+◌, ◌-◌, ◌*◌, leb, ltb, ℤ, pos}
use Rattle.std.specs.Prelude.{length}
use Rattle.layout.specs.rule.Row.{row_at}
use Rattle.fields.specs.rule.Field.{missing, number, members, text, truth, Field, holds, illegal}
use Rattle.fields.specs.rule.Row.{reading_of}
use Rattle.sets.specs.rule.Sets.{filled_of, is_illegal}
use Rattle.faults.specs.rule.Fault.{fault_number}
use Rattle.faults.specs.declared.Fault.{Fault}
use Rattle.faults.specs.declared.Fault.TheVariants.{Sound, Stray, NotLegal, Point}
use Rattle.records.specs.rule.First.{row_fault}
use Rattle.records.specs.rule.Value.{Outcome, nothing, number_is, set_of, text_at, truth_is, refused, bad_field, outcome_of}
use Rattle.sound.specs.rule.Sound.{well_formed}
use Rattle.sound.specs.rule.Rows.{rows_of, length_of}
use Rattle.record_values.specs.declared.Whole.{Whole}
use Rattle.record_values.specs.declared.Whole.TheVariants as whole

-- THE READING of row i of a table of v rows
abbrev pub row_reading : List ℤ → ℕ → List ℕ → ℕ → Field
row_reading t v bytes i = reading_of t v (row_at t i) bytes

-- ---- the list: "sets follow each other", in rising order inside each
-- what a field adds to the list: a set's members
unfoldable pub members_of : Field → List ℤ
members_of (holds (members ms)) = ms
members_of (holds missing) = []
members_of (holds (number z)) = []
members_of (holds (text s)) = []
members_of (holds (truth b)) = []
members_of illegal = []

-- the members of the first n rows
unfoldable pub members_below : (ℕ → Field) → ℕ → List ℤ
members_below f zero = []
members_below f (suc n) = members_below f n ++ members_of (f n)

-- ---- "rows refused"
unfoldable pub refused_below : (ℕ → Field) → ℕ → ℕ
refused_below f zero = 0
refused_below f (suc n) = refused_below f n + cond (is_illegal (f n)) 1 0

-- ---- the four numbers of a row
-- a count as a signed number: itself, up to the largest there is, which no place in a slice reaches
unfoldable pub cell_of : ℕ → ℤ
cell_of n = cond (ltb n 9223372036854775807) (pos n) (pos 9223372036854775807)

unfoldable pub flag_of : Bool → ℤ
flag_of true = pos 1
flag_of false = pos 0

-- what comes with a fault: its place, or for 242 the number
unfoldable pub fault_cell : Fault → ℤ
fault_cell Sound = pos 0
fault_cell (Stray p) = cell_of p
fault_cell (NotLegal z) = z
fault_cell (Point p) = cell_of p

-- what was read, where a set starts at a place of the list: the number, the kind (0 missing, 1 number, 2 set, 3 text, 4 truth), the value
unfoldable pub four_of : ℕ → Outcome → List ℤ
four_of start nothing = pos 0 ∷ pos 0 ∷ pos 0 ∷ pos 0 ∷ []
four_of start (number_is z) = pos 0 ∷ pos 1 ∷ z ∷ pos 0 ∷ []
four_of start (set_of n) = pos 0 ∷ pos 2 ∷ cell_of n ∷ cell_of start ∷ []
four_of start (text_at p n) = pos 0 ∷ pos 3 ∷ cell_of p ∷ cell_of n ∷ []
four_of start (truth_is b) = pos 0 ∷ pos 4 ∷ flag_of b ∷ pos 0 ∷ []
four_of start (refused k) = cell_of k ∷ pos 0 ∷ pos 0 ∷ pos 0 ∷ []
four_of start (bad_field x) = cell_of (fault_number x) ∷ fault_cell x ∷ pos 0 ∷ pos 0 ∷ []

-- what row i says, read with room for its set
abbrev pub row_outcome : List ℤ → ℕ → List ℕ → ℕ → Outcome
row_outcome t v bytes i =
    outcome_of ((row_at t i).start - 1) (length (members_of (row_reading t v bytes i))) (row_fault t v bytes i) (row_reading t v bytes i)

-- the numbers of the first n rows; a set starts behind the members of the rows before it
unfoldable pub cells_below : List ℤ → ℕ → List ℕ → ℕ → List ℤ
cells_below t v bytes zero = []
cells_below t v bytes (suc n) =
    cells_below t v bytes n ++ four_of (length (members_below (row_reading t v bytes) n)) (row_outcome t v bytes n)

-- ---- a whole record by a table
abbrev pub all_members : List ℤ → List ℕ → List ℤ
all_members t bytes = members_below (row_reading t (rows_of t) bytes) (rows_of t)

abbrev pub all_cells : List ℤ → List ℕ → List ℤ
all_cells t bytes = cells_below t (rows_of t) bytes (rows_of t)

-- "out shorter than 4V, or list shorter than all sets together": there is room where neither holds
unfoldable pub room_for : List ℤ → List ℕ → ℕ → ℕ → Bool
room_for t bytes o l = leb (4 * rows_of t) o && leb (length (all_members t bytes)) l

-- what is answered, with room for o numbers and l members: refusals 20, 22, 25, lowest first
unfoldable pub whole_of : List ℤ → List ℕ → ℕ → ℕ → Whole
whole_of t bytes o l =
    cond (well_formed t)
    (cond (leb (length_of t) (length bytes))
    (cond (room_for t bytes o l)
    (whole.Read (length (all_members t bytes)) (refused_below (row_reading t (rows_of t) bytes) (rows_of t)))
    whole.ShortRoom)
    whole.ShortRecord)
    whole.BadTable

-- what is written over the start of a lent list, which keeps the rest; "nothing is written" on a refusal
unfoldable pub written_by : Whole → List ℤ → List ℤ → List ℤ
written_by (whole.Read m k) xs lent = filled_of xs lent
written_by whole.BadTable xs lent = lent
written_by whole.ShortRecord xs lent = lent
written_by whole.ShortRoom xs lent = lent

-- THE PROMISE of the call: the answer, the rows' numbers, and the list afterwards
pub record RecordRead (t : List ℤ) (bytes : List ℕ) (out out' list list' : List ℤ) (r : Whole) : Type 0 where
  pub says : r ≡ whole_of t bytes (length out) (length list)
  pub rows : out' ≡ written_by (whole_of t bytes (length out) (length list)) (all_cells t bytes) out
  pub leaves : list' ≡ written_by (whole_of t bytes (length out) (length list)) (all_members t bytes) list
