-- The first number at which a test holds: the place of "a byte below 32 anywhere in the record", and "the lowest row"; and what is wrong
-- with a row.
use Rattle.std.specs.Prelude.{Bool, cond, List, ℕ, zero, suc, ℤ, Option, Some, None}
use Rattle.layout.specs.rule.Row.{row_at}
use Rattle.fields.specs.rule.Row.{reading_of}
use Rattle.sets.specs.rule.Sets.{is_illegal}
use Rattle.faults.specs.rule.Fault.{fault_of}
use Rattle.faults.specs.declared.Fault.{Fault}

-- of the n numbers from i on, the first that passes
unfoldable pub first_from : (ℕ → Bool) → ℕ → ℕ → Option ℕ
first_from f i zero = None
first_from f i (suc n) = cond (f i) (Some i) (first_from f (suc i) n)

-- row i of a table of v rows is illegal in a record
abbrev pub bad_row : List ℤ → ℕ → List ℕ → ℕ → Bool
bad_row t v bytes i = is_illegal (reading_of t v (row_at t i) bytes)

-- what is wrong with it
abbrev pub row_fault : List ℤ → ℕ → List ℕ → ℕ → Fault
row_fault t v bytes i = fault_of t v (row_at t i) bytes
