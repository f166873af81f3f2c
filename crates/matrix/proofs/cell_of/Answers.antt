-- `matrix::cell_of` meets its contract: by what the entry is.
-- Assumes nothing.
use mathlib.Core.Path.{◌≡◌}
use borrow.Author.Rules.{rules}
use lib.Ieee.{of_bits}
use mir.Syntax.{w64}
use mir.Val.{to_z, of_z}
use Rattle.matrix.specs.rule.Entry.{presence_of, float_of}
use Rattle.matrix.specs.Entry.{EntryGood, cell_of}
use Rattle.matrix.proofs.cell_of.Goals as goal
use Rattle.matrix.proofs.cell_of.Goals.{In-Scaled}

-- the number is read back from its bits as it is
back : (c : In-Scaled) → to_z w64 (of_z w64 c.in-Scaled.z) ≡ c.in-Scaled.z
back c = search rules

pub value_of-value-requires : goal.value_of-value-requires
unfolding EntryGood
value_of-value-requires c =
    let p = rw c.in-Scaled.is at c.requires in
    record { scaled = rw (back c) p.0; power = p.1 }

pub returns-in-Absent : goal.returns-in-Absent
unfolding cell_of presence_of float_of of_bits
returns-in-Absent c = rw c.in-Absent.is

pub returns-in-Scaled : goal.returns-in-Scaled
unfolding cell_of presence_of float_of
returns-in-Scaled c = rw (c.value_of-value.ensures, back c.before, c.in-Scaled.is)
