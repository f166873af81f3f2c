-- `columns::mark_members` meets its contract. The invariant: besides the first marks, those of the numbers passed.
-- Assumes nothing.
use mathlib.Core.Path.{◌≡◌}
use lib.ListN.{length}
use Rattle.below.specs.rule.Below.{any_below}
use Rattle.cells.specs.rule.Cell.{cell, eq_z}
use Rattle.sets.specs.Marks.{Besides}
use Rattle.columns.proofs.mark_members.Given as goal

abbrev pub invariant-loop-k : goal.invariant-loop-k
invariant-loop-k l = (length l.marks ≡ length l.initial.marks)
    × Besides (λ x. any_below l.k (λ j. eq_z (cell l.list j) x)) l.initial.marks l.marks
