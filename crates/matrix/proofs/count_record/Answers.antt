-- `matrix::count_record` meets its contract: all zeros, or one by one.
-- Assumes nothing.
use mathlib.Core.Path.{sym, ◌∙◌}
use Rattle.matrix.specs.Counts.{all_zeros_lem}
use Rattle.matrix.proofs.count_record.Goals as goal

pub returns-then-all_are : goal.returns-then-all_are
returns-then-all_are c = all_zeros_lem c.args.s.now c.args.value
    c.args.ones.now (sym c.all_are.ensures ∙ c.if-all_are.true)
