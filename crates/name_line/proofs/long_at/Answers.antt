-- `name_line::long_at` meets its contract.
use mathlib.Core.Path.{ap, ◌∙◌}
use Prim.Native.Nat.{◌+◌}
use Rattle.cells.specs.rule.Cell.{cell, count_of}
use Rattle.layout.specs.rule.Layout.{columns_at}
use Rattle.name_line.specs.rule.Names.{long_at}
use Rattle.name_line.proofs.long_at.Goals as goal

pub returns : goal.returns
unfolding long_at columns_at
returns c = c.count_at.ensures ∙ ap (λ i. count_of (cell c.args.t.now (i + 15))) c.base.ensures
