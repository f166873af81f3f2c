-- `name_line::place_at` meets its contract.
use mathlib.Core.Path.{ap, ◌∙◌}
use Prim.Native.Nat.{◌+◌}
use Rattle.cells.specs.rule.Cell.{cell, count_of}
use Rattle.layout.specs.rule.Layout.{columns_at}
use Rattle.name_line.specs.rule.Names.{place_at}
use Rattle.name_line.proofs.place_at.Goals as goal

pub returns : goal.returns
unfolding place_at columns_at
returns c = c.count_at.ensures ∙ ap (λ i. count_of (cell c.args.t.now (i + 14))) c.base.ensures
