-- `normal::row_stays` meets its contract.
use mathlib.Core.Path.{ap, ◌∙◌}
use Rattle.layout.specs.declared.Row.{Row}
use Rattle.normal.specs.Settle.{stays}
use Rattle.normal.proofs.row_stays.Goals as goal

pub returns : goal.returns
returns c = c.stays.ensures ∙ ap (λ (r : Row). stays r.kind) c.read-row.ensures

pub read-row-requires : goal.read-row-requires
read-row-requires c = c.requires
