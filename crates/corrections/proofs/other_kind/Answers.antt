-- `corrections::other_kind` meets its contract, by the row.
use Rattle.corrections.specs.Correction.{other_row, other_here}
use Rattle.corrections.proofs.other_kind.Goals as goal

pub returns-then-h-i : goal.returns-then-h-i
returns-then-h-i c = other_row _ _ _ c.read-h.ensures c.if-h-i.true

pub returns : goal.returns
returns c = other_here _ _ _ c.read-h.ensures c.if-h-i.false
