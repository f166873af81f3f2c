-- `cuts::next_from` meets its contract: no terminator stands before the place that is found.
use mathlib.Core.Path.{sym}
use Rattle.cuts.specs.Cut.{next_none}
use Rattle.cuts.proofs.next_from.Goals as goal

pub returns-then-d-from : goal.returns-then-d-from
returns-then-d-from c = sym (next_none _ _ _ c.if-d-from.true)
