-- `faults::blank` meets its contract: no byte fails.
use mathlib.Core.Path.{ap, ◌∙◌}
use mathlib.Core.Bool.{not}
use Rattle.faults.proofs.Laws.{blank_some}
use Rattle.faults.proofs.blank.Goals as goal

pub returns : goal.returns
returns c = ap not c.is_fault.ensures ∙ rw c.first_failing.ensures (blank_some _ _)
