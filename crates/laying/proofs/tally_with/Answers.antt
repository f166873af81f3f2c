use mathlib.Core.Path.{sym}
use Rattle.laying.specs.Code.{tally_with}
use Rattle.laying.proofs.tally_with.Goals as goal

pub returns : goal.returns
unfolding tally_with
returns c =
    rw (sym c.larger.ensures)
