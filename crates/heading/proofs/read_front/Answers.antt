use mathlib.Core.Path.{sym}
use Rattle.heading.specs.Heading.{front_on}
use Rattle.heading.proofs.read_front.Goals as goal

pub returns : goal.returns
unfolding front_on
returns c =
    rw (
      sym c.read_opening-o.ensures,
      sym c.entries_on-e.ensures,
      sym c.front_rest.ensures,
    )
