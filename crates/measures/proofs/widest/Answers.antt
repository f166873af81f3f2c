use mathlib.Core.Path.{sym}
use Rattle.measures.specs.Width.{widest_of}
use Rattle.measures.proofs.widest.Goals as goal

pub returns : goal.returns
unfolding widest_of
returns c =
    rw (
      sym c.range_width-a.ensures,
      sym c.lines_width-b.ensures,
      sym c.larger.ensures,
    )
