use mathlib.Core.Path.{◌≡◌}
use mir.Syntax.{w64}
use mir.Val.{to_z, of_z}
use borrow.Author.Rules.{rules}
use Rattle.values.specs.Line.{grown_by}
use Rattle.blocks.proofs.grown.Goals as goal
use Rattle.blocks.proofs.grown.Goals.{After-struct_told-1}

from_back : (c : After-struct_told-1) → to_z w64 (of_z w64 c.args.b.from) ≡ c.args.b.from
from_back c = search rules

to_back : (c : After-struct_told-1) → to_z w64 (of_z w64 c.args.b.to) ≡ c.args.b.to
to_back c = search rules

pub returns : goal.returns
unfolding grown_by
returns c = rw (
  from_back (goal.at.returns c).After-struct_told-1,
  to_back (goal.at.returns c).After-struct_told-1,
  c.grown_point-point.ensures,
)
