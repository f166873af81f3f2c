use Rattle.fields.specs.rule.Legal.{in_range}
use mathlib.Core.Path.{◌≡◌}
use mir.Syntax.{w64}
use mir.Val.{to_z, of_z}
use mir.Facts.{to_z-of_z}
use borrow.Author.Rules.{rules}
use Rattle.legal.proofs.in_range.Goals as goal
use Rattle.legal.proofs.in_range.Goals.{After-struct_known-1}

-- the row's numbers are read back from their bits as they are
from_back : (c : After-struct_known-1) → to_z w64 (of_z w64 c.args.row.from) ≡ c.args.row.from
from_back c = search rules

to_back : (c : After-struct_known-1) → to_z w64 (of_z w64 c.args.row.to) ≡ c.args.row.to
to_back c = search rules

pub returns : goal.returns
unfolding in_range
returns c =
    rw (c.not_above.ensures, c.not_above-2.ensures, from_back c, to_back c, to_z-of_z c.ranges.z)
