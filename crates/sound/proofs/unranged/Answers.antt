use mathlib.Core.Path.{◌≡◌}
use mir.Syntax.{w64}
use mir.Val.{to_z, of_z}
use borrow.Author.Rules.{rules}
use Rattle.sound.proofs.unranged.Goals as goal
use Rattle.sound.proofs.unranged.Goals.{After-struct_told-2-1}

from_back : (c : After-struct_told-2-1) → to_z w64 (of_z w64 c.args.c.from) ≡ c.args.c.from
from_back c = search rules

to_back : (c : After-struct_told-2-1) → to_z w64 (of_z w64 c.args.c.to) ≡ c.args.c.to
to_back c = search rules

pub returns : goal.returns
returns c = rw (
  c.same.ensures,
  c.same-2.ensures,
  from_back (goal.at.returns c).After-struct_told-2-1,
  to_back (goal.at.returns c).After-struct_told-2-1,
)
