use mathlib.Core.Path.{◌≡◌}
use mir.Facts.{to_z-of_z}
use mir.Syntax.{w64}
use mir.Val.{to_z, of_z}
use borrow.Author.Rules.{rules}
use borrow.Author.Tests.{ne_eqb}
use Rattle.layout.specs.rule.Row.{row_of}
use Rattle.sound.proofs.range_fits.Goals as goal
use Rattle.sound.proofs.range_fits.Goals.{After-struct_told-2-1}

from_back : (c : After-struct_told-2-1) → to_z w64 (of_z w64 c.args.c.from) ≡ c.args.c.from
from_back c = search rules

to_back : (c : After-struct_told-2-1) → to_z w64 (of_z w64 c.args.c.to) ≡ c.args.c.to
to_back c = search rules

pub returns-then-c-eq1 : goal.returns-then-c-eq1
unfolding row_of
returns-then-c-eq1 c = rw (
  c.if-c-eq1.true,
  to_z-of_z c.ranges.low,
  to_z-of_z c.ranges.high,
  from_back (goal.at.returns-then-c-eq1 c).After-struct_told-2-1,
  to_back (goal.at.returns-then-c-eq1 c).After-struct_told-2-1,
)

pub returns : goal.returns
unfolding row_of
returns c = rw (ne_eqb _ 1 c.if-c-eq1.false)
