use mathlib.Core.Path.{◌≡◌, ◌∙◌}
use mir.Syntax.{w64}
use mir.Val.{to_z, of_z}
use borrow.Author.Rules.{rules}
use Rattle.sound.specs.rule.Sound.{range_width}
use Rattle.sound.proofs.range_width.Goals as goal
use Rattle.sound.proofs.range_width.Goals.{After-struct_told-2-1}

from_back : (c : After-struct_told-2-1) → to_z w64 (of_z w64 c.args.r.from) ≡ c.args.r.from
from_back c = search rules

to_back : (c : After-struct_told-2-1) → to_z w64 (of_z w64 c.args.r.to) ≡ c.args.r.to
to_back c = search rules

pub returns-then-r : goal.returns-then-r
unfolding range_width
returns-then-r c = c.wider.ensures ∙ rw (
  from_back (goal.at.returns-then-r c).After-struct_told-2-1,
  to_back (goal.at.returns-then-r c).After-struct_told-2-1,
  c.if-r.true,
)

pub returns-else-r : goal.returns-else-r
unfolding range_width
returns-else-r c = rw c.if-r.false
