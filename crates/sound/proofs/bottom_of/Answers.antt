use mathlib.Core.Path.{◌≡◌, ◌∙◌}
use mir.Facts.{to_z-of_z}
use mir.Syntax.{w64}
use mir.Val.{to_z, of_z}
use borrow.Author.Rules.{rules, sfits_of}
use borrow.Author.Tests.{ne_eqb}
use Rattle.layout.specs.rule.Row.{row_of}
use Rattle.sound.specs.Values.{bottom_of}
use Rattle.sound.proofs.bottom_of.Goals as goal
use Rattle.sound.proofs.bottom_of.Goals.{After-struct_told-2-1}

from_back : (c : After-struct_told-2-1) → to_z w64 (of_z w64 c.args.c.from) ≡ c.args.c.from
from_back c = search rules

least_back : (c : After-struct_told-2-1) → to_z w64 (of_z w64 c.args.h.least) ≡ c.args.h.least
least_back c = search rules

pub returns-then-c-eq1 : goal.returns-then-c-eq1
unfolding bottom_of row_of
returns-then-c-eq1 c = to_z-of_z {w = w64} (sfits_of c.lesser.type_inv) ∙ c.lesser.ensures
    ∙ rw (
      from_back (goal.at.returns-then-c-eq1 c).After-struct_told-2-1,
      least_back (goal.at.returns-then-c-eq1 c).After-struct_told-2-1,
      c.if-c-eq1.true,
    )

pub returns : goal.returns
unfolding bottom_of row_of
returns c = rw (least_back (goal.at.returns c).After-struct_told-2-1, ne_eqb _ 1 c.if-c-eq1.false)
