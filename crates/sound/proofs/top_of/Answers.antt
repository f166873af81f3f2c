use mathlib.Core.Path.{◌≡◌, ◌∙◌}
use mir.Facts.{to_z-of_z}
use mir.Syntax.{w64}
use mir.Val.{to_z, of_z}
use borrow.Author.Rules.{rules, sfits_of}
use borrow.Author.Tests.{ne_eqb}
use Rattle.layout.specs.rule.Row.{row_of}
use Rattle.sound.specs.Values.{top_of}
use Rattle.sound.proofs.top_of.Goals as goal
use Rattle.sound.proofs.top_of.Goals.{After-struct_told-2-1}

to_back : (c : After-struct_told-2-1) → to_z w64 (of_z w64 c.args.c.to) ≡ c.args.c.to
to_back c = search rules

most_back : (c : After-struct_told-2-1) → to_z w64 (of_z w64 c.args.h.most) ≡ c.args.h.most
most_back c = search rules

pub returns-then-c-eq1 : goal.returns-then-c-eq1
unfolding top_of row_of
returns-then-c-eq1 c = to_z-of_z {w = w64} (sfits_of c.greater.type_inv) ∙ c.greater.ensures
    ∙ rw (
      to_back (goal.at.returns-then-c-eq1 c).After-struct_told-2-1,
      most_back (goal.at.returns-then-c-eq1 c).After-struct_told-2-1,
      c.if-c-eq1.true,
    )

pub returns : goal.returns
unfolding top_of row_of
returns c = rw (most_back (goal.at.returns c).After-struct_told-2-1, ne_eqb _ 1 c.if-c-eq1.false)
