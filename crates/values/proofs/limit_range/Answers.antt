use mathlib.Core.Path.{◌∙◌, sym}
use borrow.Author.Rules.{sfits_of}
use mir.Facts.{to_z-of_z}
use Rattle.values.specs.Range.{limit_range}
use Rattle.values.proofs.limit_range.Goals as goal

pub returns-then-large : goal.returns-then-large
unfolding limit_range
returns-then-large c = rw (sym c.large.ensures ∙ c.if-large.true)

pub returns-then-large-2 : goal.returns-then-large-2
unfolding limit_range
returns-then-large-2 c =
    rw (
      sym c.large.ensures ∙ c.if-large.false,
      sym c.large-2.ensures ∙ c.if-large-2.true,
    )

pub scaled-from-requires : goal.scaled-from-requires
scaled-from-requires c = sym c.large.ensures ∙ c.if-large.false

pub scaled-to-requires : goal.scaled-to-requires
scaled-to-requires c = sym c.large-2.ensures ∙ c.if-large-2.false

pub returns : goal.returns
unfolding limit_range
returns c =
    rw (
      sym c.large.ensures ∙ c.if-large.false,
      sym c.large-2.ensures ∙ c.if-large-2.false,
      sym c.scaled-from.ensures,
      sym c.scaled-to.ensures,
      sym c.point_code.ensures,
      sym c.point_code-2.ensures,
      sym c.point_codes-point.ensures,
    )
    (rw (to_z-of_z (sfits_of c.scaled-from.type_inv), to_z-of_z (sfits_of c.scaled-to.type_inv)))
