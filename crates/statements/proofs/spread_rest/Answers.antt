use mathlib.Core.Path.{◌∙◌, sym}
use Rattle.statements.specs.Spread.{spread_rest}
use Rattle.statements.proofs.spread_rest.Goals as goal

pub returns-in-Taken : goal.returns-in-Taken
unfolding spread_rest
returns-in-Taken c =
    rw (
      sym c.number_on-a.ensures,
      sym c.past_number-p.ensures,
      sym c.gap_on-g.ensures,
      sym c.perhaps.ensures ∙ c.in-Taken.is,
      sym c.number_on-b.ensures,
      sym c.fields.ensures,
    )

pub returns-in-Left : goal.returns-in-Left
unfolding spread_rest
returns-in-Left c =
    rw (
      sym c.number_on-a.ensures,
      sym c.past_number-p.ensures,
      sym c.gap_on-g.ensures,
      sym c.perhaps.ensures ∙ c.in-Left.is,
      sym c.even.ensures,
    )
