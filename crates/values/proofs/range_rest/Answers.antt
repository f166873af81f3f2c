use mathlib.Core.Path.{◌∙◌, sym}
use Rattle.values.specs.Range.{range_rest}
use Rattle.values.proofs.range_rest.Goals as goal

pub returns-in-Taken : goal.returns-in-Taken
unfolding range_rest
returns-in-Taken c =
    rw (
      sym c.value_on-b.ensures,
      sym c.past_value-p.ensures,
      sym c.gap_on-g.ensures,
      sym c.perhaps.ensures ∙ c.in-Taken.is,
      sym c.join_range.ensures,
    )

pub returns-in-Left : goal.returns-in-Left
unfolding range_rest
returns-in-Left c =
    rw (
      sym c.value_on-b.ensures,
      sym c.past_value-p.ensures,
      sym c.gap_on-g.ensures,
      sym c.perhaps.ensures ∙ c.in-Left.is,
      sym c.join_range-in-Left.ensures,
    )
