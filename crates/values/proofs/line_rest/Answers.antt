use mathlib.Core.Path.{◌∙◌, sym}
use Rattle.values.specs.Line.{line_rest}
use Rattle.values.proofs.line_rest.Goals as goal

pub returns-in-Taken : goal.returns-in-Taken
unfolding line_rest
returns-in-Taken c =
    rw (
      sym c.past_value-p.ensures,
      sym c.string_on-q.ensures,
      sym c.past_string-s.ensures,
      sym c.gap_on-g.ensures,
      sym c.perhaps.ensures ∙ c.in-Taken.is,
      sym c.join_line.ensures,
    )

pub returns-in-Left : goal.returns-in-Left
unfolding line_rest
returns-in-Left c =
    rw (
      sym c.past_value-p.ensures,
      sym c.string_on-q.ensures,
      sym c.past_string-s.ensures,
      sym c.gap_on-g.ensures,
      sym c.perhaps.ensures ∙ c.in-Left.is,
      sym c.join_line-in-Left.ensures,
    )
