-- `legal::is_legal` meets its contract: in the range, or else on a line.
use mathlib.Core.Path.{sym}
use mir.Facts.{to_z-of_z}
use Rattle.fields.specs.rule.Legal.{legal}
use Rattle.legal.proofs.is_legal.Goals as goal

pub returns-then-in_range : goal.returns-then-in_range
unfolding legal
returns-then-in_range c = rw (← to_z-of_z c.ranges.z, ← c.in_range.ensures, c.if-in_range.true)

pub returns-then-on_own_line : goal.returns-then-on_own_line
unfolding legal
returns-then-on_own_line c =
    rw (
      ← to_z-of_z c.ranges.z,
      ← c.in_range.ensures,
      c.if-in_range.false,
    ) (sym (c.on_own_line.ensures c.if-on_own_line.true))

pub returns : goal.returns
unfolding legal
returns c =
    rw (
      ← to_z-of_z c.ranges.z,
      ← c.in_range.ensures,
      c.if-in_range.false,
    ) c.on_line.ensures
