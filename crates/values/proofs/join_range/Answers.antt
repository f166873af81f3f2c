use mathlib.Core.Path.{sym}
use Rattle.values.specs.Range.{ranged_of}
use Rattle.values.proofs.join_range.Goals as goal

pub returns-in-Err : goal.returns-in-Err
unfolding ranged_of
returns-in-Err c =
    rw c.in-Err.is

pub returns-in-Err-b : goal.returns-in-Err-b
unfolding ranged_of
returns-in-Err-b c =
    rw (
      c.in-Ok.is,
      c.in-Err-b.is,
    )

pub returns-in-Err-end : goal.returns-in-Err-end
unfolding ranged_of
returns-in-Err-end c =
    rw (
      c.in-Ok.is,
      c.in-Ok-b.is,
      c.in-Err-end.is,
    )

pub returns-in-Ok-end : goal.returns-in-Ok-end
unfolding ranged_of
returns-in-Ok-end c =
    rw (
      c.in-Ok.is,
      c.in-Ok-b.is,
      c.in-Ok-end.is,
      sym c.settle.ensures,
    )
