use mathlib.Core.Path.{◌∙◌, sym}
use Rattle.values.proofs.settle.Goals as goal

pub returns-in-Ok : goal.returns-in-Ok
returns-in-Ok c =
    rw (
      ← c.reversed-below.ensures,
      sym c.judge_range.ensures ∙ c.in-Ok.is,
    )

pub returns-in-Err : goal.returns-in-Err
returns-in-Err c =
    rw (
      ← c.reversed-below.ensures,
      sym c.judge_range.ensures ∙ c.in-Err.is,
    )
