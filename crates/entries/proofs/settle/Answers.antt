use mathlib.Core.Path.{◌∙◌, sym}
use Rattle.entries.proofs.settle.Goals as goal

pub returns-in-Ok-measure : goal.returns-in-Ok-measure
returns-in-Ok-measure c =
    rw (
      c.in-Ok.is,
      sym c.measure.ensures ∙ c.in-Ok-measure.is,
    )

pub returns-in-Err-measure : goal.returns-in-Err-measure
returns-in-Err-measure c =
    rw (
      c.in-Ok.is,
      sym c.measure.ensures ∙ c.in-Err-measure.is,
    )

pub returns-in-Err : goal.returns-in-Err
returns-in-Err c =
    rw c.in-Err.is
