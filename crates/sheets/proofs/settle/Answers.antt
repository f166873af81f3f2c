use mathlib.Core.Path.{◌∙◌, sym}
use Rattle.sheets.proofs.settle.Goals as goal

pub returns-in-Ok : goal.returns-in-Ok
returns-in-Ok c = rw (sym c.measure.ensures ∙ c.in-Ok.is)

pub returns-in-Err : goal.returns-in-Err
returns-in-Err c = rw (sym c.measure.ensures ∙ c.in-Err.is)
