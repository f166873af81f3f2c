-- `setbytes::bits::blank_all` meets its contract: the places of all categories are one run.
use mathlib.Core.Path.{◌∙◌}
use Rattle.setbytes.proofs.AllSteps.{blank_run}
use Rattle.setbytes.proofs.bits.blank_all.Goals as goal

pub returns : goal.returns
returns c =
    c.blank.ensures ∙ blank_run _ _ _ _ c.requires.w_value _ _
