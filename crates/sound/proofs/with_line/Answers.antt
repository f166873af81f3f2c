-- `sound::with_line` meets its contract.
use mathlib.Core.Path.{◌∙◌}
use Rattle.sound.specs.Laid.{over_more}
use Rattle.sound.proofs.with_line.Goals as goal

pub returns : goal.returns
returns c =
    over_more c.args.t.now c.args.v c.args.k c.args.l c.read-line.result
    (c.read-line.ensures ∙ rw c.base.ensures) c.requires.over
