-- `corrections::correct` meets its contract: its single write, and its mark.
use mathlib.Core.Path.{ap}
use Rattle.corrections.specs.rule.Correction.{marked_with}
use Rattle.corrections.proofs.correct.Goals as goal

pub returns : goal.returns
returns c =
    let w = c.write_given-m.ensures in
    (ap (marked_with c.args.c) w.0, w.1)
