-- `corrections::truth_asked` meets its contract: 0, 1, or another number.
use mathlib.Core.Path.{sym, ◌∙◌}
use mir.Facts.{to_z-of_z}
use Rattle.corrections.specs.Correction.{truth_no, truth_yes, truth_none}
use Rattle.corrections.proofs.truth_asked.Goals as goal

pub returns-then-same : goal.returns-then-same
returns-then-same c =
    let e = rw (to_z-of_z c.ranges.number) at c.same.ensures in
    truth_no c.args.number (sym e ∙ c.if-same.true)

pub returns-then-same-2 : goal.returns-then-same-2
returns-then-same-2 c =
    let e = rw (to_z-of_z c.ranges.number) at c.same.ensures in
    let f = rw (to_z-of_z c.ranges.number) at c.same-2.ensures in
    truth_yes c.args.number (sym e ∙ c.if-same.false) (sym f ∙ c.if-same-2.true)

pub returns : goal.returns
returns c =
    let e = rw (to_z-of_z c.ranges.number) at c.same.ensures in
    let f = rw (to_z-of_z c.ranges.number) at c.same-2.ensures in
    truth_none c.args.number (sym e ∙ c.if-same.false) (sym f ∙ c.if-same-2.false)
