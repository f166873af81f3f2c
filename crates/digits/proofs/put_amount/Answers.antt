-- `digits::put_amount` meets its contract: the digits before the point, put before the point and the decimals, are one run with them.
use mathlib.Core.Path.{◌∙◌}
use Rattle.widths.specs.Width.{ten_some}
use Rattle.digits.specs.Right.{amount_right}
use Rattle.digits.proofs.put_amount.Goals as goal

pub returns : goal.returns
returns c =
    c.put_right.ensures
    ∙ rw (c.power.ensures, c.put_tail.ensures, c.tail.ensures)
    (amount_right c.args.f _ c.args.at _ c.args.w c.requires.decimals_bound.1)

pub nonzero_div-n : goal.nonzero_div-n
nonzero_div-n c = rw c.power.ensures (ten_some _)
