-- `zarfolin::zarfolin_write_number` meets its contract.
use mir.Facts.{to_z-of_z}
use Rattle.writes.specs.rule.Write.{lent_value}
use Rattle.zarfolin.proofs.zarfolin_write_number.Goals as goal

pub returns : goal.returns
unfolding lent_value
returns c =
    let w = rw (to_z-of_z c.ranges.number) at
    c.write_value.ensures in
    rw c.number_of.ensures w
