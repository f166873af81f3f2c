-- `setbytes::judge::lies_in` meets its contract.
use mir.Facts.{to_z-of_z}
use Rattle.setbytes.specs.Sets.{within}
use Rattle.setbytes.proofs.judge.lies_in.Goals as goal

pub returns : goal.returns
unfolding within
returns c =
    rw (c.not_above.ensures, c.not_above-2.ensures, to_z-of_z c.ranges.from, to_z-of_z c.ranges.z, to_z-of_z c.ranges.to)
