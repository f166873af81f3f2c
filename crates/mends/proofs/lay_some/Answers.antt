-- `mends::lay_some` meets its contract.
use lib.ListN.{length-replicate}
use Rattle.mends.specs.Mend.{room_stored, plain_size}
use Rattle.mends.proofs.lay_some.Goals as goal

pub returns : goal.returns
returns g c =
    let a = c.args in
    room_stored _ _ _ _ a.at g.row.N _ (length-replicate g.row.N 0) (plain_size a.d.now a.from g.row.N c.requires.0)
    c.lay_few.ensures.stored
    c.copy_in.ensures
