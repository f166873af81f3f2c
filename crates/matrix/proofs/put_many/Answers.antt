-- `matrix::put_many` meets its contract: the presence bytes, then the values' bytes.
-- Assumes nothing.
use Rattle.matrix.specs.Noughts.{many_put}
use Rattle.matrix.proofs.put_many.Goals as goal

pub returns : goal.returns
returns c =
    let a = c.args in
    rw (c.put_number.ensures, c.put_presence.ensures)
    (many_put a.out.now a.flags a.values a.n a.there)
