-- `listing::take_rows` meets its contract: some rows are left, or none.
use Rattle.files.specs.Tested.{tested_rows, tested_length}
use Rattle.listing.specs.Turns.{take_part, take_whole}
use Rattle.listing.proofs.take_rows.Goals as goal

pub returns-then-l-h : goal.returns-then-l-h
returns-then-l-h c =
    let p = c.requires in
    take_part _ _ _ _ _ (rw (tested_length p.ready.tested) at p.n_bound.1)
    c.list_rows-l.ensures (rw (tested_rows p.ready.tested) at c.if-l-h.true)

pub returns : goal.returns
returns c =
    let p = c.requires in
    take_whole _ _ _ _ _ (rw (tested_length p.ready.tested) at p.n_bound.1)
    c.list_rows-l.ensures (rw (tested_rows p.ready.tested) at c.if-l-h.false)
