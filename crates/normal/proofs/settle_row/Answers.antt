-- `normal::settle_row` meets its contract: a row that stays, or what it reads written back.
use Rattle.normal.proofs.Steps.{stays_back, held_as}
use Rattle.normal.proofs.settle_row.Goals as goal

pub returns-then-stays : goal.returns-then-stays
returns-then-stays c = stays_back _ _ _ _ c.stays.ensures c.if-stays.true

pub put_back-requires : goal.put_back-requires
put_back-requires c =
    let p = c.requires in record {
      tens = p.tens;
      ready = p.settles.write;
      held_as = held_as _ _ _ _ p.settles c.stays.ensures c.if-stays.false c.read_row-said.ensures;
    }

pub read_row-said-requires : goal.read_row-said-requires
read_row-said-requires c = c.requires.settles.read

pub returns : goal.returns
returns c = c.put_back.ensures
