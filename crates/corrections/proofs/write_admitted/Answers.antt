-- `corrections::write_admitted` meets its contract: there is no such row, or the write to it.
use Rattle.writes.specs.rule.Public.{write_number}
use Rattle.writes.proofs.Whole.{no_row, row_stands, row_ready, row_written}
use Rattle.corrections.specs.Correction.{admitted}
use Rattle.corrections.proofs.write_admitted.Goals as goal

pub returns-then-rows-row : goal.returns-then-rows-row
unfolding write_number
returns-then-rows-row c = no_row _ _ _ _ (admitted c.requires).formed (rw c.read-h.ensures at c.if-rows-row.true)

pub read-requires : goal.read-requires
read-requires c =
    row_stands c.args.table.now c.args.row c.args.bytes.now (admitted c.requires).formed _
    c.read-h.ensures c.if-rows-row.false

pub write_row-requires : goal.write_row-requires
write_row-requires c =
    let a = admitted c.requires in record {
      tens = c.powers-powers.ensures;
      ready = row_ready c.args.table.now c.args.row c.args.bytes.now a.formed _
          c.read-h.ensures c.if-rows-row.false
          (rw c.read-h.ensures a.long) _ c.read.ensures;
    }

pub returns : goal.returns
returns c =
    let a = admitted c.requires in
    rw c.number_of.ensures (row_written c.args.table.now c.args.row c.args.bytes.now a.formed _
    c.read-h.ensures c.if-rows-row.false (rw c.read-h.ensures a.long) _
    c.read.ensures c.write_row.ensures)
