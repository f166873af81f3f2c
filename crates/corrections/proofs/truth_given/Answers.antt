-- `corrections::truth_given` meets its contract: there is no such row, or the truth written to it.
use Rattle.writes.specs.rule.Public.{write_number}
use Rattle.writes.proofs.Whole.{no_row, row_stands, row_ready, row_written}
use Rattle.corrections.specs.Correction.{admitted}
use Rattle.corrections.proofs.truth_given.Goals as goal

pub returns-then-rows-i : goal.returns-then-rows-i
unfolding write_number
returns-then-rows-i c = no_row _ _ _ _ (admitted c.requires).formed (rw c.read-h.ensures at c.if-rows-i.true)

pub read-row-requires : goal.read-row-requires
read-row-requires c =
    row_stands c.args.table.now c.args.i c.args.bytes.now (admitted c.requires).formed _ c.read-h.ensures
    c.if-rows-i.false

pub write_truth-requires : goal.write_truth-requires
write_truth-requires c =
    let a = admitted c.requires in
    row_ready c.args.table.now c.args.i c.args.bytes.now a.formed _ c.read-h.ensures
    c.if-rows-i.false (rw c.read-h.ensures a.long) _ c.read-row.ensures

pub returns : goal.returns
returns c =
    let a = admitted c.requires in
    rw c.number_of.ensures (row_written c.args.table.now c.args.i c.args.bytes.now a.formed _ c.read-h.ensures
    c.if-rows-i.false (rw c.read-h.ensures a.long) _
    c.read-row.ensures c.write_truth.ensures)
