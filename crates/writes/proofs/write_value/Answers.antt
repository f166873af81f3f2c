-- `writes::write_value` meets its contract: the tests in their order, and then the write to the row.
use mathlib.Core.Path.{◌≡◌, sym, ◌∙◌}
use mathlib.Core.Bool.{true}
use Rattle.sound.specs.rule.Sound.{well_formed}
use Rattle.writes.proofs.Whole.{not_formed, no_row, too_short, row_stands, row_ready, row_written}
use Rattle.writes.proofs.write_value.Goals as goal
use Rattle.writes.proofs.write_value.Goals.{After-read-h}

-- the table is well formed
good : (c : After-read-h) → well_formed c.args.table.now ≡ true
good c = sym c.well_formed-2.ensures.says ∙ c.if-not-well_formed.false

pub returns-then-not-well_formed : goal.returns-then-not-well_formed
returns-then-not-well_formed c = not_formed _ _ _ _ (sym c.well_formed-2.ensures.says ∙ c.if-not-well_formed.true)

pub returns-then-rows-row : goal.returns-then-rows-row
returns-then-rows-row c = no_row _ _ _ _ (good (goal.at.returns-then-rows-row c).After-read-h) (rw c.read-h.ensures at c.if-rows-row.true)

pub returns-then-bytes-h : goal.returns-then-bytes-h
returns-then-bytes-h c =
    too_short _ _ _ _ (good (goal.at.returns-then-bytes-h c).After-read-h) (rw c.read-h.ensures at c.if-rows-row.false)
    (rw c.read-h.ensures at c.if-bytes-h.true)

pub read-requires : goal.read-requires
read-requires c =
    row_stands c.args.table.now c.args.row c.args.bytes.now (good (goal.at.read-requires c).After-read-h) _ c.read-h.ensures
    c.if-rows-row.false

pub write_row-requires : goal.write_row-requires
write_row-requires c = record {
  tens = c.powers-powers.ensures;
  ready = row_ready c.args.table.now c.args.row c.args.bytes.now (good (goal.at.write_row-requires c).After-read-h) _
      c.read-h.ensures c.if-rows-row.false c.if-bytes-h.false _ c.read.ensures;
}

pub returns : goal.returns
returns c =
    row_written c.args.table.now c.args.row c.args.bytes.now (good (goal.at.returns c).After-read-h) _ c.read-h.ensures c.if-rows-row.false
    c.if-bytes-h.false _ c.read.ensures c.write_row.ensures
