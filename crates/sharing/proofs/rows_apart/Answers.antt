use Rattle.below.specs.Below.{all_none, all_more}
use Rattle.sharing.specs.rule.Sharing.{places_at}
use Rattle.sharing.specs.Pairs.{apart_before, stamps_none, stamps_more, shares_whole, shares_some}
use Rattle.sharing.proofs.RowSteps.{turn_stop, turn_done, is_true}
use Rattle.sharing.proofs.rows_apart.Goals as goal

pub loop-i-init : goal.loop-i-init
loop-i-init c =
    let a = c.args in (
      stamps_none (places_at a.t.now a.rows) _ c.requires.by_index,
      all_none (apart_before (places_at a.t.now a.rows)),
    )

pub returns-then-not-claim_row : goal.returns-then-not-claim_row
returns-then-not-claim_row c =
    let l = c.loop-i in
    let a = c.args in
    shares_some a.t.now a.rows l.i c.loop-i-test.true (turn_stop (places_at a.t.now a.rows) l.invariant.0
    (rw c.read.ensures at c.claim_row.ensures) c.if-not-claim_row.true)

pub loop-i-preserved : goal.loop-i-preserved
loop-i-preserved c =
    let l = c.loop-i in
    let a = c.args in
    let y = c.if-not-claim_row.false in (
      stamps_more (places_at a.t.now a.rows) l.invariant.0
          (is_true y (rw c.read.ensures at c.claim_row.ensures)),
      all_more (apart_before (places_at a.t.now a.rows)) l.i l.invariant.1 (turn_done (places_at a.t.now a.rows) l.invariant.0
          (rw c.read.ensures at c.claim_row.ensures) y),
    )

pub returns : goal.returns
returns c =
    let l = c.loop-i in let a = c.args in
    shares_whole a.t.now a.rows l.i c.loop-i-test.false l.auto.i-end l.invariant.1
