use Prim.Native.Nat.{◌+◌, ◌-◌, ◌*◌, ◌≤◌}
use lib.ListN.{length}
use Rattle.sharing.proofs.Steps.{on_step, on_stop, on_end, spread_next, spread_end, spread_left}
use Rattle.sharing.proofs.claim_spread.Goals as goal
use Rattle.sharing.proofs.claim_spread.Goals.{In-loop}

-- the first of the subfields that are left, and the others
more : (c : In-loop) → c.loop.q + c.args.b
    + (c.args.n - (c.loop.counter + 1)) * c.args.b ≤ length c.args.stamps.now
more c = spread_left c.loop.q c.args.b c.loop.counter c.args.n
    (length c.args.stamps.now) c.loop-test.true c.loop.invariant.0

pub returns-then-not-claim_run : goal.returns-then-not-claim_run
returns-then-not-claim_run c =
    let l = c.loop in
    let a = c.args in
    on_stop l.invariant.1 _ _ (spread_next l.q a.b a.w l.counter a.n c.loop-test.true)
    c.claim_run.ensures c.if-not-claim_run.true

pub loop-preserved : goal.loop-preserved
loop-preserved c =
    let l = c.loop in
    let a = c.args in (
      more (goal.at.loop-preserved c).In-loop,
      on_step l.invariant.1 _ _ (spread_next l.q a.b a.w l.counter a.n c.loop-test.true)
          c.claim_run.ensures c.if-not-claim_run.false,
    )

pub returns : goal.returns
returns c = let a = c.args in
    on_end c.loop.invariant.1 (spread_end c.loop.q a.b a.w c.loop.counter a.n c.loop-test.false)
