use Prim.Native.Nat.{◌+◌}
use Rattle.sharing.proofs.Steps.{on_step, on_stop, on_end, run_next, run_end}
use Rattle.sharing.proofs.claim_run.Goals as goal

pub returns-then-not-claim_one : goal.returns-then-not-claim_one
returns-then-not-claim_one c =
    let l = c.loop-p in
    on_stop l.invariant _ _ (run_next l.p (c.args.at + c.args.n) c.loop-p-test.true)
    c.claim_one.ensures c.if-not-claim_one.true

pub loop-p-preserved : goal.loop-p-preserved
loop-p-preserved c =
    let l = c.loop-p in
    on_step l.invariant _ _ (run_next l.p (c.args.at + c.args.n) c.loop-p-test.true)
    c.claim_one.ensures c.if-not-claim_one.false

pub returns : goal.returns
returns c = on_end c.loop-p.invariant (run_end c.loop-p.p (c.args.at + c.args.n) c.loop-p-test.false)
