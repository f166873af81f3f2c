-- `sink::send_bytes` meets its contract.
use native.Mathlib.Omega.{arith}
use Rattle.sink.specs.Sent.{bytes_stored, bytes_counted, bytes_lost}
use Rattle.sink.proofs.send_bytes.Goals as goal

pub returns-then-bound-at : goal.returns-then-bound-at
returns-then-bound-at c = bytes_lost _ _ _ _ _ (omega (arith, c.if-bound-at.true)) c.if-bound-at.true

pub returns-then-bound-at-2 : goal.returns-then-bound-at-2
returns-then-bound-at-2 c = bytes_lost _ _ _ _ _ (omega (arith, c.if-bound-at-2.true, c.if-bound-at.false)) (omega arith)

pub returns-then-out-end : goal.returns-then-out-end
returns-then-out-end c = bytes_counted _ _ _ _ c.if-out-end.true

pub returns : goal.returns
returns c =
    rw c.store.ensures
    (bytes_stored _ _ _ _ (omega (arith, c.if-bound-at-2.false)))
