-- `sink::send_byte` meets its contract.
use native.Mathlib.Omega.{arith}
use Rattle.sink.specs.Sent.{byte_stored, byte_counted, byte_lost}
use Rattle.sink.proofs.send_byte.Goals as goal

pub returns-then-bound-at : goal.returns-then-bound-at
returns-then-bound-at c = byte_lost _ _ _ _ c.if-bound-at.true

pub returns-then-out-at : goal.returns-then-out-at
returns-then-out-at c = byte_counted _ _ _ _ c.if-out-at.true (omega (arith, c.if-bound-at.false))

pub returns : goal.returns
returns c = byte_stored _ _ _ _ (omega (arith, c.if-out-at.false)) (omega (arith, c.if-bound-at.false))
