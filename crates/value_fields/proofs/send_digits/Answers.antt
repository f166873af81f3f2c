-- `value_fields::send_digits` meets its contract.
use native.Mathlib.Omega.{arith}
use Rattle.value_fields.specs.Values.{digits_lost, digits_counted, digits_stored}
use Rattle.value_fields.proofs.send_digits.Goals as goal

pub returns-then-bound-at : goal.returns-then-bound-at
returns-then-bound-at c = digits_lost _ _ _ _ _ _ (omega (arith, c.if-bound-at.true)) c.if-bound-at.true

pub returns-then-bound-at-2 : goal.returns-then-bound-at-2
returns-then-bound-at-2 c = digits_lost _ _ _ _ _ _ (omega (arith, c.if-bound-at-2.true, c.if-bound-at.false)) (omega arith)

pub returns-then-out-end : goal.returns-then-out-end
returns-then-out-end c = digits_counted _ _ _ _ _ c.if-out-end.true

pub returns : goal.returns
returns c = digits_stored _ _ _ _ _ (omega (arith, c.if-bound-at-2.false))
    c.put_digits.ensures
