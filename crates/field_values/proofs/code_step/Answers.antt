-- `field_values::code_step` meets its contract.
use native.Mathlib.Omega.{arith}
use Rattle.field_values.specs.Coded.{stepped_none, stepped_some}
use Rattle.field_values.proofs.code_step.Goals as goal

pub returns-then-b-lt48 : goal.returns-then-b-lt48
returns-then-b-lt48 c = stepped_none _ _

pub returns-then-b-gt57 : goal.returns-then-b-gt57
returns-then-b-gt57 c = stepped_none _ _

pub returns-then-m-gt9999 : goal.returns-then-m-gt9999
returns-then-m-gt9999 c = stepped_none _ _

pub returns : goal.returns
returns c = stepped_some _ _ (omega (arith, c.if-b-lt48.false)) (omega (arith, c.if-b-gt57.false))
    (omega (arith, c.if-m-gt9999.false))
