-- `number_fields::number_from` meets its contract.
use native.Mathlib.Omega.{arith}
use borrow.Author.Rules.{sfits_of}
use mir.Facts.{to_z-of_z}
use Rattle.number_fields.specs.Reads.{number_none, number_up, number_down}
use Rattle.number_fields.proofs.number_from.Goals as goal

pub returns-then-d-at-ne45 : goal.returns-then-d-at-ne45
returns-then-d-at-ne45 c = rw (to_z-of_z (sfits_of c.number_of.type_inv), c.number_of.ensures) (number_up c.size_from-a.ensures)

pub returns : goal.returns
returns c =
    rw (to_z-of_z (sfits_of c.number_of-2.type_inv), c.number_of-2.ensures)
    (number_down _ _ (omega (arith, c.if-d-at.false)) c.if-d-at-ne45.false c.size_from-a-2.ensures
    c.if-n-eq0.false
    c.if-a-from.false)

pub returns-then-d-at : goal.returns-then-d-at
returns-then-d-at c = number_none _ _ _

pub returns-then-n-eq0 : goal.returns-then-n-eq0
returns-then-n-eq0 c = number_none _ _ _

pub returns-then-a-from : goal.returns-then-a-from
returns-then-a-from c = number_none _ _ _
