-- `field_values::quick::quick_amount` meets its contract.
use mathlib.Core.Path.{◌≡◌}
use borrow.Author.Rules.{rules}
use mir.Syntax.{w64}
use mir.Val.{to_z, of_z}
use Rattle.field_values.specs.Steps.{quantity_number}
use Rattle.field_values.specs.Quick.{quick_none, ready_as, written_as, number_quick}
use Rattle.field_values.proofs.quick.quick_amount.Goals as goal
use Rattle.field_values.proofs.quick.quick_amount.Goals.{After-struct_told-1}

-- the number is read back from its bits as it is
back : (c : After-struct_told-1) → to_z w64 (of_z w64 c.number_from-a.result.z) ≡ c.number_from-a.result.z
back c = search rules

pub returns-then-a-f : goal.returns-then-a-f
returns-then-a-f c = quick_none _ _ _ _ _

pub write_amount-requires : goal.write_amount-requires
write_amount-requires c = record {
  tens = c.requires.tens;
  ready = ready_as c.requires.fact.1 c.requires.ready;
}

pub returns : goal.returns
returns c =
    let n = c.number_from-a in
    let k = quantity_number c.args.row c.args.q _ _ _ c.requires.fact.1 c.requires.ready in
    number_quick c.requires.fact.0 k.0 k.1 (rw (back (goal.at.returns c).After-struct_told-1) n.ensures)
    c.if-a-f.false
    (written_as c.requires.fact.1 c.write_amount.ensures) c.is_done.ensures
