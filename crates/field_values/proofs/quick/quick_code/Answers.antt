-- `field_values::quick::quick_code` meets its contract.
use mathlib.Core.Path.{◌≡◌}
use borrow.Author.Rules.{rules}
use mir.Syntax.{w64}
use mir.Val.{to_z, of_z}
use Rattle.field_values.specs.Steps.{single_number}
use Rattle.field_values.specs.Quick.{quick_none, ready_as, written_as, number_quick}
use Rattle.field_values.proofs.quick.quick_code.Goals as goal
use Rattle.field_values.proofs.quick.quick_code.Goals.{After-struct_told-1}

-- the number is read back from its bits as it is
back : (c : After-struct_told-1) → to_z w64 (of_z w64 c.number_from-a.result.z) ≡ c.number_from-a.result.z
back c = search rules

pub returns-then-a-f : goal.returns-then-a-f
returns-then-a-f c = quick_none _ _ _ _ _

pub write_code-requires : goal.write_code-requires
write_code-requires c = record {
  tens = c.requires.tens;
  ready = ready_as c.requires.fact.1 c.requires.ready;
}

pub returns : goal.returns
returns c =
    let n = c.number_from-a in
    let k = single_number c.args.row c.requires.fact.1 in
    number_quick c.requires.fact.0 k.0 k.1 (rw (back (goal.at.returns c).After-struct_told-1) n.ensures)
    c.if-a-f.false (written_as c.requires.fact.1 c.write_code.ensures) c.is_done.ensures
