-- `field_builds::build_code` meets its contract.
use mathlib.Core.Path.{refl, ◌∙◌}
use native.Mathlib.Omega.{arith}
use borrow.Author.Rules.{sfits_of}
use mir.Facts.{to_z-of_z}
use Rattle.field_values.specs.Steps.{single_number}
use Rattle.field_values.specs.Quick.{ready_as, written_as}
use Rattle.field_builds.specs.Built.{built_none, built_some, write_kept, code_built}
use mir.Syntax.{w64}
use Rattle.field_builds.proofs.build_code.Goals as goal

pub returns-then-n-eq0 : goal.returns-then-n-eq0
returns-then-n-eq0 c = built_none refl

pub returns-then-not-stops : goal.returns-then-not-stops
returns-then-not-stops c = built_none refl

pub cell_of-requires : goal.cell_of-requires
cell_of-requires c = omega (arith, c.code_from-a.ensures.few)

pub write_code-requires : goal.write_code-requires
write_code-requires c = record {
  tens = c.requires.tens;
  ready = ready_as c.requires.ready.1 c.requires.ready.0;
}

pub returns-then-not-is_done : goal.returns-then-not-is_done
returns-then-not-is_done c = built_none
    (write_kept
    (written_as c.requires.ready.1
    c.write_code.ensures) c.is_done.ensures c.if-not-is_done.true)

pub overflow_add-result : goal.overflow_add-result
overflow_add-result c = let stop = c.stops.ensures
    c.if-not-stops.false in omega (arith, stop.within)

pub returns : goal.returns
returns c =
    let stop = c.stops.ensures c.if-not-stops.false in
    let cell = c.cell_of in
    built_some (code_built stop c.is_done.ensures c.if-not-is_done.false c.code_from-a.result.n
    (single_number c.args.row c.requires.ready.1).1 (to_z-of_z {w = w64} (sfits_of cell.type_inv) ∙ cell.ensures)
    (c.code_from-a.ensures.reads c.if-n-eq0.false) (written_as c.requires.ready.1
    c.write_code.ensures))
