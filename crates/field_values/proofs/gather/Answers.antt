use mathlib.Core.Path.{sym, ◌∙◌}
use native.Mathlib.Omega.{arith}
use borrow.Author.Rules.{sfits_of}
use mir.Facts.{to_z-of_z}
use lib.ListN.{length-set}
use Rattle.field_values.specs.Steps.{gathering_none, gathered_many, gathered_all, gathering_more}
use mir.Syntax.{w64}
use Rattle.field_values.proofs.gather.Goals as goal

pub loop-count-init : goal.loop-count-init
loop-count-init c = (gathering_none _ _, c.requires)

pub byte_to-to-requires : goal.byte_to-to-requires
byte_to-to-requires c = c.loop-count.invariant.0.inside

pub shape_of-list-then-count-ge9999 : goal.shape_of-list-then-count-ge9999
shape_of-list-then-count-ge9999 c = c.loop-count.invariant.1 ∙ sym c.requires

pub returns-then-count-ge9999 : goal.returns-then-count-ge9999
returns-then-count-ge9999 c = gathered_many c.loop-count.invariant.0 c.loop-count.invariant.1 c.byte_to-to.ensures
    c.if-count-ge9999.true

pub slice_bounds-code_of-count : goal.slice_bounds-code_of-count
slice_bounds-code_of-count c = omega (arith, c.byte_to-to.ensures.on)

pub slice_bounds-code_of-start : goal.slice_bounds-code_of-start
slice_bounds-code_of-start c = omega (arith, c.byte_to-to.ensures.on, c.byte_to-to.ensures.within)

pub slice_bounds-code_of-end : goal.slice_bounds-code_of-end
slice_bounds-code_of-end c = omega (arith, c.byte_to-to.ensures.on, c.byte_to-to.ensures.within)

pub cell_of-requires : goal.cell_of-requires
cell_of-requires c = omega (arith, c.code_of.ensures)

pub offset_bounds-list-count : goal.offset_bounds-list-count
offset_bounds-list-count c = omega (arith, c.if-count-ge9999.false)

pub bounds-list-count : goal.bounds-list-count
bounds-list-count c = omega (arith, c.if-count-ge9999.false, c.loop-count.invariant.1)

pub overflow_add-count : goal.overflow_add-count
overflow_add-count c = omega (arith, c.if-count-ge9999.false)

pub shape_of-list-then-f-to : goal.shape_of-list-then-f-to
shape_of-list-then-f-to c =
    simp length-set (c.loop-count.invariant.1 ∙ sym c.requires)

pub returns-then-f-to : goal.returns-then-f-to
returns-then-f-to c = (
  omega (arith, c.if-count-ge9999.false),
  gathered_all c.loop-count.invariant.0 c.loop-count.invariant.1 c.byte_to-to.ensures
      (omega (arith, c.if-count-ge9999.false))
      (to_z-of_z {w = w64} (sfits_of c.cell_of.type_inv) ∙ c.cell_of.ensures ∙ rw c.code_of.ensures) c.if-f-to.true,
)

pub overflow_add-at : goal.overflow_add-at
overflow_add-at c = omega (arith, c.if-f-to.false)

pub loop-count-smaller : goal.loop-count-smaller
loop-count-smaller c = omega (arith, c.if-count-ge9999.false)

pub loop-count-preserved : goal.loop-count-preserved
loop-count-preserved c = (
  gathering_more c.loop-count.invariant.0 c.loop-count.invariant.1 c.byte_to-to.ensures
      (omega (arith, c.if-count-ge9999.false))
      (to_z-of_z {w = w64} (sfits_of c.cell_of.type_inv) ∙ c.cell_of.ensures ∙ rw c.code_of.ensures)
      (omega (arith, c.if-f-to.false)),
  simp length-set c.loop-count.invariant.1,
)
