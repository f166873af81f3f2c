use mathlib.Core.Path.{◌∙◌}
use native.Mathlib.Omega.{arith}
use borrow.Author.Rules.{sfits_of}
use mir.Facts.{to_z-of_z}
use Rattle.field_values.specs.Coded.{coding_none, coding_digit, coding_code, coded_none, coded_all}
use mir.Syntax.{w64}
use Rattle.field_values.proofs.take_codes.Goals as goal
use Rattle.field_values.proofs.take_codes.Goals.{then-b-eq59+else-n-eq0+else-count-ge9998, else-b-eq59+else-n-eq0-2}

pub loop-b-init : goal.loop-b-init
loop-b-init c = (coding_none _ _, omega arith)

pub returns-then-n-eq0 : goal.returns-then-n-eq0
returns-then-n-eq0 c = coded_none _ _

pub returns-then-count-ge9998 : goal.returns-then-count-ge9998
returns-then-count-ge9998 c = coded_none _ _

pub cell_of-requires : goal.cell_of-requires
cell_of-requires c = omega (arith, c.loop-b.invariant.0.few)

pub loop-b-preserved : goal.loop-b-preserved
loop-b-preserved c =
    let i = c.loop-b.invariant in
    elim c.if-b-eq59.branch [
      | then-b-eq59+else-n-eq0+else-count-ge9998 w ↦
          rw (w.list-is, w.count-is, w.n-is) (
            coding_code i.0 w.if-n-eq0.false (omega arith)
                (to_z-of_z {w = w64} (sfits_of w.cell_of.type_inv) ∙ w.cell_of.ensures) c.loop-b-test.true
                w.if-b-eq59.true,
            omega arith,
          )
      | else-b-eq59+else-n-eq0-2 w ↦
          rw (w.list-is, w.count-is, w.n-is)
          (coding_digit i.0 c.loop-b-test.true w.code_step-n.ensures w.if-n-eq0-2.false, i.1)
    ]

pub code_step-n-requires : goal.code_step-n-requires
code_step-n-requires c = c.loop-b.invariant.0.few

pub returns-then-n-eq0-2 : goal.returns-then-n-eq0-2
returns-then-n-eq0-2 c = coded_none _ _

pub returns-then-n-eq0-3 : goal.returns-then-n-eq0-3
returns-then-n-eq0-3 c = coded_none _ _

pub cell_of-requires-2 : goal.cell_of-requires-2
cell_of-requires-2 c = omega (arith, c.loop-b.invariant.0.few)

pub returns : goal.returns
returns c =
    let i = c.loop-b.invariant in
    coded_all i.0 c.if-n-eq0-3.false (omega arith) (to_z-of_z {w = w64} (sfits_of c.cell_of-2.type_inv) ∙ c.cell_of-2.ensures)
    c.loop-b-test.false (omega arith)
