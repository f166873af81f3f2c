use mathlib.Core.Path.{◌∙◌}
use native.Mathlib.Omega.{arith}
use borrow.Author.Rules.{sfits_of}
use mir.Facts.{to_z-of_z}
use Rattle.field_builds.specs.Built.{climb_none, climb_more, climb_end, codes_none}
use mir.Syntax.{w64}
use Rattle.field_builds.proofs.codes_in.Goals as goal

pub loop-k-init : goal.loop-k-init
loop-k-init c = (climb_none _ _ _ _ _, omega (arith, c.requires.1))

pub bounds-d-p : goal.bounds-d-p
bounds-d-p c = omega (arith, c.code_from-a.ensures.behind (λ z. omega (arith, z, c.loop-k.invariant.1)))

pub overflow_add-least : goal.overflow_add-least
overflow_add-least c = omega (arith, c.code_from-a.ensures.few)

pub overflow_add-i : goal.overflow_add-i
overflow_add-i c = omega (arith, c.code_from-a.ensures.behind (λ z. omega (arith, z, c.loop-k.invariant.1)))

pub returns-then-n-least : goal.returns-then-n-least
returns-then-n-least c = codes_none _ _ _ _ _ _ _

pub returns-then-high-n : goal.returns-then-high-n
returns-then-high-n c = codes_none _ _ _ _ _ _ _

pub cell_of-requires : goal.cell_of-requires
cell_of-requires c = omega (arith, c.code_from-a.ensures.few)

pub returns-then-d-p-ne59 : goal.returns-then-d-p-ne59
returns-then-d-p-ne59 c =
    let i = c.loop-k.invariant in
    let cell = c.cell_of in
    climb_end i.0 c.code_from-a.ensures (λ z. omega (arith, z, i.1)) (omega arith) (omega arith) (omega arith)
    (to_z-of_z {w = w64} (sfits_of cell.type_inv) ∙ cell.ensures) (omega arith) (omega arith)

pub loop-k-preserved : goal.loop-k-preserved
loop-k-preserved c =
    let i = c.loop-k.invariant in
    let cell = c.cell_of in (
      climb_more i.0 c.code_from-a.ensures (λ z. omega (arith, z, i.1)) (omega arith) (omega arith) (omega arith)
          (to_z-of_z {w = w64} (sfits_of cell.type_inv) ∙ cell.ensures) c.if-d-p-ne59.false,
      omega arith,
    )

pub returns : goal.returns
returns c = codes_none _ _ _ _ _ _ _
