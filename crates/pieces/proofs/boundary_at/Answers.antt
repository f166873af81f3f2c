-- `pieces::boundary_at` meets its contract.
use mathlib.Core.Path.{◌∙◌, sym}
use Rattle.pieces.specs.Pieces.{boundary_cr, boundary_lf, boundary_none}
use Rattle.pieces.proofs.boundary_at.Goals as goal

pub returns-then-b-eq13 : goal.returns-then-b-eq13
returns-then-b-eq13 c = c.terminator_at.ensures ∙ sym (boundary_cr _ _ c.requires c.if-b-eq13.true)

pub returns-then-b-eq10 : goal.returns-then-b-eq10
returns-then-b-eq10 c = c.terminator_at-then-b-eq10.ensures ∙ sym (boundary_lf _ _ c.requires
    c.if-b-eq13.false c.if-b-eq10.true)

pub returns : goal.returns
returns c = sym (boundary_none _ _ c.requires c.if-b-eq13.false c.if-b-eq10.false)
