use mathlib.Core.Path.{◌≡◌, sym, ◌∙◌}
use Prim.Native.Nat.{◌+◌}
use native.Mathlib.Omega.{arith}
use borrow.Author.Rules.{sfits_of}
use mir.Syntax.{w64}
use mir.Val.{to_z, of_z}
use mir.Facts.{to_z-of_z}
use Rattle.below.specs.Below.{any_none, any_next, any_holds}
use Rattle.cells.specs.rule.Cell.{cell, eq_z}
use Rattle.layout.specs.rule.Layout.{line_base}
use Rattle.fields.specs.rule.Legal.{on_line}
use Rattle.legal.proofs.on_line.Goals as goal
use Rattle.legal.proofs.on_line.Goals.{After-same}

-- what the test of a line says
here : (c : After-same) → let a = c.args in
    c.same.result ≡ eq_z (cell a.t.now (line_base a.rows (a.row.before + c.loop-k.k)))
    (to_z w64 (of_z w64 a.z))
here c = rw (c.same.ensures, to_z-of_z (sfits_of c.same-arg-1.given), c.base-at.ensures)

pub loop-k-init : goal.loop-k-init
loop-k-init c = any_none _

pub returns-then-same : goal.returns-then-same
unfolding on_line
returns-then-same c =
    let a = c.args in
    let z = to_z-of_z c.ranges.z in
    sym (any_holds (λ k. eq_z (cell a.t.now (line_base a.rows (a.row.before + k))) a.z) a.row.lines
    c.loop-k.k (omega arith) (rw z at (sym (here c.before) ∙ c.if-same.true)))

pub loop-k-preserved : goal.loop-k-preserved
loop-k-preserved c = rw (any_next, c.loop-k.invariant) (sym (here c.before) ∙ c.if-same.false)

pub returns : goal.returns
unfolding on_line
returns c =
    let e : c.loop-k.k ≡ c.args.row.lines = omega arith in
    sym (rw (to_z-of_z c.ranges.z, e) at c.loop-k.invariant)
