use mathlib.Core.Path.{◌≡◌, ap, ◌∙◌}
use native.Mathlib.Omega.{arith}
use Rattle.record_values.specs.rule.Record.{row_reading}
use Rattle.layout.specs.rule.Row.{row_at}
use Rattle.layout.specs.declared.Row.{Row}
use Rattle.record_values.specs.Rows.{most_of}
use Rattle.record_values.specs.Members.{row_most}
use Rattle.record_values.specs.Room.{none_below, members_count}
use Rattle.record_values.proofs.always_fits.Goals as goal

pub loop-i-init : goal.loop-i-init
loop-i-init c = λ bytes. omega (arith, none_below (row_reading c.args.t.now c.args.rows bytes))

pub loop-i-preserved : goal.loop-i-preserved
loop-i-preserved c =
    let a = c.args in
    let l = c.loop-i in
    λ bytes.
    let f = row_reading a.t.now a.rows bytes in
    let m = row_most a.t.now a.rows (row_at a.t.now l.i) bytes in
    let e = c.most_of-most.ensures ∙ ap (λ (r : Row). most_of r) c.read.ensures in
    omega (arith, members_count f l.i, l.invariant bytes, c.if-left-most.false)

pub returns : goal.returns
returns c = λ e bytes.
    let a = c.args in
    let l = c.loop-i in
    let q : l.i ≡ a.rows = omega arith in
    omega (arith, rw q at (l.invariant bytes))
