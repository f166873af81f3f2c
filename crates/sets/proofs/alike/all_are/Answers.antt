-- `sets::alike::all_are` meets its contract: the row's categories are those of its range and those of its lines.
use mathlib.Core.Path.{sym, ◌∙◌}
use Rattle.sets.proofs.AlikeLaws.{both_alike}
use Rattle.sets.proofs.alike.all_are.Goals as goal

pub returns-then-not-range_is : goal.returns-then-not-range_is
returns-then-not-range_is c =
    let a = c.args in
    let e = sym c.range_is.ensures ∙ c.if-not-range_is.true in
    rw e at (both_alike a.x a.y a.bytes.now a.at a.w a.t.now a.rows a.row)

pub returns : goal.returns
returns c =
    let a = c.args in
    let e = sym c.range_is.ensures ∙ c.if-not-range_is.false in
    c.lines_are.ensures ∙ (rw e at (both_alike a.x a.y a.bytes.now a.at a.w a.t.now a.rows a.row))
