-- `value_fields::each_legal` meets its contract: by the range, or by the lines.
use mathlib.Core.Path.{sym, ◌∙◌}
use Rattle.sets.specs.Full.{each_legal}
use Rattle.value_fields.proofs.each_legal.Goals as goal

pub returns-then-range_has : goal.returns-then-range_has
returns-then-range_has c e =
    let a = c.args in
    each_legal a.t.now a.rows a.row a.row.width (sym c.range_has.ensures ∙ c.if-range_has.true)
