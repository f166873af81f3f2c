-- `columns::mark_legal` meets its contract: the lines besides the range.
-- Assumes nothing.
use Rattle.fields.specs.rule.Legal.{in_range, on_line, legal}
use Rattle.sets.proofs.MarkLaws.{marks_besides}
use Rattle.columns.proofs.mark_legal.Goals as goal

pub returns : goal.returns
unfolding legal
returns c =
    let a = c.args in
    marks_besides (λ x. in_range a.row x) (λ x. on_line a.t.now a.rows a.row x) _ _
    c.mark_lines.auto.marks c.mark_range.ensures c.mark_lines.ensures
