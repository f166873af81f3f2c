-- `columns::put_far` meets its contract: its own members marked, and by them its entries.
-- Assumes nothing.
use mathlib.Core.Path.{◌∙◌}
use mathlib.Core.Bool.{false}
use Rattle.sets.proofs.MarkLaws.{marks_besides}
use Rattle.columns.proofs.put_far.Goals as goal

pub put_members-requires : goal.put_members-requires
put_members-requires c =
    let marked = c.mark_members in
    let p = c.requires in record {
      n_in_bounds = (p.n_in_bounds.0, marked.auto.marks ∙ c.clear.auto.marks ∙ p.n_in_bounds.1, p.n_in_bounds.2);
      marked = (p.marked.0, marks_besides (λ x. false) _ _ _ marked.auto.marks c.clear.ensures marked.ensures);
      count_value = (p.marked.1 _, p.room);
    }

pub returns : goal.returns
returns c =
    let marked = c.mark_members in (
      marked.auto.marks ∙ c.clear.auto.marks,
      marks_besides (λ x. false) _ _ _ marked.auto.marks c.clear.ensures marked.ensures,
      c.put_members.ensures,
    )
