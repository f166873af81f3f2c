-- `faults::number_form` meets its contract: spaces, or the leftmost byte that cannot stand.
use mathlib.Core.Path.{sym, ◌∙◌}
use Rattle.faults.proofs.Laws.{number_blank, number_other}
use Rattle.faults.proofs.number_form.Goals as goal

pub returns-then-blank : goal.returns-then-blank
returns-then-blank c = sym (number_blank _ _ _ _ (sym c.blank.ensures ∙ c.if-blank.true))

pub returns : goal.returns
returns c = c.number_from.ensures ∙ sym (number_other _ _ _ _ (sym c.blank.ensures ∙ c.if-blank.false))
