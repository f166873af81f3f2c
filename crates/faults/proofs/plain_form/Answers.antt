-- `faults::plain_form` meets its contract: spaces, or the first byte that fails.
use mathlib.Core.Path.{sym, ◌∙◌}
use Rattle.faults.proofs.Laws.{form_blank, form_other}
use Rattle.faults.proofs.plain_form.Goals as goal

pub returns-then-blank : goal.returns-then-blank
returns-then-blank c = sym (form_blank _ _ _ (sym c.blank.ensures ∙ c.if-blank.true))

pub returns : goal.returns
returns c = c.first_failing.ensures ∙ sym (form_other _ _ _ (sym c.blank.ensures ∙ c.if-blank.false))
