-- `readings::truth` meets its contract: by what the byte says.
use mathlib.Core.Path.{sym, ◌∙◌}
use Rattle.readings.proofs.Laws.{truth_missing, truth_says, truth_wrong}
use Rattle.readings.proofs.truth.Goals as goal

pub returns-in-Blank : goal.returns-in-Blank
returns-in-Blank c p n = truth_missing p n _ (sym c.read_truth.ensures ∙ c.in-Blank.is)

pub returns-in-Says : goal.returns-in-Says
returns-in-Says c p n = truth_says p n _ _ (sym c.read_truth.ensures ∙ c.in-Says.is)

pub returns-in-Wrong : goal.returns-in-Wrong
returns-in-Wrong c p n = truth_wrong p n _ (sym c.read_truth.ensures ∙ c.in-Wrong.is)
