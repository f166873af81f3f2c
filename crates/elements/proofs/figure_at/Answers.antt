use mathlib.Core.Path.{sym, ◌∙◌}
use Rattle.elements.proofs.Numbers.{figure_told}
use Rattle.elements.proofs.figure_at.Goals as goal

pub returns-in-Some : goal.returns-in-Some
returns-in-Some c w = let a = c.args in
    rw (sym c.figures_in.ensures ∙ c.in-Some.is) at (figure_told a.d.now a.v a.e w)

pub returns-in-None : goal.returns-in-None
returns-in-None c w = let a = c.args in
    rw (sym c.figures_in.ensures ∙ c.in-None.is) at (figure_told a.d.now a.v a.e w)
