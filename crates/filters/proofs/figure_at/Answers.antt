use Rattle.filters.proofs.Figured.{figure_good, figure_wrong}
use Rattle.filters.proofs.figure_at.Goals as goal

pub returns-in-Some : goal.returns-in-Some
returns-in-Some c =
    let a = c.args in
    figure_good a.d.now a.v a.e c.requires.2 a.next
    c.figures_in.result c.figures_in.ensures _ _ c.in-Some.is

pub returns-in-None : goal.returns-in-None
returns-in-None c = let a = c.args in
    figure_wrong a.d.now a.v a.e c.requires.2 a.next
    c.figures_in.result c.figures_in.ensures c.in-None.is
