use mathlib.Core.Path.{◌∙◌}
use Rattle.elements.proofs.Judging.{size_ranked}
use Rattle.elements.proofs.size_judged.Goals as goal

pub returns : goal.returns
returns c y e l p h i =
    let a = c.args in
    c.sized.ensures
    ∙ size_ranked y a.next e p l h {f = c.lower-found.result} i
    (rw (← c.charge-none.ensures, ← c.charge-large.ensures)
    (rw (← c.lower-rest.ensures) c.lower-found.ensures))
