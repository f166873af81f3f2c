use mathlib.Core.Path.{◌∙◌}
use Rattle.elements.proofs.Judging.{fields_ruled}
use Rattle.elements.proofs.share_fields.Goals as goal

pub returns : goal.returns
returns c room x y e k l p q h i =
    let a = c.args in
    c.shared.ensures
    ∙ fields_ruled room x y a.next e k p q l h {f = c.lower-found.result} i
    (rw (← c.charge-none.ensures, ← c.charge-thin.ensures)
    (rw (← c.lower-rest.ensures) c.lower-found.ensures))
