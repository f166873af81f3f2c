use mathlib.Core.Path.{◌∙◌}
use Rattle.elements.proofs.Judging.{even_none, even_ruled}
use Rattle.elements.proofs.share_even.Goals as goal

pub returns-then-count-eq0 : goal.returns-then-count-eq0
returns-then-count-eq0 c x e l p h i =
    let a = c.args in
    c.shared.ensures ∙ even_none a.room c.requires x a.next l h e p {f = c.lower-found.result} i
    c.if-count-eq0.true (rw (← c.charge-zero.ensures) c.lower-found.ensures)

pub returns : goal.returns
returns c x e l p h i =
    let a = c.args in
    c.shared-2.ensures ∙ even_ruled a.room c.requires x a.next l h e p {f = c.lower-found-2.result}
    i c.if-count-eq0.false (rw (← c.charge-odd.ensures) c.lower-found-2.ensures)
