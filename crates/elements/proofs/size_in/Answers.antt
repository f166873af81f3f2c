use mathlib.Core.Path.{sym, ◌∙◌}
use Prim.Native.Nat.{◌+◌}
use native.Mathlib.Omega.{arith}
use mathlib.Core.List.{◌∷◌}
use mathlib.Core.Logic.{inl, inr}
use Rattle.tags.specs.rule.Tag.{stretch_fits}
use Rattle.xml_reading.specs.rule.Open.{unknown_at}
use Rattle.xml_reading.specs.rule.Element.{figure_of, size_in}
use Rattle.elements.proofs.Bodies.{behind_found}
use Rattle.elements.proofs.Judging.{size_ruled}
use Rattle.elements.proofs.size_in.Goals as goal

pub overflow_add-e : goal.overflow_add-e
overflow_add-e c = omega (arith, c.requires.0)

pub figure_at-x-requires : goal.figure_at-x-requires
figure_at-x-requires c = (omega arith, c.requires.0)

pub slice_bounds-fits-start : goal.slice_bounds-fits-start
slice_bounds-fits-start c = omega (arith, c.requires.0)

pub slice_bounds-fits-end : goal.slice_bounds-fits-end
slice_bounds-fits-end c = c.requires.0

pub returns-then-fits : goal.returns-then-fits
unfolding size_in stretch_fits
returns-then-fits c bad u t s i =
    let a = c.args in
    let b = a.b in
    let f = sym c.fits.ensures ∙ c.if-fits.true in
    rw (s.text, s.whole, c.if-b.true)
    (rw f
    (c.size_judged.ensures (figure_of a.d.now b.place (b.place + b.length)) (b.place + b.length) (unknown_at u ∷ t.charges)
    (c.figure_at-x.ensures (inl f)) (omega arith, s.numbered)
    (behind_found u t.charges s.numbered s.found i)))

pub returns-then-b : goal.returns-then-b
unfolding size_in
returns-then-b c bad u t s i = rw (s.text, s.whole, c.if-b.true)
    (rw (sym c.fits.ensures ∙ c.if-fits.false))

pub returns : goal.returns
unfolding size_in
returns c bad u t s i =
    let a = c.args in
    let b = a.b in
    let z = c.requires.1 c.if-b.false in
    rw (s.text, s.whole, c.if-b.false)
    (c.sized.ensures
    ∙ size_ruled (figure_of a.d.now b.place (b.place + b.length)) b.next (b.place + b.length)
    (c.figure_at-x.ensures (inr (omega arith))) (unknown_at u ∷ t.charges)
    (omega arith, s.numbered) (behind_found u t.charges s.numbered s.found i))
