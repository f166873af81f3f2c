use borrow.Author.Tests.{eq-eqb, ne_eqb}
use mathlib.Core.Logic.{inl}
use Rattle.xml_reading.specs.rule.Element.{figure_of}
use Rattle.elements.proofs.Tags.{there}
use Rattle.elements.proofs.share.Goals as goal

pub figure_at-n-requires : goal.figure_at-n-requires
figure_at-n-requires c = (c.requires.0.0.ends, c.requires.0.0.within)

pub share_even-requires : goal.share_even-requires
share_even-requires c = c.requires.1

pub returns-then-h-eq0 : goal.returns-then-h-eq0
returns-then-h-eq0 c l h i =
    let a = c.args in
    rw (eq-eqb a.h.b 0 c.if-h-eq0.true)
    (c.share_even.ensures (figure_of a.d.now a.h.a a.h.ae) a.h.ae l
    (c.figure_at-n.ensures (inl c.requires.0.0.fits)) h i)

pub figure_at-w-requires : goal.figure_at-w-requires
figure_at-w-requires c = let t = there c.args.d.now 1 1 0
    c.requires.0.1
    (ne_eqb c.args.h.b 0 c.if-h-eq0.false) in (t.ends, t.within)

pub returns : goal.returns
returns c l h i =
    let a = c.args in
    let n = ne_eqb a.h.b 0 c.if-h-eq0.false in
    rw n
    (c.share_fields.ensures a.room (figure_of a.d.now a.h.a a.h.ae) (figure_of a.d.now a.h.b a.h.be) a.h.ae
    a.h.be l (c.figure_at-n.ensures (inl c.requires.0.0.fits))
    (c.figure_at-w.ensures (inl (there a.d.now 1 1 0 c.requires.0.1 n).fits)) h i)
