use mathlib.Core.Path.{sym, ◌∙◌}
use native.Mathlib.Omega.{arith}
use borrow.Author.Tests.{eq-eqb, ne_eqb, le-ltb}
use mathlib.Core.Logic.{inl}
use mathlib.Core.Option.{none, some}
use Rattle.xml_reading.specs.rule.Element.{figure_of}
use Rattle.elements.proofs.Tags.{there}
use Rattle.elements.proofs.Judging.{position_ruled}
use Rattle.elements.proofs.locate.Goals as goal

pub figure_at-a-requires : goal.figure_at-a-requires
figure_at-a-requires c = (c.requires.0.ends, c.requires.0.within)

pub returns-then-h-eq0 : goal.returns-then-h-eq0
returns-then-h-eq0 c l h i =
    let a = c.args in
    let p = c.figure_at-a.ensures (inl c.requires.0.fits) in
    let x = figure_of a.d.now a.h.a a.h.ae in
    c.located.ensures ∙ rw (eq-eqb a.h.b 0 c.if-h-eq0.true)
    (position_ruled x none a.next a.h.ae a.h.ae p p (sym (le-ltb x.value x.value (omega arith))) l h i
    c.locations_fault-found.ensures)

pub figure_at-b-requires : goal.figure_at-b-requires
figure_at-b-requires c = let t = there c.args.d.now 1 1 0
    c.requires.1 (ne_eqb c.args.h.b 0 c.if-h-eq0.false) in (
      t.ends,
      t.within,
    )

pub falls-below-requires : goal.falls-below-requires
falls-below-requires c = (
  c.requires.0,
  there c.args.d.now 1 1 0 c.requires.1
      (ne_eqb c.args.h.b 0 c.if-h-eq0.false),
)

pub returns : goal.returns
returns c l h i =
    let a = c.args in
    let n = ne_eqb a.h.b 0 c.if-h-eq0.false in
    let x = figure_of a.d.now a.h.a a.h.ae in
    let y = figure_of a.d.now a.h.b a.h.be in
    let p = c.figure_at-a.ensures (inl c.requires.0.fits) in
    let q = c.figure_at-b.ensures (inl (there a.d.now 1 1 0 c.requires.1 n).fits) in
    c.located-2.ensures ∙ rw n (position_ruled x (some y) a.next a.h.ae a.h.be p q c.falls-below.ensures l h i
    c.locations_fault-found-2.ensures)
