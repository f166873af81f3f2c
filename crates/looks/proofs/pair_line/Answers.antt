use native.Mathlib.Omega.{arith}
use Rattle.looks.specs.Figures.{figure, figure_spaced}
use Rattle.looks.proofs.pair_line.Goals as goal

pub returns-then-b-eq0 : goal.returns-then-b-eq0
returns-then-b-eq0 c h = absurd (omega (arith, c.no_pair.ensures, h))

pub returns-then-q-b : goal.returns-then-q-b
returns-then-q-b c h = absurd (omega (arith, c.no_pair-then-q-b.ensures, h))

pub returns-then-c-eq0 : goal.returns-then-c-eq0
returns-then-c-eq0 c h = absurd (omega (arith, c.no_pair-then-c-eq0.ensures, h))

pub returns-then-r-c : goal.returns-then-r-c
returns-then-r-c c h = absurd (omega (arith, c.no_pair-then-r-c.ensures, h))

pub returns : goal.returns
returns c h =
    let p = c.requires in
    let e = c.line_end-end.ensures h in
    let m = c.stands_to-c.ensures (omega (arith, c.if-c-eq0.false)) in
    rw (c.figures-second.ensures, c.figures-first.ensures)
    (record {
      front = c.stands_to-b.ensures (omega (arith, c.if-b-eq0.false));
      first = figure_spaced c.figures_at-q.ensures c.if-q-b.false p.0 p.1 m;
      middle = m;
      second = figure c.figures_at-r.ensures c.if-r-c.false e.over;
      back = e.ends;
    })
