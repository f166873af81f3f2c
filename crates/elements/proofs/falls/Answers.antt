use mathlib.Core.Path.{◌∙◌}
use native.Mathlib.Omega.{arith}
use Rattle.elements.proofs.Numbers.{fits_heard, true_figure}
use Rattle.elements.proofs.falls.Goals as goal

pub slice_bounds-less_in-count : goal.slice_bounds-less_in-count
slice_bounds-less_in-count c = c.requires.1.ends

pub slice_bounds-less_in-start : goal.slice_bounds-less_in-start
slice_bounds-less_in-start c = omega (arith, c.requires.1.ends, c.requires.1.within)

pub slice_bounds-less_in-end : goal.slice_bounds-less_in-end
slice_bounds-less_in-end c = omega (arith, c.requires.1.ends, c.requires.1.within)

pub slice_bounds-less_in-count-2 : goal.slice_bounds-less_in-count-2
slice_bounds-less_in-count-2 c = c.requires.0.ends

pub slice_bounds-less_in-start-2 : goal.slice_bounds-less_in-start-2
slice_bounds-less_in-start-2 c = omega (arith, c.requires.0.ends, c.requires.0.within)

pub slice_bounds-less_in-end-2 : goal.slice_bounds-less_in-end-2
slice_bounds-less_in-end-2 c = omega (arith, c.requires.0.ends, c.requires.0.within)

pub returns : goal.returns
returns c =
    let a = c.args in
    let p = c.requires.0.fits in
    let q = c.requires.1.fits in
    c.less_in.ensures _ _ (fits_heard a.d.now a.w a.k q) (fits_heard a.d.now a.v a.e p)
    ∙ rw (true_figure a.d.now a.w a.k q, true_figure a.d.now a.v a.e p)
