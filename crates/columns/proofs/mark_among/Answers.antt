use mathlib.Core.Path.{◌≡◌, sym, ap, ◌∙◌}
use native.Mathlib.Omega.{arith}
use Rattle.columns.specs.Stretch.{mark_among, among_none, among_more}
use Rattle.columns.proofs.mark_among.Goals as goal

pub loop-k-init : goal.loop-k-init
loop-k-init c = (sym (among_none _ _))

pub loop-k-preserved : goal.loop-k-preserved
loop-k-preserved c = (among_more _ _ _ _ c.loop-k.invariant)

pub returns : goal.returns
returns c =
    let e : c.loop-k.k ≡ 16 = omega arith in
    c.loop-k.invariant ∙ ap (mark_among _ _) e
