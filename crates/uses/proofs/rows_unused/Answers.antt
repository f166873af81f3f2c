use mathlib.Core.Path.{◌≡◌, sym, ap, ◌∙◌}
use native.Mathlib.Omega.{arith}
use Rattle.below.specs.Below.{all_none, all_next}
use Rattle.layout.specs.rule.Layout.{columns_at}
use Rattle.uses.specs.rule.Uses.{rows_unused}
use Rattle.uses.specs.Uses.{laid_none}
use Rattle.uses.proofs.rows_unused.Goals as goal

pub loop-i-init : goal.loop-i-init
loop-i-init c = sym (all_none _)

pub read-c-requires : goal.read-c-requires
read-c-requires c = rw c.base.ensures (omega arith)

pub loop-i-preserved : goal.loop-i-preserved
loop-i-preserved c =
    let l = c.loop-i in
    let e = c.read-c.ensures ∙ ap (columns_at c.args.t.now) c.base.ensures in
    laid_none l.laid c.read-c.result.usage c.read-c.result.filter ∙ rw (l.invariant, e) (sym (all_next _ l.i))

pub returns : goal.returns
unfolding rows_unused
returns c =
    let e : c.loop-i.i ≡ c.args.v = omega arith in
    rw e at c.loop-i.invariant
