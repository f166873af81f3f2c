use mathlib.Core.Path.{◌≡◌, sym, ◌∙◌}
use native.Mathlib.Omega.{arith}
use lib.ListN.{length}
use Rattle.contents.proofs.Passing.{passes_next}
use Rattle.contents.proofs.pass_plain.Goals as goal

pub loop-i-init : goal.loop-i-init
loop-i-init c = c.pass_wide-i.ensures

pub loop-i-preserved : goal.loop-i-preserved
loop-i-preserved c =
    let l = c.loop-i in
    passes_next _ _ l.i l.invariant (omega arith) (sym c.is_plain.ensures ∙ c.if-not-is_plain.false)

pub returns-then-not-is_plain : goal.returns-then-not-is_plain
returns-then-not-is_plain c = c.loop-i.invariant

pub returns : goal.returns
returns c =
    let w = c.loop-i.invariant.within in
    let e : c.loop-i.i ≡ length c.args.d.now = omega arith in
    rw e at c.loop-i.invariant
