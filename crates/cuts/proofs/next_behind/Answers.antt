use mathlib.Core.Path.{◌≡◌, sym, ◌∙◌}
use native.Mathlib.Omega.{arith}
use lib.ListN.{length}
use Rattle.cuts.specs.Cut.{next_none, next_some, end_here, end_on, end_none, end_unbroken}
use Rattle.cuts.proofs.next_behind.Goals as goal

pub returns-then-d-from : goal.returns-then-d-from
returns-then-d-from c = sym (next_none _ _ _ c.if-d-from.true)

pub loop-i-init : goal.loop-i-init
loop-i-init c = next_some _ _ _ c.if-d-from.false ∙ end_unbroken _ _ _ _ _ c.requires.1

pub returns-then-begins_at : goal.returns-then-begins_at
returns-then-begins_at c = sym (c.loop-i.invariant
    ∙ end_here _ _ _ _ c.loop-i-test.true (sym c.begins_at.ensures ∙ c.if-begins_at.true))

pub loop-i-preserved : goal.loop-i-preserved
loop-i-preserved c = c.loop-i.invariant
    ∙ end_on _ _ _ _ c.loop-i-test.true (sym c.begins_at.ensures ∙ c.if-begins_at.false)

pub returns : goal.returns
returns c =
    let q : c.loop-i.i ≡ length c.args.d.now = omega (arith, c.requires.1.within) in
    sym (rw q at c.loop-i.invariant ∙ end_none _ _ _ _ (omega arith))
