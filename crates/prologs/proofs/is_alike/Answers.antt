use mathlib.Core.Path.{sym, ◌∙◌}
use native.Mathlib.Omega.{arith}
use native.Mathlib.Nat.{add-zero}
use Rattle.prologs.proofs.Pieces.{alikes_next, alikes_not, alikes_short, alikes_whole}
use Rattle.prologs.proofs.is_alike.Goals as goal

pub loop-i-init : goal.loop-i-init
loop-i-init c = rw (add-zero c.args.at)

pub returns-then-d-at : goal.returns-then-d-at
returns-then-d-at c = sym (c.loop-i.invariant ∙ alikes_short c.args.d.now
    c.args.at c.args.w.now
    c.loop-i.i (omega arith) (omega arith))

pub returns-then-upper-b : goal.returns-then-upper-b
returns-then-upper-b c =
    let args = c.args in
    sym (c.loop-i.invariant ∙ alikes_not args.d.now args.at args.w.now c.loop-i.i (omega arith) (omega arith)
    (λ q. c.if-upper-b.true (c.upper.ensures ∙ q)))

pub loop-i-preserved : goal.loop-i-preserved
loop-i-preserved c =
    let args = c.args in
    c.loop-i.invariant ∙ alikes_next args.d.now args.at args.w.now c.loop-i.i (omega arith) (omega arith)
    (sym c.upper.ensures ∙ c.if-upper-b.false)

pub returns : goal.returns
returns c = sym (c.loop-i.invariant ∙ alikes_whole c.args.d.now
    c.args.at c.args.w.now c.loop-i.i (omega arith))
