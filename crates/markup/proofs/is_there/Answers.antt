use mathlib.Core.Path.{sym, ◌∙◌}
use native.Mathlib.Omega.{arith}
use native.Mathlib.Nat.{add-zero}
use Rattle.markup.proofs.Runs.{stands_next, stands_not, stands_whole}
use Rattle.markup.proofs.Whites.{stands_few}
use Rattle.markup.proofs.is_there.Goals as goal

pub returns-then-d-at : goal.returns-then-d-at
returns-then-d-at c = let a = c.args in sym (stands_few a.d.now a.at a.w.now (omega arith) c.if-d-at.true)

pub loop-i-init : goal.loop-i-init
loop-i-init c = (rw (add-zero c.args.at), omega arith)

pub returns-then-d-at-2 : goal.returns-then-d-at-2
returns-then-d-at-2 c =
    let l = c.loop-i in
    let a = c.args in
    sym (l.invariant.0 ∙ stands_not a.d.now a.at a.w.now l.i (omega arith) (omega arith) c.if-d-at-2.true)

pub loop-i-preserved : goal.loop-i-preserved
loop-i-preserved c =
    let l = c.loop-i in
    let a = c.args in
    (l.invariant.0 ∙ stands_next a.d.now a.at a.w.now l.i (omega arith) (omega arith) c.if-d-at-2.false, omega arith)

pub returns : goal.returns
returns c =
    let l = c.loop-i in
    let a = c.args in
    sym (l.invariant.0 ∙ stands_whole a.d.now a.at a.w.now l.i (omega arith))
