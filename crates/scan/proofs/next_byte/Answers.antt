use mathlib.Core.Path.{◌≡◌, ap, ◌∙◌, sym}
use native.Mathlib.Omega.{arith}
use Rattle.scan.specs.Text.{step_of}
use Rattle.scan.proofs.Texts.{text_end, text_dropped, text_kept}
use Rattle.scan.proofs.next_byte.Goals as goal

pub returns-then-class_of-ne-DROPPED : goal.returns-then-class_of-ne-DROPPED
unfolding step_of
returns-then-class_of-ne-DROPPED c =
    let l = c.loop-i in
    sym (ap step_of (l.invariant.0 ∙ text_kept _ l.i (omega arith) (λ e. c.if-class_of-ne-DROPPED.true (c.class_of.ensures ∙ e))))

pub loop-i-preserved : goal.loop-i-preserved
loop-i-preserved c =
    let l = c.loop-i in
    (l.invariant.0 ∙ text_dropped _ l.i (omega arith) (sym c.class_of.ensures ∙ c.if-class_of-ne-DROPPED.false), omega arith)

pub returns : goal.returns
unfolding step_of
returns c =
    let e : c.max.result ≡ c.loop-i.i = omega arith in
    rw e (sym (ap step_of (c.loop-i.invariant.0 ∙ text_end _ c.loop-i.i (omega arith))))
