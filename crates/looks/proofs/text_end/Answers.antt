use native.Mathlib.Omega.{arith}
use Rattle.looks.specs.Look.{shown_none, shown_text, shown_then}
use Rattle.looks.proofs.text_end.Goals as goal

pub loop-from-smaller : goal.loop-from-smaller
loop-from-smaller c =
    let f = c.form_end-m.ensures (omega (arith, c.if-m-eq0.false)) in
    omega (arith, f.0, f.1, c.text_to-q.ensures.on)

pub loop-from-preserved : goal.loop-from-preserved
loop-from-preserved c =
    let f = c.form_end-m.ensures (omega (arith, c.if-m-eq0.false)) in
    shown_then c.loop-from.invariant (shown_then (shown_text c.text_to-q.ensures) f.2)

pub returns-then-m-eq0 : goal.returns-then-m-eq0
returns-then-m-eq0 c = shown_then c.loop-from.invariant (shown_text c.text_to-q.ensures)

pub loop-from-init : goal.loop-from-init
loop-from-init c = shown_none _ _
