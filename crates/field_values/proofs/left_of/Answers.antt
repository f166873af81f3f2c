use mathlib.Core.Path.{sym, ap, ◌∙◌}
use native.Mathlib.Omega.{arith}
use Rattle.field_values.specs.rule.Read.{tail_good}
use Rattle.field_values.specs.Steps.{left_next, left_other, left_end, left_short, rest_is}
use Rattle.field_values.proofs.left_of.Goals as goal

pub returns-then-s-n : goal.returns-then-s-n
returns-then-s-n c = sym (left_short c.args.k c.args.s.now
    c.args.f.now c.if-s-n.true)

pub returns-then-s-i : goal.returns-then-s-i
returns-then-s-i c =
    let args = c.args in
    sym (c.loop-i.invariant ∙ left_other args.k args.s.now args.f.now c.loop-i.i (omega arith) (omega arith) c.if-s-i.true)

pub loop-i-preserved : goal.loop-i-preserved
loop-i-preserved c =
    let args = c.args in
    c.loop-i.invariant ∙ left_next args.k args.s.now args.f.now c.loop-i.i (omega arith) (omega arith) c.if-s-i.false

pub returns : goal.returns
returns c =
    let args = c.args in
    c.tail_good.ensures ∙ ap (tail_good args.k) (rest_is args.s.now _)
    ∙ sym (c.loop-i.invariant ∙ left_end args.k args.s.now args.f.now c.loop-i.i (omega arith))
