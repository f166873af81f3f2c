-- `field_values::tail_good` meets its contract.
use mathlib.Core.Path.{ap, ◌∙◌}
use native.Mathlib.Omega.{arith}
use Rattle.field_values.specs.rule.Read.{all_zeros}
use Rattle.field_values.specs.Steps.{tail_none, tail_point, tail_bare, tail_wrong, tail_zeros, tail_long, rest_is}
use Rattle.field_values.proofs.tail_good.Goals as goal

pub returns-then-n-eq0 : goal.returns-then-n-eq0
returns-then-n-eq0 c = tail_none c.args.k c.args.s.now c.if-n-eq0.true

pub returns-then-k-eq0 : goal.returns-then-k-eq0
returns-then-k-eq0 c = tail_bare c.args.k c.args.s.now
    c.if-n-eq0.false c.if-s-eq46.true c.if-k-eq0.true

pub returns-then-n-k : goal.returns-then-n-k
returns-then-n-k c =
    let args = c.args in
    c.all_zeros.ensures ∙ ap all_zeros (rest_is args.s.now 1) ∙ tail_point args.k args.s.now
    c.if-n-eq0.false c.if-s-eq46.true c.if-k-eq0.false (omega
    (arith, c.if-n-k.true, c.if-n-eq0.false))

pub returns-then-s-eq46 : goal.returns-then-s-eq46
returns-then-s-eq46 c =
    let args = c.args in
    tail_wrong args.k args.s.now c.if-n-eq0.false
    c.if-s-eq46.true (λ e. c.if-n-k.false (omega (arith, e)))

pub returns-then-n-k-2 : goal.returns-then-n-k-2
returns-then-n-k-2 c =
    let args = c.args in
    c.all_zeros-then-n-k-2.ensures ∙ tail_zeros args.k args.s.now c.if-n-eq0.false
    c.if-s-eq46.false c.if-n-k-2.true

pub returns : goal.returns
returns c = tail_long c.args.k c.args.s.now
    c.if-n-eq0.false c.if-s-eq46.false c.if-n-k-2.false
