use mathlib.Core.Path.{sym, ◌∙◌}
use mathlib.Core.Bool.{true, false}
use native.Mathlib.Omega.{arith}
use Rattle.prologs.specs.rule.Form.{literal, located}
use Rattle.prologs.proofs.Steps.{quoted_past, tell_white, white_miss, tell_literal, literal_broken}
use Rattle.prologs.proofs.public_at.Goals as goal

pub returns-then-n-at : goal.returns-then-n-at
returns-then-n-at c = c.miss.ensures ∙ sym (white_miss c.args.bad
    c.args.d.now c.args.opened (literal true located)
    c.args.latin c.args.at c.run-n.ensures.0
    c.if-n-at.true)

pub overflow_add-k : goal.overflow_add-k
overflow_add-k c =
    let args = c.args in
    let q = quoted_past false true args.bad args.d.now args.opened _ _
    (sym c.quoted.ensures ∙ c.in-Past.is) in omega (arith, q.1)

pub located_at-requires : goal.located_at-requires
located_at-requires c =
    let args = c.args in
    let q = quoted_past false true args.bad args.d.now args.opened _ _
    (sym c.quoted.ensures ∙ c.in-Past.is) in omega (arith, q.1)

pub returns-in-Past : goal.returns-in-Past
returns-in-Past c =
    let args = c.args in
    c.located_at.ensures ∙ sym (tell_white args.bad args.d.now args.opened (literal true located) args.latin args.at
    c.run-n.ensures.0 c.if-n-at.false ∙ tell_literal args.bad args.d.now args.opened located
    args.latin c.run-n.result true (sym c.quoted.ensures ∙ c.in-Past.is))

pub returns-in-Broken : goal.returns-in-Broken
returns-in-Broken c =
    let args = c.args in
    sym (tell_white args.bad args.d.now args.opened (literal true located) args.latin args.at c.run-n.ensures.0
    c.if-n-at.false ∙ literal_broken args.bad args.d.now args.opened located
    args.latin c.run-n.result true (sym c.quoted.ensures ∙ c.in-Broken.is))
