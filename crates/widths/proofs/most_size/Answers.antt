use native.Mathlib.Omega.{arith}
use borrow.Author.Tests.{ne_eqb}
use Rattle.widths.specs.rule.Width.{most_size}
use Rattle.widths.specs.Width.{ten_some, share_most}
use Rattle.widths.proofs.most_size.Goals as goal

pub overflow_sub-result : goal.overflow_sub-result
overflow_sub-result c = omega (arith, c.power.ensures, ten_some c.args.f.decimals)

pub returns-then-f-eq2 : goal.returns-then-f-eq2
returns-then-f-eq2 c = omega (
  arith,
  c.power.ensures,
  share_most c.args.f c.if-f-eq2.true
      c.requires.decimals_bound,
)

pub returns : goal.returns
unfolding most_size
returns c = rw (ne_eqb _ _ c.if-f-eq2.false)
