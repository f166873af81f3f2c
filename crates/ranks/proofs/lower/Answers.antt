use mathlib.Core.Path.{sym, ◌∙◌}
use borrow.Author.Tests.{eq-eqb, ne_eqb}
use Rattle.ranks.specs.rule.Rank.{lower_found}
use Rattle.ranks.proofs.lower.Goals as goal

pub returns-then-a-eq0 : goal.returns-then-a-eq0
unfolding lower_found
returns-then-a-eq0 c = rw (eq-eqb c.args.a.number 0 c.if-a-eq0.true)

pub returns-then-b-eq0 : goal.returns-then-b-eq0
unfolding lower_found
returns-then-b-eq0 c = rw (
  ne_eqb c.args.a.number 0 c.if-a-eq0.false,
  eq-eqb c.args.b.number 0 c.if-b-eq0.true,
)

pub returns-then-comes_first : goal.returns-then-comes_first
unfolding lower_found
returns-then-comes_first c =
    let at-if2 = c in
    let args = at-if2.args in
    rw (
      ne_eqb args.a.number 0 at-if2.if-a-eq0.false,
      ne_eqb args.b.number 0 at-if2.if-b-eq0.false,
      sym c.comes_first.ensures ∙ c.if-comes_first.true,
    )

pub returns : goal.returns
unfolding lower_found
returns c =
    let at-if2 = c in
    let args = at-if2.args in
    rw (
      ne_eqb args.a.number 0 at-if2.if-a-eq0.false,
      ne_eqb args.b.number 0 at-if2.if-b-eq0.false,
      sym c.comes_first.ensures ∙ c.if-comes_first.false,
    )
