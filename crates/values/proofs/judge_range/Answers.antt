use mathlib.Core.Path.{◌∙◌, sym}
use Rattle.values.specs.Range.{judge_range}
use borrow.Author.Tests.{eq-eqb, ne_eqb}
use Rattle.values.proofs.judge_range.Goals as goal

pub returns-then-not-formed : goal.returns-then-not-formed
unfolding judge_range
returns-then-not-formed c =
    rw (sym c.formed.ensures ∙ c.if-not-formed.true)

pub returns-then-not-formed-2 : goal.returns-then-not-formed-2
unfolding judge_range
returns-then-not-formed-2 c =
    rw (
      sym c.formed.ensures ∙ c.if-not-formed.false,
      sym c.formed-2.ensures ∙ c.if-not-formed-2.true,
    )

pub returns-then-a-b : goal.returns-then-a-b
unfolding judge_range
returns-then-a-b c =
    rw (
      sym c.formed.ensures
          ∙ c.if-not-formed.false,
      sym c.formed-2.ensures ∙ c.if-not-formed-2.false,
      ne_eqb _ _ c.if-a-b.true,
    )

pub returns-then-below : goal.returns-then-below
unfolding judge_range
returns-then-below c =
    rw (
      sym c.formed.ensures ∙ c.if-not-formed.false,
      sym c.formed-2.ensures ∙ c.if-not-formed-2.false,
      eq-eqb _ _ c.if-a-b.false,
      c.if-below.true,
    )

pub returns : goal.returns
unfolding judge_range
returns c =
    rw (
      sym c.formed.ensures ∙ c.if-not-formed.false,
      sym c.formed-2.ensures ∙ c.if-not-formed-2.false,
      eq-eqb _ _ c.if-a-b.false,
      c.if-below.false,
      sym c.limit_range.ensures,
    )
