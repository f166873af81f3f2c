use mathlib.Core.Path.{◌∙◌, sym}
use Rattle.variables.specs.Ident.{judge_ident}
use borrow.Author.Tests.{le-leb, lt-leb}
use Rattle.variables.proofs.judge_ident.Goals as goal

pub returns-then-wrong_ident : goal.returns-then-wrong_ident
unfolding judge_ident
returns-then-wrong_ident c =
    rw (
      c.in-Ok.is,
      sym c.wrong_ident.ensures ∙ c.if-wrong_ident.true,
    )

pub returns-then-count-ge512 : goal.returns-then-count-ge512
unfolding judge_ident
returns-then-count-ge512 c =
    rw (
      c.in-Ok.is,
      sym c.wrong_ident.ensures ∙ c.if-wrong_ident.false,
      le-leb _ _ c.if-count-ge512.true,
    )

pub returns-else-count-ge512 : goal.returns-else-count-ge512
unfolding judge_ident
returns-else-count-ge512 c =
    rw (
      c.in-Ok.is,
      sym c.wrong_ident.ensures ∙ c.if-wrong_ident.false,
      lt-leb _ _ c.if-count-ge512.false,
    )

pub returns-in-Err : goal.returns-in-Err
unfolding judge_ident
returns-in-Err c =
    rw c.in-Err.is
