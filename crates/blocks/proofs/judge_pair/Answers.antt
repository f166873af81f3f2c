use mathlib.Core.Path.{◌∙◌, sym}
use borrow.Author.Tests.{lt-ltb, le-ltb}
use Rattle.blocks.specs.Code.{pair_of}
use Rattle.blocks.proofs.judge_pair.Goals as goal

pub returns-then-not-formed : goal.returns-then-not-formed
unfolding pair_of
returns-then-not-formed c = rw (lt-ltb _ _ c.if-b-a.true, sym c.formed.ensures ∙ c.if-not-formed.true)

pub returns-then-b-a : goal.returns-then-b-a
unfolding pair_of
returns-then-b-a c =
    rw (
      lt-ltb _ _ c.if-b-a.true,
      sym c.formed.ensures ∙ c.if-not-formed.false,
    )
    (c.turn.ensures ∙ rw c.judge_range-j.ensures)

pub returns : goal.returns
unfolding pair_of
returns c = rw (le-ltb _ _ c.if-b-a.false) c.judge_range.ensures
