use Rattle.values.proofs.Facts.{less_both, less_never, less_some, less_plain}
use Rattle.values.proofs.reversed.Goals as goal

pub returns-then-b : goal.returns-then-b
returns-then-b c = less_both _ _ _ c.if-a.true c.if-b.true c.less.ensures

pub returns-then-a : goal.returns-then-a
returns-then-a c = less_never _ _ _ c.if-a.true c.if-b.false

pub returns-then-b-2 : goal.returns-then-b-2
returns-then-b-2 c = less_some _ _ _ c.if-a.false c.if-b-2.true c.less-zero.ensures
    c.less-then-b-2.ensures

pub returns : goal.returns
returns c = less_plain _ _ _ c.if-a.false c.if-b-2.false c.less-2.ensures
