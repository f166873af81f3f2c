use Rattle.blocks.proofs.Numbers.{less_both, less_never, less_some, less_plain, none_heard, none_says}
use Rattle.amounts.specs.rule.Said.{true_in}
use Rattle.blocks.proofs.below_in.Goals as goal

pub returns-then-b : goal.returns-then-b
returns-then-b c x y h k =
    less_both (true_in x) (true_in y) c.if-a.true c.if-b.true
    (c.less_in.ensures x y h k)

pub returns-then-a : goal.returns-then-a
returns-then-a c x y h k = less_never (true_in x) (true_in y) c.if-a.true c.if-b.false

pub returns-then-b-2 : goal.returns-then-b-2
returns-then-b-2 c x y h k =
    less_some (true_in x) (true_in y) c.if-a.false
    c.if-b-2.true (rw none_says at (c.less_in-zero.ensures _ x none_heard h))
    (rw none_says at (c.less_in-then-b-2.ensures _ y none_heard k))

pub returns : goal.returns
returns c x y h k =
    less_plain (true_in x) (true_in y) c.if-a.false c.if-b-2.false
    (c.less_in-2.ensures y x k h)
