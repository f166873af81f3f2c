-- `mends::plain` meets its contract.
use borrow.Author.Tests.{lt-ltb, le-ltb}
use Rattle.mends.specs.rule.Mend.{plain_byte}
use Rattle.mends.proofs.plain.Goals as goal

pub returns-then-b-lt32 : goal.returns-then-b-lt32
unfolding plain_byte
returns-then-b-lt32 c = rw (lt-ltb _ _ c.if-b-lt32.true)

pub returns-else-b-lt32 : goal.returns-else-b-lt32
unfolding plain_byte
returns-else-b-lt32 c = rw (le-ltb _ _ c.if-b-lt32.false)
