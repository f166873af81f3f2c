use Rattle.pages.specs.Page.{room_of}
use borrow.Author.Tests.{lt-ltb, le-ltb}
use Rattle.pages.proofs.room_of.Goals as goal

pub returns-then-finish-gt16384 : goal.returns-then-finish-gt16384
unfolding room_of
returns-then-finish-gt16384 c = rw (lt-ltb _ _ c.if-finish-gt16384.true)

pub returns-then-finish-start : goal.returns-then-finish-start
unfolding room_of
returns-then-finish-start c = rw (le-ltb _ _ c.if-finish-gt16384.false, lt-ltb _ _ c.if-finish-start.true)

pub returns : goal.returns
unfolding room_of
returns c = rw (le-ltb _ _ c.if-finish-gt16384.false, le-ltb _ _ c.if-finish-start.false)
