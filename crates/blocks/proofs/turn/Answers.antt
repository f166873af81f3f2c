use Rattle.blocks.proofs.turn.Goals as goal

pub returns-then-f-large : goal.returns-then-f-large
returns-then-f-large c = rw (c.in-Err.is, ← c.large.ensures, c.if-f-large.true)

pub returns-in-Ok : goal.returns-in-Ok
returns-in-Ok c = rw c.in-Ok.is

pub returns-else-f-large : goal.returns-else-f-large
returns-else-f-large c = rw (c.in-Err.is, ← c.large.ensures, c.if-f-large.false)
