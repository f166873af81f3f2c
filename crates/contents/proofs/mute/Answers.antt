use Rattle.contents.proofs.mute.Goals as goal

pub returns-then-inside : goal.returns-then-inside
returns-then-inside c = rw c.if-inside.true

pub returns-else-inside : goal.returns-else-inside
returns-else-inside c = rw c.if-inside.false
