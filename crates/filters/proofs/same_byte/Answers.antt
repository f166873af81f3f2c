use Rattle.filters.proofs.same_byte.Goals as goal

pub returns-then-standard : goal.returns-then-standard
returns-then-standard c = rw (c.if-standard.true, c.upper.ensures, c.upper-then-standard.ensures)

pub returns : goal.returns
returns c = rw c.if-standard.false
