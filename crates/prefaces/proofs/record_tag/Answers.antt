use Rattle.prefaces.proofs.record_tag.Goals as goal

pub returns-then-old : goal.returns-then-old
returns-then-old c = rw c.if-old.true c.read_tag.ensures

pub returns : goal.returns
returns c = rw c.if-old.false c.read_tag-2.ensures
