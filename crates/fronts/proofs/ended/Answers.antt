use Rattle.fronts.proofs.ended.Goals as goal

pub returns : goal.returns
returns c = rw c.if-f.false
