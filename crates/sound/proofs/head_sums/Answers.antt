use Rattle.sound.proofs.head_sums.Goals as goal

pub returns : goal.returns
returns c = rw (c.base.ensures, c.base-2.ensures)
