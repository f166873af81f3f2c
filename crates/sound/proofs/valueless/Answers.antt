use Rattle.sound.proofs.valueless.Goals as goal

pub returns : goal.returns
returns c = rw c.unranged.ensures
