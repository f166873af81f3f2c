use Rattle.sound.proofs.lacks_all.Goals as goal

pub returns : goal.returns
returns c = rw (c.valueless.ensures, c.undivided.ensures, c.whole.ensures)
