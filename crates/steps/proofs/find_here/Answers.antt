use Rattle.steps.proofs.find_here.Goals as goal

pub returns : goal.returns
returns c = rw (c.found_in.ensures, c.keyword-k.ensures)
