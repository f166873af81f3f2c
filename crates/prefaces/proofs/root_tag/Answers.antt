use Rattle.prefaces.proofs.root_tag.Goals as goal

pub returns : goal.returns
returns c = c.read_tag.ensures
