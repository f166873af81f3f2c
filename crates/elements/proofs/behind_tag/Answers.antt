use Rattle.elements.proofs.behind_tag.Goals as goal

pub returns : goal.returns
returns c = rw (← c.fault_at-attribute.ensures) c.lower.ensures
