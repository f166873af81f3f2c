use Rattle.blocks.proofs.listed.Goals as goal

pub returns-in-Is : goal.returns-in-Is
returns-in-Is c = rw c.in-Is.is

pub returns-in-Not : goal.returns-in-Not
returns-in-Not c = rw c.in-Not.is
