use Rattle.elements.proofs.tag_due.Goals as goal

pub start_due-requires : goal.start_due-requires
start_due-requires c = let w = rw c.in-Start.is at c.requires in (w.1, w.2)

pub returns-in-Start : goal.returns-in-Start
returns-in-Start c = rw c.in-Start.is c.start_due.ensures

pub returns-in-Shut : goal.returns-in-Shut
returns-in-Shut c = rw c.in-Shut.is

pub returns-in-Not : goal.returns-in-Not
returns-in-Not c = rw c.in-Not.is
