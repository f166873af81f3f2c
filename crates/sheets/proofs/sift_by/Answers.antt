use Rattle.sheets.proofs.sift_by.Goals as goal

pub returns-in-Start : goal.returns-in-Start
returns-in-Start c = rw c.in-Start.is

pub returns-in-Shut : goal.returns-in-Shut
returns-in-Shut c = rw c.in-Shut.is

pub returns-in-Not : goal.returns-in-Not
returns-in-Not c = rw c.in-Not.is
