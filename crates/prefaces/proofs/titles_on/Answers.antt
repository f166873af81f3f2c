use Rattle.prefaces.proofs.titles_on.Goals as goal

pub read_titles-requires : goal.read_titles-requires
read_titles-requires c = rw c.in-Ok.is at c.requires

pub returns-in-Ok : goal.returns-in-Ok
returns-in-Ok c = (rw c.in-Ok.is c.read_titles.ensures.0, c.read_titles.ensures.1)

pub returns-in-Err : goal.returns-in-Err
returns-in-Err c = (rw c.in-Err.is, tt)
