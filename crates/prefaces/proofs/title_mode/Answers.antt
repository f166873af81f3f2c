use Rattle.prefaces.proofs.title_mode.Goals as goal

pub returns-then-languages : goal.returns-then-languages
returns-then-languages c = rw c.if-languages.true

pub returns-else-languages : goal.returns-else-languages
returns-else-languages c = rw c.if-languages.false
