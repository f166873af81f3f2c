use Rattle.names.proofs.name_key.Goals as goal

pub returns-then-q : goal.returns-then-q
returns-then-q c = c.plain_key-q.ensures c.if-q.true
