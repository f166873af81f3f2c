use Rattle.fronts.proofs.meet.Goals as goal

pub returns : goal.returns
returns c = rw (
  c.met-standard.ensures,
  c.met-user.ensures,
  c.met-origin.ensures,
  c.met-time.ensures,
  c.met-date.ensures,
)
