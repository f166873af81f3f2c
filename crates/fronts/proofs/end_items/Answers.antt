use Rattle.fronts.proofs.end_items.Goals as goal

pub returns : goal.returns
returns c = rw (
  c.ended-standard.ensures,
  c.ended-user.ensures,
  c.ended-origin.ensures,
  c.ended-time.ensures,
  c.ended-date.ensures,
)
