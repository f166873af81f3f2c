use Rattle.elements.proofs.locations_fault.Goals as goal

pub returns : goal.returns
returns c =
    rw (
      ← c.charge-zero.ensures,
      ← c.charge-less.ensures,
      ← c.charge-first.ensures,
      ← c.charge-last.ensures,
    ) (rw (← c.lower-end.ensures, ← c.lower-high.ensures, ← c.lower-wrong.ensures)
    c.lower.ensures)
