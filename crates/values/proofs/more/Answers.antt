use mathlib.Core.Path.{sym}
use Rattle.values.specs.Line.{more_of}
use Rattle.values.proofs.more.Goals as goal

pub returns-then-digit_at : goal.returns-then-digit_at
unfolding more_of
returns-then-digit_at c =
    let n = c.digit_at.ensures c.if-digit_at.true in
    rw (n.0, n.1, sym c.value_here-a.ensures)
