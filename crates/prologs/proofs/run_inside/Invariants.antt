use mathlib.Core.Path.{◌≡◌}
use lib.ListN.{drop}
use Rattle.markup.specs.rule.Bytes.{run_of}
use Rattle.prologs.specs.rule.Told.{between_quotes}
use Rattle.prologs.proofs.run_inside.Given as goal

abbrev pub invariant-loop-i : goal.invariant-loop-i
invariant-loop-i l = run_of (between_quotes l.public l.quote) l.at (drop l.at l.d)
    ≡ run_of (between_quotes l.public l.quote) l.i (drop l.i l.d)
