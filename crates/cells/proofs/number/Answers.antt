use mathlib.Core.Path.{sym}
use lib.IntN.{pos}
use lib.ListN.{get_or-eq_default}
use Rattle.cells.proofs.number.Goals as goal

pub returns-else-i-t : goal.returns-else-i-t
returns-else-i-t c = sym (get_or-eq_default c.args.t.now (pos 0) c.if-i-t.false)
