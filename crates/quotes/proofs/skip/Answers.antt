use native.Mathlib.Omega.{arith}
use Rattle.quotes.specs.Quotes.{is_mark, unmarked_next}
use Rattle.quotes.proofs.skip.Goals as goal

pub loop-i-preserved : goal.loop-i-preserved
loop-i-preserved g c = unmarked_next (is_mark _ _ _) _ _ _ c.loop-i.invariant c.if-b-x.false (omega arith)
