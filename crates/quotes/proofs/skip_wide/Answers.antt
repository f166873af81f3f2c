use mathlib.Core.Path.{sym, ◌∙◌}
use native.Mathlib.Omega.{arith}
use Rattle.quotes.specs.Quotes.{unmarked_more}
use Rattle.quotes.proofs.skip_wide.Goals as goal

pub loop-i-preserved : goal.loop-i-preserved
loop-i-preserved g c = unmarked_more _ _ _ _ _ c.loop-i.invariant (sym c.mark_among.ensures ∙ c.if-mark_among.false) (omega arith)
