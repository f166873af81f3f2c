-- `cuts::clear_to` meets its contract: one stretch behind another.
use native.Mathlib.Omega.{arith}
use Rattle.lows.specs.Lows.{clear_none}
use Rattle.cuts.specs.Cut.{clear_join}
use Rattle.cuts.proofs.clear_to.Goals as goal

pub returns-then-not-plain_short : goal.returns-then-not-plain_short
returns-then-not-plain_short c = clear_none _ _ (omega arith)

pub returns-then-not-plain_short-2 : goal.returns-then-not-plain_short-2
returns-then-not-plain_short-2 c = c.plain_short.ensures c.if-not-plain_short.false

pub returns : goal.returns
returns c = clear_join (c.plain_short.ensures c.if-not-plain_short.false)
    c.plain_to-2.ensures
