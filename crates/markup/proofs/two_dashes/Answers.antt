use mathlib.Core.Path.{sym}
use native.Mathlib.Omega.{arith}
use Rattle.markup.proofs.Whites.{stands_other}
use Rattle.markup.proofs.two_dashes.Goals as goal

pub returns-then-d-at-ne45 : goal.returns-then-d-at-ne45
returns-then-d-at-ne45 c = let a = c.args in sym (stands_other a.d.now a.at 45 _ (omega arith) c.if-d-at-ne45.true)
