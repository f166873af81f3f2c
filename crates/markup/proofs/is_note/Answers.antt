use mathlib.Core.Path.{sym}
use native.Mathlib.Omega.{arith}
use Rattle.markup.proofs.Whites.{stands_few}
use Rattle.markup.proofs.is_note.Goals as goal

pub returns-then-d-at-lt4 : goal.returns-then-d-at-lt4
returns-then-d-at-lt4 c = let a = c.args in sym (stands_few a.d.now a.at _ (omega arith) c.if-d-at-lt4.true)
