use native.Mathlib.Omega.{arith}
use Rattle.markup.proofs.Whites.{stands_four}
use Rattle.markup.proofs.are_four.Goals as goal

pub returns : goal.returns
returns c = let a = c.args in stands_four a.d.now a.at a.a a.b a.c a.e (omega arith)
