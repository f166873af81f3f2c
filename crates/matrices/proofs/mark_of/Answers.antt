-- `matrices::mark_of` meets its contract, case by case.
-- Assumes nothing.
use mathlib.Core.Path.{sym}
use native.Mathlib.Omega.{arith}
use borrow.Author.Tests.{lt-ltb, le-ltb}
use lib.ListN.{get_or-eq_default}
use Rattle.matrices.specs.Met.{mark_at}
use Rattle.matrices.proofs.mark_of.Goals as goal

pub returns-then-gap-c : goal.returns-then-gap-c
unfolding mark_at
returns-then-gap-c c = rw (le-ltb c.args.c c.args.gap c.if-gap-c.true)

pub returns-then-met-c : goal.returns-then-met-c
unfolding mark_at
returns-then-met-c c =
    let a = c.args in
    rw (lt-ltb a.c a.gap (omega (arith, c.if-gap-c.false))) (sym (get_or-eq_default a.met.now 0 c.if-met-c.true))

pub returns : goal.returns
unfolding mark_at
returns c =
    let a = c.args in
    rw (lt-ltb a.c a.gap (omega (arith, c.if-gap-c.false)))
