use mathlib.Core.Path.{◌≡◌}
use native.Mathlib.Omega.{arith}
use Prim.Native.Nat.{◌+◌}
use borrow.Author.Tests.{eqb-true}
use Rattle.below.specs.Below.{and_left, and_right}
use lib.ListN.{get_or}
use lib.Dec.{eqb}
use Rattle.markup.specs.White.{Whites}
use Rattle.markup.proofs.Whites.{whites_none, whites_join, whites_byte, line_white, return_white}
use Rattle.markup.proofs.pass_line.Goals as goal

pub returns-then-d-at-eq10 : goal.returns-then-d-at-eq10
returns-then-d-at-eq10 c = let a = c.args in
    whites_join _ _ (whites_byte a.d.now a.at 10 (omega arith) c.if-d-at-eq10.true line_white) c.pass_sixteen.ensures

pub returns-then-d-at : goal.returns-then-d-at
returns-then-d-at c =
    let a = c.args in
    let d = a.d.now in
    let t = c.if-d-at.true in
    let e : a.at + 1 + 1 ≡ a.at + 2 = omega arith in
    let x = whites_byte d a.at 13 (omega arith) (eqb-true _ _ (and_left (eqb (get_or d a.at 0) 13) _ t)) return_white in
    let y = whites_byte d (a.at + 1) 10 (omega arith) (eqb-true _ _ (and_right (eqb (get_or d a.at 0) 13) _ t)) line_white in
    let z : Whites d (a.at + 1) (a.at + 2) = rw (← e) y in
    whites_join _ _ (whites_join _ _ x z) c.pass_sixteen-then-d-at.ensures

pub returns-then-d-at-lt18 : goal.returns-then-d-at-lt18
returns-then-d-at-lt18 c = whites_none _ _ (omega arith)

pub returns : goal.returns
returns c = whites_none _ _ (omega arith)
