use mathlib.Core.Path.{◌≡◌}
use mathlib.Core.Logic.{⊎_elim}
use Prim.Native.Nat.{◌≤◌, ◌<◌}
use native.Mathlib.Omega.{arith}
use borrow.Author.Tests.{eqb-true}
use Rattle.below.specs.Below.{lt_or_le, and_left, and_right}
use Rattle.looks.specs.Stand.{literal_stands}
use Rattle.looks.proofs.same_at.Goals as goal

pub loop-i-preserved : goal.loop-i-preserved
loop-i-preserved c e j h =
    let l = c.loop-i in
    ⊎_elim (λ (g : j < l.i). l.invariant (and_left l.same _ e) j g)
    (λ (g : l.i ≤ j). let q : j ≡ l.i = omega arith in rw q (eqb-true _ _ (and_right l.same _ e))) (lt_or_le j l.i)

pub returns : goal.returns
returns c e = literal_stands _ _ _ c.requires (λ j h. c.loop-i.invariant e j (omega (arith, c.loop-i-test.false)))
