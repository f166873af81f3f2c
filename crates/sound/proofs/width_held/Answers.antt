use mathlib.Core.Path.{◌≡◌}
use Prim.Native.Nat.{ℕ, ◌+◌, ◌-◌, ◌≤◌}
use native.Mathlib.Omega.{arith}
use borrow.Author.Tests.{le-leb, leb-true}
use lib.Dec.{leb}
use Rattle.below.specs.Below.{same_bool}
use Rattle.layout.specs.rule.Row.{row_of}
use Rattle.sound.proofs.width_held.Goals as goal

-- what is left of the position from its start on
room : (s w f : ℕ) → s ≤ f → leb w (f + 1 - s) ≡ leb (s + w) (f + 1)
room s w f h =
    same_bool _ _ (λ q. le-leb (s + w) (f + 1) (omega (arith, leb-true w (f + 1 - s) q)))
    (λ q. le-leb w (f + 1 - s) (omega (arith, leb-true (s + w) (f + 1) q)))

pub returns : goal.returns
unfolding row_of
returns c = let a = c.args.c in room a.start a.width a.finish c.requires.ordered

pub overflow_add-result : goal.overflow_add-result
overflow_add-result c = omega (arith, c.requires.low)

pub overflow_sub-result : goal.overflow_sub-result
overflow_sub-result c = omega (arith, c.requires.ordered)
