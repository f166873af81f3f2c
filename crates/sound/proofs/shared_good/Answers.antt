use mathlib.Core.Path.{◌≡◌}
use Prim.Native.Nat.{ℕ, ◌+◌, ◌-◌, ◌≤◌}
use native.Mathlib.Omega.{arith}
use borrow.Author.Tests.{le-leb, leb-true}
use lib.Dec.{leb}
use Rattle.below.specs.rule.Below.{◌and◌}
use Rattle.below.specs.Below.{same_bool}
use Rattle.sound.specs.Types.{shared_good}
use Rattle.sound.proofs.shared_good.Goals as goal

-- what is left of e has room for the lines just where all together do
room : (e b l : ℕ) → b ≤ e → leb l (e - b) ≡ leb (b + l) e
room e b l h =
    same_bool _ _ (λ q. le-leb (b + l) e (omega (arith, leb-true l (e - b) q)))
    (λ q. le-leb l (e - b) (omega (arith, leb-true (b + l) e q)))

pub returns : goal.returns
unfolding shared_good ◌and◌
returns c =
    let a = c.args in
    rw (c.texts_good.ensures, room a.e a.before a.c.lines (omega arith))
