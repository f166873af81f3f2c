use mathlib.Core.Path.{◌≡◌}
use native.Mathlib.Omega.{arith}
use mathlib.Core.Logic.{⊎_elim}
use mathlib.Core.Bool.{Bool, true, ◌&&◌}
use mathlib.Core.List.{List}
use Prim.Native.Nat.{ℕ, ◌+◌}
use borrow.Author.Tests.{eqb-true}
use lib.Dec.{eqb}
use lib.ListN.{get_or}
use Rattle.below.specs.Below.{and_left, and_right, lt_or_le}
use Rattle.value_fields.specs.Ends.{SpacesFrom}
use Rattle.value_fields.proofs.eight_spaces.Goals as goal

-- one byte more
more : (s : List ℕ) (i k : ℕ) (all : Bool) → (all ≡ true → SpacesFrom s i k) → all && eqb (get_or s (i + k) 0) 32 ≡ true
    → SpacesFrom s i (k + 1)
more s i k all f e j h =
    ⊎_elim
    (λ l. f (and_left all (eqb (get_or s (i + k) 0) 32) e) j l)
    (λ l. let q : j ≡ k = omega arith in rw q (eqb-true (get_or s (i + k) 0) 32 (and_right all (eqb (get_or s (i + k) 0) 32) e)))
    (lt_or_le j k)

pub loop-k-preserved : goal.loop-k-preserved
loop-k-preserved c = let l = c.loop-k in more c.args.s.now c.args.i l.k l.all l.invariant

pub returns : goal.returns
returns c e =
    let l = c.loop-k in
    let q : l.k ≡ 8 = omega arith in
    rw q at (l.invariant e)

pub loop-k-init : goal.loop-k-init
loop-k-init c = λ e j h. absurd (omega arith)
