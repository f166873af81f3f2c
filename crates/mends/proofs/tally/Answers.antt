-- `mends::tally` meets its contract.
use mathlib.Core.Path.{◌≡◌, refl}
use mathlib.Core.Bool.{Bool, true, false, cond, not}
use native.Mathlib.Omega.{arith}
use Rattle.std.specs.Int.{from_bool}
use Prim.Native.Nat.{◌≤◌}
use lib.Dec.{ltb}
use borrow.Author.Tests.{eq-eqb, ne_eqb, lt-ltb, le-ltb}
use Rattle.mends.specs.Sizes.{tallied}
use Rattle.mends.proofs.tally.Goals as goal

-- 1 where the record needs another terminator, or is shorter
other : (b : Bool) → (from_bool (not b) ≡ cond b 0 1) × (from_bool (not b) ≤ 1)
other true = (refl, omega arith)
other false = (refl, omega arith)

one : (b : Bool) → (from_bool b ≡ cond b 1 0) × (from_bool b ≤ 1)
one true = (refl, omega arith)
one false = (refl, omega arith)

pub returns-then-long-eq0 : goal.returns-then-long-eq0
unfolding tallied
returns-then-long-eq0 c = rw (eq-eqb _ _ c.if-long-eq0.true)

pub overflow_add-others-2 : goal.overflow_add-others-2
overflow_add-others-2 c = omega (arith, c.from.ensures, (other c.args.ended).1)

pub returns-then-z-long : goal.returns-then-z-long
unfolding tallied
returns-then-z-long c = rw (
  ne_eqb _ _ c.if-long-eq0.false,
  lt-ltb _ _ c.if-z-long.true,
  c.from.ensures,
  (other c.args.ended).0,
)

pub overflow_add-short : goal.overflow_add-short
overflow_add-short c = let a = c.args in omega (arith, c.from-2.ensures, (one (ltb a.long a.z.width)).1)

pub returns : goal.returns
unfolding tallied
returns c =
    let a = c.args in
    rw (
      ne_eqb _ _ c.if-long-eq0.false,
      le-ltb _ _ c.if-z-long.false,
      c.from.ensures,
      c.from-2.ensures,
      (other a.ended).0,
      (one (ltb a.long a.z.width)).0,
    )
