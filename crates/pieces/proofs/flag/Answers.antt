-- `pieces::flag` meets its contract.
use mathlib.Core.Path.{◌≡◌, refl, ◌∙◌}
use mathlib.Core.Bool.{Bool, true, false, cond}
use native.Mathlib.Omega.{arith}
use Prim.Native.Nat.{◌≤◌}
use lib.Dec.{ltb}
use Rattle.std.specs.Int.{from_bool}
use Rattle.pieces.proofs.flag.Goals as goal

one : (b : Bool) → (from_bool b ≡ cond b 1 0) × (from_bool b ≤ 1)
one true = (refl, omega arith)
one false = (refl, omega arith)

pub returns : goal.returns
returns c = let o = one (ltb c.args.b 32) in (c.from.ensures ∙ o.0, omega (arith, c.from.ensures, o.1))
