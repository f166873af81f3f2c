-- `field_values::guess_set` meets its contract.
use native.Mathlib.Omega.{arith}
use Rattle.field_values.specs.Steps.{set_letter, set_codes}
use Rattle.field_values.proofs.guess_set.Goals as goal

pub bounds-f-0 : goal.bounds-f-0
bounds-f-0 c = omega (arith, c.requires.fact)

pub returns-then-f-eq110 : goal.returns-then-f-eq110
returns-then-f-eq110 c = (omega arith, set_letter c.args.f.now c.requires.fact c.if-f-eq110.true)

pub returns : goal.returns
returns c = let e = set_codes c.args.f.now c.requires.fact c.if-f-eq110.false in rw e at c.gather.ensures
