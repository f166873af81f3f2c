use mathlib.Core.Path.{refl}
use Rattle.below.specs.Below.{holds_not}
use native.Mathlib.Omega.{arith}
use Rattle.looks.specs.Plain.{all_plain_lem}
use Rattle.looks.proofs.plain.Goals as goal

pub returns-then-end-from : goal.returns-then-end-from
returns-then-end-from c e = holds_not e refl

pub returns-then-d-end : goal.returns-then-d-end
returns-then-d-end c e = holds_not e refl

pub returns : goal.returns
returns c e = all_plain_lem _ _ _ (omega arith) (omega arith) (c.all_plain.ensures e)
