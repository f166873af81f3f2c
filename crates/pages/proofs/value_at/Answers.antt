use mathlib.Core.Path.{refl, sym, ◌∙◌}
use native.Mathlib.Omega.{arith}
use Rattle.below.specs.Below.{holds_not}
use Rattle.pages.proofs.value_at.Goals as goal

pub returns-then-d-n : goal.returns-then-d-n
returns-then-d-n c e = holds_not e refl

pub returns : goal.returns
returns c e = record { within = omega arith; is = sym c.of_value.ensures ∙ e }
