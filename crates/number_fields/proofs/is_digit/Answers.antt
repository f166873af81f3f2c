-- `number_fields::is_digit` meets its contract.
use mathlib.Core.Path.{refl}
use Rattle.below.specs.Below.{holds_not}
use Rattle.number_fields.proofs.is_digit.Goals as goal

pub returns-then-b-lt48 : goal.returns-then-b-lt48
returns-then-b-lt48 c = λ e. holds_not e refl
