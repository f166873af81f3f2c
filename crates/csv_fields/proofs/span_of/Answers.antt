-- `csv_fields::span_of` meets its contract.
use mathlib.Core.Path.{refl}
use Rattle.below.specs.Below.{holds_not}
use Rattle.csv_fields.proofs.span_of.Goals as goal

pub returns-in-Comma : goal.returns-in-Comma
returns-in-Comma c = record { torn_is = λ e. holds_not e refl; last_is = λ a e. holds_not e refl; comma_is = λ a e. c.in-Comma.is }

pub returns-in-Last : goal.returns-in-Last
returns-in-Last c = record { torn_is = λ e. holds_not e refl; last_is = λ a e. c.in-Last.is; comma_is = λ a e. holds_not refl e }

pub returns-in-Torn : goal.returns-in-Torn
returns-in-Torn c = record { torn_is = λ e. c.in-Torn.is; last_is = λ a e. holds_not refl a; comma_is = λ a e. holds_not refl a }
