-- `record_values::refusals_in` meets its contract.
use mathlib.Core.Path.{◌≡◌, refl, ap, ◌∙◌}
use mathlib.Core.Bool.{Bool, true, false, cond}
use mir.Val.{bool_byte}
use Rattle.record_values.specs.Rows.{refusals_in}
use Rattle.record_values.proofs.refusals_in.Goals as goal

by_cases : (b : Bool) → bool_byte b ≡ cond b 1 0
by_cases true = refl
by_cases false = refl

pub returns : goal.returns
unfolding refusals_in
returns c = c.from.ensures ∙ ap bool_byte c.is_illegal.ensures ∙ by_cases _
