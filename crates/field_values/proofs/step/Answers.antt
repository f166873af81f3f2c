-- `field_values::step` meets its contract.
use mathlib.Core.Path.{ap, ◌∙◌}
use Prim.Native.Nat.{ℕ, ◌+◌, ◌*◌}
use Rattle.field_values.specs.rule.Read.{capped}
use Rattle.field_values.proofs.step.Goals as goal

pub returns : goal.returns
returns c = c.cap.ensures ∙ ap (λ (x : ℕ). capped (c.args.n * 10 + x)) c.digit_of.ensures
