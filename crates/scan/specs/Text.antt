-- What follows from rule/Text.antt, and what the code keeps.
use Rattle.std.specs.Prelude.{◌+◌}
use Rattle.scan.specs.declared.Step.{Step}
use Rattle.scan.specs.declared.Step.TheVariants.{Byte, End}
use Rattle.scan.specs.rule.Text.{Text, stop, sign}

-- the first byte that is left, with its place and the place after it
unfoldable pub step_of : Text → Step
step_of (stop p) = End p
step_of (sign p b t) = Byte b p (p + 1)
