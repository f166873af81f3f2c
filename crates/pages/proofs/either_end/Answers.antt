use Rattle.pages.specs.Stand.{bare, special}
use Rattle.pages.proofs.either_end.Goals as goal

pub returns-then-e-gt0 : goal.returns-then-e-gt0
returns-then-e-gt0 c h = bare (c.requires.value_line h)

pub returns : goal.returns
returns c h = special (c.special_line.ensures h)
