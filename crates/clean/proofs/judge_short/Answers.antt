use mathlib.Core.Path.{refl}
use Rattle.values.specs.Room.{small}
use Rattle.clean.proofs.judge_short.Goals as goal

pub returns-then-d-le1048576 : goal.returns-then-d-le1048576
returns-then-d-le1048576 c = c.judge_few.ensures

pub returns-else-d-le1048576 : goal.returns-else-d-le1048576
returns-else-d-le1048576 c = small refl tt

pub returns-else-says_few : goal.returns-else-says_few
returns-else-says_few c = small refl tt
