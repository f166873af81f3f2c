use mathlib.Core.Path.{ap}
use native.Mathlib.Omega.{arith}
use Rattle.contents.specs.Told.{part_code}
use Rattle.contents.proofs.say_byte.Goals as goal

pub returns-then-latin : goal.returns-then-latin
returns-then-latin c = (rw (c.if-latin.true, c.say_first.ensures), omega (arith, ap part_code c.say_first.ensures))

pub returns : goal.returns
returns c = (rw (c.if-latin.false, c.say_whole.ensures), omega (arith, ap part_code c.say_whole.ensures))
