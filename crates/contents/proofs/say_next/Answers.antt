use native.Mathlib.Omega.{arith}
use Rattle.contents.proofs.Tellings.{encode_short}
use Rattle.contents.proofs.say_next.Goals as goal

pub returns : goal.returns
returns c = rw c.encoded-b.ensures

pub overflow_add-said : goal.overflow_add-said
overflow_add-said c = let k = c.requires.1 in omega (arith, encode_short c.args.c.code)
