use native.Mathlib.Omega.{arith}
use Rattle.utf.specs.rule.Cut.{long_of}
use borrow.Author.Tests.{lt-ltb, le-ltb}
use Rattle.utf.proofs.long.Goals as goal

pub returns-then-a-lt192 : goal.returns-then-a-lt192
unfolding long_of
returns-then-a-lt192 c = rw (lt-ltb c.args.a 192 (omega arith))

pub returns-then-a-lt224 : goal.returns-then-a-lt224
unfolding long_of
returns-then-a-lt224 c = rw (
  le-ltb c.args.a 192 (omega arith),
  lt-ltb c.args.a 224 (omega arith),
) c.two_in.ensures

pub returns-then-a-lt240 : goal.returns-then-a-lt240
unfolding long_of
returns-then-a-lt240 c =
    let a = c.args.a in
    rw (le-ltb a 192 (omega arith), le-ltb a 224 (omega arith), lt-ltb a 240 (omega arith)) c.three_in.ensures

pub returns-then-a-lt248 : goal.returns-then-a-lt248
unfolding long_of
returns-then-a-lt248 c =
    let a = c.args.a in
    rw (le-ltb a 192 (omega arith), le-ltb a 224 (omega arith), le-ltb a 240 (omega arith), lt-ltb a 248 (omega arith))
    c.four_in.ensures

pub returns : goal.returns
unfolding long_of
returns c =
    let a = c.args.a in
    rw (le-ltb a 192 (omega arith), le-ltb a 224 (omega arith), le-ltb a 240 (omega arith), le-ltb a 248 (omega arith))
