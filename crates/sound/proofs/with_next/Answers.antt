-- `sound::with_next` meets its contract: a line more, or none.
use native.Mathlib.Omega.{arith}
use Rattle.sound.specs.Laid.{over_same}
use Rattle.sound.proofs.with_next.Goals as goal

pub returns-then-e-k : goal.returns-then-e-k
returns-then-e-k c = over_same (omega (arith, c.if-e-k.true)) c.requires.over

pub with_line-requires : goal.with_line-requires
with_line-requires c =
    let s = c.requires.standing in
    let l = c.if-e-k.false in record {
      standing = record { few_rows = s.few_rows; few_lines = omega arith; stand = omega arith };
      over = over_same (omega arith) c.requires.over;
    }

pub returns : goal.returns
returns c = over_same (omega (arith, c.if-e-k.false)) c.with_line.ensures
