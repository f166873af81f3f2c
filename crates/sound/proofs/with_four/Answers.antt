-- `sound::with_four` meets its contract: one line after the other.
use native.Mathlib.Omega.{arith}
use Rattle.sound.specs.Laid.{over_same}
use Rattle.sound.proofs.with_four.Goals as goal

pub with_line-one-requires : goal.with_line-one-requires
with_line-one-requires c = let s = c.requires.standing in record {
  standing = record { few_rows = s.few_rows; few_lines = omega arith; stand = omega arith };
  over = c.requires.over;
}

pub with_line-two-requires : goal.with_line-two-requires
with_line-two-requires c = let s = c.requires.standing in record {
  standing = record { few_rows = s.few_rows; few_lines = omega arith; stand = omega arith };
  over = c.with_line-one.ensures;
}

pub with_line-three-requires : goal.with_line-three-requires
with_line-three-requires c = let s = c.requires.standing in record {
  standing = record { few_rows = s.few_rows; few_lines = omega arith; stand = omega arith };
  over = over_same (omega arith) c.with_line-two.ensures;
}

pub with_line-requires : goal.with_line-requires
with_line-requires c = let s = c.requires.standing in record {
  standing = record { few_rows = s.few_rows; few_lines = omega arith; stand = omega arith };
  over = over_same (omega arith) c.with_line-three.ensures;
}

pub returns : goal.returns
returns c = over_same (omega arith) c.with_line.ensures
