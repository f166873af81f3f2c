-- `sound::rest_low` meets its contract: three lines more, or as many as there are.
use mathlib.Core.Bool.{◌&&◌}
use native.Mathlib.Omega.{arith}
use borrow.Author.Tests.{ltb-true}
use lib.Dec.{ltb}
use Rattle.below.specs.Below.{and_left, and_right}
use Rattle.sound.specs.Laid.{over_same, over_low}
use Rattle.sound.proofs.rest_low.Goals as goal

pub returns : goal.returns
returns c = λ e.
    let l = c.with_next-laid.result in
    let a = ltb l.special 2 in
    let b = ltb l.text 1048576 in
    let d = ltb l.text_len 1048576 in
    let f = and_left (a && b) d e in
    over_low (over_same (omega (arith, c.requires.standing.1, c.requires.standing.2)) c.with_next-laid.ensures)
    (ltb-true l.special 2 (and_left a b f)) (ltb-true l.text 1048576 (and_right a b f))
    (ltb-true l.text_len 1048576 (and_right (a && b) d e))

pub with_next-one-requires : goal.with_next-one-requires
with_next-one-requires c = record {
  standing = c.requires.standing.0;
  over = over_same (omega arith) c.requires.over;
}

pub overflow_add-k : goal.overflow_add-k
overflow_add-k c = omega (arith, c.requires.standing.0.few_lines)

pub with_next-two-requires : goal.with_next-two-requires
with_next-two-requires c = record {
  standing = c.requires.standing.0;
  over = c.with_next-one.ensures;
}

pub overflow_add-k-2 : goal.overflow_add-k-2
overflow_add-k-2 c = omega (arith, c.requires.standing.0.few_lines)

pub with_next-laid-requires : goal.with_next-laid-requires
with_next-laid-requires c = record {
  standing = c.requires.standing.0;
  over = over_same (omega arith) c.with_next-two.ensures;
}
