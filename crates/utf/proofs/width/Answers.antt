use native.Mathlib.Omega.{arith}
use Rattle.utf.specs.rule.Cut.{character_width}
use Rattle.utf.proofs.Strides.{drop_1}
use Rattle.utf.proofs.width.Goals as goal

pub returns-then-is_plain : goal.returns-then-is_plain
unfolding character_width
returns-then-is_plain c = rw (
  drop_1 c.args.d.now c.args.at (omega arith),
  ← c.is_plain.ensures,
  c.if-is_plain.true,
)

pub returns-then-latin : goal.returns-then-latin
unfolding character_width
returns-then-latin c = rw (
  drop_1 c.args.d.now c.args.at
      (omega arith),
  ← c.is_plain.ensures,
  c.if-is_plain.false,
  c.if-latin.true,
)

pub returns : goal.returns
unfolding character_width
returns c =
    let args = c.args in
    rw (
      drop_1 args.d.now args.at (omega arith),
      ← c.is_plain.ensures,
      c.if-is_plain.false,
      c.if-latin.false,
    ) c.long.ensures
