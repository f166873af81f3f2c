-- `widths::quantity_width` meets its contract: the calls' answers put together are the definition.
use mathlib.Core.Path.{◌≡◌, ◌∙◌, ap}
use Prim.Native.Nat.{◌≤◌}
use native.Mathlib.Nat.{le_trans}
use native.Mathlib.Omega.{arith}
use mir.Facts.{to_z-of_z}
use Rattle.cells.specs.rule.Cell.{signed_of}
use Rattle.ascii.specs.Tens.{digits_few}
use Rattle.widths.specs.rule.Width.{whole_digits}
use Rattle.widths.specs.Width.{tail_few, ten_some, width_parts, whole_upto}
use Rattle.widths.proofs.quantity_width.Goals.{After-signed_of-s}
use Rattle.widths.proofs.quantity_width.Goals as goal

-- what the digits are of
whole : (c : goal.After-tail) → c.whole_digits.result
    ≡ whole_digits c.args.f c.signed_of-s.result.size
unfolding whole_digits
whole c = c.whole_digits.ensures ∙ rw c.power.ensures

-- the digits and the point with its decimals are few
digits_upto : (c : goal.After-tail) → c.whole_digits.result ≤ 16
digits_upto c = rw (whole c) (le_trans (whole_upto _ _) (digits_few _))

tail_upto : (c : goal.After-tail) → c.tail.result ≤ 10
tail_upto c = rw c.tail.ensures (tail_few _ c.requires.decimals_bound)

-- the number is read back from its bits as it is
split : (c : After-signed_of-s) → c.signed_of-s.result ≡ signed_of c.args.z
split c = c.signed_of-s.ensures ∙ ap signed_of (to_z-of_z c.ranges.z)

pub nonzero_div-whole : goal.nonzero_div-whole
nonzero_div-whole c = rw c.power.ensures (ten_some _)

pub overflow_add-unsigned : goal.overflow_add-unsigned
overflow_add-unsigned c = omega (arith, digits_upto c, tail_upto c)

pub overflow_add-result : goal.overflow_add-result
overflow_add-result c = omega (arith, digits_upto c.before, tail_upto c.before)

pub returns-then-s : goal.returns-then-s
returns-then-s c = rw (
  whole c.before,
  c.tail.ensures,
  width_parts _ _ _ (split c.before.before.before.before.before),
  c.if-s.true,
)

pub returns-else-s : goal.returns-else-s
returns-else-s c = rw (
  whole c.before,
  c.tail.ensures,
  width_parts _ _ _ (split c.before.before.before.before.before),
  c.if-s.false,
) (omega arith)
