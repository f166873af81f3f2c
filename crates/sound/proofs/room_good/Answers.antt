use native.Mathlib.Omega.{arith}
use Rattle.sound.specs.rule.Sound.{room_good}
use Rattle.sound.proofs.room_good.Goals as goal

pub subfields_fit-requires : goal.subfields_fit-requires
subfields_fit-requires c = record {
  le_n = rw (c.in-Multiple.is, c.in-Fields.is) at
      c.requires.0.subfields;
  le_start = (omega arith, omega arith, omega arith);
}

pub returns-in-Fields : goal.returns-in-Fields
unfolding room_good
returns-in-Fields c = rw (
  c.subfields_fit.ensures,
  c.in-Multiple.is,
  c.in-Fields.is,
)

pub returns-in-Bits : goal.returns-in-Bits
unfolding room_good
returns-in-Bits c = rw (c.in-Multiple.is, c.in-Bits.is)

pub returns-in-Single : goal.returns-in-Single
unfolding room_good
returns-in-Single c = rw c.in-Single.is

pub returns-in-Quantity : goal.returns-in-Quantity
unfolding room_good
returns-in-Quantity c = rw c.in-Quantity.is

pub returns-in-Character : goal.returns-in-Character
unfolding room_good
returns-in-Character c = rw c.in-Character.is

pub returns-in-Logical : goal.returns-in-Logical
unfolding room_good
returns-in-Logical c = rw c.in-Logical.is
