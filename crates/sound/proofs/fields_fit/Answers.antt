use mathlib.Core.Path.{refl}
use native.Mathlib.Omega.{arith}
use borrow.Author.Tests.{eq-eqb, ne_eqb}
use Rattle.below.specs.rule.Below.{◌and◌}
use Rattle.layout.specs.rule.Row.{row_of}
use Rattle.widths.specs.rule.Width.{need}
use Rattle.sound.specs.rule.Sound.{width_good, room_good}
use Rattle.sound.specs.Values.{ends_width}
use Rattle.sound.proofs.fields_fit.Goals as goal

pub returns-then-c-top_digits : goal.returns-then-c-top_digits
unfolding width_good room_good ends_width need row_of ◌and◌
returns-then-c-top_digits c = rw (← c.top_digits.ensures, ne_eqb _ _ c.if-c-top_digits.true)

pub subfields_fit-requires : goal.subfields_fit-requires
subfields_fit-requires c = let p = c.requires.sited in record {
  le_n = c.requires.le_subfields;
  le_start = (p.from_one, omega arith, p.low);
}

pub returns : goal.returns
unfolding width_good room_good ends_width need row_of ◌and◌
returns c = rw (
  c.subfields_fit.ensures,
  ← c.top_digits.ensures,
  c.if-c-top_digits.false,
  eq-eqb c.top_digits.result _ refl,
)
