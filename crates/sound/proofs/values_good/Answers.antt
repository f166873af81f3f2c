use mathlib.Core.Path.{◌≡◌, ◌∙◌}
use native.Mathlib.Omega.{arith}
use Rattle.layout.specs.rule.Row.{kind_of}
use Rattle.sound.specs.Types.{type_some, type_decimals, type_subfields}
use Rattle.sound.specs.Values.{values_by}
use Rattle.sound.proofs.values_good.Goals as goal

pub multiple_fits-requires : goal.multiple_fits-requires
multiple_fits-requires c = record {
  tens = c.requires.tens;
  sited = c.requires.sited;
  c_value = type_subfields _ c.requires.c_value.0;
}

pub quantity_fits-requires : goal.quantity_fits-requires
quantity_fits-requires c = record {
  tens = c.requires.tens;
  sited = c.requires.sited;
  decimals_bound = type_decimals _ c.requires.c_value.0;
}

pub returns-in-1 : goal.returns-in-1
unfolding values_by kind_of
returns-in-1 c = c.single_fits.ensures ∙ rw c.in-1.is

pub returns-in-2 : goal.returns-in-2
unfolding values_by kind_of
returns-in-2 c = c.multiple_fits.ensures ∙ rw c.in-2.is

pub returns-in_default : goal.returns-in_default
unfolding values_by kind_of
returns-in_default c =
    let p = c.requires.c_value in
    let r = c.in_default.in_default-own.rest in
    let q : c.args.c.kind ≡ 3 = omega (arith, type_some c.args.c p.0, p.1, r.0.1, r.1) in
    c.quantity_fits.ensures ∙ rw q
