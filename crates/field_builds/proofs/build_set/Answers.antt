-- `field_builds::build_set` meets its contract.
use mathlib.Core.Path.{ap, ◌∙◌}
use Rattle.layout.specs.declared.Kind.TheVariants.{Multiple}
use Rattle.field_builds.proofs.build_set.Goals as goal

pub build_bits-requires : goal.build_bits-requires
build_bits-requires c = record {
  ready = (
    c.requires.ready.0,
    c.requires.ready.1 ∙ ap Multiple c.in-Bits.is,
  );
  each_legal = c.requires.each_legal;
}

pub build_spread-requires : goal.build_spread-requires
build_spread-requires c = record {
  tens = c.requires.tens;
  ready = (
    c.requires.ready.0,
    c.requires.ready.1 ∙ ap Multiple c.in-Fields.is,
  );
  at_in_bounds = (
    c.requires.each_legal.1,
    c.requires.each_legal.2,
  );
}

pub returns-in-Bits : goal.returns-in-Bits
returns-in-Bits c = c.build_bits.ensures

pub returns-in-Fields : goal.returns-in-Fields
returns-in-Fields c = c.build_spread.ensures
