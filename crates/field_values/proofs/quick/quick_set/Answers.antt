-- `field_values::quick::quick_set` meets its contract.
use mathlib.Core.Path.{ap, ◌∙◌}
use Rattle.layout.specs.declared.Kind.TheVariants.{Multiple}
use Rattle.field_values.proofs.quick.quick_set.Goals as goal

pub quick_bits-requires : goal.quick_bits-requires
quick_bits-requires c =
    let q = c.requires.fact in record {
      ready = c.requires.ready;
      fact = (q.0, q.1 ∙ ap Multiple c.in-Bits.is, q.2);
    }

pub quick_spread-requires : goal.quick_spread-requires
quick_spread-requires c =
    let q = c.requires.fact in record {
      tens = c.requires.tens;
      ready = c.requires.ready;
      fact = (q.0, q.1 ∙ ap Multiple c.in-Fields.is, q.2);
    }

pub returns-in-Bits : goal.returns-in-Bits
returns-in-Bits c = c.quick_bits.ensures

pub returns-in-Fields : goal.returns-in-Fields
returns-in-Fields c = c.quick_spread.ensures
