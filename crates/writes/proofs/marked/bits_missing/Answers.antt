-- `writes::marked::bits_missing` meets its contract.
use native.Mathlib.Omega.{arith}
use Rattle.fields.specs.rule.Row.{places_by}
use Rattle.writes.proofs.Cases.{blanked}
use Rattle.writes.proofs.marked.bits_missing.Goals as goal

pub blank_bits-requires : goal.blank_bits-requires
blank_bits-requires c = record {
  line_facts = c.requires.ready.lines;
  marks = c.mark_legal.ensures;
  bitstring = record { few = c.requires.ready.kind.few; inside = omega arith };
}

pub returns : goal.returns
unfolding places_by
returns c = blanked c.blank_bits.ensures
